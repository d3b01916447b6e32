-- The clocks of a cell, by the numbers under which they are kept.
use Rattle.std.specs.Prelude.{ℕ, ◌≤◌, length, slice_index}
use Rattle.clocks.specs.Spans.{Spans}
use Rattle.clocks.specs.KeptClocks.{kept_at}
use Rattle.view_parts.specs.declared.cell.CellViews.{CellViews}

-- what an acquire of a position takes
abbrev pub released_at : Spans → CellViews → ℕ → ℕ → ℕ
released_at clocks kept p u = kept_at clocks (slice_index kept.released.items p) u

-- what the sequences of the heads by a thread release
abbrev pub sequence_at : Spans → CellViews → ℕ → ℕ → ℕ
sequence_at clocks kept t u = kept_at clocks (slice_index kept.sequence.items t) u

-- The numbers are of clocks that are there.
pub record Named (clocks : Spans) (kept : CellViews) : Type 0 where
  pub released : (p : ℕ) → slice_index kept.released.items p ≤ length clocks.ends
  pub sequence : (t : ℕ) → slice_index kept.sequence.items t ≤ length clocks.ends
