-- The last scalars that lines write to the first cells of objects.
use Rattle.std.specs.Prelude.{◌≡◌, ◌<◌, ℕ, List, Option, Some, None, length, slice_index_or}
use Rattle.mu_values.specs.declared.scalars.Scalar.{Scalar}
use Rattle.mu_values.specs.declared.cells.CellId.{CellId}
use Rattle.mu_model.specs.declared.lines.Line.{Line}
use Rattle.seen_runs.specs.Seen.{last_after}

-- the first cell of an object
abbrev pub first_cell : ℕ → CellId
first_cell n = record { object = n; at = 0 }

-- what a cell holds that held `before`, with the last scalar that was written to it since, if one was
abbrev pub held : Scalar → Option Scalar → Scalar
held before None = before
held before (Some s) = s

-- From one list to the other these lines were gone over: for each object it has the last scalar that was written to its first cell.
pub record Keeps (old new : List (Option Scalar)) (ls : List Line) : Type 0 where
  pub size : length new ≡ length old
  pub each : (n : ℕ) (before : Scalar) → n < length old → held before (slice_index_or new n None) ≡ last_after (first_cell n) (held before (slice_index_or old n None)) ls

-- the same of all lines of a run
abbrev pub AreLast : List (Option Scalar) → List Line → Type 0
AreLast written ls = (n : ℕ) (before : Scalar) → n < length written → held before (slice_index_or written n None) ≡ last_after (first_cell n) before ls
