-- What one more access does to what is kept of the cells.
use Rattle.std.specs.Prelude.{◌≡◌, true, ℕ, suc, ◌+◌, ◌<◌, List, length, slice_index_or, Option}
use Rattle.mu_values.specs.declared.cells.CellId.{CellId}
use Rattle.mem_axioms.specs.Events.{is_modification, position_of}
use Rattle.mem_axioms.specs.declared.types.Rule.{Rule}
use Rattle.mem_axioms.specs.declared.types.Event.{Event}
use Rattle.clocks.specs.Spans.{Spans}
use Rattle.view_parts.specs.CellClocks.{Named}
use Rattle.view_parts.specs.CellAdded.{CellAdded, CellRoom, CellBelow}
use Rattle.view_parts.specs.declared.cell.CellViews.{CellViews}

-- event n, which is e, was added to what stands at a place
pub record AddedAt (rule : Rule) (before after : Spans) (old new : List CellViews) (place n : ℕ) (e : Event) (given : Option (List ℕ)) : Type 0 where
  pub size : length new ≡ length old
  pub here : (d : CellViews) → CellAdded rule before after (slice_index_or old place d) (slice_index_or new place d) n e given
  pub others : (p : ℕ) (d : CellViews) → (p ≡ place → ⊥) → slice_index_or new p d ≡ slice_index_or old p d
  pub room : (count : ℕ) (d : CellViews) → CellRoom (count + 1) e.thread (slice_index_or old place d) → CellRoom count e.thread (slice_index_or new place d)

-- the cell that the event accesses has a place, which takes the event with that number
pub record CanAdd (n : ℕ) (e : Event) (clocks : Spans) (numbers : CellId → ℕ) (kept : List CellViews) (cell : CellId) : Type 0 where
  pub placed : 0 < numbers cell
  pub room : (p : ℕ) (d : CellViews) → numbers cell ≡ suc p → CellRoom 1 e.thread (slice_index_or kept p d)
  pub below : (p : ℕ) (d : CellViews) → numbers cell ≡ suc p → CellBelow (suc n) e.thread (slice_index_or kept p d)
  pub next : (p : ℕ) (d : CellViews) → numbers cell ≡ suc p → is_modification e ≡ true → position_of e ≡ length (slice_index_or kept p d).released.items
  pub named : (p : ℕ) (d : CellViews) → numbers cell ≡ suc p → Named clocks (slice_index_or kept p d)
  pub few : (p : ℕ) (d : CellViews) → numbers cell ≡ suc p → length (slice_index_or kept p d).history.values < 4294967295
  pub there : (p : ℕ) → numbers cell ≡ suc p → p < length kept
