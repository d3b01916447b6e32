-- Room for accesses of a cell by a thread.
use Rattle.std.specs.Prelude.{◌≡◌, ℕ, suc, ◌<◌, List, length, slice_index_or}
use Rattle.mu_values.specs.declared.cells.CellId.{CellId}
use Rattle.view_parts.specs.CellAdded.{CellRoom}
use Rattle.view_parts.specs.declared.cell.CellViews.{CellViews}

-- the cell has a place, with room for that many more accesses by the thread
pub record CellRoomAt (count t : ℕ) (numbers : CellId → ℕ) (kept : List CellViews) (cell : CellId) : Type 0 where
  pub placed : 0 < numbers cell
  pub room : (p : ℕ) (d : CellViews) → numbers cell ≡ suc p → p < length kept → CellRoom count t (slice_index_or kept p d)
