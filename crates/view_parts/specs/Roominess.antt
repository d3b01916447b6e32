-- Room for the events of one step.
use Rattle.std.specs.Prelude.{◌≡◌, ℕ, ◌<◌, List, Some}
use Rattle.mu_values.specs.declared.cells.CellId.{CellId}
use Rattle.mem_axioms.specs.declared.types.Room.{Room}
use Rattle.view_parts.specs.CellRooms.{CellRoomAt}
use Rattle.view_parts.specs.declared.cell.CellViews.{CellViews}

-- Where the room is for a cell, the cell has a place with room for all its events. A number of 64 or more is no thread's.
abbrev pub CellFits : Room → (CellId → ℕ) → List CellViews → Type 0
CellFits room numbers kept = (cell : CellId) → room.cell ≡ Some cell → room.thread < 64 → CellRoomAt room.events room.thread numbers kept cell
