-- The objects of a run: the initial values, in the order in which they were added.
use Rattle.std.specs.Prelude.{◌<◌, List, [], length, slice_index_or}
use Rattle.mu_values.specs.declared.scalars.Scalar.{Scalar}
use Rattle.mu_values.specs.declared.scalars.Scalar.TheVariants.{Null}
use Rattle.mu_values.specs.declared.cells.CellId.{CellId}

-- the initial scalar of a cell; of one that is not there, NULL
abbrev pub initial_of : List (List Scalar) → CellId → Scalar
initial_of objects cell = slice_index_or (slice_index_or objects cell.object []) cell.at Null

-- the cell is one of an added object
abbrev pub HasCell : List (List Scalar) → CellId → Type 0
HasCell objects cell = (cell.object < length objects) × (cell.at < length (slice_index_or objects cell.object []))
