-- The number of a cell in a table by object and offset: one more than its place, or 0 where it has none.
use Rattle.std.specs.Prelude.{ℕ, List, [], slice_index, slice_index_or}
use Rattle.mu_values.specs.declared.cells.CellId.{CellId}

abbrev pub number_at : List (List ℕ) → ℕ → ℕ → ℕ
number_at objects o i = slice_index (slice_index_or objects o []) i

abbrev pub place_in : List (List ℕ) → CellId → ℕ
place_in objects c = number_at objects c.object c.at
