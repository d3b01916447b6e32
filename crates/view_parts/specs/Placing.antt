-- Which place a cell has: one less than its number. A cell whose number is 0 has none.
use Rattle.std.specs.Prelude.{ℕ, suc, ◌≡◌, List, slice_get, Some}
use Rattle.mu_values.specs.declared.cells.CellId.{CellId}

-- the owner of a cell's place is the cell: no two cells have one place
abbrev pub Owned : (CellId → ℕ) → List CellId → Type 0
Owned numbers owners = (c : CellId) (p : ℕ) → numbers c ≡ suc p → slice_get owners p ≡ Some c
