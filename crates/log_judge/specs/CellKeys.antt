-- The places of cells in a map by keys.
use Rattle.std.specs.Prelude.{ℕ, suc, ◌+◌, ◌*◌, if◌then◌else◌, nat_lt, Option, Some, None}
use Rattle.std.specs.Ordering.{nat_cmp}
use Rattle.std.specs.BTreeMap.{get, BTreeMap}
use Rattle.mu_values.specs.declared.cells.CellId.{CellId}

-- both numbers of a cell as one
abbrev pub cell_key : CellId → ℕ
cell_key cell = cell.object * 4294967296 + cell.at

-- one more than a place, or 0 where there is none
abbrev pub one_more : Option ℕ → ℕ
one_more None = 0
one_more (Some place) = suc place

-- The number of a cell in the map. Cells whose second number has more than 32 bits, which no event has, have none.
abbrev pub number_in : BTreeMap ℕ ℕ → CellId → ℕ
number_in places cell = if nat_lt cell.at 4294967296 then one_more (get nat_cmp places (cell_key cell)) else 0
