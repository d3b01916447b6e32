-- Whether two cells are one.
use Rattle.std.specs.Prelude.{Bool, ◌&&◌, ◌==◌}
use Rattle.mu_values.specs.declared.cells.CellId.{CellId}

abbrev pub same_cell : CellId → CellId → Bool
same_cell a b = (a.object == b.object) && (a.at == b.at)
