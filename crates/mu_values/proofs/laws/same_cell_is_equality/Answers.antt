use Rattle.mu_values.specs.CellLaws.{same_cell-iff}
use Rattle.mu_values.proofs.laws.same_cell_is_equality.Goals as goal

pub returns : goal.returns
returns c = same_cell-iff
