use Rattle.view_parts.specs.Lemmas.Owning.{owned-none}
use Rattle.log_judge.specs.CellKeys.{number_in}
use Rattle.log_judge.proofs.Keyed.{number-empty}
use Rattle.log_judge.proofs.cell_map.CellMap.new.Goals as goal

pub invariant_of-result : goal.invariant_of-result
invariant_of-result c = record { owned = owned-none (number_in c.new.result) _ (number-empty c.new.result c.new.ensures.empty) }

pub returns-clause-none : goal.returns-clause-none
returns-clause-none c = number-empty c.new.result c.new.ensures.empty
