use Rattle.mem_axioms.specs.Lemmas.Building.{value-written}
use Rattle.mem_axioms.proofs.laws.values_are_written.Goals as goal

pub returns : goal.returns
returns c = value-written
