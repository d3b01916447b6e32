use Rattle.mem_axioms.specs.Lemmas.Building.{past-meets, was-next, was-option}
use Rattle.mem_axioms.proofs.laws.logs_were_built.Goals as goal

pub returns-clause-pasts : goal.returns-clause-pasts
returns-clause-pasts c = past-meets

pub returns-clause-writes : goal.returns-clause-writes
returns-clause-writes c = was-next

pub returns-clause-reads : goal.returns-clause-reads
returns-clause-reads c = λ rule initial log m i thread cell order position value. was-option rule initial thread cell order position value log m i
