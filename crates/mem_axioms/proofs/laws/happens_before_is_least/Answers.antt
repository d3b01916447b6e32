use Rattle.mem_axioms.specs.Lemmas.Least.{before-iff}
use Rattle.mem_axioms.specs.Lemmas.Steps.{before-less}
use Rattle.mem_axioms.proofs.laws.happens_before_is_least.Goals as goal

pub returns-clause-least : goal.returns-clause-least
returns-clause-least c = before-iff

pub returns-clause-order : goal.returns-clause-order
returns-clause-order c = before-less
