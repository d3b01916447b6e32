use Rattle.mem_axioms.specs.Lemmas.Positions.{before-head, released-allows}
use Rattle.mem_axioms.proofs.laws.released_position_is_allowed.Goals as goal

pub returns-clause-heads : goal.returns-clause-heads
returns-clause-heads c = λ right rule. before-head rule right

pub returns-clause-released : goal.returns-clause-released
returns-clause-released c = λ right rule. released-allows rule right
