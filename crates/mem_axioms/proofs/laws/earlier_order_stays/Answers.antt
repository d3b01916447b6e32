use Rattle.mem_axioms.specs.Lemmas.Steps.{before-older}
use Rattle.mem_axioms.proofs.laws.earlier_order_stays.Goals as goal

pub returns-clause-happens_before : goal.returns-clause-happens_before
returns-clause-happens_before c = before-older
