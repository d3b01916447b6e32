use Rattle.mem_axioms.specs.Lemmas.Kept.{keeps-next, keeps-no_access, keeps-fit}
use Rattle.mem_axioms.proofs.laws.axioms_are_kept.Goals as goal

pub returns-clause-modifications : goal.returns-clause-modifications
returns-clause-modifications c = keeps-next

pub returns-clause-others : goal.returns-clause-others
returns-clause-others c = keeps-no_access

pub returns-clause-fitting : goal.returns-clause-fitting
returns-clause-fitting c = keeps-fit
