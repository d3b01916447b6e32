use Rattle.mem_axioms.specs.Lemmas.Values.{form-alone}
use Rattle.mem_axioms.specs.Lemmas.Initials.{form-with-some, meets-same}
use Rattle.mem_axioms.proofs.laws.accessed_initials_matter.Goals as goal

pub returns-clause-alone : goal.returns-clause-alone
returns-clause-alone c = form-alone

pub returns-clause-initials : goal.returns-clause-initials
returns-clause-initials c = form-with-some

pub returns-clause-others : goal.returns-clause-others
returns-clause-others c = meets-same
