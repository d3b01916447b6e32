use Rattle.mem_axioms.specs.Lemmas.Options.{choice-stands, choice-fits}
use Rattle.mem_axioms.proofs.laws.choices_may_be_taken.Goals as goal

pub returns-clause-stand : goal.returns-clause-stand
returns-clause-stand c = choice-stands

pub returns-clause-fit : goal.returns-clause-fit
returns-clause-fit c = choice-fits
