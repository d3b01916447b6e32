use Rattle.mem_axioms.specs.Lemmas.Fitting.{modification-fits, others-fit}
use Rattle.mem_axioms.proofs.laws.next_events_fit.Goals as goal

pub returns-clause-modifications : goal.returns-clause-modifications
returns-clause-modifications c = modification-fits

pub returns-clause-others : goal.returns-clause-others
returns-clause-others c = others-fit
