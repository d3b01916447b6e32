use Rattle.bundle_facts.specs.Lemmas.Accepted as facts
use Rattle.bundle_facts.proofs.laws.called_functions_fit.Goals as goal

pub returns : goal.returns
returns c = facts.called_functions_fit
