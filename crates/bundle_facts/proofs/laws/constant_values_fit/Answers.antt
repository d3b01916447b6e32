use Rattle.bundle_facts.specs.Lemmas.Accepted as facts
use Rattle.bundle_facts.proofs.laws.constant_values_fit.Goals as goal

pub returns : goal.returns
returns c = facts.constant_values_fit
