use Rattle.bundle_facts.specs.Lemmas.Accepted as facts
use Rattle.bundle_facts.proofs.laws.function_values_fit.Goals as goal

pub returns : goal.returns
returns c = facts.function_values_fit
