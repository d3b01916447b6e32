use Rattle.bundle_facts.specs.Lemmas.Accepted as facts
use Rattle.bundle_facts.proofs.laws.functions_of_class_fit.Goals as goal

pub returns : goal.returns
returns c = facts.functions_of_class_fit
