use Rattle.bundle_facts.specs.Lemmas.Accepted as facts
use Rattle.bundle_facts.proofs.laws.functions_have_signatures.Goals as goal

pub returns : goal.returns
returns c = facts.functions_have_signatures
