use Rattle.bundle_facts.specs.Lemmas.Accepted as facts
use Rattle.bundle_facts.proofs.laws.signatures_are_defined.Goals as goal

pub returns : goal.returns
returns c = facts.signatures_are_defined
