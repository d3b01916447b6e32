use Rattle.bundle_facts.specs.Lemmas.Accepted as facts
use Rattle.bundle_facts.proofs.laws.irefs_are_defined.Goals as goal

pub returns : goal.returns
returns c = facts.irefs_are_defined
