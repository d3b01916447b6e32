use Rattle.bundle_facts.specs.Lemmas.Accepted as facts
use Rattle.bundle_facts.proofs.laws.types_are_there.Goals as goal

pub returns : goal.returns
returns c = facts.types_are_there
