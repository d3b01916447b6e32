use Rattle.bundle_facts.specs.Lemmas.Accepted as facts
use Rattle.bundle_facts.proofs.laws.leaves_of_classes.Goals as goal

pub returns : goal.returns
returns c = facts.leaves_of_classes
