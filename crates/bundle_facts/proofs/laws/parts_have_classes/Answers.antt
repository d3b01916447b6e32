use Rattle.bundle_facts.specs.Lemmas.Accepted as facts
use Rattle.bundle_facts.proofs.laws.parts_have_classes.Goals as goal

pub returns : goal.returns
returns c = facts.parts_have_classes
