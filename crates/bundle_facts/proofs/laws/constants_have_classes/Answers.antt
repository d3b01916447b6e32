use Rattle.bundle_facts.specs.Lemmas.Accepted as facts
use Rattle.bundle_facts.proofs.laws.constants_have_classes.Goals as goal

pub returns : goal.returns
returns c = facts.constants_have_classes
