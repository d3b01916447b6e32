use Rattle.bundle_facts.specs.Lemmas.Accepted as facts
use Rattle.bundle_facts.proofs.laws.have_one_shape.Goals as goal

pub returns : goal.returns
returns c = facts.have_one_shape
