use Rattle.bundle_facts.specs.Lemmas.Accepted as facts
use Rattle.bundle_facts.proofs.laws.int_constants_are_scalars.Goals as goal

pub returns : goal.returns
returns c = facts.int_constants_are_scalars
