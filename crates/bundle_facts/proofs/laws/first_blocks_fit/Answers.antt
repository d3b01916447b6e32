use Rattle.bundle_facts.specs.Lemmas.Accepted as facts
use Rattle.bundle_facts.proofs.laws.first_blocks_fit.Goals as goal

pub returns : goal.returns
returns c = facts.first_blocks_fit
