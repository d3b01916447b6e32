use Rattle.bundle_facts.specs.Lemmas.Derived as facts
use Rattle.bundle_facts.proofs.laws.derived_have_blocks.Goals as goal

pub returns : goal.returns
returns c = facts.derived_have_blocks
