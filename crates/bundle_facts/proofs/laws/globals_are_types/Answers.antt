use Rattle.bundle_facts.proofs.Classes as facts
use Rattle.bundle_facts.proofs.laws.globals_are_types.Goals as goal

pub returns : goal.returns
returns c = facts.globals_are_types
