use Rattle.bundle_facts.proofs.Classes as facts
use Rattle.bundle_facts.proofs.laws.widths_are_narrow.Goals as goal

pub returns : goal.returns
returns c = facts.widths_are_narrow
