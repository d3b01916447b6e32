use Rattle.bundle_facts.specs.Lemmas.Accepted as facts
use Rattle.bundle_facts.proofs.laws.widths_are_allowed.Goals as goal

pub returns : goal.returns
returns c = facts.widths_are_allowed
