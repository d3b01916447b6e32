use Rattle.bundle_facts.specs.Lemmas.Accepted as facts
use Rattle.bundle_facts.proofs.laws.refs_are_defined.Goals as goal

pub returns : goal.returns
returns c = facts.refs_are_defined
