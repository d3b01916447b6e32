use Rattle.bundle_facts.specs.Lemmas.Spelled.{names_spelled}
use Rattle.bundle_facts.proofs.laws.names_are_spelled.Goals as goal

pub returns : goal.returns
returns c = names_spelled
