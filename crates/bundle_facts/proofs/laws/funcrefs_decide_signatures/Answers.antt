use Rattle.bundle_facts.specs.Lemmas.Accepted as facts
use Rattle.bundle_facts.proofs.laws.funcrefs_decide_signatures.Goals as goal

pub returns : goal.returns
returns c = facts.funcrefs_decide_signatures
