use Rattle.model_laws.specs.Lemmas.Proved.{one_owner}
use Rattle.model_laws.proofs.laws.stacks_have_one_owner.Goals as goal

pub returns : goal.returns
returns c = one_owner
