use Rattle.conditions.specs.Lemmas.Truth as truth
use Rattle.conditions.proofs.laws.complete_is_answered.Goals as goal

pub returns : goal.returns
returns c = truth.complete_is_answered
