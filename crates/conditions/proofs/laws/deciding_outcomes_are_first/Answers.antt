use Rattle.conditions.specs.Lemmas.Truth as truth
use Rattle.conditions.proofs.laws.deciding_outcomes_are_first.Goals as goal

pub returns : goal.returns
returns c = truth.deciding_outcomes_are_first
