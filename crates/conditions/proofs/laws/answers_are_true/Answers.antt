use Rattle.conditions.specs.Lemmas.Truth as truth
use Rattle.conditions.proofs.laws.answers_are_true.Goals as goal

pub returns : goal.returns
returns g c = truth.answers_are_true g.S.Search.shows
