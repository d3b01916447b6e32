use Rattle.model_numbers.specs.Lemmas.Places.{going_on_same}
use Rattle.model_numbers.proofs.laws.goings_on_are_same.Goals as goal

pub returns : goal.returns
returns c = going_on_same
