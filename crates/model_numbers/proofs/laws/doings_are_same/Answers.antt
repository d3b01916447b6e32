use Rattle.model_numbers.specs.Lemmas.Places.{doing_same}
use Rattle.model_numbers.proofs.laws.doings_are_same.Goals as goal

pub returns : goal.returns
returns c = doing_same
