use Rattle.model_numbers.specs.Lemmas.Whole.{steps_same}
use Rattle.model_numbers.proofs.laws.steps_are_same.Goals as goal

pub returns : goal.returns
returns c = steps_same
