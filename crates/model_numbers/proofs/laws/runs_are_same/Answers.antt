use Rattle.model_numbers.specs.Lemmas.Whole.{runs_same}
use Rattle.model_numbers.proofs.laws.runs_are_same.Goals as goal

pub returns : goal.returns
returns c = runs_same
