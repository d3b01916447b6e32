use Rattle.model_numbers.specs.Lemmas.Whole.{programs_same}
use Rattle.model_numbers.proofs.laws.programs_are_same.Goals as goal

pub returns : goal.returns
returns c = programs_same
