use Rattle.model_numbers.specs.Lemmas.Places.{has_handler_same}
use Rattle.model_numbers.proofs.laws.handlers_are_same.Goals as goal

pub returns : goal.returns
returns c = has_handler_same
