use Rattle.std.proofs.Common.{sym}
use Rattle.model_numbers.specs.Lemmas.Functions.{definition_same}
use Rattle.model_numbers.proofs.laws.bodies_are_of_definitions.Goals as goal

pub returns : goal.returns
returns c = λ bundle function. sym (definition_same bundle function)
