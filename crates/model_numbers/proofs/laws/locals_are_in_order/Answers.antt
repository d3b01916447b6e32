use Rattle.model_numbers.proofs.Locals.{local_is}
use Rattle.model_numbers.proofs.laws.locals_are_in_order.Goals as goal

pub returns : goal.returns
returns c = local_is
