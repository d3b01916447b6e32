use Rattle.bundle_laws.specs.Lemmas.TypedOperands.{arguments_fit}
use Rattle.bundle_laws.proofs.code.arguments_fit.Goals as goal

pub returns : goal.returns
returns c = arguments_fit
