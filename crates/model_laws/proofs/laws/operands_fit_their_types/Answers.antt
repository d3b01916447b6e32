use Rattle.model_laws.specs.Lemmas.Proved.{operands_fit}
use Rattle.model_laws.proofs.laws.operands_fit_their_types.Goals as goal

pub returns : goal.returns
returns c = operands_fit
