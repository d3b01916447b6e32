use Rattle.bundle_laws.specs.Lemmas.TypedInstructions.{op_fits}
use Rattle.bundle_laws.proofs.code.forms_fit.Goals as goal

pub returns : goal.returns
returns c = op_fits
