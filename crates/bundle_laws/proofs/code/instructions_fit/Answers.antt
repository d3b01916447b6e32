use Rattle.bundle_laws.specs.Lemmas.TypedInstructions.{inst_fits}
use Rattle.bundle_laws.proofs.code.instructions_fit.Goals as goal

pub returns : goal.returns
returns c = inst_fits
