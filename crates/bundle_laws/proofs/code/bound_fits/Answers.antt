use Rattle.bundle_laws.specs.Lemmas.TypedVariables.{bound_fits}
use Rattle.bundle_laws.proofs.code.bound_fits.Goals as goal

pub returns : goal.returns
returns c = bound_fits
