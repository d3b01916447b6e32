use Rattle.bundle_laws.specs.Lemmas.Lifting.{bundle_fits}
use Rattle.bundle_laws.proofs.laws.accepted_blocks_fit.Goals as goal

pub returns : goal.returns
returns c = bundle_fits
