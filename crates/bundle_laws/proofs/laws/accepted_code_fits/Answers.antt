use Rattle.bundle_laws.specs.Lemmas.Numbered.{code_fits}
use Rattle.bundle_laws.proofs.laws.accepted_code_fits.Goals as goal

pub returns : goal.returns
returns c = code_fits
