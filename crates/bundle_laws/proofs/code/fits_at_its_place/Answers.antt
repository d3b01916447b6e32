use Rattle.bundle_laws.specs.Lemmas.TypedEndings.{code_at}
use Rattle.bundle_laws.proofs.code.fits_at_its_place.Goals as goal

pub returns : goal.returns
returns c = code_at
