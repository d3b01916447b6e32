use Rattle.bundle_laws.specs.Lemmas.TypedEndings.{goes_on}
use Rattle.bundle_laws.proofs.code.goes_on.Goals as goal

pub returns : goal.returns
returns c = goes_on
