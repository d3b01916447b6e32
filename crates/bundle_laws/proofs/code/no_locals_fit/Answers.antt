use Rattle.bundle_laws.specs.Lemmas.TypedVariables.{no_locals_fit}
use Rattle.bundle_laws.proofs.code.no_locals_fit.Goals as goal

pub returns : goal.returns
returns c = no_locals_fit
