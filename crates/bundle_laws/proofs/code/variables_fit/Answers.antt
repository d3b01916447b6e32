use Rattle.bundle_laws.specs.Lemmas.TypedInstructions.{after_fits, after_classes}
use Rattle.bundle_laws.proofs.code.variables_fit.Goals as goal

pub returns : goal.returns
returns c = λ p f ls ended i fits m. (after_fits p ls i fits, after_classes p f ls ended i m)
