use Rattle.bundle_laws.specs.Lemmas.TypedInstructions.{insts_fit, all_fit, all_classes}
use Rattle.bundle_laws.proofs.code.lists_fit.Goals as goal

pub returns : goal.returns
returns c = λ p blocks f ls ended is tables body fits m. (insts_fit p blocks f ls ended is tables body fits m, all_fit p ls is fits, all_classes p f ls ended is m)
