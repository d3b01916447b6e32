use Rattle.bundle_laws.specs.Lemmas.TypedOperands.{exceptional_fits, normal_fits}
use Rattle.bundle_laws.proofs.code.destinations_fit.Goals as goal

pub returns : goal.returns
returns c = λ p blocks f ls d body fits. (exceptional_fits p blocks f ls d body fits, normal_fits p blocks f ls d body fits)
