use Rattle.demands.specs.Lemmas.Meeting.{carried}
use Rattle.demands.proofs.laws.kinds_are_carried.Goals as goal

pub returns : goal.returns
returns g c = λ f ds. carried f ds
