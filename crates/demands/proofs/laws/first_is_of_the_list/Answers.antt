use Rattle.demands.specs.Lemmas.Meeting.{first_of_list}
use Rattle.demands.proofs.laws.first_is_of_the_list.Goals as goal

pub returns : goal.returns
returns g c = λ ds. first_of_list ds
