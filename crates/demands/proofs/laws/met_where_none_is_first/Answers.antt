use Rattle.demands.specs.Lemmas.Meeting.{all_met}
use Rattle.demands.proofs.laws.met_where_none_is_first.Goals as goal

pub returns : goal.returns
returns g c = λ ds h. all_met ds h
