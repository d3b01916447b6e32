use Rattle.std.proofs.Common.{◌∙◌, sym}
use Rattle.demands.specs.Demands.{listed}
use Rattle.demands.specs.Lemmas.Meeting.{first_of_list, behind}
use Rattle.demands.proofs.laws.unmet_stands_behind_met_ones.Goals as goal

pub returns : goal.returns
returns g c = λ ds kind place h. behind (listed ds) kind place (sym (first_of_list ds) ∙ h)
