use Rattle.std.proofs.Common.{◌∙◌, sym}
use Rattle.demands.specs.Demands.{listed}
use Rattle.demands.specs.Lemmas.Meeting.{first_of_list, behind}
use Rattle.bundle_names.specs.Naming.{name_demands}
use Rattle.bundle_names.proofs.laws.fault_stands_behind_met_ones.Goals as goal

pub returns : goal.returns
returns c = λ bundle kind place h. behind (listed (name_demands bundle)) kind place (sym (first_of_list (name_demands bundle)) ∙ h)
