use Rattle.demands.specs.Lemmas.Meeting.{first_of_list}
use Rattle.bundle_names.specs.Naming.{name_demands}
use Rattle.bundle_names.proofs.laws.fault_is_of_one_list.Goals as goal

pub returns : goal.returns
returns c = λ bundle. first_of_list (name_demands bundle)
