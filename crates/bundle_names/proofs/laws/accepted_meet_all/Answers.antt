use Rattle.demands.specs.Lemmas.Meeting.{all_met}
use Rattle.bundle_names.specs.Naming.{name_demands}
use Rattle.bundle_names.proofs.laws.accepted_meet_all.Goals as goal

pub returns : goal.returns
returns c = λ bundle h. all_met (name_demands bundle) h
