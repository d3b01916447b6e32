use Rattle.model_laws.specs.Lemmas.Proved.{first_well}
use Rattle.model_laws.proofs.laws.first_configuration_is_well_typed.Goals as goal

pub returns : goal.returns
returns c = first_well
