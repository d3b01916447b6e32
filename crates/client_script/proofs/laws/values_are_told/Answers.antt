use Rattle.client_script.specs.Lemmas.ToldValues as told
use Rattle.client_script.proofs.laws.values_are_told.Goals as goal

pub returns : goal.returns
returns c = told.values_are_told
