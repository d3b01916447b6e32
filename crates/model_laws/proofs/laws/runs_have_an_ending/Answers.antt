use Rattle.model_laws.specs.Lemmas.Bounded.{runs_end}
use Rattle.model_laws.proofs.laws.runs_have_an_ending.Goals as goal

pub returns : goal.returns
returns c = runs_end
