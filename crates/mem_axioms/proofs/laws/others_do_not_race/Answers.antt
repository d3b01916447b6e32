use Rattle.mem_axioms.specs.Lemmas.Fitting.{others-race}
use Rattle.mem_axioms.proofs.laws.others_do_not_race.Goals as goal

pub returns : goal.returns
returns c = others-race
