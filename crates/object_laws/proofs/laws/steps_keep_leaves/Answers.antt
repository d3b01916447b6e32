use Rattle.object_laws.specs.Lemmas.Kept.{casts_stay_good}
use Rattle.object_laws.specs.Lemmas.Stepping as stepping
use Rattle.object_laws.proofs.laws.steps_keep_leaves.Goals as goal

pub returns-clause-leaves : goal.returns-clause-leaves
returns-clause-leaves c = stepping.steps_keep_leaves

pub returns-clause-casts : goal.returns-clause-casts
returns-clause-casts c = casts_stay_good
