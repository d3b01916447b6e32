use Rattle.model_laws.specs.Lemmas.Bounded.{first_in_bounds, steps_in_bounds, runs_small}
use Rattle.model_laws.proofs.laws.runs_stay_in_bounds.Goals as goal

pub returns-clause-first : goal.returns-clause-first
returns-clause-first c = first_in_bounds

pub returns-clause-steps : goal.returns-clause-steps
returns-clause-steps c = steps_in_bounds

pub returns-clause-small : goal.returns-clause-small
returns-clause-small c = runs_small
