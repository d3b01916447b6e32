use Rattle.sleep_laws.specs.Lemmas.Leaves.{sleeping_agrees}
use Rattle.sleep_laws.specs.Lemmas.Texts.{sleep_sets_lose_nothing, sleep_search_is_complete, begins_at_none}
use Rattle.sleep_laws.proofs.laws.sleep_searches_are_complete.Goals as goal

pub returns-clause-runs : goal.returns-clause-runs
returns-clause-runs c p n d sleep numbers = sleeping_agrees p n d sleep numbers

pub returns-clause-lose : goal.returns-clause-lose
returns-clause-lose c = sleep_sets_lose_nothing c.steps_are_never_stuck.ensures.clients c.logs_meet_the_axioms.ensures.axioms c.runs_stay_in_bounds.ensures.steps

pub returns-clause-complete : goal.returns-clause-complete
returns-clause-complete c =
    sleep_search_is_complete c.steps_are_never_stuck.ensures.clients c.logs_meet_the_axioms.ensures.axioms c.runs_stay_in_bounds.ensures.steps c.local_searches_are_complete.ensures.complete begins_at_none
