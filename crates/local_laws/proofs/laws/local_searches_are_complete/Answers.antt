use Rattle.local_laws.proofs.Scheduled.{local_runs_are_runs}
use Rattle.local_laws.proofs.Searching.{local_steps_come_first, local_runs_are_shown, local_search_is_complete}
use Rattle.local_laws.proofs.laws.local_searches_are_complete.Goals as goal

pub returns-clause-first : goal.returns-clause-first
returns-clause-first c = local_steps_come_first c.local_steps_commute.ensures.told c.picks_are_only_picked_from.ensures.steps

pub returns-clause-runs : goal.returns-clause-runs
returns-clause-runs c = local_runs_are_runs c.picks_are_only_picked_from.ensures.steps

pub returns-clause-shown : goal.returns-clause-shown
returns-clause-shown c = local_runs_are_shown c.picks_are_only_picked_from.ensures.steps

pub returns-clause-complete : goal.returns-clause-complete
returns-clause-complete c = local_search_is_complete c.local_steps_commute.ensures.told c.picks_are_only_picked_from.ensures.steps
