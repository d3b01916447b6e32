use Rattle.local_laws.proofs.Looping.{first_goes_on, first_does_not_end, any_goes_on, any_ends, schedule_goes_on, schedule_ends, steps_have_rules, none_breaks_later}
use Rattle.local_laws.proofs.laws.local_runs_go_on.Goals as goal

pub returns-clause-first : goal.returns-clause-first
returns-clause-first c p n i k d ls picks numbers = first_goes_on p n i k d ls picks numbers

pub returns-clause-first_ends : goal.returns-clause-first_ends
returns-clause-first_ends c p i k ls e picks = first_does_not_end p i k ls e picks

pub returns-clause-any : goal.returns-clause-any
returns-clause-any c p n k d ls numbers = any_goes_on p c.picks_are_only_picked_from.ensures.steps k numbers n d ls

pub returns-clause-any_ends : goal.returns-clause-any_ends
returns-clause-any_ends c p n k ls e numbers = any_ends p c.picks_are_only_picked_from.ensures.steps k numbers n ls e

pub returns-clause-schedules : goal.returns-clause-schedules
returns-clause-schedules c p n k d ls picks more =
    schedule_goes_on p c.picks_are_only_picked_from.ensures.steps k picks c.picks_are_only_picked_from.ensures.runs c.picks_are_only_picked_from.ensures.trees n d ls more

pub returns-clause-schedules_end : goal.returns-clause-schedules_end
returns-clause-schedules_end c p n k ls e picks more = schedule_ends p c.picks_are_only_picked_from.ensures.steps k picks n ls e more

pub returns-clause-rules : goal.returns-clause-rules
returns-clause-rules c p n k picks h = steps_have_rules p c.picks_are_only_picked_from.ensures.steps k picks n h

pub returns-clause-later : goal.returns-clause-later
returns-clause-later c p n k d ls picks h w =
    none_breaks_later p c.picks_are_only_picked_from.ensures.steps k picks c.picks_are_only_picked_from.ensures.runs c.picks_are_only_picked_from.ensures.trees n d ls h w
