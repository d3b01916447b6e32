use Rattle.sleep_laws.specs.Lemmas.Looping.{first_moves_go_on, moves_go_on, moves_end, runs_end, moves_sleep}
use Rattle.sleep_laws.proofs.laws.sleeping_runs_go_on.Goals as goal

pub returns-clause-first : goal.returns-clause-first
returns-clause-first c p n i k d ls sleep picks numbers = first_moves_go_on p n i k d ls sleep picks numbers

pub returns-clause-moves : goal.returns-clause-moves
returns-clause-moves c p n k d ls sleep numbers a h awake w = moves_go_on p k numbers n sleep a c.picks_are_only_picked_from.ensures.steps h awake d ls w

pub returns-clause-moves_end : goal.returns-clause-moves_end
returns-clause-moves_end c p n k ls e sleep numbers a h awake w = moves_end p k numbers n sleep a c.picks_are_only_picked_from.ensures.steps h awake ls e w

pub returns-clause-runs_end : goal.returns-clause-runs_end
returns-clause-runs_end c p n k ls e sleep numbers h w = runs_end p k numbers n sleep ls e h w

pub returns-clause-sleep : goal.returns-clause-sleep
returns-clause-sleep c p n k sleep numbers a h e = moves_sleep p k numbers n sleep a h e
