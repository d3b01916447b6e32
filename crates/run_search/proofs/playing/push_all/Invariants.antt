use Rattle.std.proofs.Common.{◌≡◌, ◌++◌, take}
use Rattle.odometer.specs.Odometer.{digits}
use Rattle.run_search.proofs.playing.push_all.Given as goal

abbrev pub invariant-loop-pick : goal.invariant-loop-pick
invariant-loop-pick l = l.schedule.items ≡ l.initial.schedule.items ++ digits (take l.pick-index l.picks)
