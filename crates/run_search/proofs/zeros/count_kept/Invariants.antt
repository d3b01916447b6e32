use Rattle.std.proofs.Common.{◌≤◌, length, take}
use Rattle.run_search.specs.Spent.{IsCut}
use Rattle.run_search.proofs.zeros.count_kept.Given as goal

abbrev pub invariant-loop-count : goal.invariant-loop-count
invariant-loop-count l = record { within : l.count ≤ length l.schedule; cut : IsCut l.schedule (take l.count l.schedule) }

abbrev pub decreases-loop-count : goal.decreases-loop-count
decreases-loop-count l = l.count
