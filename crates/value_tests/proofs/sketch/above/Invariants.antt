use Rattle.std.proofs.Common.{take, ◌<◌, ◌≤◌}
use Rattle.std.specs.List.{All}
use Rattle.value_tests.proofs.sketch.above.Given as goal

abbrev pub invariant-loop-k : goal.invariant-loop-k
invariant-loop-k l = (l.least ≤ l.top) × All (λ y. y < l.top) (take l.k l.list)
