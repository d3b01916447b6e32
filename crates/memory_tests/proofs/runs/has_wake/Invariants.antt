use Rattle.std.proofs.Common.{◌≡◌, ◌&&◌, ◌==◌, reverse, take}
use Rattle.mem_axioms.specs.Events.{is_wake}
use Rattle.mem_axioms.specs.Logs.{any_event}
use Rattle.memory_tests.proofs.runs.has_wake.Given as goal

abbrev pub invariant-loop-i : goal.invariant-loop-i
invariant-loop-i l = l.found ≡ any_event (λ i ei. (i == l.n) && is_wake ei) (reverse (take l.i l.events))
