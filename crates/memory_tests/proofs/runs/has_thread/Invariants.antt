use Rattle.std.proofs.Common.{◌≡◌, ◌||◌, ◌==◌, reverse, take}
use Rattle.mem_axioms.specs.Logs.{any_event}
use Rattle.mem_axioms.specs.Synchronizes.{makes_thread}
use Rattle.memory_tests.proofs.runs.has_thread.Given as goal

abbrev pub invariant-loop-event : goal.invariant-loop-event
invariant-loop-event l = l.found ≡ ((l.thread == 0) || any_event (λ i ei. makes_thread l.thread ei) (reverse (take l.event-index l.events)))
