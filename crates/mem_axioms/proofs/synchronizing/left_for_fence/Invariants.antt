use Rattle.std.proofs.Common.{◌≡◌, reverse, take, ◌&&◌, ◌==◌, nat_lt}
use Rattle.mem_axioms.specs.Logs.{any_event}
use Rattle.mem_axioms.specs.Synchronizes.{released_to}
use Rattle.mem_axioms.proofs.synchronizing.left_for_fence.Given as goal

abbrev pub invariant-loop-r : goal.invariant-loop-r
invariant-loop-r l =
    any_event (λ r er. nat_lt l.by.number r && (er.thread == l.next.thread) && released_to l.rule (reverse l.events) er l.by.number l.by.event.now) (reverse l.events) ≡ any_event (λ r er. nat_lt l.by.number r && (er.thread == l.next.thread) && released_to l.rule (reverse l.events) er l.by.number l.by.event.now) (reverse (take l.r l.events))
