use Rattle.std.proofs.Common.{◌≡◌, reverse, take}
use Rattle.mem_axioms.specs.Logs.{any_event}
use Rattle.mem_axioms.specs.PassedOver.{is_passed}
use Rattle.mem_axioms.proofs.read_test.may_come_next.Given as goal

abbrev pub invariant-loop-y : goal.invariant-loop-y
invariant-loop-y l =
    any_event (λ y ey. is_passed l.rule (reverse l.events) l.read y ey) (reverse l.events) ≡ any_event (λ y ey. is_passed l.rule (reverse l.events) l.read y ey) (reverse (take l.y l.events))
