use Rattle.std.proofs.Common.{◌≡◌, reverse, take, ◌&&◌, ◌||◌, ◌==◌}
use Rattle.mem_axioms.specs.Events.{order_of}
use Rattle.mem_axioms.specs.Logs.{any_event}
use Rattle.mem_axioms.specs.Synchronizes.{heads, releases, fences}
use Rattle.mem_axioms.proofs.synchronizing.released_at.Given as goal

abbrev pub invariant-loop-h : goal.invariant-loop-h
invariant-loop-h l =
    any_event (λ h head. heads l.rule (reverse l.events) l.cell l.position h head && (((l.by.number == h) && releases (order_of head)) || fences l.by.number l.by.event.now h head)) (reverse l.events) ≡ any_event (λ h head. heads l.rule (reverse l.events) l.cell l.position h head && (((l.by.number == h) && releases (order_of head)) || fences l.by.number l.by.event.now h head)) (reverse (take l.h l.events))
