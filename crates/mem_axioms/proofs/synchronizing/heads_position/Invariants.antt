use Rattle.std.proofs.Common.{◌≡◌, reverse, take}
use Rattle.mem_axioms.specs.Synchronizes.{heads}
use Rattle.mem_axioms.proofs.synchronizing.heads_position.Given as goal

abbrev pub invariant-loop-i : goal.invariant-loop-i
invariant-loop-i l =
    heads l.rule (reverse l.events) l.cell l.position l.head.number l.head.event.now ≡ heads l.rule (reverse (take l.i l.events)) l.cell l.at l.head.number l.head.event.now
