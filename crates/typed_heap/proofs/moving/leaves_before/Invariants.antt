use Rattle.std.proofs.Common.{◌≡◌, ◌-◌, ◌^◌, min, take}
use Rattle.typed_heap.specs.Places.{leaves_together}
use Rattle.typed_heap.proofs.moving.leaves_before.Given as goal

abbrev pub invariant-loop-t : goal.invariant-loop-t
invariant-loop-t l = l.sum ≡ min (leaves_together l.classes.definitions (take l.t-index l.types)) (2 ^ 64 - 1)
