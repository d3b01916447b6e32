use Rattle.std.proofs.Common.{◌≡◌, take, drop}
use Rattle.typed_heap.specs.Places.{leaves_together}
use Rattle.step_forms.proofs.parts.behind.Given as goal

abbrev pub invariant-loop-n : goal.invariant-loop-n
invariant-loop-n l = l.left ≡ drop (leaves_together l.classes.definitions (take l.n l.types)) l.value
