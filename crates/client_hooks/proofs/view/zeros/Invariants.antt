use Rattle.std.proofs.Common.{◌≡◌, take}
use Rattle.typed_heap.specs.Objects.{zeros}
use Rattle.client_hooks.proofs.view.zeros.Given as goal

abbrev pub invariant-loop-class : goal.invariant-loop-class
invariant-loop-class l = l.scalars.items ≡ zeros l.classes.definitions (take l.class-index l.leaves)
