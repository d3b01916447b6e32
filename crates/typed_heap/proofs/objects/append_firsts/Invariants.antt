use Rattle.std.proofs.Common.{◌≡◌, ◌++◌, take}
use Rattle.typed_heap.specs.Rows.{firsts}
use Rattle.typed_heap.proofs.objects.append_firsts.Given as goal

abbrev pub invariant-loop-class : goal.invariant-loop-class
invariant-loop-class l = l.initials.items ≡ l.fn.initials.items ++ firsts l.classes.definitions (take l.class-index l.leaves)
