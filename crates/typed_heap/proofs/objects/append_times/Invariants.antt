use Rattle.std.proofs.Common.{◌≡◌, ◌++◌}
use Rattle.type_definitions.specs.Leaves.{times}
use Rattle.typed_heap.proofs.objects.append_times.Given as goal

abbrev pub invariant-loop-i : goal.invariant-loop-i
invariant-loop-i l = l.leaves.items ≡ l.fn.leaves.items ++ times l.i l.run
