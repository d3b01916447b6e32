use Rattle.std.proofs.Common.{◌≡◌, take}
use Rattle.run_state.specs.Acting.{objects_end}
use Rattle.run_state.proofs.objects.end_objects.Given as goal

abbrev pub invariant-loop-object : goal.invariant-loop-object
invariant-loop-object l = record {
  ended : l.heap.objects ≡ objects_end l.initial.heap.objects (take l.object-index l.objects);
  same : l.heap.left ≡ l.initial.heap.left;
}
