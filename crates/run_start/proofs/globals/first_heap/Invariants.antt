use Rattle.std.proofs.Common.{◌≡◌}
use Rattle.checked_code.specs.Checking.{bundle_tables}
use Rattle.run_start.specs.Starting.{objects_so_far}
use Rattle.run_start.proofs.globals.first_heap.Given as goal

abbrev pub invariant-loop-class : goal.invariant-loop-class
invariant-loop-class l = record {
  objects : l.heap.objects ≡ objects_so_far (bundle_tables l.fn.code) l.class-index;
  left : l.heap.left ≡ l.fn.cells;
}
