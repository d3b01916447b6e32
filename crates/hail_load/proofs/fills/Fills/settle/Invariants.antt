use Rattle.std.proofs.Common.{◌≡◌, ◌≤◌, length}
use Rattle.hail_load.specs.Fills.{made, uncovered_in}
use Rattle.hail_load.proofs.Settling.{Settling}
use Rattle.hail_load.proofs.fills.Fills.settle.Given as goal

abbrev pub invariant-each : goal.invariant-each
invariant-each l = record {
  settling : Settling (made l.fn.heap.objects l.fn.self.fills.items) l.heap.objects l.fills.items l.rows.items;
  left : l.heap.left ≡ l.fn.heap.left;
  room : uncovered_in l.rows.items ≤ l.heap.spare;
}

abbrev pub decreases-each : goal.decreases-each
decreases-each l = length l.fills.items
