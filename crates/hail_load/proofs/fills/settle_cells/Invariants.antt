use Rattle.std.proofs.Common.{◌≡◌, ◌+◌, ◌-◌, ◌≤◌, length}
use Rattle.hail_load.specs.Fills.{uncovered, Walked, Given}
use Rattle.hail_load.specs.Gathered.{scalars_in}
use Rattle.hail_load.proofs.fills.settle_cells.Given as goal

abbrev pub invariant-each : goal.invariant-each
invariant-each l = record {
  row : Walked l.fn.row l.row l.fill.at (l.fill.at + l.n) (l.fill.at + length (scalars_in l.fill.scalars));
  given : Given l.fn.heap.objects l.heap.objects l.fn.row l.fill.object l.fill.at (l.fill.at + l.n) (scalars_in l.fill.scalars);
  left : l.heap.left ≡ l.fn.heap.left;
  room : l.fn.heap.spare + uncovered l.row ≤ l.heap.spare + uncovered l.fn.row;
  many : l.n ≤ l.many;
}

abbrev pub decreases-each : goal.decreases-each
decreases-each l = l.many - l.n
