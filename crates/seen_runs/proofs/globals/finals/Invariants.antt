use Rattle.std.proofs.Common.{◌≡◌, ◌≤◌, ◌++◌, drop, length}
use Rattle.seen_runs.specs.Seen.{global_names}
use Rattle.seen_runs.specs.Finals.{finals_in}
use Rattle.seen_runs.proofs.globals.finals.Given as goal

abbrev pub invariant-loop-item : goal.invariant-loop-item
invariant-loop-item l = record {
  within : l.n ≤ length l.heap.objects;
  left : l.found.items ++ finals_in l.n (global_names (drop l.item-index l.items)) (drop l.n l.heap.objects) ≡ finals_in 0 (global_names l.items) l.heap.objects;
}
