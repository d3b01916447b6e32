use Rattle.std.proofs.Common.{◌≡◌, ◌+◌}
use Rattle.std.specs.Prelude.{vec_capacity}
use Rattle.write_history.specs.Merging.{Interleaves}
use Rattle.write_history.proofs.runs.interleave.Given as goal

abbrev pub invariant-loop-index : goal.invariant-loop-index
invariant-loop-index l = record {
  merged : Interleaves l.values l.order l.start l.middle l.left l.right l.merged.items;
  count : l.left + l.right ≡ l.index + l.middle;
  capacity : vec_capacity l.merged ≡ vec_capacity l.initial.merged;
}
