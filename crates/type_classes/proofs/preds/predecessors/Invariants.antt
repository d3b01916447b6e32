use Rattle.std.proofs.Common.{◌≡◌, ℕ, ◌<◌, length, Some, vec_len, []}
use Rattle.std.specs.Prelude.{slice_index_or}
use Rattle.type_definitions.specs.Partition.{arg}
use Rattle.mu_types.specs.Rows.{lists, Holds}
use Rattle.type_classes.specs.Edges.{edge_of}
use Rattle.type_classes.specs.Leads.{IsForward}
use Rattle.type_classes.proofs.preds.predecessors.Given as goal

abbrev pub invariant-loop-y : goal.invariant-loop-y
invariant-loop-y l = record {
  len : vec_len l.preds ≡ l.y;
  none : (x : ℕ) → slice_index_or (lists l.preds.items) x [] ≡ [];
}

abbrev pub invariant-loop-x : goal.invariant-loop-x
invariant-loop-x l = record {
  len : vec_len l.preds ≡ length l.definitions;
  there : (x k y : ℕ) → x < l.x → arg l.definitions x k ≡ Some y → Holds (lists l.preds.items) y (edge_of k x);
  sound : IsForward l.definitions (lists l.preds.items);
}
