use Rattle.std.proofs.Common.{◌≡◌, ℕ, ◌<◌, length, take, Some, ◌⊎◌}
use Rattle.std.specs.List.{Contains}
use Rattle.type_definitions.specs.Partition.{arg}
use Rattle.mu_types.specs.Rows.{lists, Holds}
use Rattle.type_classes.specs.Edges.{edge_of}
use Rattle.type_classes.proofs.gather.gather_one.Given as goal

abbrev pub invariant-loop-i : goal.invariant-loop-i
invariant-loop-i l = record {
  len : length l.buckets ≡ length l.fn.buckets;
  kept : (k x : ℕ) → Holds (lists l.fn.buckets) k x → Holds (lists l.buckets) k x;
  complete : (k x : ℕ) → k < length l.fn.buckets → Contains (take l.i l.edges) (edge_of k x) → Holds (lists l.buckets) k x;
  sound : (k x : ℕ) → Holds (lists l.buckets) k x → Holds (lists l.fn.buckets) k x ⊎ (arg l.definitions x k ≡ Some l.y);
}
