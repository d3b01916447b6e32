use Rattle.std.proofs.Common.{◌≡◌, ℕ, ◌<◌, length, take, ◌⊎◌}
use Rattle.std.specs.List.{Contains}
use Rattle.std.specs.Prelude.{slice_index}
use Rattle.mu_types.specs.Rows.{lists, Holds}
use Rattle.type_classes.specs.Edges.{edge_of}
use Rattle.type_classes.specs.Leads.{LeadsTo}
use Rattle.type_classes.proofs.gather.gather.Given as goal

abbrev pub invariant-loop-i : goal.invariant-loop-i
invariant-loop-i l = record {
  len : length l.buckets ≡ length l.fn.buckets;
  kept : (k x : ℕ) → Holds (lists l.fn.buckets) k x → Holds (lists l.buckets) k x;
  complete : (k x y : ℕ) → k < length l.fn.buckets → Contains (take l.i l.row) y → slice_index l.block y ≡ l.s → Holds (lists l.links.predecessors.now) y (edge_of k x) → Holds (lists l.buckets) k x;
  sound : (k x : ℕ) → Holds (lists l.buckets) k x → Holds (lists l.fn.buckets) k x ⊎ LeadsTo l.links.definitions.now l.block l.s x k;
}
