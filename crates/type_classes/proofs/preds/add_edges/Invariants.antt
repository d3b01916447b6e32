use Rattle.std.proofs.Common.{◌≡◌, ℕ, ◌<◌, length, Some}
use Rattle.type_definitions.specs.Partition.{arg}
use Rattle.mu_types.specs.Rows.{lists, Holds}
use Rattle.type_classes.specs.Edges.{edge_of}
use Rattle.type_classes.specs.Leads.{IsForward}
use Rattle.type_classes.specs.declared.edges.Edge.{Edge}
use Rattle.type_classes.proofs.preds.add_edges.Given as goal

abbrev pub invariant-loop-k : goal.invariant-loop-k
invariant-loop-k l = record {
  len : length l.preds ≡ length l.fn.preds;
  kept : (y : ℕ) (e : Edge) → Holds (lists l.fn.preds) y e → Holds (lists l.preds) y e;
  there : (k y : ℕ) → k < l.k → arg l.definitions l.x k ≡ Some y → Holds (lists l.preds) y (edge_of k l.x);
  sound : IsForward l.definitions (lists l.fn.preds) → IsForward l.definitions (lists l.preds);
}
