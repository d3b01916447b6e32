use Rattle.std.proofs.Common.{◌≡◌, ℕ, ◌+◌, ◌-◌, ◌≤◌, length}
use Rattle.std.specs.Prelude.{vec_len, vec_capacity}
use Rattle.view_parts.specs.Indexed.{index_at, accesses_at}
use Rattle.view_parts.proofs.indexes.make_indexes.Given as goal

abbrev pub invariant-loop-alloc : goal.invariant-loop-alloc
invariant-loop-alloc l = record {
  same : (u : ℕ) → accesses_at l.indexes.items u ≡ accesses_at l.initial.indexes.items u;
  spare : (u : ℕ) → (index_at l.initial.indexes.items u).spare ≤ (index_at l.indexes.items u).spare;
  len : length l.initial.indexes.items ≤ length l.indexes.items;
  room : l.thread + 1 ≤ vec_capacity l.indexes;
}

abbrev pub decreases-loop-alloc : goal.decreases-loop-alloc
decreases-loop-alloc l = l.thread + 1 - vec_len l.indexes
