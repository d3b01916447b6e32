use Rattle.std.proofs.Common.{◌≡◌, ℕ, ◌<◌, ◌≤◌, length}
use Rattle.view_parts.specs.Indexed.{index_at, accesses_at}
use Rattle.view_parts.proofs.rows.reserve_all.Given as goal

abbrev pub invariant-loop-thread : goal.invariant-loop-thread
invariant-loop-thread l = record {
  same : (u : ℕ) → accesses_at l.fences.items u ≡ accesses_at l.initial.fences.items u;
  spare : (u : ℕ) → (index_at l.initial.fences.items u).spare ≤ (index_at l.fences.items u).spare;
  len : length l.initial.fences.items ≤ length l.fences.items;
  there : l.thread ≤ length l.fences.items;
  room : (t : ℕ) → t < l.thread → l.count ≤ (index_at l.fences.items t).spare;
}
