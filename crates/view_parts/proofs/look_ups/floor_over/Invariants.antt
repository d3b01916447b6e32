use Rattle.std.proofs.Common.{ℕ, ◌+◌, ◌*◌, ◌^◌, ◌<◌, ◌≤◌, length, slice_index}
use Rattle.view_parts.specs.LookUps.{position_known}
use Rattle.view_parts.proofs.look_ups.floor_over.Given as goal

abbrev pub invariant-loop-thread : goal.invariant-loop-thread
invariant-loop-thread g l = record {
  above : (k : ℕ) → k < l.thread-index → position_known (g.E.ByThread.entries l.indexes) l.clock (slice_index l.threads k) ≤ l.greatest;
  least : (p : ℕ) → ((u : ℕ) → position_known (g.E.ByThread.entries l.indexes) l.clock u ≤ p) → l.greatest ≤ p;
  cost : (d : ℕ) → ((u : ℕ) → length (g.E.ByThread.entries l.indexes u) < 2 ^ d) → l.steps ≤ l.initial.steps + l.thread-index * (d + 1);
}
