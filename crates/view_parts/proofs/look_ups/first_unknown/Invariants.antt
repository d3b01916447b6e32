use Rattle.std.proofs.Common.{ℕ, ◌+◌, ◌*◌, ◌^◌, ◌<◌, ◌≤◌, length}
use Rattle.view_parts.specs.LookUps.{LeastOf}
use Rattle.view_parts.proofs.Searching.{FirstAmong}
use Rattle.view_parts.proofs.look_ups.first_unknown.Given as goal

abbrev pub invariant-loop-thread : goal.invariant-loop-thread
invariant-loop-thread g l = record {
  least : LeastOf (FirstAmong (g.E.ByThread.entries l.indexes) l.clock l.own l.threads l.thread-index) l.least;
  cost : (d : ℕ) → ((u : ℕ) → length (g.E.ByThread.entries l.indexes u) < 2 ^ d) → l.steps ≤ l.initial.steps + l.thread-index * (d + 1);
}
