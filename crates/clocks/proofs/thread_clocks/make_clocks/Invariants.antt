use Rattle.std.proofs.Common.{◌≡◌, ℕ, ◌-◌, ◌≤◌, length}
use Rattle.clocks.specs.Tables.{row_at}
use Rattle.clocks.proofs.thread_clocks.make_clocks.Given as goal

abbrev pub invariant-loop-clocks : goal.invariant-loop-clocks
invariant-loop-clocks l = record {
  same : (t u : ℕ) → row_at l.clocks.items t u ≡ row_at l.initial.clocks.items t u;
  len : length l.initial.clocks.items ≤ length l.clocks.items;
}

abbrev pub decreases-loop-clocks : goal.decreases-loop-clocks
decreases-loop-clocks l = 64 - length l.clocks.items
