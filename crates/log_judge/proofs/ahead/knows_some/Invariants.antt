use Rattle.std.proofs.Common.{ℕ, ◌<◌, ◌≤◌, slice_index}
use Rattle.log_judge.proofs.ahead.knows_some.Given as goal

abbrev pub invariant-loop-thread : goal.invariant-loop-thread
invariant-loop-thread l = (u : ℕ) → u < l.thread → 0 < slice_index l.firsts u → slice_index l.firsts u ≤ l.limit → slice_index l.firsts u ≤ slice_index l.clock u → ⊥
