use Rattle.std.proofs.Common.{◌≡◌, ℕ, ◌<◌, ◌≤◌, slice_index}
use Rattle.clocks.proofs.clock.width.Given as goal

abbrev pub invariant-loop-t : goal.invariant-loop-t
invariant-loop-t l = record {
  small : l.width ≤ l.t;
  rest : (u : ℕ) → l.width ≤ u → u < l.t → slice_index l.known u ≡ 0;
}
