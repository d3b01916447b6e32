use Rattle.std.proofs.Common.{◌≡◌, ℕ, ◌<◌, ◌≤◌, length, slice_index}
use Rattle.clocks.proofs.clock.Clock.of_numbers.Given as goal

abbrev pub invariant-loop-t : goal.invariant-loop-t
invariant-loop-t l = record {
  size : length l.known ≡ 64;
  low : (u : ℕ) → u < l.t → slice_index l.known u ≡ slice_index l.numbers u;
  high : (u : ℕ) → l.t ≤ u → slice_index l.known u ≡ 0;
}
