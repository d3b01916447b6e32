use Rattle.std.proofs.Common.{◌≡◌, ℕ, ◌<◌, ◌≤◌, length, slice_index, max}
use Rattle.clocks.proofs.clock.join_arrays.Given as goal

abbrev pub invariant-loop-t : goal.invariant-loop-t
invariant-loop-t l = record {
  size : length l.known ≡ 64;
  other_size : length l.other ≡ 64;
  low : (u : ℕ) → u < l.t → slice_index l.known u ≡ max (slice_index l.initial.known u) (slice_index l.other u);
  high : (u : ℕ) → l.t ≤ u → slice_index l.known u ≡ slice_index l.initial.known u;
}
