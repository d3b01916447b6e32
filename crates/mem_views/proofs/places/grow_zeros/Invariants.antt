use Rattle.std.proofs.Common.{◌≡◌, ℕ, ◌+◌, ◌-◌, slice_index}
use Rattle.std.specs.Prelude.{vec_len}
use Rattle.mem_views.proofs.places.grow_zeros.Given as goal

abbrev pub invariant-loop-numbers : goal.invariant-loop-numbers
invariant-loop-numbers l = (i : ℕ) → slice_index l.numbers.items i ≡ slice_index l.initial.numbers.items i

abbrev pub decreases-loop-numbers : goal.decreases-loop-numbers
decreases-loop-numbers l = l.offset + 1 - vec_len l.numbers
