use Rattle.std.proofs.Common.{◌≡◌, ℕ, ◌+◌, ◌-◌, ◌≤◌, length, slice_index}
use Rattle.view_parts.proofs.cell.grow_to.Given as goal

abbrev pub invariant-loop-numbers : goal.invariant-loop-numbers
invariant-loop-numbers l = record {
  same : (t : ℕ) → slice_index l.numbers.items t ≡ slice_index l.initial.numbers.items t;
  len : length l.initial.numbers.items ≤ length l.numbers.items;
}

abbrev pub decreases-loop-numbers : goal.decreases-loop-numbers
decreases-loop-numbers l = l.place + 1 - length l.numbers.items
