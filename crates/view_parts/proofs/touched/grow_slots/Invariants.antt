use Rattle.std.proofs.Common.{◌≡◌, ℕ, ◌+◌, ◌-◌, ◌≤◌, length, slice_index}
use Rattle.view_parts.specs.Slots.{IsPlaced}
use Rattle.view_parts.proofs.touched.grow_slots.Given as goal

abbrev pub invariant-loop-slots : goal.invariant-loop-slots
invariant-loop-slots l = record {
  same : (t : ℕ) → slice_index l.slots.items t ≡ slice_index l.initial.slots.items t;
  placed : (places : ℕ) → IsPlaced l.initial.slots.items places → IsPlaced l.slots.items places;
}

abbrev pub decreases-loop-slots : goal.decreases-loop-slots
decreases-loop-slots l = l.thread + 1 - length l.slots.items
