use Rattle.std.proofs.Common.{◌≡◌, ℕ, ◌<◌, length}
use Rattle.std.specs.Prelude.{slice_index}
use Rattle.mu_types.specs.Rows.{lists, Holds}
use Rattle.type_classes.proofs.blocks.put_members.Given as goal

abbrev pub invariant-loop-x : goal.invariant-loop-x
invariant-loop-x l = record {
  len : length l.members ≡ length l.block;
  listed : (u : ℕ) → u < l.x → Holds (lists l.members) (slice_index l.block u) u;
}
