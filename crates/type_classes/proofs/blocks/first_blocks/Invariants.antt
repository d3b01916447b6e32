use Rattle.std.proofs.Common.{◌≡◌, ℕ, ◌<◌, vec_len, cond}
use Rattle.std.specs.Prelude.{slice_index, nat_lt}
use Rattle.type_classes.proofs.blocks.first_blocks.Given as goal

abbrev pub invariant-loop-x : goal.invariant-loop-x
invariant-loop-x l = record {
  len : vec_len l.all ≡ l.x;
  low : (u : ℕ) → u < l.x → slice_index l.all.items u ≡ cond (nat_lt (slice_index l.raw.items u) l.n) (slice_index l.raw.items u) 0;
}
