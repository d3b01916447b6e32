use Rattle.std.proofs.Common.{◌≡◌, ℕ, ◌<◌, vec_len}
use Rattle.std.specs.Prelude.{slice_index}
use Rattle.type_classes.specs.Rounds.{IsFirstTo}
use Rattle.type_classes.proofs.plain.round.Given as goal

abbrev pub invariant-loop-x : goal.invariant-loop-x
invariant-loop-x l = record {
  len : vec_len l.all ≡ l.x;
  firsts : (x : ℕ) → x < l.x → IsFirstTo l.definitions l.p x (slice_index l.all.items x);
}
