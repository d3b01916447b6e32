use Rattle.std.proofs.Common.{◌≡◌, ℕ, length, vec_len}
use Rattle.std.specs.Prelude.{slice_index}
use Rattle.type_classes.specs.Rounds.{IsLeastTo}
use Rattle.type_classes.proofs.plain.plain.Given as goal

abbrev pub invariant-loop-x : goal.invariant-loop-x
invariant-loop-x l = record {
  len : vec_len l.p ≡ l.x;
  none : (k : ℕ) → slice_index l.p.items k ≡ 0;
}

abbrev pub invariant-loop-round_number : goal.invariant-loop-round_number
invariant-loop-round_number l = record {
  len : vec_len l.p ≡ length l.definitions;
  least : IsLeastTo l.definitions l.round_number l.p.items;
}
