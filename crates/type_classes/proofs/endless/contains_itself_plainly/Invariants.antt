use Rattle.std.proofs.Common.{◌≡◌, ℕ, length, vec_len, false}
use Rattle.type_classes.specs.Walks.{Marks, is_marked}
use Rattle.type_classes.proofs.endless.contains_itself_plainly.Given as goal

abbrev pub invariant-loop-i : goal.invariant-loop-i
invariant-loop-i l = record {
  len : vec_len l.marks ≡ l.i;
  none : (x : ℕ) → is_marked l.marks.items x ≡ false;
}

abbrev pub invariant-loop-steps : goal.invariant-loop-steps
invariant-loop-steps l = record {
  len : vec_len l.marks ≡ length l.all;
  marks : Marks l.all l.steps l.t l.marks.items;
}
