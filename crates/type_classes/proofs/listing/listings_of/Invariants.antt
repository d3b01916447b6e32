use Rattle.std.proofs.Common.{◌≡◌, ℕ, false, vec_len}
use Rattle.type_classes.specs.Walks.{is_marked}
use Rattle.type_classes.proofs.listing.listings_of.Given as goal

abbrev pub invariant-loop-i : goal.invariant-loop-i
invariant-loop-i l = record {
  rows : vec_len l.rows ≡ l.i;
  marks : vec_len l.done ≡ l.i;
  none : (x : ℕ) → is_marked l.done.items x ≡ false;
}
