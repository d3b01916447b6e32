use Rattle.std.proofs.Common.{◌≡◌, ℕ, length, vec_len, []}
use Rattle.std.specs.Prelude.{slice_index_or}
use Rattle.mu_types.specs.Rows.{lists}
use Rattle.type_classes.specs.Listings.{Lists, IsIdentity}
use Rattle.type_classes.proofs.listing.listings_plainly.Given as goal

abbrev pub invariant-loop-i : goal.invariant-loop-i
invariant-loop-i l = record {
  rows : vec_len l.rows ≡ l.i;
  len : vec_len l.number ≡ l.i;
  none : (x : ℕ) → slice_index_or (lists l.rows.items) x [] ≡ [];
  number : IsIdentity l.number.items l.i;
}

abbrev pub invariant-loop-depth : goal.invariant-loop-depth
invariant-loop-depth l = record {
  len : vec_len l.rows ≡ length l.all;
  listed : Lists l.all l.depth (lists l.rows.items);
}
