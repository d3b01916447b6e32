use Rattle.std.proofs.Common.{◌≡◌, ℕ, ◌<◌, vec_len, suc, map, []}
use Rattle.std.specs.Prelude.{slice_index_or}
use Rattle.type_definitions.specs.Class.{class_of}
use Rattle.type_definitions.specs.Leaves.{leaves_to}
use Rattle.mu_types.specs.Rows.{lists}
use Rattle.type_classes.specs.Listings.{Lists}
use Rattle.type_classes.proofs.listing.deeper.Given as goal

abbrev pub invariant-loop-x : goal.invariant-loop-x
invariant-loop-x l = record {
  len : vec_len l.next ≡ l.x;
  listed : (k : ℕ) → Lists l.all k (lists l.rows) → (x : ℕ) → x < l.x → slice_index_or (lists l.next.items) x [] ≡ map (class_of l.all) (leaves_to l.all (suc k) x);
}
