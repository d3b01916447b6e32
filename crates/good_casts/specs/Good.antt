-- Nothing that a reader believes of a run rests on this. It is which casts are kept.
use Rattle.std.specs.Prelude.{◌≡◌, ℕ, zero, suc, List, [], ◌∷◌, ◌++◌, Option, Some, None, slice_get, slice_set}
use Rattle.std.proofs.Common.{◌⊎◌, inl, inr, subst}
use Rattle.mu_values.specs.declared.scalars.Scalar.{Scalar}
use Rattle.check_tables.specs.declared.tables.Tables.{Tables}
use Rattle.typed_heap.specs.Objects.{HeapObject}
use Rattle.object_laws.specs.Leaves.{IsGoodCast, KeepsLeaves}
use Rattle.object_laws.specs.Lemmas.Kept.{casts_stay_good}
use Rattle.good_casts.specs.declared.casts.GoodCast.{GoodCast}

abbrev pub IsGood : Tables → List HeapObject → GoodCast → Type 0
IsGood p os c = IsGoodCast p os c.class c.scalar

-- each row that has a cast has one that is good among these objects
pub record AreGood (p : Tables) (os : List HeapObject) (rows : List (Option GoodCast)) : Type 0 where
  pub good : (n : ℕ) (c : GoodCast) → slice_get rows n ≡ Some (Some c) → IsGood p os c

pub none_good : (p : Tables) (os : List HeapObject) → AreGood p os []
none_good p os = record { good = λ n c e. cc }

-- a row without a cast behind the others
pushed : (rows : List (Option GoodCast)) (n : ℕ) (c : GoodCast) → slice_get (rows ++ None ∷ []) n ≡ Some (Some c) → slice_get rows n ≡ Some (Some c)
pushed [] zero c e = cc
pushed [] (suc n) c e = cc
pushed (r ∷ rows) zero c e = e
pushed (r ∷ rows) (suc n) c e = pushed rows n c e

pub one_more_good : (p : Tables) (os : List HeapObject) (rows : List (Option GoodCast)) → AreGood p os rows → AreGood p os (rows ++ None ∷ [])
one_more_good p os rows h = record { good = λ n c e. h.good n c (pushed rows n c e) }

-- a cast in the place of another
placed : (rows : List (Option GoodCast)) (k n : ℕ) (c d : GoodCast) → slice_get (slice_set rows k (Some d)) n ≡ Some (Some c) → (slice_get rows n ≡ Some (Some c)) ⊎ (d ≡ c)
placed [] k n c d e = cc
placed (r ∷ rows) zero zero c d e = inr cc
placed (r ∷ rows) zero (suc n) c d e = inl e
placed (r ∷ rows) (suc k) zero c d e = inl e
placed (r ∷ rows) (suc k) (suc n) c d e = placed rows k n c d e

pub placed_good : (p : Tables) (os : List HeapObject) (rows : List (Option GoodCast)) (k : ℕ) (d : GoodCast) → AreGood p os rows → IsGoodCast p os d.class d.scalar → AreGood p os (slice_set rows k (Some d))
placed_good p os rows k d h is = record { good = λ n c e. elim (placed rows k n c d e) [ inl old ↦ h.good n c old | inr same ↦ subst (IsGood p os) same is ] }

pub found_good : (p : Tables) (os : List HeapObject) (rows : List (Option GoodCast)) (n : ℕ) (c : GoodCast) (class : ℕ) (s : Scalar) → AreGood p os rows → slice_get rows n ≡ Some (Some c) → c ≡ record { class = class; scalar = s }
    → IsGoodCast p os class s
found_good p os rows n c class s h e same = subst (IsGood p os) same (h.good n c e)

-- objects keep their leaves
pub stay_good : (p : Tables) (os qs : List HeapObject) (rows : List (Option GoodCast)) → KeepsLeaves os qs → AreGood p os rows → AreGood p qs rows
stay_good p os qs rows k h = record { good = λ n c e. casts_stay_good p os qs c.class c.scalar k (h.good n c e) }

pub ruleset found = (found_good)

pub ruleset rows = (none_good, one_more_good, placed_good)
