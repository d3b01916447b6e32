-- Objects that keep their leaves, and casts that stay good.
use Rattle.std.specs.Prelude.{◌≡◌, ◌||◌, ◌&&◌, ◌==◌, ℕ, zero, suc, Bool, true, false, nat_lt, List, [], ◌∷◌, ◌++◌, Option, Some, None, Result, Ok, Err, IsSomeAnd, drop, fold, flat_map, length, slice_get, refl}
use Rattle.std.proofs.Common.{◌⊎◌, inl, inr, sym, ◌∙◌, ap, subst}
use Rattle.type_definitions.specs.declared.definition.TypeDef.{TypeDef}
use Rattle.type_definitions.specs.declared.definition.TypeDef.TheVariants as types
use Rattle.type_definitions.specs.Class.{class_of}
use Rattle.mu_values.specs.declared.scalars.Scalar.{Scalar}
use Rattle.mu_values.specs.declared.scalars.Scalar.TheVariants.{Null, Object, Place, Func}
use Rattle.check_tables.specs.declared.tables.Tables.{Tables}
use Rattle.typed_heap.specs.declared.faults.PlaceFault.{PlaceFault}
use Rattle.typed_heap.specs.declared.faults.PlaceFault.TheVariants.{BadCast}
use Rattle.typed_heap.specs.Fits.{fits, place_fits, signature_classes}
use Rattle.typed_heap.specs.Objects.{HeapObject, killed}
use Rattle.typed_heap.specs.Places.{with_some, cast_if}
use Rattle.frames.specs.Activations.{Activation}
use Rattle.mu_model.specs.Types.{type_graph, class_definition}
use Rattle.mu_model.specs.Changes.{changed}
use Rattle.mu_model.specs.Objects.{cast_any}
use Rattle.object_laws.specs.Leaves.{KeepsLeaves, CastsStayGood}

-- ---- what is there

some_is : {A : Type 0} (o : Option A) (P : A → Type 0) (a : A) → o ≡ Some a → P a → IsSomeAnd o P
some_is o P a e h = subst (λ w. IsSomeAnd w P) (sym e) h

some_of : {A : Type 0} (o : Option A) (P : A → Type 0) → IsSomeAnd o P → (a : A) × (o ≡ Some a) × P a
some_of None P h = absurd h
some_of (Some a) P h = (a, refl, h)

-- the object that stands there later
abbrev Later : List HeapObject → ℕ → HeapObject → Type 0
Later qs n o = (q : HeapObject) × (slice_get qs n ≡ Some q) × (q.leaves ≡ o.leaves)

later : (os qs : List HeapObject) → KeepsLeaves os qs → (n : ℕ) (o : HeapObject) → slice_get os n ≡ Some o → Later qs n o
later os qs h n o e = some_of (slice_get qs n) (λ q. q.leaves ≡ o.leaves) (h.there n o e)

-- ---- objects that keep their leaves

pub keeps_self : (os : List HeapObject) → KeepsLeaves os os
keeps_self os = record { there = λ n o e. some_is (slice_get os n) (λ q. q.leaves ≡ o.leaves) o e refl }

pub keeps_then : (os qs rs : List HeapObject) → KeepsLeaves os qs → KeepsLeaves qs rs → KeepsLeaves os rs
keeps_then os qs rs h k = record {
  there = λ n o e.
      let q : Later qs n o = later os qs h n o e in
      let r : Later rs n q.0 = later qs rs k n q.0 q.1 in
      some_is (slice_get rs n) (λ r. r.leaves ≡ o.leaves) r.0 r.1 (r.2 ∙ q.2);
}

first_there : (os qs : List HeapObject) (n : ℕ) (o : HeapObject) → slice_get os n ≡ Some o → slice_get (os ++ qs) n ≡ Some o
first_there [] qs n o e = cc
first_there (x ∷ os) qs zero o e = e
first_there (x ∷ os) qs (suc n) o e = first_there os qs n o e

-- others are added behind them
pub added_keeps : (os qs : List HeapObject) → KeepsLeaves os (os ++ qs)
added_keeps os qs = record { there = λ n o e. some_is (slice_get (os ++ qs) n) (λ q. q.leaves ≡ o.leaves) o (first_there os qs n o e) refl }

killed_there : (os : List HeapObject) (n k : ℕ) (o : HeapObject) → slice_get os k ≡ Some o → IsSomeAnd (slice_get (changed killed n os) k) (λ q. q.leaves ≡ o.leaves)
killed_there [] n k o e = cc
killed_there (x ∷ os) zero zero o e = cc
killed_there (x ∷ os) zero (suc k) o e = some_is (slice_get os k) (λ q. q.leaves ≡ o.leaves) o e refl
killed_there (x ∷ os) (suc n) zero o e = cc
killed_there (x ∷ os) (suc n) (suc k) o e = killed_there os n k o e

killed_keeps : (os : List HeapObject) (n : ℕ) → KeepsLeaves os (changed killed n os)
killed_keeps os n = record { there = killed_there os n }

-- the cells of some die
die_keeps : (os : List HeapObject) (ns : List ℕ) → KeepsLeaves os (fold (λ os n. changed killed n os) os ns)
die_keeps os [] = keeps_self os
die_keeps os (n ∷ ns) = keeps_then os (changed killed n os) (fold (λ os n. changed killed n os) (changed killed n os) ns) (killed_keeps os n) (die_keeps (changed killed n os) ns)

-- frames end with their objects
pub ended_keeps : (os qs : List HeapObject) (fs : List Activation) → KeepsLeaves os qs → KeepsLeaves os (fold (λ os n. changed killed n os) qs (flat_map (λ (f : Activation). f.objects) fs))
ended_keeps os qs fs h =
    let ns : List ℕ = flat_map (λ (f : Activation). f.objects) fs in
    keeps_then os qs (fold (λ os n. changed killed n os) qs ns) h (die_keeps qs ns)

-- ---- casts

-- what is cast by the leaves of an object
by_leaves : (os qs : List HeapObject) (n : ℕ) (cast : List ℕ → Option (Result Scalar PlaceFault)) (r : Result Scalar PlaceFault) → KeepsLeaves os qs
    → with_some (slice_get os n) (λ (o : HeapObject). cast o.leaves) ≡ Some r → with_some (slice_get qs n) (λ (o : HeapObject). cast o.leaves) ≡ Some r
by_leaves os qs n cast r h e = by (slice_get os n) refl e
  where
    by : (o : Option HeapObject) → slice_get os n ≡ o → with_some o (λ (o : HeapObject). cast o.leaves) ≡ Some r → with_some (slice_get qs n) (λ (o : HeapObject). cast o.leaves) ≡ Some r
    by None at k = cc
    by (Some o) at k =
        let q : Later qs n o = later os qs h n o at in
        ap (λ x. with_some x (λ (o : HeapObject). cast o.leaves)) q.1 ∙ ap cast q.2 ∙ k

cast_stays : (p : Tables) (os qs : List HeapObject) (d : Option TypeDef) (s : Scalar) (r : Result Scalar PlaceFault) → KeepsLeaves os qs → cast_any p os d s ≡ Some r → cast_any p qs d s ≡ Some r
cast_stays p os qs (Some (types.Ref t)) (Object n) r h e = by_leaves os qs n (λ ls. Some (cast_if (Object n) (fits (type_graph p) t ls))) r h e
cast_stays p os qs (Some (types.Iref t)) (Place n at) r h e =
    by_leaves os qs n (λ ls. Some (cast_if (Place n at) ((at == length ls) || (nat_lt at (length ls) && fits (type_graph p) t (drop at ls))))) r h e
cast_stays p os qs _ _ r h e = e

pub casts_stay_good : CastsStayGood
casts_stay_good p os qs class s h e = cast_stays p os qs (class_definition p class) s (Ok s) h e

-- what comes of a cast: the reference as it is, or the fault
abbrev pub IsCastOf : Scalar → Result Scalar PlaceFault → Type 0
IsCastOf s r = (r ≡ Ok s) ⊎ (r ≡ Err BadCast)

if_answers : (s : Scalar) (b : Bool) → IsCastOf s (cast_if s b)
if_answers s true = inl refl
if_answers s false = inr refl

found_answers : {A : Type 0} (o : Option A) (s : Scalar) (test : A → Bool) (r : Result Scalar PlaceFault) → with_some o (λ a. Some (cast_if s (test a))) ≡ Some r → IsCastOf s r
found_answers None s test r e = cc
found_answers (Some a) s test r e = let is : cast_if s (test a) ≡ r = cc in subst (IsCastOf s) is (if_answers s (test a))

pub cast_answers : (p : Tables) (os : List HeapObject) (d : Option TypeDef) (s : Scalar) (r : Result Scalar PlaceFault) → cast_any p os d s ≡ Some r → IsCastOf s r
cast_answers p os (Some (types.FuncRef c)) (Func f) r e = found_answers (slice_get (signature_classes p) f) (Func f) (λ g. g == class_of (type_graph p) c) r e
cast_answers p os (Some (types.Ref t)) (Object n) r e = found_answers (slice_get os n) (Object n) (λ (o : HeapObject). fits (type_graph p) t o.leaves) r e
cast_answers p os (Some (types.Iref t)) (Place n at) r e = found_answers (slice_get os n) (Place n at) (λ o. place_fits (type_graph p) t o at) r e
cast_answers p os _ Null r e = let is : Ok Null ≡ r = cc in inl (sym is)
cast_answers p os _ _ r e = cc
