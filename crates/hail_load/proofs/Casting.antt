-- Casts tell what fits.
use Rattle.std.proofs.Common.{◌≡◌, ℕ, zero, suc, ◌<◌, ◌≤◌, Bool, true, false, List, [], ◌∷◌, Option, Some, None, IsSome, Result, Ok, length, slice_get, refl, subst, arith}
use Rattle.std.specs.Result.{is_ok}
use Rattle.std.proofs.lemmas.Option.{slice_get_past}
use Rattle.type_definitions.specs.declared.definition.TypeDef.{TypeDef}
use Rattle.type_definitions.specs.declared.definition.TypeDef.TheVariants.{Ref, Iref}
use Rattle.mu_values.specs.declared.scalars.Scalar.{Scalar}
use Rattle.mu_values.specs.declared.scalars.Scalar.TheVariants.{Object, Place}
use Rattle.typed_heap.specs.declared.faults.PlaceFault.{PlaceFault}
use Rattle.typed_heap.specs.Objects.{HeapObject}
use Rattle.typed_heap.specs.Fits.{fits, place_fits as heap_place_fits}
use Rattle.typed_heap.specs.Places.{with_some, cast_if, cast}
use Rattle.hail_load.specs.Fitting.{object_fits, place_in_fits}

told : (s : Scalar) (b : Bool) (r : Result Scalar PlaceFault) → cast_if s b ≡ r → is_ok r ≡ b
told s true r e = let same : Ok s ≡ r = e in subst (λ (x : Result Scalar PlaceFault). is_ok x ≡ true) same refl
told s false r e = subst (λ (x : Result Scalar PlaceFault). is_ok x ≡ false) e refl

pub object_cast : (g : List TypeDef) (os : List HeapObject) (of n : ℕ) (r : Result Scalar PlaceFault) → cast g os (Some (Ref of)) (Object n) ≡ Some r → is_ok r ≡ object_fits g of (slice_get os n)
object_cast g os of n r e = by (slice_get os n) e
  where
    by : (o : Option HeapObject) → with_some o (λ x. Some (cast_if (Object n) (fits g of x.leaves))) ≡ Some r → is_ok r ≡ object_fits g of o
    by None k = cc
    by (Some o) k = let same : cast_if (Object n) (fits g of o.leaves) ≡ r = cc in told (Object n) (fits g of o.leaves) r same

pub place_cast : (g : List TypeDef) (os : List HeapObject) (of n at : ℕ) (r : Result Scalar PlaceFault) → cast g os (Some (Iref of)) (Place n at) ≡ Some r → is_ok r ≡ place_in_fits g of (slice_get os n) at
place_cast g os of n at r e = by (slice_get os n) e
  where
    by : (o : Option HeapObject) → with_some o (λ x. Some (cast_if (Place n at) (heap_place_fits g of x at))) ≡ Some r → is_ok r ≡ place_in_fits g of o at
    by None k = cc
    by (Some o) k = let same : cast_if (Place n at) (heap_place_fits g of o at) ≡ r = cc in told (Place n at) (heap_place_fits g of o at) r same

pub object_gone : (g : List TypeDef) (os : List HeapObject) (of n : ℕ) → length os ≤ n → object_fits g of (slice_get os n) ≡ false
object_gone g os of n l = rw (slice_get_past os n l) refl

pub place_gone : (g : List TypeDef) (os : List HeapObject) (of n at : ℕ) → length os ≤ n → place_in_fits g of (slice_get os n) at ≡ false
place_gone g os of n at l = rw (slice_get_past os n l) refl

some_there : {A : Type 0} (os : List HeapObject) (n : ℕ) (f : HeapObject → A) → n < length os → IsSome (with_some (slice_get os n) (λ o. Some (f o)))
some_there os n f l = by os n l
  where
    by : (xs : List HeapObject) (k : ℕ) → k < length xs → IsSome (with_some (slice_get xs k) (λ o. Some (f o)))
    by [] k m = absurd (omega (arith, m))
    by (x ∷ xs) zero m = refl
    by (x ∷ xs) (suc k) m = by xs k (omega (arith, m))

pub object_asked : (g : List TypeDef) (os : List HeapObject) (of n : ℕ) → n < length os → IsSome (cast g os (Some (Ref of)) (Object n))
object_asked g os of n l = some_there os n (λ o. cast_if (Object n) (fits g of o.leaves)) l

pub place_asked : (g : List TypeDef) (os : List HeapObject) (of n at : ℕ) → n < length os → IsSome (cast g os (Some (Iref of)) (Place n at))
place_asked g os of n at l = some_there os n (λ o. cast_if (Place n at) (heap_place_fits g of o at)) l

pub ruleset casts = (object_cast, place_cast, object_gone, place_gone, object_asked, place_asked)
