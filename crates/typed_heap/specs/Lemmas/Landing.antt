-- What is found fits.
use Rattle.std.proofs.Common.{◌≡◌, ℕ, Bool, true, false, ◌&&◌, not, List, Option, Some, None, Ok, Err, IsSomeAnd, slice_get, refl, sym, subst}
use Rattle.std.specs.Prelude.{ℤ, pos, ◌+ℤ◌, nat_abs, int_lt, if◌then◌else◌}
use Rattle.type_definitions.specs.declared.definition.TypeDef.{TypeDef}
use Rattle.type_definitions.specs.declared.definition.TypeDef.TheVariants as types
use Rattle.mu_values.specs.declared.scalars.Scalar.{Scalar}
use Rattle.mu_values.specs.declared.scalars.Scalar.TheVariants.{Int, Null, Object, Place, Func, Stack, Thread}
use Rattle.typed_heap.specs.declared.faults.PlaceFault.TheVariants as faults
use Rattle.typed_heap.specs.Objects.{HeapObject}
use Rattle.typed_heap.specs.Fits.{World, fits, place_fits, DefinitionFits}
use Rattle.typed_heap.specs.Places.{Move, with_some, cast_if, cast, landed, moved, find_place}
use Rattle.typed_heap.specs.Lemmas.Fitted.{some_and}

right : (a b : Bool) → (a && b) ≡ true → b ≡ true
right true b h = h
right false b h = cc

-- a choice that came out well
chosen : (n : ℕ) (z : ℕ) (b : Bool) (p : Scalar) (P : Scalar → Type 0) → (b ≡ true → P (Place n z)) → (if b then Ok (Place n z) else Err faults.OutOfRange) ≡ Ok p → P p
chosen n z true p P f e = let same : Place n z ≡ p = cc in subst P same (f refl)
chosen n z false p P f e = cc

landed_fits : (g : List TypeDef) (w : World) (n : ℕ) (o : HeapObject) (wanted : ℕ) (z : ℤ) (p : Scalar) → slice_get w.objects n ≡ Some o → landed g n o wanted z ≡ Ok p → DefinitionFits g w (types.Iref wanted) p
landed_fits g w n o wanted z p there e =
    let fitting : (not (int_lt z (pos 0)) && place_fits g wanted o (nat_abs z)) ≡ true → DefinitionFits g w (types.Iref wanted) (Place n (nat_abs z)) =
    λ h. some_and (λ (x : HeapObject). place_fits g wanted x (nat_abs z) ≡ true) (slice_get w.objects n) o there (right (not (int_lt z (pos 0))) (place_fits g wanted o (nat_abs z)) h) in
    chosen n (nat_abs z) (not (int_lt z (pos 0)) && place_fits g wanted o (nat_abs z)) p (DefinitionFits g w (types.Iref wanted)) fitting e

moved_fits : (g : List TypeDef) (w : World) (n : ℕ) (o : HeapObject) (at wanted : ℕ) (by : Option ℤ) (p : Scalar) → slice_get w.objects n ≡ Some o → moved g n o at wanted by ≡ Ok p → DefinitionFits g w (types.Iref wanted) p
moved_fits g w n o at wanted None p there e = cc
moved_fits g w n o at wanted (Some z) p there e = landed_fits g w n o wanted (pos at +ℤ z) p there e

in_object : (g : List TypeDef) (w : World) (way : Move) (n at : ℕ) (o : Option HeapObject) (p : Scalar) → slice_get w.objects n ≡ o → with_some o (λ x. Some (moved g n x at way.wanted way.by)) ≡ Some (Ok p) → DefinitionFits g w (types.Iref way.wanted) p
in_object g w way n at None p there e = cc
in_object g w way n at (Some o) p there e = let ok : moved g n o at way.wanted way.by ≡ Ok p = cc in moved_fits g w n o at way.wanted way.by p there ok

pub found_fits : (g : List TypeDef) (w : World) (way : Move) (s p : Scalar) → find_place g w.objects (Some way) s ≡ Some (Ok p) → DefinitionFits g w (types.Iref way.wanted) p
found_fits g w way (Place n at) p e = in_object g w way n at (slice_get w.objects n) p refl e
found_fits g w way Null p e = cc
found_fits g w way (Int width bits) p e = cc
found_fits g w way (Object n) p e = cc
found_fits g w way (Func f) p e = cc
found_fits g w way (Stack k) p e = cc
found_fits g w way (Thread i) p e = cc

-- ---- casts

allowed : (s r : Scalar) (b : Bool) → cast_if s b ≡ Ok r → (b ≡ true) × (r ≡ s)
allowed s r true e = (refl, cc)
allowed s r false e = cc

-- an object that is asked for its leaves
asked : (os : List HeapObject) (n : ℕ) (test : HeapObject → Bool) (s r : Scalar) (o : Option HeapObject) → slice_get os n ≡ o → with_some o (λ x. Some (cast_if s (test x))) ≡ Some (Ok r) →
    IsSomeAnd (slice_get os n) (λ x. test x ≡ true) × (r ≡ s)
asked os n test s r None there e = cc
asked os n test s r (Some o) there e =
    let ok : cast_if s (test o) ≡ Ok r = cc in
    let both = allowed s r (test o) ok in
    (some_and (λ (x : HeapObject). test x ≡ true) (slice_get os n) o there both.0, both.1)

pub references_fit : (g : List TypeDef) (w : World) (t : ℕ) (s r : Scalar) → cast g w.objects (Some (types.Ref t)) s ≡ Some (Ok r) → DefinitionFits g w (types.Ref t) r
references_fit g w t (Object n) r e =
    let both = asked w.objects n (λ x. fits g t x.leaves) (Object n) r (slice_get w.objects n) refl e in
    subst (DefinitionFits g w (types.Ref t)) (sym both.1) both.0
references_fit g w t Null r e = let same : Null ≡ r = cc in subst (DefinitionFits g w (types.Ref t)) same tt
references_fit g w t (Int width bits) r e = cc
references_fit g w t (Place n at) r e = cc
references_fit g w t (Func f) r e = cc
references_fit g w t (Stack k) r e = cc
references_fit g w t (Thread i) r e = cc

pub irefs_fit : (g : List TypeDef) (w : World) (t : ℕ) (s r : Scalar) → cast g w.objects (Some (types.Iref t)) s ≡ Some (Ok r) → DefinitionFits g w (types.Iref t) r
irefs_fit g w t (Place n at) r e =
    let both = asked w.objects n (λ x. place_fits g t x at) (Place n at) r (slice_get w.objects n) refl e in
    subst (DefinitionFits g w (types.Iref t)) (sym both.1) both.0
irefs_fit g w t Null r e = let same : Null ≡ r = cc in subst (DefinitionFits g w (types.Iref t)) same tt
irefs_fit g w t (Int width bits) r e = cc
irefs_fit g w t (Object n) r e = cc
irefs_fit g w t (Func f) r e = cc
irefs_fit g w t (Stack k) r e = cc
irefs_fit g w t (Thread i) r e = cc

pub cast_same : (g : List TypeDef) (os : List HeapObject) (d : Option TypeDef) (s r : Scalar) → cast g os d s ≡ Some (Ok r) → r ≡ s
cast_same g os d Null r e = cc
cast_same g os (Some (types.Ref t)) (Object n) r e = (asked os n (λ x. fits g t x.leaves) (Object n) r (slice_get os n) refl e).1
cast_same g os (Some (types.Iref t)) (Place n at) r e = (asked os n (λ x. place_fits g t x at) (Place n at) r (slice_get os n) refl e).1
cast_same g os _ _ r e = cc
