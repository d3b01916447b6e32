-- What is there where a place is found, and the types that are met on the way.
use Rattle.std.proofs.Common.{◌≡◌, ◌⊎◌, inl, inr, ℕ, ◌+◌, ◌-◌, ◌*◌, ◌^◌, ◌<◌, ◌≤◌, min, false, List, [], ◌∷◌, length, take, Option, Some, None, IsSome, IfSome, Result, slice_get, get_or, refl, sym, ap, subst, ◌∙◌, arith}
use Rattle.std.specs.Prelude.{pos, ◌+ℤ◌, ◌*ℤ◌, nat_lt}
use Rattle.std.specs.List.{All}
use Rattle.std.proofs.lemmas.Bool.{cases_lt}
use Rattle.std.proofs.lemmas.Bool.Decides.{nat_tests}
use Rattle.std.proofs.lemmas.List.{length-append, get_or_append_left}
use Rattle.std.proofs.lemmas.Option.{slice_get_within, slice_get-get_or}
use Rattle.type_definitions.specs.declared.definition.TypeDef.{TypeDef}
use Rattle.type_definitions.specs.declared.definition.TypeDef.TheVariants.{Int, Struct, Array, Hybrid, Void, Ref, Iref, FuncRef, StackRef, ThreadRef, Sig}
use Rattle.type_definitions.specs.Definition.{arguments}
use Rattle.type_definitions.specs.Same.{IsGraph}
use Rattle.type_definitions.specs.Lemmas.Depth.{args_within}
use Rattle.mu_values.specs.declared.scalars.Scalar.{Scalar}
use Rattle.mu_values.specs.declared.scalars.Scalar.TheVariants.{Place}
use Rattle.check_tables.specs.TypeTests.{fixed_fields_of}
use Rattle.typed_heap.specs.declared.faults.PlaceFault.{PlaceFault}
use Rattle.typed_heap.specs.Objects.{HeapObject}
use Rattle.typed_heap.specs.Places.{Move, Field, with_some, leaves_together, move, find_place, cast}
use Rattle.typed_heap.specs.Offsets.{offset_of}

is_there : {A : Type 0} (xs : List A) (n : ℕ) (o : Option A) → slice_get xs n ≡ o → IsSome o → n < length xs
is_there xs n None e h = cc
is_there xs n (Some x) e h = slice_get_within xs n x e

-- where an answer needs a thing, that thing is there
some_first : {A B : Type 0} (o : Option A) (f : A → Option B) → IsSome (with_some o f) → IsSome o
some_first None f h = h
some_first (Some a) f h = refl

pub object_there : (g : List TypeDef) (os : List HeapObject) (m : Option Move) (n at : ℕ) → IsSome (find_place g os m (Place n at)) → n < length os
object_there g os None n at h = cc
object_there g os (Some way) n at h = is_there os n (slice_get os n) refl (some_first (slice_get os n) _ h)

pub move_there : (g : List TypeDef) (os : List HeapObject) (m : Option Move) (n at : ℕ) → IsSome (find_place g os m (Place n at)) → IsSome m
move_there g os None n at h = h
move_there g os (Some way) n at h = refl

pub cast_there : (g : List TypeDef) (os : List HeapObject) (t n at : ℕ) → IsSome (cast g os (Some (Iref t)) (Place n at)) → n < length os
cast_there g os t n at h = is_there os n (slice_get os n) refl (some_first (slice_get os n) _ h)

-- ---- types

pub target_within : (g : List TypeDef) → IsGraph g → (x t : ℕ) (d : TypeDef) → slice_get g x ≡ Some d → arguments d ≡ t ∷ [] → t < length g
target_within g i x t d e f =
    let P : List ℕ → Type 0 = λ ys. All (λ y. y < length g) ys in
    subst P f (args_within g i x d e) 0 0 (omega arith)

-- the fields of a type that has fields
pub record Fields (g : List TypeDef) (t n : ℕ) : Type 0 where
  pub fields : List ℕ
  pub are : fixed_fields_of (slice_get g t) ≡ Some fields
  pub there : n < length fields

pub fields_there : (g : List TypeDef) (t n : ℕ) (f : ℕ → List ℕ → Option Move) (o : Option (List ℕ)) → fixed_fields_of (slice_get g t) ≡ o →
    IsSome (with_some o (λ fields. with_some (slice_get fields n) (λ x. f x fields))) → Fields g t n
fields_there g t n f None e h = cc
fields_there g t n f (Some fields) e h = record { fields = fields; are = e; there = is_there fields n (slice_get fields n) refl (some_first (slice_get fields n) _ h) }

some_one : {A : Type 0} (a b : A) (o : Option A) → o ≡ Some a → o ≡ Some b → a ≡ b
some_one a b o e f = cc

fields_in : (g : List TypeDef) → IsGraph g → (t : ℕ) (o : Option TypeDef) (fields : List ℕ) → slice_get g t ≡ o → fixed_fields_of o ≡ Some fields → All (λ x. x < length g) fields
fields_in g i t (Some (Struct fs)) fields e f =
    let same : fs ≡ fields = cc in
    let P : List ℕ → Type 0 = λ ys. All (λ y. y < length g) ys in
    subst P same (args_within g i t (Struct fs) e)
fields_in g i t (Some (Hybrid fixed element)) fields e f =
    let same : fixed ≡ fields = cc in
    let P : List ℕ → Type 0 = λ ys. All (λ y. y < length g) ys in
    let within : All (λ y. y < length g) fixed = λ k d l.
    rw (← get_or_append_left fixed (element ∷ []) d k l) (args_within g i t (Hybrid fixed element) e k d (omega (arith, l, length-append fixed (element ∷ [])))) in
    subst P same within
fields_in g i t None fields e f = cc
fields_in g i t (Some (Int width)) fields e f = cc
fields_in g i t (Some (Array element size)) fields e f = cc
fields_in g i t (Some Void) fields e f = cc
fields_in g i t (Some (Ref x)) fields e f = cc
fields_in g i t (Some (Iref x)) fields e f = cc
fields_in g i t (Some (FuncRef s)) fields e f = cc
fields_in g i t (Some StackRef) fields e f = cc
fields_in g i t (Some ThreadRef) fields e f = cc
fields_in g i t (Some (Sig takes gives)) fields e f = cc

pub fields_within : (g : List TypeDef) → IsGraph g → (t : ℕ) (fields : List ℕ) → fixed_fields_of (slice_get g t) ≡ Some fields → All (λ x. x < length g) fields
fields_within g i t fields f = fields_in g i t (slice_get g t) fields refl f

-- ---- offsets

-- a number that is too great may stand for every greater one
offset_far : (n : ℕ) → 2 ^ 32 ≤ n → offset_of (pos n) ≡ None
offset_far n l =
    let below : nat_lt n 0 ≡ false = grind (arith, nat_tests) in
    let far : nat_lt n (2 ^ 32) ≡ false = grind (arith, nat_tests) in
    rw (below, far) refl

pub same_offset : (at sum before : ℕ) → before ≡ min sum (2 ^ 64 - 1) → offset_of (pos at +ℤ pos sum) ≡ offset_of (pos at +ℤ (pos 1 *ℤ pos before))
same_offset at sum before e = go (cases_lt sum (2 ^ 64))
  where
    go : (sum < 2 ^ 64) ⊎ (2 ^ 64 ≤ sum) → offset_of (pos at +ℤ pos sum) ≡ offset_of (pos at +ℤ (pos 1 *ℤ pos before))
    go (inl l) = let same : sum ≡ 1 * before = omega (arith, e, l) in ap (λ (n : ℕ). offset_of (pos (at + n))) same
    go (inr l) = offset_far (at + sum) (omega (arith, l)) ∙ sym (offset_far (at + 1 * before) (omega (arith, e, l)))

-- ---- a field

pub record FieldOf (g : List TypeDef) (t n : ℕ) (fields : List ℕ) : Type 0 where
  pub are : fixed_fields_of (slice_get g t) ≡ Some fields
  pub there : n < length fields
  pub within : All (λ x. x < length g) fields

pub field_of : (g : List TypeDef) (os : List HeapObject) (t n object at : ℕ) (d : TypeDef) (place : Scalar) (fields : List ℕ) → IsGraph g → slice_get g t ≡ Some d →
    IfSome (fixed_fields_of (Some d)) (λ fs. fs ≡ fields) → place ≡ Place object at → IsSome (find_place g os (move g (Field t n)) place) → FieldOf g t n fields
field_of g os t n object at d place fields i e told is h =
    let P = λ (s : Scalar). IsSome (find_place g os (move g (Field t n)) s) in
    let moves = move_there g os (move g (Field t n)) object at (subst P is h) in
    let f = λ (x : ℕ) (fs : List ℕ). Some (record { by = Some (pos (leaves_together g (take n fs))); wanted = x }) in
    let found = fields_there g t n f (fixed_fields_of (slice_get g t)) refl moves in
    let Q = λ (o : Option TypeDef). IfSome (fixed_fields_of o) (λ fs. fs ≡ fields) in
    let here : IfSome (fixed_fields_of (slice_get g t)) (λ fs. fs ≡ fields) = subst Q (sym e) told in
    let R = λ (o : Option (List ℕ)). IfSome o (λ fs. fs ≡ fields) in
    let same : found.fields ≡ fields = subst R found.are here in
    let are : fixed_fields_of (slice_get g t) ≡ Some fields = found.are ∙ ap Some same in
    let S = λ (fs : List ℕ). n < length fs in
    record { are = are; there = subst S same found.there; within = fields_within g i t fields are }

pub field_found : (g : List TypeDef) (os : List HeapObject) (t n object at : ℕ) (fields : List ℕ) (wanted : ℕ) (place : Scalar) (r : Result Scalar PlaceFault) → FieldOf g t n fields → wanted ≡ get_or fields n 0 → place ≡ Place object at →
    find_place g os (Some (record { by = Some (pos (leaves_together g (take n fields))); wanted = wanted })) (Place object at) ≡ Some r →
    find_place g os (move g (Field t n)) place ≡ Some r
field_found g os t n object at fields wanted place r h w is found =
    let here : slice_get fields n ≡ Some wanted = slice_get-get_or fields n 0 h.there ∙ ap Some (sym w) in
    let moves : move g (Field t n) ≡ Some (record { by = Some (pos (leaves_together g (take n fields))); wanted = wanted }) = rw (h.are, here) refl in
    rw (is, moves) found
