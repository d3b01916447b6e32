-- What fits: new objects, changed ones, and in a world that grows.
use Rattle.std.proofs.Common.{◌≡◌, ℕ, zero, suc, ◌+◌, ◌-◌, true, List, [], ◌∷◌, ◌++◌, length, take, drop, Option, Some, None, IsSomeAnd, slice_get, refl, sym, ap, subst, ◌∙◌, arith}
use Rattle.std.specs.Prelude.{slice_set}
use Rattle.std.specs.List.{All}
use Rattle.std.proofs.lemmas.List.{length-append, take_at}
use Rattle.std.proofs.lemmas.List.Elements.{All-nil, All-head, All-tail, All-append}
use Rattle.std.proofs.lemmas.Nat.{pow_pos}
use Rattle.type_definitions.specs.declared.definition.TypeDef.{TypeDef}
use Rattle.type_definitions.specs.declared.definition.TypeDef.TheVariants as types
use Rattle.type_definitions.specs.Same.{IsGraph}
use Rattle.type_definitions.specs.Leaves.{times}
use Rattle.mu_values.specs.Constants.{width_of}
use Rattle.mu_values.specs.declared.scalars.Scalar.{Scalar}
use Rattle.mu_values.specs.declared.scalars.Scalar.TheVariants.{Int, Null, Object, Place, Func, Stack, Thread}
use Rattle.check_tables.specs.TypeTests.{is_scalar, repeated_of}
use Rattle.typed_heap.specs.Objects.{HeapObject, leaf_classes, run_of, run_classes, object_of, zero_of, zeros, replaced}
use Rattle.typed_heap.specs.Fits.{World, fits, DefinitionFits, ScalarFits, ScalarsFit}
use Rattle.typed_heap.specs.Heap.{hybrid_classes, newest_cells}
use Rattle.typed_heap.specs.Offsets.{leaves_fit}
use Rattle.typed_heap.specs.Laws.{ObjectFits, KeepsLeaves, Grows}
use Rattle.typed_heap.specs.Lemmas.LeafClasses.{classes_are_scalars, times_all}
use Rattle.typed_heap.specs.Lemmas.Filled.{replaced_nothing}

-- ---- an option that has something

pub record Has {A : Type 0} (o : Option A) (P : A → Type 0) : Type 0 where
  pub value : A
  pub is : o ≡ Some value
  pub holds : P value

pub has : {A : Type 0} (P : A → Type 0) (o : Option A) → IsSomeAnd o P → Has o P
has P None h = absurd h
has P (Some a) h = record { value = a; is = refl; holds = h }

pub some_and : {A : Type 0} (P : A → Type 0) (o : Option A) (a : A) → o ≡ Some a → P a → IsSomeAnd o P
some_and P o a e h = rw e h

-- ---- new objects

zero_fits : (g : List TypeDef) (w : World) (d : TypeDef) → is_scalar (Some d) ≡ true → DefinitionFits g w d (zero_of (width_of (Some d)))
zero_fits g w (types.Int width) h = (refl, pow_pos width)
zero_fits g w (types.Ref t) h = tt
zero_fits g w (types.Iref t) h = tt
zero_fits g w (types.FuncRef s) h = tt
zero_fits g w types.StackRef h = tt
zero_fits g w types.ThreadRef h = tt
zero_fits g w (types.Struct fields) h = cc
zero_fits g w (types.Array element size) h = cc
zero_fits g w (types.Hybrid fixed element) h = cc
zero_fits g w types.Void h = cc
zero_fits g w (types.Sig takes gives) h = cc

zero_fits_at : (g : List TypeDef) (w : World) (o : Option TypeDef) → is_scalar o ≡ true → IsSomeAnd o (λ d. DefinitionFits g w d (zero_of (width_of o)))
zero_fits_at g w None h = cc
zero_fits_at g w (Some d) h = zero_fits g w d h

zeros_fit : (g : List TypeDef) (w : World) (cs : List ℕ) → All (λ c. is_scalar (slice_get g c) ≡ true) cs → ScalarsFit g w cs (zeros g cs)
zeros_fit g w [] h = tt
zeros_fit g w (c ∷ cs) h =
    let P = λ (x : ℕ). is_scalar (slice_get g x) ≡ true in
    (zero_fits_at g w (slice_get g c) (All-head P c cs h), zeros_fit g w cs (All-tail P c cs h))

pub object_fits : (g : List TypeDef) (w : World) (t : ℕ) → IsGraph g → ObjectFits g w (object_of g (leaf_classes g t))
object_fits g w t i = zeros_fit g w (leaf_classes g t) (classes_are_scalars g i t)

run_scalars : (g : List TypeDef) → IsGraph g → (o : Option ℕ) → All (λ c. is_scalar (slice_get g c) ≡ true) (run_of g o)
run_scalars g i None = All-nil (λ c. is_scalar (slice_get g c) ≡ true)
run_scalars g i (Some e) = classes_are_scalars g i e

pub hybrid_fits : (g : List TypeDef) (w : World) (t many : ℕ) → IsGraph g → ObjectFits g w (object_of g (hybrid_classes g t many))
hybrid_fits g w t many i =
    let P = λ (x : ℕ). is_scalar (slice_get g x) ≡ true in
    zeros_fit g w (hybrid_classes g t many) (All-append P (leaf_classes g t) (times many (run_classes g t)) (classes_are_scalars g i t) (times_all P many (run_classes g t) (run_scalars g i (repeated_of (slice_get g t)))))

-- ---- cells that are given other scalars

first_fit : (g : List TypeDef) (w : World) (cs : List ℕ) (old ss : List Scalar) → ScalarsFit g w cs old → ScalarsFit g w (take (length ss) cs) ss → ScalarsFit g w cs (ss ++ drop (length ss) old)
first_fit g w cs old [] h f = h
first_fit g w [] old (s ∷ ss) h f = absurd f
first_fit g w (c ∷ cs) [] (s ∷ ss) h f = absurd h
first_fit g w (c ∷ cs) (x ∷ old) (s ∷ ss) h f = (f.0, first_fit g w cs old ss h.1 f.1)

pub filled_fits : (g : List TypeDef) (w : World) (cs : List ℕ) (old : List Scalar) (at : ℕ) (ss : List Scalar) → ScalarsFit g w cs old → ScalarsFit g w (take (length ss) (drop at cs)) ss → ScalarsFit g w cs (replaced old at ss)
filled_fits g w cs old at [] h f = subst (λ (xs : List Scalar). ScalarsFit g w cs xs) (sym (replaced_nothing old at)) h
filled_fits g w cs old zero (s ∷ ss) h f =
    let near : zero + length (s ∷ ss) ≡ length (s ∷ ss) = omega arith in
    subst (λ (n : ℕ). ScalarsFit g w cs ((s ∷ ss) ++ drop n old)) (sym near) (first_fit g w cs old (s ∷ ss) h f)
filled_fits g w [] old (suc at) (s ∷ ss) h f = absurd f
filled_fits g w (c ∷ cs) [] (suc at) (s ∷ ss) h f = absurd h
filled_fits g w (c ∷ cs) (x ∷ old) (suc at) (s ∷ ss) h f =
    let far : suc at + length (s ∷ ss) ≡ suc (at + length (s ∷ ss)) = omega arith in
    subst (λ (n : ℕ). ScalarsFit g w (c ∷ cs) ((x ∷ (take at old ++ (s ∷ ss))) ++ drop n (x ∷ old))) (sym far) (h.0, filled_fits g w cs old at (s ∷ ss) h.1 f)

-- ---- a world that grows

object_grows : (w v : World) (P : List ℕ → Type 0) (n : ℕ) → Grows w v → IsSomeAnd (slice_get w.objects n) (λ o. P o.leaves) → IsSomeAnd (slice_get v.objects n) (λ o. P o.leaves)
object_grows w v P n grows h =
    let found = has (λ (o : HeapObject). P o.leaves) (slice_get w.objects n) h in
    let there = has (λ (p : HeapObject). p.leaves ≡ found.value.leaves) (slice_get v.objects n) (grows.objects n found.value found.is) in
    some_and (λ (o : HeapObject). P o.leaves) (slice_get v.objects n) there.value there.is (subst P (sym there.holds) found.holds)

pub definition_grows : (g : List TypeDef) (w v : World) (d : TypeDef) (s : Scalar) → Grows w v → DefinitionFits g w d s → DefinitionFits g v d s
definition_grows g w v (types.Int width) (Int k n) grows h = h
definition_grows g w v (types.Ref t) Null grows h = tt
definition_grows g w v (types.Ref t) (Object n) grows h = object_grows w v (λ cs. fits g t cs ≡ true) n grows h
definition_grows g w v (types.Iref t) Null grows h = tt
definition_grows g w v (types.Iref t) (Place n at) grows h = object_grows w v (λ cs. leaves_fit g t cs at ≡ true) n grows h
definition_grows g w v (types.FuncRef s) Null grows h = tt
definition_grows g w v (types.FuncRef s) (Func f) grows h = rw (← grows.signatures) h
definition_grows g w v types.StackRef Null grows h = tt
definition_grows g w v types.StackRef (Stack k) grows h = omega (arith, grows.stacks, h)
definition_grows g w v types.ThreadRef Null grows h = tt
definition_grows g w v types.ThreadRef (Thread i) grows h = omega (arith, grows.threads, h)
definition_grows g w v _ _ grows h = absurd h

pub scalar_grows : (g : List TypeDef) (w v : World) (c : ℕ) (s : Scalar) → Grows w v → ScalarFits g w c s → ScalarFits g v c s
scalar_grows g w v c s grows h =
    let found = has (λ (d : TypeDef). DefinitionFits g w d s) (slice_get g c) h in
    some_and (λ (d : TypeDef). DefinitionFits g v d s) (slice_get g c) found.value found.is (definition_grows g w v found.value s grows found.holds)

pub scalars_grow : (g : List TypeDef) (w v : World) (cs : List ℕ) (ss : List Scalar) → Grows w v → ScalarsFit g w cs ss → ScalarsFit g v cs ss
scalars_grow g w v [] [] grows h = tt
scalars_grow g w v [] (s ∷ ss) grows h = h
scalars_grow g w v (c ∷ cs) [] grows h = h
scalars_grow g w v (c ∷ cs) (s ∷ ss) grows h = (scalar_grows g w v c s grows h.0, scalars_grow g w v cs ss grows h.1)

-- ---- objects that keep their leaves

pub added_keeps : (os : List HeapObject) (o : HeapObject) → KeepsLeaves os (os ++ o ∷ [])
added_keeps [] o n p e = cc
added_keeps (x ∷ xs) o zero p e = let same : x ≡ p = cc in ap (λ (r : HeapObject). r.leaves) same
added_keeps (x ∷ xs) o (suc n) p e = added_keeps xs o n p e

pub set_keeps : (os : List HeapObject) (n : ℕ) (o q : HeapObject) → slice_get os n ≡ Some o → q.leaves ≡ o.leaves → KeepsLeaves os (slice_set os n q)
set_keeps [] n o q e f k p g = cc
set_keeps (x ∷ xs) zero o q e f zero p g = let same : o ≡ p = cc in f ∙ ap (λ (r : HeapObject). r.leaves) same
set_keeps (x ∷ xs) zero o q e f (suc k) p g = some_and (λ (r : HeapObject). r.leaves ≡ p.leaves) (slice_get xs k) p g refl
set_keeps (x ∷ xs) (suc n) o q e f zero p g = let same : x ≡ p = cc in ap (λ (r : HeapObject). r.leaves) same
set_keeps (x ∷ xs) (suc n) o q e f (suc k) p g = set_keeps xs n o q e f k p g

-- ---- the newest object

newest_at : (os : List HeapObject) (o : HeapObject) → slice_get (os ++ o ∷ []) (length os) ≡ Some o
newest_at [] o = refl
newest_at (x ∷ xs) o = newest_at xs o

last_number : (os : List HeapObject) (o : HeapObject) → length (os ++ o ∷ []) - 1 ≡ length os
last_number os o = omega (arith, length-append os (o ∷ []))

pub taken_back : (os : List HeapObject) (o : HeapObject) → take (length (os ++ o ∷ []) - 1) (os ++ o ∷ []) ≡ os
taken_back os o = rw (last_number os o) (take_at os (o ∷ []) (length os) refl)

pub newest_counted : (os : List HeapObject) (o : HeapObject) → newest_cells (os ++ o ∷ []) ≡ length o.leaves
newest_counted os o = rw (last_number os o, newest_at os o) refl
