-- Leaves and their classes are scalar types of the graph.
use Rattle.std.proofs.Common.{◌≡◌, ℕ, zero, suc, ◌<◌, Bool, true, false, ◌||◌, ◌==◌, List, [], ◌∷◌, ◌++◌, length, Option, Some, None, slice_get, get_or, refl, sym, ap, ◌∙◌, arith}
use Rattle.std.specs.List.{All, flat_map}
use Rattle.std.proofs.lemmas.List.{length-append}
use Rattle.std.proofs.lemmas.List.Concat.{flat_map-cons}
use Rattle.std.proofs.lemmas.List.Elements.{All-nil, All-cons, All-append, All-map}
use Rattle.std.proofs.lemmas.Option.{slice_get_within}
use Rattle.std.proofs.Math.Seq.{get_or-append_seam}
use Rattle.type_definitions.specs.declared.definition.TypeDef.{TypeDef}
use Rattle.type_definitions.specs.declared.definition.TypeDef.TheVariants.{Int, Struct, Array, Hybrid, Void, Ref, Iref, FuncRef, StackRef, ThreadRef, Sig}
use Rattle.type_definitions.specs.Definition.{constructor}
use Rattle.type_definitions.specs.Same.{same, IsGraph}
use Rattle.type_definitions.specs.Class.{least, class_of}
use Rattle.type_definitions.specs.Leaves.{times, leaves, leaves_by, leaves_at, leaves_to}
use Rattle.type_definitions.specs.Lemmas.Depth.{args_within, alike_same, same_meets}
use Rattle.check_tables.specs.TypeTests.{is_scalar, repeated_of}
use Rattle.typed_heap.specs.Objects.{leaf_classes, run_of, run_classes}
use Rattle.typed_heap.specs.Heap.{hybrid_classes}

-- the element of a hybrid is of the graph
pub element_within : (g : List TypeDef) → IsGraph g → (t : ℕ) (fixed : List ℕ) (element : ℕ) → slice_get g t ≡ Some (Hybrid fixed element) → element < length g
element_within g i t fixed element e =
    let within = args_within g i t (Hybrid fixed element) e (length fixed) 0 (omega (arith, length-append fixed (element ∷ []))) in
    rw (get_or-append_seam fixed element [] 0) at within

-- ---- leaves

pub times_all : (P : ℕ → Type 0) (n : ℕ) (xs : List ℕ) → All P xs → All P (times n xs)
times_all P zero xs h = All-nil P
times_all P (suc n) xs h = All-append P xs (times n xs) h (times_all P n xs h)

flat_all : (P : ℕ → Type 0) (f : ℕ → List ℕ) (xs : List ℕ) → ((x : ℕ) → All P (f x)) → All P (flat_map f xs)
flat_all P f [] h = All-nil P
flat_all P f (x ∷ xs) h = rw (flat_map-cons f x xs) (All-append P (f x) (flat_map f xs) (h x) (flat_all P f xs h))

one : (P : ℕ → Type 0) (t : ℕ) → P t → All P (t ∷ [])
one P t h = All-cons P t [] h (All-nil P)

by_all : (P : ℕ → Type 0) (of : ℕ → List ℕ) (t : ℕ) (d : TypeDef) → ((x : ℕ) → All P (of x)) → (is_scalar (Some d) ≡ true → P t) → All P (leaves_by of t d)
by_all P of t (Int width) h f = one P t (f refl)
by_all P of t (Struct fields) h f = flat_all P of fields h
by_all P of t (Array element size) h f = times_all P size (of element) (h element)
by_all P of t (Hybrid fixed element) h f = flat_all P of fixed h
by_all P of t Void h f = All-nil P
by_all P of t (Ref x) h f = one P t (f refl)
by_all P of t (Iref x) h f = one P t (f refl)
by_all P of t (FuncRef s) h f = one P t (f refl)
by_all P of t StackRef h f = one P t (f refl)
by_all P of t ThreadRef h f = one P t (f refl)
by_all P of t (Sig takes gives) h f = All-nil P

abbrev IsScalarAt : List TypeDef → ℕ → Type 0
IsScalarAt g x = is_scalar (slice_get g x) ≡ true

at_all : (g : List TypeDef) (of : ℕ → List ℕ) (t : ℕ) (o : Option TypeDef) → slice_get g t ≡ o → ((x : ℕ) → All (IsScalarAt g) (of x)) → All (IsScalarAt g) (leaves_at of t o)
at_all g of t None e h = All-nil (IsScalarAt g)
at_all g of t (Some d) e h = by_all (IsScalarAt g) of t d h (λ s. ap is_scalar e ∙ s)

leaves_are_scalars : (g : List TypeDef) (k t : ℕ) → All (IsScalarAt g) (leaves_to g k t)
unfolding leaves_to
leaves_are_scalars g zero t = All-nil (IsScalarAt g)
leaves_are_scalars g (suc k) t = at_all g (leaves_to g k) t (slice_get g t) refl (λ x. leaves_are_scalars g k x)

-- ---- their classes

scalar_there : (g : List TypeDef) (x : ℕ) (o : Option TypeDef) → slice_get g x ≡ o → is_scalar o ≡ true → x < length g
scalar_there g x None e s = cc
scalar_there g x (Some d) e s = slice_get_within g x d e

pub scalar_within : (g : List TypeDef) (x : ℕ) → is_scalar (slice_get g x) ≡ true → x < length g
scalar_within g x s = scalar_there g x (slice_get g x) refl s

abbrev scalar_kind : ℕ → Bool
scalar_kind n = (n == 0) || ((n == 5) || ((n == 6) || ((n == 7) || ((n == 8) || (n == 9)))))

kind_tells : (d : TypeDef) → is_scalar (Some d) ≡ scalar_kind (constructor d)
kind_tells (Int width) = refl
kind_tells (Struct fields) = refl
kind_tells (Array element size) = refl
kind_tells (Hybrid fixed element) = refl
kind_tells Void = refl
kind_tells (Ref x) = refl
kind_tells (Iref x) = refl
kind_tells (FuncRef s) = refl
kind_tells StackRef = refl
kind_tells ThreadRef = refl
kind_tells (Sig takes gives) = refl

least_here : (test : ℕ → Bool) (n : ℕ) → (b : Bool) → test 0 ≡ b → (b ≡ false → (least (λ k. test (suc k)) n < n) × (test (suc (least (λ k. test (suc k)) n)) ≡ true)) →
    (least test (suc n) < suc n) × (test (least test (suc n)) ≡ true)
least_here test n true e later = rw e (omega arith, e)
least_here test n false e later = let rest = later refl in rw e (omega (arith, rest.0), rest.1)

least_found : (test : ℕ → Bool) (n x : ℕ) → x < n → test x ≡ true → (least test n < n) × (test (least test n) ≡ true)
least_found test zero x l h = absurd (omega (arith, l))
least_found test (suc n) zero l h = least_here test n (test 0) refl (λ f. cc)
least_found test (suc n) (suc x) l h = least_here test n (test 0) refl (λ f. least_found (λ k. test (suc k)) n x (omega (arith, l)) h)

class_is_scalar : (g : List TypeDef) → IsGraph g → (x : ℕ) → is_scalar (slice_get g x) ≡ true → is_scalar (slice_get g (class_of g x)) ≡ true
class_is_scalar g i x s =
    let l = scalar_within g x s in
    let found = least_found (λ b. same g b x) (length g) x l (alike_same g i (length g) x l) in
    let m = same_meets g i (class_of g x) x found.0 l found.1 in
    ap is_scalar m.at_one ∙ kind_tells m.one ∙ ap scalar_kind m.kind ∙ sym (kind_tells m.other) ∙ sym (ap is_scalar m.at_other) ∙ s

-- the classes of leaves are scalar types
pub classes_are_scalars : (g : List TypeDef) → IsGraph g → (t : ℕ) → All (λ c. is_scalar (slice_get g c) ≡ true) (leaf_classes g t)
classes_are_scalars g i t =
    let each : All (λ x. is_scalar (slice_get g (class_of g x)) ≡ true) (leaves g t) = λ k d l. class_is_scalar g i (get_or (leaves g t) k d) (leaves_are_scalars g (length g) t k d l) in
    All-map (λ c. is_scalar (slice_get g c) ≡ true) (class_of g) (leaves g t) each

pub classes_within : (g : List TypeDef) → IsGraph g → (t : ℕ) → All (λ c. c < length g) (leaf_classes g t)
classes_within g i t = λ k d l. scalar_within g (get_or (leaf_classes g t) k d) (classes_are_scalars g i t k d l)

pub all_within : (g : List TypeDef) → IsGraph g → (t e n : ℕ) → All (λ c. c < length g) (leaf_classes g t ++ times n (leaf_classes g e))
all_within g i t e n = All-append (λ c. c < length g) (leaf_classes g t) (times n (leaf_classes g e)) (classes_within g i t) (times_all (λ c. c < length g) n (leaf_classes g e) (classes_within g i e))

run_within : (g : List TypeDef) → IsGraph g → (o : Option ℕ) → All (λ c. c < length g) (run_of g o)
run_within g i None = All-nil (λ c. c < length g)
run_within g i (Some e) = classes_within g i e

pub hybrid_within : (g : List TypeDef) → IsGraph g → (t n : ℕ) → All (λ c. c < length g) (hybrid_classes g t n)
hybrid_within g i t n =
    let P = λ (c : ℕ). c < length g in
    All-append P (leaf_classes g t) (times n (run_classes g t)) (classes_within g i t) (times_all P n (run_classes g t) (run_within g i (repeated_of (slice_get g t))))
