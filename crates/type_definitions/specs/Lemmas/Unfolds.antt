-- The leaves of a type are those of its parts, and each is a scalar type.
use Rattle.std.proofs.Common.{◌≡◌, ℕ, zero, suc, ◌<◌, Bool, true, false, List, [], ◌∷◌, length, Option, Some, None, slice_get, refl, sym}
use Rattle.std.specs.List.{All, list_any, flat_map}
use Rattle.std.proofs.lemmas.Bool.{false≢true}
use Rattle.std.proofs.lemmas.List.Elements.{All-nil, All-cons, All-head, All-tail, All-append, All-weaker}
use Rattle.type_definitions.specs.declared.definition.TypeDef.{TypeDef}
use Rattle.type_definitions.specs.declared.definition.TypeDef.TheVariants.{Int, Struct, Array, Hybrid, Void, Ref, Iref, FuncRef, StackRef, ThreadRef, Sig}
use Rattle.type_definitions.specs.Same.{IsGraph}
use Rattle.type_definitions.specs.Parts.{parts, parts_at}
use Rattle.type_definitions.specs.Scalars.{is_scalar}
use Rattle.type_definitions.specs.Laws.{IsFinite}
use Rattle.type_definitions.specs.Leaves.{times, leaves_by, leaves_at, leaves_to, leaves}
use Rattle.type_definitions.specs.Lemmas.Ranks.{at_same}
use Rattle.type_definitions.specs.Lemmas.Respect.{front_all}
use Rattle.type_definitions.specs.Lemmas.Descents.{goes, goes_ends, parts_within}

-- ---- the leaves of a type are those of its parts

any_none : (f : ℕ → Bool) (xs : List ℕ) → list_any f xs ≡ false → All (λ x. f x ≡ false) xs
any_none f [] h = All-nil (λ x. f x ≡ false)
any_none f (x ∷ xs) h = go (f x) refl (λ (e : list_any f xs ≡ false). any_none f xs e)
  where
    go : (b : Bool) → f x ≡ b → (list_any f xs ≡ false → All (λ y. f y ≡ false) xs) → All (λ y. f y ≡ false) (x ∷ xs)
    go true e ih = absurd (false≢true (sym (rw e at h)))
    go false e ih = All-cons (λ y. f y ≡ false) x xs e (ih (rw e at h))

leaves_steady : (g : List TypeDef) (d t : ℕ) → goes g d t ≡ false → leaves_to g d t ≡ leaves_to g (suc d) t
unfolding goes leaves_to
leaves_steady g zero t h = absurd (false≢true (sym h))
leaves_steady g (suc d) t h =
    at_same (leaves_to g d) (leaves_to g (suc d)) t (slice_get g t)
    (All-weaker (λ p. goes g d p ≡ false) (λ p. leaves_to g d p ≡ leaves_to g (suc d) p) (λ p e. leaves_steady g d p e) (parts_at (slice_get g t))
    (any_none (λ p. goes g d p) (parts_at (slice_get g t)) h))

pub leaves_are : (g : List TypeDef) → IsGraph g → IsFinite g → (t : ℕ) → t < length g → leaves g t ≡ leaves_at (leaves g) t (slice_get g t)
unfolding goes leaves_to
leaves_are g i f t l = leaves_steady g (length g) t (goes_ends g i f t l)

-- ---- what holds of all leaves

all_flat : (P : ℕ → Type 0) (of : ℕ → List ℕ) (xs : List ℕ) → All (λ x. All P (of x)) xs → All P (flat_map of xs)
all_flat P of [] a = All-nil P
all_flat P of (x ∷ xs) a = All-append P (of x) (flat_map of xs) (All-head (λ y. All P (of y)) x xs a) (all_flat P of xs (All-tail (λ y. All P (of y)) x xs a))

all_times : (P : ℕ → Type 0) (n : ℕ) (xs : List ℕ) → All P xs → All P (times n xs)
all_times P zero xs a = All-nil P
all_times P (suc n) xs a = All-append P xs (times n xs) a (all_times P n xs a)

all_one : (P : ℕ → Type 0) (t : ℕ) → P t → All P (t ∷ [])
all_one P t p = All-cons P t [] p (All-nil P)

-- it holds of the type itself, where that is a scalar type, and of all leaves of its parts
all_leaves : (P : ℕ → Type 0) (of : ℕ → List ℕ) (t : ℕ) (d : TypeDef) → (is_scalar (Some d) ≡ true → P t) → All (λ x. All P (of x)) (parts d) → All P (leaves_by of t d)
all_leaves P of t (Int w) p a = all_one P t (p refl)
all_leaves P of t (Struct fields) p a = all_flat P of fields a
all_leaves P of t (Array element size) p a = all_times P size (of element) (All-head (λ x. All P (of x)) element [] a)
all_leaves P of t (Hybrid fixed element) p a = all_flat P of fixed (front_all (λ x. All P (of x)) fixed element a)
all_leaves P of t Void p a = All-nil P
all_leaves P of t (Ref x) p a = all_one P t (p refl)
all_leaves P of t (Iref x) p a = all_one P t (p refl)
all_leaves P of t (FuncRef s) p a = all_one P t (p refl)
all_leaves P of t StackRef p a = all_one P t (p refl)
all_leaves P of t ThreadRef p a = all_one P t (p refl)
all_leaves P of t (Sig takes gives) p a = All-nil P

all_leaves_at : (P : ℕ → Type 0) (of : ℕ → List ℕ) (t : ℕ) (o : Option TypeDef) → (is_scalar o ≡ true → P t) → All (λ x. All P (of x)) (parts_at o) → All P (leaves_at of t o)
all_leaves_at P of t None p a = All-nil P
all_leaves_at P of t (Some d) p a = all_leaves P of t d p a

all_parts : (P : ℕ → Type 0) → ((x : ℕ) → P x) → (xs : List ℕ) → All P xs
all_parts P f [] = All-nil P
all_parts P f (x ∷ xs) = All-cons P x xs (f x) (all_parts P f xs)

scalar_to : (g : List TypeDef) (k t : ℕ) → All (λ l. is_scalar (slice_get g l) ≡ true) (leaves_to g k t)
unfolding leaves_to
scalar_to g zero t = All-nil (λ l. is_scalar (slice_get g l) ≡ true)
scalar_to g (suc k) t =
    all_leaves_at (λ l. is_scalar (slice_get g l) ≡ true) (leaves_to g k) t (slice_get g t) (λ e. e)
    (all_parts (λ x. All (λ l. is_scalar (slice_get g l) ≡ true) (leaves_to g k x)) (λ x. scalar_to g k x) (parts_at (slice_get g t)))

pub leaves_scalar : (g : List TypeDef) (t : ℕ) → All (λ l. is_scalar (slice_get g l) ≡ true) (leaves g t)
leaves_scalar g t = scalar_to g (length g) t

pub leaves_low : (g : List TypeDef) → IsGraph g → (k t : ℕ) → t < length g → All (λ l. l < length g) (leaves_to g k t)
unfolding leaves_to
leaves_low g i zero t l = All-nil (λ l. l < length g)
leaves_low g i (suc k) t l =
    all_leaves_at (λ x. x < length g) (leaves_to g k) t (slice_get g t) (λ e. l)
    (All-weaker (λ x. x < length g) (λ x. All (λ l. l < length g) (leaves_to g k x)) (λ x m. leaves_low g i k x m) (parts_at (slice_get g t)) (parts_within g i t))
