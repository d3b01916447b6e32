-- Options, and lists with one element changed.
use Rattle.std.specs.Prelude.{◌≡◌, ◌≢◌, ◌⊎◌, ◌<◌, ℕ, zero, suc, List, [], ◌∷◌, ◌++◌, Option, Some, None, IsSomeAnd, slice_get, slice_set, refl}
use Rattle.std.proofs.Common.{sym, ◌∙◌, ap, subst, inl, inr, arith}
use Rattle.std.specs.Prelude.{length}
use Rattle.mu_model.specs.Changes.{changed}
use Rattle.typed_heap.specs.Places.{with_some}

pub some_is : {A : Type 0} (o : Option A) (P : A → Type 0) (a : A) → o ≡ Some a → P a → IsSomeAnd o P
some_is o P a e h = subst (λ w. IsSomeAnd w P) (sym e) h

pub some_of : {A : Type 0} (o : Option A) (P : A → Type 0) → IsSomeAnd o P → (a : A) × (o ≡ Some a) × P a
some_of None P h = absurd h
some_of (Some a) P h = (a, refl, h)

-- what holds of the one that is there
pub some_at : {A : Type 0} (o : Option A) (P : A → Type 0) (a : A) → o ≡ Some a → IsSomeAnd o P → P a
some_at o P a e h = subst (λ w. IsSomeAnd w P) e h

pub and_then : {A B : Type 0} (o : Option A) (f : A → Option B) (P : A → Type 0) (Q : B → Type 0) → IsSomeAnd o P → ((a : A) → P a → IsSomeAnd (f a) Q) → IsSomeAnd (with_some o f) Q
and_then None f P Q h k = absurd h
and_then (Some a) f P Q h k = k a h

pub some_more : {A : Type 0} (o : Option A) (P Q : A → Type 0) → ((a : A) → P a → Q a) → IsSomeAnd o P → IsSomeAnd o Q
some_more None P Q k h = absurd h
some_more (Some a) P Q k h = k a h

-- with the equality
pub with_same : {A : Type 0} (o : Option A) (P : A → Type 0) → IsSomeAnd o P → IsSomeAnd o (λ a. P a × (o ≡ Some a))
with_same None P h = h
with_same (Some a) P h = (h, refl)

pub itself : {A : Type 0} (o : Option A) (P : A → Type 0) → IsSomeAnd o P → IsSomeAnd o (λ a. o ≡ Some a)
itself None P h = absurd h
itself (Some a) P h = refl

pub set_cases : {A : Type 0} (xs : List A) (i j : ℕ) (a s : A) → slice_get (slice_set xs i a) j ≡ Some s → ((i ≡ j) × (s ≡ a)) ⊎ ((i ≢ j) × (slice_get xs j ≡ Some s))
set_cases [] i j a s h = cc
set_cases (x ∷ xs) zero zero a s h = inl (refl, cc)
set_cases (x ∷ xs) zero (suc j) a s h = inr ((λ z. omega arith), h)
set_cases (x ∷ xs) (suc i) zero a s h = inr ((λ z. omega arith), h)
set_cases (x ∷ xs) (suc i) (suc j) a s h = elim (set_cases xs i j a s h) [ inl r ↦ inl (ap suc r.0, r.1) | inr r ↦ inr ((λ z. r.0 (omega (arith, z))), r.1) ]

pub set_same : {A : Type 0} (xs : List A) (i : ℕ) (a s : A) → slice_get xs i ≡ Some s → slice_get (slice_set xs i a) i ≡ Some a
set_same [] i a s h = cc
set_same (x ∷ xs) zero a s h = refl
set_same (x ∷ xs) (suc i) a s h = set_same xs i a s h

pub set_other : {A : Type 0} (xs : List A) (i j : ℕ) (a : A) → i ≢ j → slice_get (slice_set xs i a) j ≡ slice_get xs j
set_other [] i j a h = refl
set_other (x ∷ xs) zero zero a h = absurd (h refl)
set_other (x ∷ xs) zero (suc j) a h = refl
set_other (x ∷ xs) (suc i) zero a h = refl
set_other (x ∷ xs) (suc i) (suc j) a h = set_other xs i j a (λ z. h (ap suc z))

pub changed_set : {A : Type 0} (f : A → A) (xs : List A) (i : ℕ) (x : A) → slice_get xs i ≡ Some x → changed f i xs ≡ slice_set xs i (f x)
changed_set f [] i x e = cc
changed_set f (y ∷ xs) zero x e = let same : y ≡ x = cc in ap (λ z. f z ∷ xs) same
changed_set f (y ∷ xs) (suc i) x e = ap (λ zs. y ∷ zs) (changed_set f xs i x e)

pub some_below : {A : Type 0} (xs : List A) (i : ℕ) → i < length xs → (x : A) × (slice_get xs i ≡ Some x)
some_below [] i h = absurd (omega arith)
some_below (x ∷ xs) zero h = (x, refl)
some_below (x ∷ xs) (suc i) h = some_below xs i (omega arith)

pub first_same : {A : Type 0} (xs ys : List A) (n : ℕ) (x : A) → slice_get xs n ≡ Some x → slice_get (xs ++ ys) n ≡ Some x
first_same [] ys n x e = cc
first_same (y ∷ xs) ys zero x e = e
first_same (y ∷ xs) ys (suc n) x e = first_same xs ys n x e

pub last_is : {A : Type 0} (xs : List A) (x : A) → slice_get (xs ++ x ∷ []) (length xs) ≡ Some x
last_is [] x = refl
last_is (y ∷ xs) x = last_is xs x
