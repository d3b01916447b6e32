-- Nothing that a reader believes of a run rests on this. It is what a memory is to know of the objects of a heap.
use Rattle.std.specs.Prelude.{◌≡◌, ℕ, zero, suc, ◌+◌, ◌<◌, List, [], ◌∷◌, ◌++◌, Option, Some, None, IsSomeAnd, Result, Ok, Err, OnOk, map, fold, length, slice_get, take, refl}
use Rattle.std.proofs.Common.{sym, ◌∙◌, ap, arith, add-one}
use Rattle.mu_values.specs.declared.scalars.Scalar.{Scalar}
use Rattle.typed_heap.specs.Objects.{HeapObject, killed}
use Rattle.mu_model.specs.Changes.{changed}
use Rattle.run_state.specs.Acting.{objects_end}

-- what the cells of each object begin with
abbrev pub initials : List HeapObject → List (List Scalar)
initials os = map (λ (o : HeapObject). o.initial) os

-- ---- objects that end begin with what they began with

pub changed_same : (os : List HeapObject) (n : ℕ) → initials (changed killed n os) ≡ initials os
changed_same [] n = refl
changed_same (o ∷ os) zero = refl
changed_same (o ∷ os) (suc n) = ap (λ is. o.initial ∷ is) (changed_same os n)

ended_same : (os : List HeapObject) (ns : List ℕ) → initials (fold (λ os n. changed killed n os) os ns) ≡ initials os
ended_same os [] = refl
ended_same os (n ∷ ns) = ended_same (changed killed n os) ns ∙ changed_same os n

pub ends_same : (os ps : List HeapObject) (ns : List ℕ) → ps ≡ objects_end os ns → initials ps ≡ initials os
unfolding objects_end
ends_same os ps ns e = ap initials e ∙ ended_same os ns

-- ---- one more object

initial_at : (os : List HeapObject) (n : ℕ) (is : List Scalar) → IsSomeAnd (slice_get os n) (λ o. o.initial ≡ is) → initials (take (suc n) os) ≡ initials (take n os) ++ is ∷ []
initial_at [] n is h = absurd h
initial_at (o ∷ os) zero is h = ap (λ is. is ∷ []) h
initial_at (o ∷ os) (suc n) is h = ap (λ is. o.initial ∷ is) (initial_at os n is h)

-- one more is known
pub one_more_known : (os : List HeapObject) (n : ℕ) (is : List Scalar) (before after : List (List Scalar)) → before ≡ initials (take n os) → IsSomeAnd (slice_get os n) (λ o. o.initial ≡ is) → after ≡ before ++ is ∷ []
    → after ≡ initials (take (n + 1) os)
one_more_known os n is before after h there e = e ∙ ap (λ b. b ++ is ∷ []) h ∙ sym (initial_at os n is there) ∙ ap (λ m. initials (take m os)) (sym (add-one n))

take_whole : (os : List HeapObject) → take (length os) os ≡ os
take_whole [] = refl
take_whole (o ∷ os) = ap (λ os. o ∷ os) (take_whole os)

pub none_known : (os : List HeapObject) (known : List (List Scalar)) → known ≡ [] → known ≡ initials (take 0 os)
none_known os known h = h

pub all_known : (os : List HeapObject) (n : ℕ) (known : List (List Scalar)) → known ≡ initials (take n os) → n ≡ length os → known ≡ initials os
all_known os n known h e = h ∙ ap (λ m. initials (take m os)) e ∙ ap initials (take_whole os)

pub ruleset remembering = (one_more_known, none_known, all_known)

-- the newest is known
pub newest_known : (os : List HeapObject) (n : ℕ) (is : List Scalar) (before after : List (List Scalar)) → before ≡ initials (take n os) → n + 1 ≡ length os → IsSomeAnd (slice_get os n) (λ o. o.initial ≡ is) → after ≡ before ++ is ∷ [] → after ≡ initials os
newest_known os n is before after h many there e = all_known os (n + 1) after (one_more_known os n is before after h there e) many

-- what comes of an answer that is Ok
pub after_ok : {A E P Q : Type 0} (r : Result A E) → (P → Q) → OnOk r P → OnOk r Q
after_ok (Ok a) f h = f h
after_ok (Err e) f h = tt

-- ---- the scalars of an object, one by one

take_scalars : (xs : List Scalar) → take (length xs) xs ≡ xs
take_scalars [] = refl
take_scalars (x ∷ xs) = ap (λ xs. x ∷ xs) (take_scalars xs)

scalar_next : (xs : List Scalar) (n : ℕ) (x : Scalar) → slice_get xs n ≡ Some x → take (suc n) xs ≡ take n xs ++ x ∷ []
scalar_next [] n x h = cc
scalar_next (y ∷ xs) zero x h = let same : y ≡ x = cc in ap (λ z. z ∷ []) same
scalar_next (y ∷ xs) (suc n) x h = ap (λ xs. y ∷ xs) (scalar_next xs n x h)

-- so many of the scalars of an object, which is there
abbrev pub SoFar : Option HeapObject → ℕ → List Scalar → Type 0
SoFar o n xs = IsSomeAnd o (λ o. xs ≡ take n o.initial)

pub none_so_far : (o : Option HeapObject) (k : ℕ) (xs : List Scalar) → IsSomeAnd o (λ o. length o.leaves ≡ k) → xs ≡ [] → SoFar o 0 xs
none_so_far None k xs h e = absurd h
none_so_far (Some o) k xs h e = e

pub one_more_scalar : (o : Option HeapObject) (n : ℕ) (x : Scalar) (before after : List Scalar) → SoFar o n before → IsSomeAnd o (λ o. slice_get o.initial n ≡ Some x) → after ≡ before ++ x ∷ [] → SoFar o (n + 1) after
one_more_scalar None n x before after h there e = absurd h
one_more_scalar (Some o) n x before after h there e = rw add-one (e ∙ ap (λ b. b ++ x ∷ []) h ∙ sym (scalar_next o.initial n x there))

pub all_scalars : (o : Option HeapObject) (n : ℕ) (xs : List Scalar) → SoFar o n xs → IsSomeAnd o (λ o. length o.initial ≡ n) → IsSomeAnd o (λ o. o.initial ≡ xs)
all_scalars None n xs h many = absurd h
all_scalars (Some o) n xs h many = sym (h ∙ ap (λ m. take m o.initial) (sym many) ∙ take_scalars o.initial)

pub within_leaves : (o : Option HeapObject) (k n : ℕ) → IsSomeAnd o (λ o. length o.leaves ≡ k) → n < k → IsSomeAnd o (λ o. n < length o.leaves)
within_leaves None k n h low = absurd h
within_leaves (Some o) k n h low = omega (arith, h, low)

pub ruleset scalars = (none_so_far, one_more_scalar, all_scalars, within_leaves)
