-- Lists that have the members of others among theirs.
use Rattle.std.specs.Prelude.{◌≡◌, ◌<◌, ◌≤◌, ℕ, zero, suc, List, [], ◌∷◌, ◌++◌, map, take, length, Some, slice_get, refl}
use Rattle.std.proofs.Common.{◌∙◌, ap, arith, inl, inr}
use Rattle.std.specs.List.{AllByRecursion}
use Rattle.leaf_laws.specs.Leaves.{Among}

module _ {A : Type 0} where
  pub among_self : (xs : List A) → Among xs xs
  among_self [] = tt
  among_self (x ∷ xs) = inl (refl, among_self xs)

  pub among_none : (xs : List A) → Among [] xs
  among_none [] = tt
  among_none (x ∷ xs) = tt

  pub among_behind : (xs us ys : List A) → Among xs ys → Among xs (us ++ ys)
  among_behind [] us ys h = among_none (us ++ ys)
  among_behind (x ∷ xs) [] ys h = h
  among_behind (x ∷ xs) (u ∷ us) ys h = inr (among_behind (x ∷ xs) us ys h)

  pub among_both : (xs us ys vs : List A) → Among xs ys → Among us vs → Among (xs ++ us) (ys ++ vs)
  among_both [] us ys vs h k = among_behind us ys vs k
  among_both (x ∷ xs) us [] vs h k = absurd h
  among_both (x ∷ xs) us (y ∷ ys) vs (inl h) k = inl (h.0, among_both xs us ys vs h.1 k)
  among_both (x ∷ xs) us (y ∷ ys) vs (inr h) k = inr (among_both (x ∷ xs) us ys vs h k)

  pub among_before : (xs ys vs : List A) → Among xs ys → Among xs (ys ++ vs)
  among_before [] ys vs h = among_none (ys ++ vs)
  among_before (x ∷ xs) [] vs h = absurd h
  among_before (x ∷ xs) (y ∷ ys) vs (inl h) = inl (h.0, among_before xs ys vs h.1)
  among_before (x ∷ xs) (y ∷ ys) vs (inr h) = inr (among_before (x ∷ xs) ys vs h)

  pub among_take : (n : ℕ) (xs ys : List A) → Among xs ys → Among (take n xs) ys
  among_take zero xs ys h = among_none ys
  among_take (suc n) [] ys h = among_none ys
  among_take (suc n) (x ∷ xs) [] h = absurd h
  among_take (suc n) (x ∷ xs) (y ∷ ys) (inl h) = inl (h.0, among_take n xs ys h.1)
  among_take (suc n) (x ∷ xs) (y ∷ ys) (inr h) = inr (among_take (suc n) (x ∷ xs) ys h)

  pub among_fewer : (xs ys : List A) → Among xs ys → length xs ≤ length ys
  among_fewer [] ys h = omega arith
  among_fewer (x ∷ xs) [] h = absurd h
  among_fewer (x ∷ xs) (y ∷ ys) (inl h) = let r = among_fewer xs ys h.1 in omega (arith, r)
  among_fewer (x ∷ xs) (y ∷ ys) (inr h) = let r = among_fewer (x ∷ xs) ys h in omega (arith, r)

  pub among_trans : (xs ys zs : List A) → Among xs ys → Among ys zs → Among xs zs
  among_trans [] ys zs h k = among_none zs
  among_trans (x ∷ xs) [] zs h k = absurd h
  among_trans (x ∷ xs) (y ∷ ys) [] h k = absurd k
  among_trans (x ∷ xs) (y ∷ ys) (z ∷ zs) h (inr k) = inr (among_trans (x ∷ xs) (y ∷ ys) zs h k)
  among_trans (x ∷ xs) (y ∷ ys) (z ∷ zs) (inl h) (inl k) = inl (h.0 ∙ k.0, among_trans xs ys zs h.1 k.1)
  among_trans (x ∷ xs) (y ∷ ys) (z ∷ zs) (inr h) (inl k) = inr (among_trans (x ∷ xs) ys zs h k.1)

  -- what holds of the member at each place, below n, holds of the first n
  pub all_taken : (P : A → Type 0) (n : ℕ) (xs : List A) → ((k : ℕ) (x : A) → k < n → slice_get xs k ≡ Some x → P x) → AllByRecursion P (take n xs)
  all_taken P zero xs h = tt
  all_taken P (suc n) [] h = tt
  all_taken P (suc n) (x ∷ xs) h = (h 0 x (omega arith) refl, all_taken P n xs (λ k y l e. h (suc k) y (omega (arith, l)) e))

  pub length_taken : (n : ℕ) (xs : List A) → n ≤ length xs → length (take n xs) ≡ n
  length_taken zero xs l = refl
  length_taken (suc n) [] l = absurd (omega (arith, l))
  length_taken (suc n) (x ∷ xs) l = ap suc (length_taken n xs (omega (arith, l)))

pub among_mapped : {A B : Type 0} (f : A → B) (xs ys : List A) → Among xs ys → Among (map f xs) (map f ys)
among_mapped f [] ys h = among_none (map f ys)
among_mapped f (x ∷ xs) [] h = absurd h
among_mapped f (x ∷ xs) (y ∷ ys) (inl h) = inl (ap f h.0, among_mapped f xs ys h.1)
among_mapped f (x ∷ xs) (y ∷ ys) (inr h) = inr (among_mapped f (x ∷ xs) ys h)
