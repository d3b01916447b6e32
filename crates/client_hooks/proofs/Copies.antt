-- Values that are copied one by one.
use Rattle.std.proofs.Common.{◌≡◌, ℕ, zero, suc, ◌+◌, List, [], ◌∷◌, ◌++◌, Some, slice_get, take, ap, ◌∙◌, sym, add-one}

next_taken : {A : Type 0} (xs : List A) (n : ℕ) (x : A) → slice_get xs n ≡ Some x → take (suc n) xs ≡ take n xs ++ x ∷ []
next_taken [] n x h = cc
next_taken (y ∷ ys) zero x h = let same : y ≡ x = cc in ap (λ z. z ∷ []) same
next_taken (y ∷ ys) (suc n) x h = ap (λ zs. y ∷ zs) (next_taken ys n x h)

pub next_copied : {A : Type 0} (from copy now : List A) (n : ℕ) (x : A) → copy ≡ take n from → slice_get from n ≡ Some x → now ≡ copy ++ x ∷ [] → now ≡ take (n + 1) from
next_copied from copy now n x was there is = rw add-one (is ∙ ap (λ xs. xs ++ x ∷ []) was ∙ sym (next_taken from n x there))
