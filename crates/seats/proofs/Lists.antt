-- Lists in which one element changes.
use Rattle.std.specs.Prelude.{◌≡◌, ◌≢◌, ℕ, zero, suc, List, [], ◌∷◌, ◌++◌, Some, length, slice_get, refl}
use Rattle.std.proofs.Common.{ap, set}
use Rattle.std.proofs.lemmas.Option.{same_Some}
use Rattle.mu_model.specs.Changes.{changed}

pub changed_at : {A : Type 0} (f : A → A) (xs : List A) (n : ℕ) (x : A) → slice_get xs n ≡ Some x → changed f n xs ≡ set xs n (f x)
changed_at f [] n x at = cc
changed_at f (y ∷ xs) zero x at = ap (λ z. f z ∷ xs) (same_Some y x at)
changed_at f (y ∷ xs) (suc n) x at = ap (λ ys. y ∷ ys) (changed_at f xs n x at)

pub set_twice : {A : Type 0} (xs : List A) (n : ℕ) (x y : A) → set (set xs n x) n y ≡ set xs n y
set_twice [] n x y = refl
set_twice (z ∷ xs) zero x y = refl
set_twice (z ∷ xs) (suc n) x y = ap (λ ys. z ∷ ys) (set_twice xs n x y)

pub set_same : {A : Type 0} (xs : List A) (n : ℕ) (x : A) → slice_get xs n ≡ Some x → set xs n x ≡ xs
set_same [] n x at = refl
set_same (y ∷ xs) zero x at = ap (λ z. z ∷ xs) (same_Some x y (cc))
set_same (y ∷ xs) (suc n) x at = ap (λ ys. y ∷ ys) (set_same xs n x at)

pub get_more : {A : Type 0} (xs : List A) (x : A) (n : ℕ) → n ≢ length xs → slice_get (xs ++ x ∷ []) n ≡ slice_get xs n
get_more [] x zero apart = absurd (apart refl)
get_more [] x (suc n) apart = refl
get_more (y ∷ xs) x zero apart = refl
get_more (y ∷ xs) x (suc n) apart = get_more xs x n (λ e. apart (ap suc e))
