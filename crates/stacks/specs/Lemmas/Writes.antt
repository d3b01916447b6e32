-- A list in which one element was written, seen through a function.
use Rattle.std.specs.Prelude.{◌≡◌, ◌≢◌, ℕ, zero, suc, ◌<◌, List, [], ◌∷◌, ◌++◌, Some, map, length, slice_get, refl}
use Rattle.std.proofs.Common.{ap, arith, set}

pub get_written : {A : Type 0} (xs : List A) (n : ℕ) (y : A) → n < length xs → slice_get (set xs n y) n ≡ Some y
get_written [] n y within = absurd (omega arith)
get_written (x ∷ xs) zero y within = refl
get_written (x ∷ xs) (suc n) y within = get_written xs n y (omega arith)

pub get_unwritten : {A : Type 0} (xs : List A) (n m : ℕ) (y : A) → m ≢ n → slice_get (set xs n y) m ≡ slice_get xs m
get_unwritten [] n m y apart = refl
get_unwritten (x ∷ xs) zero zero y apart = absurd (apart refl)
get_unwritten (x ∷ xs) zero (suc m) y apart = refl
get_unwritten (x ∷ xs) (suc n) zero y apart = refl
get_unwritten (x ∷ xs) (suc n) (suc m) y apart = get_unwritten xs n m y (λ e. apart (ap suc e))

map_same : {A B : Type 0} (f g : A → B) (xs : List A) → ((m : ℕ) (x : A) → slice_get xs m ≡ Some x → f x ≡ g x) → map f xs ≡ map g xs
map_same f g [] same = refl
map_same f g (x ∷ xs) same = rw (same 0 x refl) (ap (λ ys. g x ∷ ys) (map_same f g xs (λ m y at. same (suc m) y at)))

-- every element but the one that is written is seen as it was
pub map_written : {A B : Type 0} (f g : A → B) (xs : List A) (n : ℕ) (y : A) → ((m : ℕ) (x : A) → m ≢ n → slice_get xs m ≡ Some x → f x ≡ g x) → map f (set xs n y) ≡ set (map g xs) n (f y)
map_written f g [] n y same = refl
map_written f g (x ∷ xs) zero y same = ap (λ ys. f y ∷ ys) (map_same f g xs (λ m z at. same (suc m) z (omega arith) at))
map_written f g (x ∷ xs) (suc n) y same =
    rw (same 0 x (omega arith) refl)
    (ap (λ ys. g x ∷ ys) (map_written f g xs n y (λ m z apart at. same (suc m) z (omega arith) at)))

pub map_pushed : {A B : Type 0} (f g : A → B) (xs : List A) (y : A) → ((m : ℕ) (x : A) → slice_get xs m ≡ Some x → f x ≡ g x) → map f (xs ++ y ∷ []) ≡ map g xs ++ f y ∷ []
map_pushed f g [] y same = refl
map_pushed f g (x ∷ xs) y same =
    rw (same 0 x refl) (ap (λ ys. g x ∷ ys) (map_pushed f g xs y (λ m z at. same (suc m) z at)))

pub get_pushed : {A : Type 0} (xs : List A) (y z : A) (n : ℕ) → n ≢ length xs → slice_get (xs ++ y ∷ []) n ≡ Some z → slice_get xs n ≡ Some z
get_pushed [] y z zero apart at = absurd (apart refl)
get_pushed [] y z (suc n) apart at = at
get_pushed (x ∷ xs) y z zero apart at = at
get_pushed (x ∷ xs) y z (suc n) apart at = get_pushed xs y z n (λ e. apart (ap suc e)) at

pub get_last : {A : Type 0} (xs : List A) (y : A) → slice_get (xs ++ y ∷ []) (length xs) ≡ Some y
get_last [] y = refl
get_last (x ∷ xs) y = get_last xs y
