-- Lists in pairs, from a place on.
use Rattle.std.proofs.Common.{◌≡◌, ℕ, zero, suc, ◌+◌, ◌<◌, ◌≤◌, Bool, true, false, ◌&&◌, List, [], ◌∷◌, length, refl, ap, arith, get_or, drop, add-one, drop-cons}
use Rattle.type_definitions.specs.Same.{pairs}

pub pairs_step : (r : ℕ → ℕ → Bool) (xs ys : List ℕ) (i : ℕ) → i < length xs → i < length ys → pairs r (drop i xs) (drop i ys) ≡ (r (get_or xs i 0) (get_or ys i 0) && pairs r (drop (i + 1) xs) (drop (i + 1) ys))
pairs_step r xs ys i h k = rw (add-one, drop-cons xs i 0, drop-cons ys i 0) refl

pub pairs_uneven : (r : ℕ → ℕ → Bool) (xs ys : List ℕ) → (length xs ≡ length ys → ⊥) → pairs r xs ys ≡ false
pairs_uneven r [] [] h = absurd (h refl)
pairs_uneven r [] (y ∷ ys) h = refl
pairs_uneven r (x ∷ xs) [] h = refl
pairs_uneven r (x ∷ xs) (y ∷ ys) h = go (r x y) (pairs_uneven r xs ys (λ e. h (ap suc e)))
  where
    go : (b : Bool) → pairs r xs ys ≡ false → (b && pairs r xs ys) ≡ false
    go true i = i
    go false i = refl

drop_past : (xs : List ℕ) (i : ℕ) → length xs ≤ i → drop i xs ≡ []
drop_past [] zero h = refl
drop_past [] (suc i) h = refl
drop_past (x ∷ xs) zero h = absurd (omega arith)
drop_past (x ∷ xs) (suc i) h = drop_past xs i (omega arith)

pub pairs_end : (r : ℕ → ℕ → Bool) (xs ys : List ℕ) (i : ℕ) → length xs ≡ length ys → length xs ≤ i → pairs r (drop i xs) (drop i ys) ≡ true
pairs_end r xs ys i e h = rw (drop_past xs i h, drop_past ys i (omega arith)) refl
