-- Positions that pass a test, from the newest down.
use Rattle.std.proofs.Common.{◌≡◌, ℕ, zero, suc, ◌-◌, ◌<◌, Bool, true, false, ◌&&◌, if◌then◌else◌, Some, ◌∷◌, length, filter, slice_get, refl, ap, arith}
use Rattle.mem_axioms.specs.Choices.{down_from}
use Rattle.mem_axioms.specs.Reads.{below}

pub down_from-below : (test : ℕ → Bool) (n : ℕ) → down_from test n ≡ below test (suc n)
down_from-below test zero = refl
down_from-below test (suc n) = ap (λ xs. if test (suc n) then suc n ∷ xs else xs) (down_from-below test n)

-- those that pass a second test too
pub filter-below : (first second : ℕ → Bool) (n : ℕ) → filter second (below first n) ≡ below (λ p. first p && second p) n
filter-below first second zero = refl
filter-below first second (suc n) = go (first n) (second n) refl (filter-below first second n)
  where
    go : (a b : Bool) → second n ≡ b → filter second (below first n) ≡ below (λ p. first p && second p) n → filter second (if a then n ∷ below first n else below first n) ≡ (if a && b then n ∷ below (λ p. first p && second p) n else below (λ p. first p && second p) n)
    go true true p ih = rw (p, filter) (ap (λ xs. n ∷ xs) ih)
    go true false p ih = rw (p, filter) ih
    go false b p ih = ih

pub below-same : (first second : ℕ → Bool) (n : ℕ) → ((p : ℕ) → p < n → first p ≡ second p) → below first n ≡ below second n
below-same first second zero h = refl
below-same first second (suc n) h = rw (h n (omega arith), below-same first second n (λ p l. h p (omega arith)))

-- one position less
pub below-in : (test : ℕ → Bool) (n left : ℕ) → 0 < n → test (n - 1) ≡ true → 0 < left → slice_get (below test n) left ≡ slice_get (below test (n - 1)) (left - 1)
below-in test zero left h t l = absurd (omega arith)
below-in test (suc n) zero h t l = absurd (omega arith)
below-in test (suc n) (suc left) h t l =
    let p : suc n - 1 ≡ n = omega arith in
    let q : suc left - 1 ≡ left = omega arith in
    let u : test n ≡ true = rw p at t in
    rw (u, below, p, q)

pub below-in-length : (test : ℕ → Bool) (n left : ℕ) → 0 < n → test (n - 1) ≡ true → 0 < left → left < length (below test n) → left - 1 < length (below test (n - 1))
below-in-length test zero left h t l k = absurd (omega arith)
below-in-length test (suc n) left h t l k =
    let p : suc n - 1 ≡ n = omega arith in
    let u : test n ≡ true = rw p at t in
    let s : length (below test (suc n)) ≡ suc (length (below test n)) = rw (u, below) in
    rw p (omega (arith, s))

pub below-out : (test : ℕ → Bool) (n : ℕ) → 0 < n → test (n - 1) ≡ false → below test n ≡ below test (n - 1)
below-out test zero h t = absurd (omega arith)
below-out test (suc n) h t =
    let p : suc n - 1 ≡ n = omega arith in
    let u : test n ≡ false = rw p at t in
    rw (u, below, p)

pub below-here : (test : ℕ → Bool) (n : ℕ) → 0 < n → test (n - 1) ≡ true → slice_get (below test n) 0 ≡ Some (n - 1)
below-here test zero h t = absurd (omega arith)
below-here test (suc n) h t =
    let p : suc n - 1 ≡ n = omega arith in
    let u : test n ≡ true = rw p at t in
    rw (u, below, p)
