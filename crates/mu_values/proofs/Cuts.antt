-- Cuts of a row.
use Rattle.std.proofs.Common.{◌≡◌, ℕ, zero, suc, ◌+◌, ◌-◌, ◌<◌, ◌≤◌, List, [], ◌∷◌, ◌++◌, length, take, drop, Some, slice_get, refl, ap, ◌∙◌, arith}
use Rattle.std.specs.Prelude.{slice_range, slice_index}
use Rattle.std.proofs.lemmas.List.{length-drop, take-append-le, drop-append-le, drop_at, take_all}
use Rattle.mu_values.specs.declared.scalars.Scalar.{Scalar}
use Rattle.mu_values.specs.Slots.{cut, IsCut, begin}

pub cut_length : (from : ℕ) (ends : List ℕ) (s : List Scalar) → length (cut from ends s) ≡ length ends
cut_length from [] s = refl
cut_length from (e ∷ es) s = ap suc (cut_length e es s)

pub cut_at : (from : ℕ) (ends : List ℕ) (s : List Scalar) (n : ℕ) → n < length ends → slice_get (cut from ends s) n ≡ Some (slice_range s (begin from ends n) (slice_index ends n))
cut_at from [] s n l = absurd (omega (arith, l))
cut_at from (e ∷ es) s zero l = refl
cut_at from (e ∷ es) s (suc zero) l = cut_at e es s zero (omega (arith, l))
cut_at from (e ∷ es) s (suc (suc n)) l = cut_at e es s (suc n) (omega (arith, l))

pub within : (from : ℕ) (ends : List ℕ) (many : ℕ) → IsCut from ends many → from ≤ many
within from [] many h = omega (arith, h)
within from (e ∷ es) many h = let low = within e es many h.1 in omega (arith, low, h.0)

pub bounds : (from : ℕ) (ends : List ℕ) (many n : ℕ) → IsCut from ends many → n < length ends → (begin from ends n ≤ slice_index ends n) × (slice_index ends n ≤ many)
bounds from [] many n h l = absurd (omega (arith, l))
bounds from (e ∷ es) many zero h l = (h.0, within e es many h.1)
bounds from (e ∷ es) many (suc zero) h l = bounds e es many zero h.1 (omega (arith, l))
bounds from (e ∷ es) many (suc (suc n)) h l = bounds e es many (suc n) h.1 (omega (arith, l))

pub cut_more : (from : ℕ) (ends : List ℕ) (many more : ℕ) → IsCut from ends many → many ≤ more → IsCut from (ends ++ more ∷ []) more
cut_more from [] many more h l = (omega (arith, h, l), refl)
cut_more from (e ∷ es) many more h l = (h.0, cut_more e es many more h.1 l)

range_kept : (s v : List Scalar) (from e : ℕ) → from ≤ e → e ≤ length s → slice_range (s ++ v) from e ≡ slice_range s from e
range_kept s v from e l m =
    let far : e - from ≤ length (drop from s) = omega (arith, length-drop from s, m) in
    ap (take (e - from)) (drop-append-le from s v (omega (arith, l, m))) ∙ take-append-le (e - from) (drop from s) v far

range_last : (s v : List Scalar) (from : ℕ) → from ≡ length s → slice_range (s ++ v) from (length s + length v) ≡ v
range_last s v from h =
    let many : length s + length v - from ≡ length v = omega (arith, h) in
    rw (many, h) (ap (take (length v)) (drop_at s v (length s) refl) ∙ take_all (length v) v (omega arith))

-- a value more, with its scalars
pub cut_pushed : (from : ℕ) (ends : List ℕ) (s v : List Scalar) → IsCut from ends (length s) → cut from (ends ++ (length s + length v) ∷ []) (s ++ v) ≡ cut from ends s ++ v ∷ []
cut_pushed from [] s v h = ap (λ (r : List Scalar). r ∷ []) (range_last s v from h)
cut_pushed from (e ∷ es) s v h =
    let first : slice_range (s ++ v) from e ≡ slice_range s from e = range_kept s v from e h.0 (within e es (length s) h.1) in
    rw (first, cut_pushed e es s v h.1) refl
