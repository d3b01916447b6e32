-- The values of a list, added one by one behind those of another.
use Rattle.std.proofs.Common.{◌≡◌, ℕ, zero, suc, ◌+◌, ◌-◌, ◌<◌, ◌≤◌, ◌⊎◌, List, [], ◌∷◌, ◌++◌, length, take, drop, Some, slice_get, ap, ◌∙◌, sym, append_assoc, arith, add-one, inl, inr}
use Rattle.std.specs.Prelude.{slice_range}
use Rattle.std.proofs.lemmas.List.{length-drop, length-take-le}
use Rattle.mu_values.specs.declared.scalars.Scalar.{Scalar}
use Rattle.mu_values.specs.Rooms.{scalars_in}
use Rattle.mu_values.specs.Slots.{cut, IsCut}
use Rattle.mu_values.proofs.Cuts.{within}

-- ---- how many there are

scalars_cut : (from : ℕ) (ends : List ℕ) (s : List Scalar) → IsCut from ends (length s) → from + scalars_in (cut from ends s) ≡ length s
scalars_cut from [] s h = omega (arith, h)
scalars_cut from (e ∷ es) s h =
    let low = within e es (length s) h.1 in
    let size : length (slice_range s from e) ≡ e - from = length-take-le (e - from) (drop from s) (omega (arith, length-drop from s, low, h.0)) in
    let rest = scalars_cut e es s h.1 in
    omega (arith, size, rest, h.0)

-- the scalars of all values are those of the row
pub scalars_counted : (ends : List ℕ) (s : List Scalar) → IsCut 0 ends (length s) → scalars_in (cut 0 ends s) ≡ length s
scalars_counted ends s h = let all = scalars_cut 0 ends s h in omega (arith, all)

-- ---- one after the other

next_taken : (vs : List (List Scalar)) (n : ℕ) (v : List Scalar) → slice_get vs n ≡ Some v → take (suc n) vs ≡ take n vs ++ v ∷ []
next_taken [] n v h = cc
next_taken (w ∷ vs) zero v h = let same : w ≡ v = cc in ap (λ x. x ∷ []) same
next_taken (w ∷ vs) (suc n) v h = ap (λ xs. w ∷ xs) (next_taken vs n v h)

-- the values once one more is added
pub append_next : (from start before after : List (List Scalar)) (n : ℕ) (v : List Scalar) → before ≡ start ++ take n from → slice_get from n ≡ Some v → after ≡ before ++ v ∷ [] → after ≡ start ++ take (n + 1) from
append_next from start before after n v was there is =
    let next : take (n + 1) from ≡ take n from ++ v ∷ [] = rw add-one (next_taken from n v there) in
    is ∙ ap (λ vs. vs ++ v ∷ []) was ∙ append_assoc start (take n from) (v ∷ []) ∙ ap (λ vs. start ++ vs) (sym next)

counted_next : (vs : List (List Scalar)) (n : ℕ) (v : List Scalar) → slice_get vs n ≡ Some v → scalars_in (drop n vs) ≡ length v + scalars_in (drop (suc n) vs)
counted_next [] n v h = cc
counted_next (w ∷ vs) zero v h = let same : w ≡ v = cc in ap (λ x. length x + scalars_in vs) same
counted_next (w ∷ vs) (suc n) v h = counted_next vs n v h

-- the scalars of one value less
pub count_next : (vs : List (List Scalar)) (n : ℕ) (v : List Scalar) → slice_get vs n ≡ Some v → scalars_in (drop n vs) ≡ length v + scalars_in (drop (n + 1) vs)
count_next vs n v h = rw add-one (counted_next vs n v h)

below : (vs : List (List Scalar)) (n : ℕ) (v : List Scalar) → slice_get vs n ≡ Some v → n < length vs
below [] n v h = cc
below (w ∷ vs) zero v h = omega arith
below (w ∷ vs) (suc n) v h = omega (arith, below vs n v h)

-- a list that has room for the values from this one on does not refuse it
pub not_full : (vs : List (List Scalar)) (n spare scalars : ℕ) (v : List Scalar) → length vs ≤ spare + n → scalars_in (drop n vs) ≤ scalars → slice_get vs n ≡ Some v → (spare ≡ 0) ⊎ (scalars < length v) → ⊥
not_full vs n spare scalars v room few there full =
    let next = count_next vs n v there in
    let low = below vs n v there in
    elim full [
      | inl none ↦ absurd (omega (arith, room, low, none))
      | inr less ↦ absurd (omega (arith, few, less, next))
    ]
