-- The n-th position that has another value, by the positions of the history.
use Rattle.std.proofs.Common.{◌≡◌, ℕ, zero, suc, ◌+◌, ◌-◌, ◌<◌, ◌≤◌, Bool, true, false, cond, List, [], ◌∷◌, length, take, slice_get, get_or, Some, refl, sym, ap, ◌∙◌, inl, inr, arith}
use Rattle.std.proofs.lemmas.Bool.{le-leb, cases_lt}
use Rattle.std.proofs.lemmas.List.{get_or_append_left, length-take, take_all}
use Rattle.std.proofs.lemmas.List.Sums.{sum_by_more, count_by-le-length}
use Rattle.mu_values.specs.declared.scalars.Scalar.{Scalar}
use Rattle.mu_values.specs.declared.scalars.Scalar.TheVariants.{Null}
use Rattle.mu_values.specs.SameScalar.{same_scalar}
use Rattle.mu_values.specs.declared.cells.CellId.{CellId}
use Rattle.mem_axioms.specs.Events.{modifies, value_of}
use Rattle.mem_axioms.specs.Choices.{holds}
use Rattle.mem_axioms.specs.Logs.{newest}
use Rattle.mem_axioms.specs.Form.{value_at, has_form}
use Rattle.mem_axioms.specs.Reads.{below}
use Rattle.mem_axioms.specs.declared.types.Event.{Event}
use Rattle.write_history.specs.Occurrences.{occurrences, IsOther}
use Rattle.mem_views.specs.Differing.{differs_from}
use Rattle.view_parts.specs.Holding.{values_of}
use Rattle.mem_views.proofs.Reading.{below-floor}
use Rattle.view_parts.specs.Lemmas.ValuesKept.{values-at, values-length}
use Rattle.mem_views.proofs.Counted.{one_if, one-more, one-further, below-rises, nth-passing, counted-later, got}

-- one for a test that fails
abbrev pub zero_if : Bool → ℕ
zero_if b = cond b 0 1

-- NULL stands in the place of the initial scalar
values-first : (log : List Event) (cell : CellId) → get_or (values_of log cell) 0 Null ≡ Null
values-first [] cell = refl
values-first (e ∷ past) cell = by (modifies cell e) refl (values-first past cell)
  where
    by : (b : Bool) → modifies cell e ≡ b → get_or (values_of past cell) 0 Null ≡ Null → get_or (values_of (e ∷ past) cell) 0 Null ≡ Null
    by true q h = rw q (let n = values-length past cell in get_or_append_left (values_of past cell) (value_of e ∷ []) Null 0 (omega (arith, n)) ∙ h)
    by false q h = rw q h

-- a cell with one position
pub nth-only : (test : ℕ → Bool) (last n : ℕ) → last ≡ 0 → n < length (below test (last + 1)) → slice_get (below test (last + 1)) n ≡ Some 0
nth-only test last n z l = by (test 0) refl (one-further test 0 (test 0) refl)
  where
    only : last + 1 ≡ 1
    only = omega (arith, z)

    m : n < length (below test 1)
    m = rw only at l

    by : (b : Bool) → test 0 ≡ b → length (below test (0 + 1)) ≡ 0 + one_if (test 0) → slice_get (below test (last + 1)) n ≡ Some 0
    by true q o = let v : one_if (test 0) ≡ 1 = ap (λ (b : Bool). one_if b) q in rw only (nth-passing test 1 n 0 (omega arith) q (omega (arith, o, v, m)))
    by false q o = let v : one_if (test 0) ≡ 0 = ap (λ (b : Bool). one_if b) q in absurd (omega (arith, o, v, m))

-- a scalar occurs no more often than there are positions
pub count-few : (scalar : Scalar) (values : List Scalar) (k : ℕ) → occurrences scalar (take k values) ≤ k
count-few scalar values k = let a = count_by-le-length (λ x. same_scalar x scalar) (take k values) in let b = length-take k values in omega (arith, a, b)

-- all positions are below the end
pub count-all : (scalar : Scalar) (values : List Scalar) (k : ℕ) → length values ≤ k → occurrences scalar (take k values) ≡ occurrences scalar values
count-all scalar values k l = ap (occurrences scalar) (take_all k values l)

module _ (initial : CellId → Scalar) (log : List Event) (cell : CellId) (scalar : Scalar) (form : has_form initial log ≡ true) where
  abbrev values : List Scalar
  values = values_of log cell

  -- how often the scalar is below a position
  abbrev count : ℕ → ℕ
  count k = occurrences scalar (take k (values_of log cell))

  step : (k : ℕ) → k ≤ newest log cell → count (k + 1) ≡ count k + one_if (same_scalar (get_or (values_of log cell) k Null) scalar)
  step k l = let n = values-length log cell in sum_by_more (λ x. one_if (same_scalar x scalar)) (values_of log cell) k Null (omega (arith, n, l))

  first : count 1 ≡ one_if (same_scalar Null scalar)
  first =
      let s = step 0 (omega arith) in
      let v = ap (λ (x : Scalar). one_if (same_scalar x scalar)) (values-first log cell) in
      let none : count 0 ≡ 0 = refl in
      omega (arith, s, v, none)

  -- between two later positions it occurs no more often than there are positions
  within : (i j : ℕ) → 0 < i → i ≤ j → j ≤ newest log cell + 1 → count j + i ≤ count i + j
  within i j p l m =
      let k : i + (j - i) ≡ j = omega (arith, l) in
      let c = rw k at (counted-later initial log cell 0 scalar form i (j - i) p (omega arith) (rw k m)) in
      let r = below-rises (differs_from initial log cell 0 scalar) i j l in
      omega (arith, c, r, l)

  module _ (floor n : ℕ) (low : floor ≤ newest log cell) where
    abbrev test : ℕ → Bool
    test = differs_from initial log cell floor scalar

    abbrev all : ℕ
    all = length (below (differs_from initial log cell floor scalar) (newest log cell + 1))

    -- from the floor on, where it is later than 0
    from-floor : 0 < floor → all + count (newest log cell + 1) + floor ≡ newest log cell + 1 + count floor
    from-floor p =
        let k : floor + (newest log cell + 1 - floor) ≡ newest log cell + 1 = omega (arith, low) in
        let c = rw k at (counted-later initial log cell floor scalar form floor (newest log cell + 1 - floor) p (omega arith) (rw k (omega arith))) in
        let z : length (below test floor) ≡ 0 = ap (λ (xs : List ℕ). length xs) (below-floor initial log cell floor scalar) in
        omega (arith, c, z, low)

    -- the history has it
    pub nth-later : (differing x : ℕ) → differing + count (newest log cell + 1) ≡ newest log cell + 1 → n + zero_if (same_scalar Null scalar) < differing → n < all → IsOther scalar (values_of log cell) (differing - 1 - n) x
        → (slice_get (below test (newest log cell + 1)) n ≡ Some x) × (x ≤ newest log cell)
    nth-later differing x d m l o = (nth-passing test (newest log cell + 1) n x (omega (arith, top)) passes counts, top)
      where
        size : length (values_of log cell) ≡ suc (newest log cell)
        size = values-length log cell

        top : x ≤ newest log cell
        top = let t = o.there in omega (arith, t, size)

        same : count (x + 1) ≡ count x
        same = step x top ∙ ap (λ (b : Bool). count x + one_if b) o.differs ∙ omega arith

        later : 0 < x
        later = by x refl
          where
            by : (k : ℕ) → x ≡ k → 0 < x
            by (suc k) e = omega (arith, e)
            by zero e =
                let c = o.counted in
                let none : count x ≡ 0 = ap (λ (k : ℕ). occurrences scalar (take k (values_of log cell))) e in
                let null : same_scalar Null scalar ≡ false = sym (ap (λ (y : Scalar). same_scalar y scalar) (values-first log cell)) ∙ (ap (λ (k : ℕ). same_scalar (get_or (values_of log cell) k Null) scalar) (sym e) ∙ o.differs) in
                let one : zero_if (same_scalar Null scalar) ≡ 1 = ap zero_if null in
                absurd (omega (arith, c, none, one, m, e))

        high : floor ≤ x
        high = elim (cases_lt x floor) [
          | inr k ↦ k
          | inl k ↦ (
              let w = within (x + 1) floor (omega arith) (omega (arith, k)) (omega (arith, low)) in
              let f = from-floor (omega (arith, k)) in
              let c = o.counted in
              absurd (omega (arith, w, f, c, same, d, m, l)))
        ]

        passes : test x ≡ true
        passes =
            let a = values-at initial log cell x form later top in
            let v = got (values_of log cell) x (value_at initial log cell x) Null a in
            let h : holds initial log cell scalar x ≡ false = ap (λ (y : Scalar). same_scalar y scalar) (sym v) ∙ o.differs in
            rw (le-leb floor x high, h) refl

        counts : length (below test x) + (n + 1) ≡ all
        counts =
            let k : x + (newest log cell + 1 - x) ≡ newest log cell + 1 = omega (arith, top) in
            let c = rw k at (counted-later initial log cell floor scalar form x (newest log cell + 1 - x) later high (rw k (omega arith))) in
            let e = o.counted in
            omega (arith, c, e, d, m, top)

    -- it is position 0
    pub nth-first : (differing : ℕ) → differing + count (newest log cell + 1) ≡ newest log cell + 1 → differing ≤ n + zero_if (same_scalar Null scalar) → n < all → slice_get (below test (newest log cell + 1)) n ≡ Some 0
    nth-first differing d m l = by floor refl
      where
        ends : zero_if (same_scalar Null scalar) + count 1 ≡ 1
        ends = either (same_scalar Null scalar) first
          where
            either : (b : Bool) → count 1 ≡ one_if b → zero_if b + count 1 ≡ 1
            either true e = omega (arith, e)
            either false e = omega (arith, e)

        by : (f : ℕ) → floor ≡ f → slice_get (below test (newest log cell + 1)) n ≡ Some 0
        by (suc f) e =
            let w = within 1 floor (omega arith) (omega (arith, e)) (omega (arith, low)) in
            let c = from-floor (omega (arith, e)) in
            absurd (omega (arith, w, c, ends, d, m, l))
        by zero e =
            let k : 1 + newest log cell ≡ newest log cell + 1 = omega arith in
            let c = rw k at (counted-later initial log cell floor scalar form 1 (newest log cell) (omega arith) (omega (arith, e)) (rw k (omega arith))) in
            let o = one-more test 0 in
            let w = within 1 (newest log cell + 1) (omega arith) (omega arith) (omega arith) in
            here (test 0) refl c o w
          where
            here : (b : Bool) → test 0 ≡ b → all + count (newest log cell + 1) ≡ length (below test 1) + newest log cell + count 1 → length (below test 1) ≡ 0 + one_if (test 0) → count (newest log cell + 1) + 1 ≤ count 1 + (newest log cell + 1)
                → slice_get (below test (newest log cell + 1)) n ≡ Some 0
            here true q c o w =
                let v : one_if (test 0) ≡ 1 = ap (λ (b : Bool). one_if b) q in
                nth-passing test (newest log cell + 1) n 0 (omega arith) q (omega (arith, c, o, v, w, ends, d, m, l))
            here false q c o w =
                let v : one_if (test 0) ≡ 0 = ap (λ (b : Bool). one_if b) q in
                absurd (omega (arith, c, o, v, w, ends, d, m, l))
