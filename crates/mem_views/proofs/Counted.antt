-- The positions of a cell that have another value than a scalar, by how many there are below each.
use Rattle.std.proofs.Common.{◌≡◌, ℕ, zero, suc, ◌+◌, ◌-◌, ◌<◌, ◌≤◌, Bool, true, false, cond, not, ◌&&◌, max, List, [], ◌∷◌, length, take, slice_get, get_or, Some, refl, sym, ap, ◌∙◌, inl, inr, ◌⊎◌, arith}
use Rattle.std.proofs.lemmas.Bool.{false≢true, le-leb, cases_lt}
use Rattle.std.proofs.lemmas.List.Sums.{sum_by_more}
use Rattle.mu_values.specs.declared.scalars.Scalar.{Scalar}
use Rattle.mu_values.specs.declared.scalars.Scalar.TheVariants.{Null}
use Rattle.mu_values.specs.SameScalar.{same_scalar}
use Rattle.mu_values.specs.declared.cells.CellId.{CellId}
use Rattle.mem_axioms.specs.Choices.{holds}
use Rattle.mem_axioms.specs.Logs.{newest}
use Rattle.mem_axioms.specs.Form.{value_at, has_form}
use Rattle.mem_axioms.specs.Reads.{below}
use Rattle.mem_axioms.specs.declared.types.Event.{Event}
use Rattle.write_history.specs.Occurrences.{occurrences}
use Rattle.mem_views.specs.Differing.{differs_from}
use Rattle.view_parts.specs.Holding.{values_of}
use Rattle.mem_views.proofs.Reading.{below-under}
use Rattle.view_parts.specs.Lemmas.ValuesKept.{values-at, values-length}

abbrev pub one_if : Bool → ℕ
one_if b = cond b 1 0

pub one-more : (test : ℕ → Bool) (n : ℕ) → length (below test (suc n)) ≡ length (below test n) + one_if (test n)
one-more test n = by (test n) refl
  where
    by : (b : Bool) → test n ≡ b → length (below test (suc n)) ≡ length (below test n) + one_if (test n)
    by true q = rw q (omega arith)
    by false q = rw q (omega arith)

pub below-rises : (test : ℕ → Bool) (p m : ℕ) → p ≤ m → length (below test p) ≤ length (below test m)
below-rises test p zero l = let z : p ≡ 0 = omega (arith, l) in rw z (omega arith)
below-rises test p (suc m) l = elim (cases_lt m p) [
  | inl k ↦ (let e : p ≡ suc m = omega (arith, l, k) in rw e (omega arith))
  | inr k ↦ (let r = below-rises test p m k in let o = one-more test m in omega (arith, r, o))
]

-- there are no more than positions
pub below-few : (test : ℕ → Bool) (n : ℕ) → length (below test n) ≤ n
below-few test zero = omega arith
below-few test (suc n) = by (test n) refl (below-few test n)
  where
    by : (b : Bool) → test n ≡ b → length (below test n) ≤ n → length (below test (suc n)) ≤ suc n
    by true q f = let o = one-more test n in let c : one_if (test n) ≡ 1 = ap (λ (b : Bool). one_if b) q in omega (arith, o, c, f)
    by false q f = let o = one-more test n in let c : one_if (test n) ≡ 0 = ap (λ (b : Bool). one_if b) q in omega (arith, o, c, f)

-- one more position, where all are looked at in turn
pub one-further : (test : ℕ → Bool) (p : ℕ) (b : Bool) → b ≡ test p → length (below test (p + 1)) ≡ length (below test p) + one_if b
one-further test p b e = let s : p + 1 ≡ suc p = omega arith in rw s (one-more test p ∙ ap (λ (c : Bool). length (below test p) + one_if c) (sym e))

-- the same from the newest down
pub one-older : (test : ℕ → Bool) (last index : ℕ) (b : Bool) → index < last + 1 → b ≡ test (last - index) → length (below test (last + 1 - index)) ≡ length (below test (last - index)) + one_if b
one-older test last index b l e = let s : last + 1 - index ≡ (last - index) + 1 = omega (arith, l) in rw s (one-further test (last - index) b e)

-- where so many are older, and n newer, it is the n-th from the newest down
pub nth-passing : (test : ℕ → Bool) (m n p : ℕ) → p < m → test p ≡ true → length (below test p) + (n + 1) ≡ length (below test m) → slice_get (below test m) n ≡ Some p
nth-passing test zero n p l t e = absurd (omega (arith, l))
nth-passing test (suc m) n p l t e = by (test m) refl n e (cases_lt p m) (λ k lower more. nth-passing test m k p lower t more)
  where
    by : (b : Bool) → test m ≡ b → (n : ℕ) → length (below test p) + (n + 1) ≡ length (below test (suc m)) → (p < m) ⊎ (m ≤ p) → ((k : ℕ) → p < m → length (below test p) + (k + 1) ≡ length (below test m) → slice_get (below test m) k ≡ Some p) → slice_get (below test (suc m)) n ≡ Some p
    by true q zero e (inl k) ih =
        let r = below-rises test (suc p) m k in
        let o = one-more test p in
        let c : one_if (test p) ≡ 1 = ap (λ (b : Bool). one_if b) t in
        let u = one-more test m in
        let d : one_if (test m) ≡ 1 = ap (λ (b : Bool). one_if b) q in
        absurd (omega (arith, r, o, c, u, d, e))
    by true q (suc n) e (inl k) ih =
        let u = one-more test m in
        let d : one_if (test m) ≡ 1 = ap (λ (b : Bool). one_if b) q in
        let rest = ih n k (omega (arith, u, d, e)) in
        rw (q, below) rest
    by false q n e (inl k) ih =
        let u = one-more test m in
        let d : one_if (test m) ≡ 0 = ap (λ (b : Bool). one_if b) q in
        let rest = ih n k (omega (arith, u, d, e)) in
        rw (q, below) rest
    by true q zero e (inr k) ih = let s : m ≡ p = omega (arith, k, l) in rw (q, below) (ap Some s)
    by true q (suc n) e (inr k) ih =
        let s : p ≡ m = omega (arith, k, l) in
        let u = one-more test m in
        let d : one_if (test m) ≡ 1 = ap (λ (b : Bool). one_if b) q in
        let w : length (below test p) ≡ length (below test m) = ap (λ (k : ℕ). length (below test k)) s in
        absurd (omega (arith, u, d, w, e))
    by false q n e (inr k) ih =
        let s : p ≡ m = omega (arith, k, l) in
        absurd (false≢true (sym q ∙ (ap test (sym s) ∙ t)))

-- the value at a position, by a list that has it there
pub got : (xs : List Scalar) (p : ℕ) (x d : Scalar) → slice_get xs p ≡ Some x → get_or xs p d ≡ x
got [] p x d h = absurd (cc)
got (y ∷ xs) zero x d h = cc
got (y ∷ xs) (suc p) x d h = got xs p x d h

module _ (initial : CellId → Scalar) (log : List Event) (cell : CellId) (floor : ℕ) (scalar : Scalar) where
  abbrev test : ℕ → Bool
  test = differs_from initial log cell floor scalar

  -- from the first later position on, or from the floor on, no more are below than position 0
  pub below-first : (from : ℕ) → from ≡ max floor 1 → length (below test from) ≡ length (below test 1)
  below-first from e = by floor refl
    where
      by : (f : ℕ) → floor ≡ f → length (below test from) ≡ length (below test 1)
      by zero z = let o : from ≡ 1 = e ∙ (rw z refl) in ap (λ (k : ℕ). length (below test k)) o
      by (suc f) z =
          let o : from ≡ floor = (let m : max floor 1 ≡ floor = omega (arith, z) in e ∙ m) in
          let a = below-under initial log cell floor scalar from (omega (arith, o)) in
          let b = below-under initial log cell floor scalar 1 (omega (arith, z)) in
          ap (λ (xs : List ℕ). length xs) (a ∙ sym b)

  -- each later position either has the scalar or another value
  pub counted-later : (form : has_form initial log ≡ true) (from k : ℕ) → 0 < from → floor ≤ from → from + k ≤ newest log cell + 1
      → length (below test (from + k)) + occurrences scalar (take (from + k) (values_of log cell)) ≡ length (below test from) + k + occurrences scalar (take from (values_of log cell))
  counted-later form from zero p f l = let z : from + 0 ≡ from = omega arith in rw z (omega arith)
  counted-later form from (suc k) p f l =
      let n = from + k in
      let ih = counted-later form from k p f (omega (arith, l)) in
      let s : from + suc k ≡ suc n = omega arith in
      let a : n + 1 ≡ suc n = omega arith in
      let at = values-at initial log cell n form (omega (arith, p)) (omega (arith, l)) in
      let len = values-length log cell in
      let value = got (values_of log cell) n (value_at initial log cell n) Null at in
      let more : occurrences scalar (take (n + 1) (values_of log cell)) ≡ occurrences scalar (take n (values_of log cell)) + one_if (same_scalar (get_or (values_of log cell) n Null) scalar) = sum_by_more (λ x. one_if (same_scalar x scalar)) (values_of log cell) n Null (omega (arith, l, len)) in
      let one = one-more test n in
      let here : test n ≡ not (same_scalar (value_at initial log cell n) scalar) = ap (λ (b : Bool). b && not (holds initial log cell scalar n)) (le-leb floor n (omega (arith, f))) in
      let both = either (same_scalar (value_at initial log cell n) scalar) in
      let t : one_if (test n) ≡ one_if (not (same_scalar (value_at initial log cell n) scalar)) = ap (λ (b : Bool). one_if b) here in
      let v : one_if (same_scalar (get_or (values_of log cell) n Null) scalar) ≡ one_if (same_scalar (value_at initial log cell n) scalar) = ap (λ (x : Scalar). one_if (same_scalar x scalar)) value in
      let more' : occurrences scalar (take (suc n) (values_of log cell)) ≡ occurrences scalar (take n (values_of log cell)) + one_if (same_scalar (get_or (values_of log cell) n Null) scalar) = rw a at more in
      rw s (omega (arith, ih, more', one, both, t, v))
    where
      either : (b : Bool) → one_if (not b) + one_if b ≡ 1
      either true = refl
      either false = refl

  -- all of them, by position 0 and by the later ones
  pub counted-all : (form : has_form initial log ≡ true) (from end later : ℕ) → from ≡ max floor 1 → from ≤ end → end ≤ newest log cell + 1
      → later + occurrences scalar (take end (values_of log cell)) ≡ end - from + occurrences scalar (take from (values_of log cell))
      → length (below test end) ≡ length (below test 1) + later
  counted-all form from end later e l m h =
      let k : from + (end - from) ≡ end = omega (arith, l) in
      let some : 0 < from = omega (arith, e) in
      let low : floor ≤ from = omega (arith, e) in
      let c = counted-later form from (end - from) some low (rw k m) in
      let c' = rw k at c in
      let b = below-first from e in
      omega (arith, c', b, h)
