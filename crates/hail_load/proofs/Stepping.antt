-- Rows: which cells are covered, and how far.
use Rattle.std.proofs.Common.{◌≡◌, ◌≢◌, ℕ, zero, suc, ◌+◌, ◌<◌, ◌≤◌, List, [], ◌∷◌, ◌++◌, ◌⊎◌, inl, inr, length, refl, sym, ap, ◌∙◌, arith, get_or-set_same, get_or-set_other}
use Rattle.std.specs.Prelude.{slice_set, slice_index_or, replicate}
use Rattle.std.specs.List.{sum_by}
use Rattle.std.proofs.lemmas.Bool.{cases_order}
use Rattle.std.proofs.lemmas.List.Sums.{sum_by-append, sum_by-set}
use Rattle.hail_load.specs.Fills.{entry, row_of, one_if_zero, uncovered, uncovered_in, AreSteps, Walked}

-- ---- entries

here : (row : List ℕ) (i k x : ℕ) → i < length row → k ≡ i → entry (slice_set row i x) k ≡ x
here row i k x l e = ap (λ (j : ℕ). entry (slice_set row i x) j) e ∙ get_or-set_same row i x 0 l

elsewhere : (row : List ℕ) (i k x : ℕ) → k ≢ i → entry (slice_set row i x) k ≡ entry row k
elsewhere row i k x other = get_or-set_other row i k x 0 other

pub set_long : {A : Type 0} (xs : List A) (n : ℕ) (x : A) → length (slice_set xs n x) ≡ length xs
set_long [] n x = refl
set_long (y ∷ xs) zero x = refl
set_long (y ∷ xs) (suc n) x = ap (λ k. suc k) (set_long xs n x)

pub zeros_open : (many k : ℕ) → entry (replicate many 0) k ≡ 0
zeros_open zero k = refl
zeros_open (suc many) zero = refl
zeros_open (suc many) (suc k) = zeros_open many k

-- ---- a walk over cells

pub walk_none : (row : List ℕ) (at end : ℕ) → AreSteps row → Walked row row at at end
walk_none row at end steps = record {
  long = refl;
  before = λ k l. refl;
  behind = λ k l. refl;
  covered = λ k l m. absurd (omega (arith, l, m));
  steps = λ k j l m e. absurd (let some = steps k j l m in omega (arith, some, e));
}

-- the next step, which is as long as is known, or one cell that was not covered
pub walk_more : (old new : List ℕ) (at i next end x : ℕ) → AreSteps old → Walked old new at i end → at ≤ i → i < next → next ≤ end → end ≤ length old → 1 ≤ x →
    ((j : ℕ) → i < j → j < next → j < i + entry new i) → ((j : ℕ) → end ≤ j → j < i + x → j < i + entry new i) → Walked old (slice_set new i x) at next end
walk_more old new at i next end x are w l m e within some step long = record {
  long = set_long new i x ∙ w.long;
  before = λ k b. elsewhere new i k x (λ s. omega (arith, s, b, l)) ∙ w.before k b;
  behind = λ k b. elsewhere new i k x (λ s. omega (arith, s, b, m)) ∙ w.behind k (omega (arith, m, b));
  covered = covered_by;
  steps = steps_by;
}
  where
    there : i < length new
    there = omega (arith, m, e, within, w.long)

    same : entry new i ≡ entry old i
    same = w.behind i (omega arith)

    -- what the old step covers is covered
    passed : (j : ℕ) → i < j → j < i + entry new i → 1 ≤ entry new j
    passed j a b = let is = are i j (omega (arith, a)) (omega (arith, b, same)) in let like = w.behind j (omega (arith, a)) in omega (arith, is, like)

    covered_by : (k : ℕ) → at ≤ k → k < next → 1 ≤ entry (slice_set new i x) k
    covered_by k a b = by (cases_order k i)
      where
        by : (k ≡ i) ⊎ ((k < i) ⊎ (i < k)) → 1 ≤ entry (slice_set new i x) k
        by (inl s) = let is = here new i k x there s in omega (arith, is, some)
        by (inr (inl s)) = let is = elsewhere new i k x (λ t. omega (arith, s, t)) in let so = w.covered k a s in omega (arith, is, so)
        by (inr (inr s)) = let is = elsewhere new i k x (λ t. omega (arith, s, t)) in let so = passed k s (step k s b) in omega (arith, is, so)

    -- a cell that is not covered yet
    left : (j : ℕ) → i < j → entry new j ≡ 0 → (j < i + entry new i → ⊥)
    left j a z b = let so = passed j a b in omega (arith, so, z)

    ahead : (j : ℕ) → i ≤ j → entry (slice_set new i x) j ≡ 0 → (i < j) × (entry new j ≡ 0)
    ahead j a z = by (cases_order j i)
      where
        by : (j ≡ i) ⊎ ((j < i) ⊎ (i < j)) → (i < j) × (entry new j ≡ 0)
        by (inl s) = absurd (let is = here new i j x there s in omega (arith, is, some, z))
        by (inr (inl s)) = absurd (omega (arith, s, a))
        by (inr (inr s)) = (s, sym (elsewhere new i j x (λ t. omega (arith, s, t))) ∙ z)

    beyond : (j : ℕ) → i < j → entry new j ≡ 0 → next ≤ j
    beyond j a z = by (cases_order j next)
      where
        by : (j ≡ next) ⊎ ((j < next) ⊎ (next < j)) → next ≤ j
        by (inl s) = omega (arith, s)
        by (inr (inl s)) = absurd (left j a z (step j a s))
        by (inr (inr s)) = omega (arith, s)

    before_end : (j : ℕ) → i < j → entry new j ≡ 0 → j < i + x → j < end
    before_end j a z b = by (cases_order j end)
      where
        by : (j ≡ end) ⊎ ((j < end) ⊎ (end < j)) → j < end
        by (inl s) = absurd (left j a z (long j (omega (arith, s)) b))
        by (inr (inl s)) = s
        by (inr (inr s)) = absurd (left j a z (long j (omega (arith, s)) b))

    steps_by : (k j : ℕ) → k ≤ j → j < k + entry (slice_set new i x) k → entry (slice_set new i x) j ≡ 0 → (next ≤ j) × (j < end)
    steps_by k j a b z = by (cases_order k i)
      where
        other : k ≢ i → (next ≤ j) × (j < end)
        other d =
            let is = elsewhere new i k x d in
            by_entry (cases_order j i)
          where
            reaches : j < k + entry new k
            reaches = let is = elsewhere new i k x d in omega (arith, is, b)

            by_entry : (j ≡ i) ⊎ ((j < i) ⊎ (i < j)) → (next ≤ j) × (j < end)
            by_entry (inl s) = absurd (let is = here new i j x there s in omega (arith, is, some, z))
            by_entry (inr (inl s)) =
                absurd (let so = w.steps k j a reaches (sym (elsewhere new i j x (λ t. omega (arith, s, t))) ∙ z) in omega (arith, so.0, s))
            by_entry (inr (inr s)) =
                let none = sym (elsewhere new i j x (λ t. omega (arith, s, t))) ∙ z in
                (beyond j s none, (w.steps k j a reaches none).1)

        by : (k ≡ i) ⊎ ((k < i) ⊎ (i < k)) → (next ≤ j) × (j < end)
        by (inl s) =
            let so = ahead j (omega (arith, s, a)) z in
            let is = here new i k x there s in
            (beyond j so.0 so.1, before_end j so.0 so.1 (omega (arith, s, is, b)))
        by (inr (inl s)) = other (λ t. omega (arith, s, t))
        by (inr (inr s)) = other (λ t. omega (arith, s, t))

-- at its end
pub walk_steps : (old new : List ℕ) (at end : ℕ) → Walked old new at end end → AreSteps new
walk_steps old new at end w k j l m = by (cases_order (entry new j) 0)
  where
    by : (entry new j ≡ 0) ⊎ ((entry new j < 0) ⊎ (0 < entry new j)) → 1 ≤ entry new j
    by (inl z) = absurd (let so = w.steps k j l m z in omega (arith, so.0, so.1))
    by (inr (inl z)) = absurd (omega (arith, z))
    by (inr (inr z)) = omega (arith, z)

-- ---- how many cells are not covered

one_covered : (x : ℕ) → 1 ≤ x → one_if_zero x ≡ 0
one_covered zero l = absurd (omega (arith, l))
one_covered (suc x) l = refl

zero_is_one : (x : ℕ) → x ≡ 0 → one_if_zero x ≡ 1
zero_is_one zero e = refl
zero_is_one (suc x) e = absurd (omega (arith, e))

pub cover_new : (row : List ℕ) (i x : ℕ) → i < length row → entry row i ≡ 0 → 1 ≤ x → uncovered (slice_set row i x) + 1 ≡ uncovered row
cover_new row i x l e some =
    let put = sum_by-set one_if_zero row i x 0 l in
    omega (arith, put, zero_is_one (entry row i) e, one_covered x some)

pub cover_again : (row : List ℕ) (i x : ℕ) → i < length row → 1 ≤ entry row i → 1 ≤ x → uncovered (slice_set row i x) ≡ uncovered row
cover_again row i x l e some =
    let put = sum_by-set one_if_zero row i x 0 l in
    omega (arith, put, one_covered (entry row i) e, one_covered x some)
