-- What is found among positions in the order of their values.
use Rattle.std.proofs.Common.{◌≡◌, ℕ, ◌+◌, ◌-◌, ◌<◌, ◌≤◌, Bool, true, false, cond, if◌then◌else◌, List, length, take, slice_index, Option, Some, None, refl, sym, ap, subst, ◌∙◌, inl, inr, ◌⊎◌, arith}
use Rattle.std.proofs.lemmas.Bool.{false≢true, cases_lt, lt-ltb, ltb-true}
use Rattle.std.proofs.lemmas.List.{take_all}
use Rattle.mu_values.specs.declared.scalars.Scalar.{Scalar}
use Rattle.mu_values.specs.SameScalar.{same_scalar}
use Rattle.mu_values.specs.ScalarLaws.{same_scalar-refl, same_scalar-true}
use Rattle.write_history.specs.ScalarOrder.{is_lower}
use Rattle.write_history.specs.ByValue.{value_in, ComesBefore, IsRun}
use Rattle.write_history.specs.Occurrences.{occurrences, IsOther}
use Rattle.write_history.specs.Searching.{measure, passes, LastIn, IsCut}
use Rattle.write_history.specs.declared.finding.Sought.{Sought}
use Rattle.write_history.proofs.ScalarOrder.{lower-trans, lower-not, lower-one}
use Rattle.write_history.proofs.Occurring.{occurrences-take, occurrences-within, occurrences-few, occurrences-between, occurrences-here}

pub scalar-cases : (a b : Scalar) → ((a ≡ b) × (same_scalar a b ≡ true)) ⊎ ((a ≡ b → ⊥) × (same_scalar a b ≡ false))
scalar-cases a b = by (same_scalar a b) refl
  where
    by : (c : Bool) → same_scalar a b ≡ c → ((a ≡ b) × (same_scalar a b ≡ true)) ⊎ ((a ≡ b → ⊥) × (same_scalar a b ≡ false))
    by true q = inl (same_scalar-true a b q, q)
    by false q = inr (λ e. false≢true (sym q ∙ (ap (λ (x : Scalar). same_scalar x b) e ∙ same_scalar-refl b)), q)

-- the measure rises from one position of a value to the next
measure-rises : (others : Bool) (values : List Scalar) (p q : ℕ) → p ≤ q → q < length values → value_in values p ≡ value_in values q → measure others values p ≤ measure others values q
measure-rises false values p q l m e = l
measure-rises true values p q l m e =
    let w = occurrences-within (value_in values p) values p q l (omega arith) in
    let f = occurrences-few (value_in values q) values q (omega arith) in
    let c : occurrences (value_in values p) (take q values) ≡ occurrences (value_in values q) (take q values) = ap (λ (v : Scalar). occurrences v (take q values)) e in
    omega (arith, w, f, c, l)

module _ (values : List Scalar) (sought : Sought) where
  abbrev passed : ℕ → Type 0
  passed q = ((value_in values q ≡ sought.value) × (measure sought.others values q < sought.limit)) ⊎ (is_lower (value_in values q) sought.value ≡ true)

  passes-is : (q : ℕ) → passes values sought q ≡ true → passed q
  passes-is q h = elim (scalar-cases (value_in values q) sought.value) [
    | inl s ↦ inl (s.0, ltb-true _ _ (rw s.1 at h))
    | inr n ↦ inr (rw n.1 at h)
  ]

  is-passes : (q : ℕ) → passed q → passes values sought q ≡ true
  is-passes q (inl (e, l)) = elim (scalar-cases (value_in values q) sought.value) [ inl s ↦ rw s.1 (lt-ltb _ _ l) | inr n ↦ absurd (n.0 e) ]
  is-passes q (inr l) = elim (scalar-cases (value_in values q) sought.value) [
    | inl s ↦ absurd (lower-not sought.value (subst (λ x. is_lower x sought.value ≡ true) s.0 l))
    | inr n ↦ rw n.1 l
  ]

  -- what comes before a position that is passed is passed
  passes-down : (p q : ℕ) → q < length values → ComesBefore values p q → passes values sought q ≡ true → passes values sought p ≡ true
  passes-down p q l c h = is-passes p (by c (passes-is q h))
    where
      by : ComesBefore values p q → passed q → passed p
      by (inl a) (inl (e, m)) = inr (subst (λ x. is_lower (value_in values p) x ≡ true) e a)
      by (inl a) (inr b) = inr (lower-trans (value_in values p) (value_in values q) sought.value a b)
      by (inr (e, m)) (inl (f, k)) = inl (e ∙ f, (let r = measure-rises sought.others values p q (omega arith) l e in omega (arith, r, k)))
      by (inr (e, m)) (inr b) = inr (subst (λ x. is_lower x sought.value ≡ true) (sym e) b)

  -- a position of the value that is not passed is not below the limit
  not-passed : (q : ℕ) → passes values sought q ≡ false → value_in values q ≡ sought.value → sought.limit ≤ measure sought.others values q
  not-passed q h e = elim (cases_lt (measure sought.others values q) sought.limit) [
    | inl l ↦ absurd (false≢true (sym h ∙ is-passes q (inl (e, l))))
    | inr l ↦ l
  ]

  module _ (order : List ℕ) (start end : ℕ) (run : IsRun values order start end) (few : end ≤ length values) where
    -- the places before one that is passed are passed, and those after one that is not are not
    pub passed-down : (i j : ℕ) → start ≤ i → i ≤ j → j < end → passes values sought (slice_index order j) ≡ true → passes values sought (slice_index order i) ≡ true
    passed-down i j a b c h = elim (cases_lt i j) [
      | inl l ↦ passes-down (slice_index order i) (slice_index order j) (let w = (run.within j (omega arith) c).1 in omega (arith, w, few)) (run.ordered i j a l c) h
      | inr l ↦ (let e : j ≡ i = omega (arith, b, l) in subst (λ k. passes values sought (slice_index order k) ≡ true) e h)
    ]

    pub not-passed-up : (i j : ℕ) → start ≤ i → i ≤ j → j < end → passes values sought (slice_index order i) ≡ false → passes values sought (slice_index order j) ≡ false
    not-passed-up i j a b c h = by (passes values sought (slice_index order j)) refl
      where
        by : (r : Bool) → passes values sought (slice_index order j) ≡ r → passes values sought (slice_index order j) ≡ false
        by true q = absurd (false≢true (sym h ∙ passed-down i j a b c q))
        by false q = q

    -- the whole run is passed
    pub cut-all : start < end → passes values sought (slice_index order (end - 1)) ≡ true → IsCut values order sought start end end
    cut-all l h = record { from = omega arith; to = omega arith; below = λ i a b. passed-down i (end - 1) a (omega arith) (omega arith) h; above = λ i a b. absurd (omega arith) }

    -- nothing is passed
    pub none-passed : (cut : ℕ) → IsCut values order sought start end cut → cut ≡ start → LastIn values sought start end None
    none-passed cut c e q a b v = let f = run.all q a b in let g = f.1 in let m = f.2 in
        subst (λ k. sought.limit ≤ measure sought.others values k) f.3 (not-passed (slice_index order f.0) (c.above f.0 (omega (arith, e, g)) m) (ap (value_in values) f.3 ∙ v))

    -- the last place that is passed has the position that is sought, if it has the value
    pub last-passed : (cut : ℕ) → IsCut values order sought start end cut → start < cut
        → LastIn values sought start end (if same_scalar (value_in values (slice_index order (cut - 1))) sought.value then Some (slice_index order (cut - 1)) else None)
    last-passed cut c l = elim (scalar-cases (value_in values p) sought.value) [
      | inl s ↦ subst (λ b. LastIn values sought start end (cond b (Some p) None)) (sym s.1) (w.0, w.1, s.0, below s.0, later s.0)
      | inr n ↦ subst (λ b. LastIn values sought start end (cond b (Some p) None)) (sym n.1) (none n.0)
    ]
      where
        p : ℕ
        p = slice_index order (cut - 1)

        to : cut ≤ end
        to = c.to

        w : (start ≤ p) × (p < end)
        w = run.within (cut - 1) (omega arith) (omega (arith, l, to))

        is : passes values sought p ≡ true
        is = c.below (cut - 1) (omega arith) (omega arith)

        below : value_in values p ≡ sought.value → measure sought.others values p < sought.limit
        below e = elim (passes-is p is) [
          | inl m ↦ m.1
          | inr m ↦ absurd (lower-not sought.value (subst (λ x. is_lower x sought.value ≡ true) e m))
        ]

        later : value_in values p ≡ sought.value → (q : ℕ) → p < q → q < end → value_in values q ≡ sought.value → sought.limit ≤ measure sought.others values q
        later e q m b v = let f = run.all q (let x = w.0 in omega (arith, x, m)) b in by f.0 f.1 f.2 f.3 (cases_lt f.0 cut)
          where
            by : (i : ℕ) → start ≤ i → i < end → slice_index order i ≡ q → (i < cut) ⊎ (cut ≤ i) → sought.limit ≤ measure sought.others values q
            by i a b is (inr o) = subst (λ k. sought.limit ≤ measure sought.others values k) is (not-passed (slice_index order i) (c.above i o b) (ap (value_in values) is ∙ v))
            by i a b is (inl o) = elim (cases_lt i (cut - 1)) [
              | inr r ↦ (let s : i ≡ cut - 1 = omega (arith, o, r) in let t : q ≡ p = sym is ∙ ap (λ (k : ℕ). slice_index order k) s in absurd (omega (arith, t, m)))
              | inl r ↦ absurd (no (subst (λ k. ComesBefore values k p) is (run.ordered i (cut - 1) a r (omega (arith, l, to)))))
            ]
              where
                no : ComesBefore values q p → ⊥
                no (inl x) = lower-not sought.value (subst (λ y. is_lower y sought.value ≡ true) v (subst (λ y. is_lower (value_in values q) y ≡ true) e x))
                no (inr (x, y)) = omega (arith, y, m)

        none : (value_in values p ≡ sought.value → ⊥) → (q : ℕ) → start ≤ q → q < end → value_in values q ≡ sought.value → sought.limit ≤ measure sought.others values q
        none n q a b v = let f = run.all q a b in by f.0 f.1 f.2 f.3 (cases_lt f.0 cut)
          where
            lower : is_lower (value_in values p) sought.value ≡ true
            lower = elim (passes-is p is) [ inl m ↦ absurd (n m.0) | inr m ↦ m ]

            by : (i : ℕ) → start ≤ i → i < end → slice_index order i ≡ q → (i < cut) ⊎ (cut ≤ i) → sought.limit ≤ measure sought.others values q
            by i a b is (inr o) = subst (λ k. sought.limit ≤ measure sought.others values k) is (not-passed (slice_index order i) (c.above i o b) (ap (value_in values) is ∙ v))
            by i a b is (inl o) = elim (cases_lt i (cut - 1)) [
              | inr r ↦ (let s : i ≡ cut - 1 = omega (arith, o, r) in let t : q ≡ p = sym is ∙ ap (λ (k : ℕ). slice_index order k) s in absurd (n (ap (value_in values) (sym t) ∙ v)))
              | inl r ↦ absurd (no (subst (λ k. ComesBefore values k p) is (run.ordered i (cut - 1) a r (omega (arith, l, to)))))
            ]
              where
                no : ComesBefore values q p → ⊥
                no (inl x) = lower-one sought.value (value_in values p) (subst (λ y. is_lower y (value_in values p) ≡ true) v x) lower
                no (inr (x, y)) = n (sym x ∙ v)

  -- what was found among newer positions, or else among older ones
  pub last-newer : (older start end p : ℕ) → older ≤ start → LastIn values sought start end (Some p) → LastIn values sought older end (Some p)
  last-newer older start end p l h = ((let x = h.0 in omega (arith, x, l)), h.1, h.2, h.3, h.4)

  pub last-older : (start middle end : ℕ) (r : Option ℕ) → middle ≤ end → LastIn values sought middle end None → LastIn values sought start middle r → LastIn values sought start end r
  last-older start middle end None l newer older = λ q a b v. elim (cases_lt q middle) [ inl o ↦ older q a o v | inr o ↦ newer q o b v ]
  last-older start middle end (Some p) l newer older = (older.0, (let x = older.1 in omega (arith, x, l)), older.2, older.3, λ q m b v. elim (cases_lt q middle) [ inl o ↦ older.4 q m o v | inr o ↦ newer q o b v ])

-- the positions below one that have the value, by the last of them
pub counted-none : (values : List Scalar) (value : Scalar) (position : ℕ) → LastIn values (record { value = value; limit = position; others = false }) 0 (length values) None → 0 ≡ occurrences value (take position values)
counted-none values value position h = sym (occurrences-between value values 0 position (omega arith) (λ q a b c e. (let x = h q a c e in omega (arith, x, b))))

pub counted-some : (values : List Scalar) (value : Scalar) (position p : ℕ) → LastIn values (record { value = value; limit = position; others = false }) 0 (length values) (Some p)
    → occurrences (value_in values p) (take p values) + 1 ≡ occurrences value (take position values)
counted-some values value position p h =
    ap (λ (v : Scalar). occurrences v (take p values) + 1) h.2
    ∙ (sym (occurrences-here value values p h.1 h.2)
    ∙ sym (occurrences-between value values (p + 1) position (let x = h.3 in omega (arith, x)) (λ q a b c e. (let x = h.4 q (omega (arith, a)) c e in omega (arith, x, b)))))

-- the position of another value below which so many have another value
module _ (values : List Scalar) (value : Scalar) (below : ℕ) (there : below + occurrences value values < length values) where
  -- from a position on, up to which so many have the value
  other : (from count : ℕ) → from ≤ length values → from ≤ below + count → count ≡ occurrences value (take from values) → ((q : ℕ) → from ≤ q → q < length values → value_in values q ≡ value → below + 1 ≤ measure true values q) → IsOther value values below (below + count)
  other from count f l c h = record {
    there = in_range;
    differs = elim (scalar-cases (value_in values x) value) [ inl s ↦ absurd (none x l (omega arith) in_range s.0) | inr n ↦ n.1 ];
    counted = ap (λ (k : ℕ). below + k) (c ∙ sym (occurrences-between value values from x l (λ q a b d e. none q a (omega arith) d e)));
  }
    where
      x : ℕ
      x = below + count

      none : (q : ℕ) → from ≤ q → q ≤ x → q < length values → value_in values q ≡ value → ⊥
      none q a b d e =
          let m = h q a d e in
          let o : occurrences (value_in values q) (take q values) ≡ occurrences value (take q values) = ap (λ (v : Scalar). occurrences v (take q values)) e in
          let t = occurrences-take value values from q a in
          omega (arith, m, o, t, c, b)

      in_range : x < length values
      in_range = elim (cases_lt x (length values)) [
        | inl o ↦ o
        | inr o ↦ (
            let s = occurrences-between value values from (length values) f (λ q a b d e. none q a (omega (arith, b, o)) d e) in
            let t : occurrences value (take (length values) values) ≡ occurrences value values = ap (occurrences value) (take_all (length values) values (omega arith)) in
            absurd (omega (arith, s, t, c, there, o)))
      ]

  pub other-none : LastIn values (record { value = value; limit = below + 1; others = true }) 0 (length values) None → IsOther value values below below
  other-none h = subst (λ k. IsOther value values below k) (omega arith) (other 0 0 (omega arith) (omega arith) refl h)

  pub other-some : (p : ℕ) → LastIn values (record { value = value; limit = below + 1; others = true }) 0 (length values) (Some p) → IsOther value values below (below + (occurrences (value_in values p) (take p values) + 1))
  other-some p h =
      let e : occurrences (value_in values p) (take p values) ≡ occurrences value (take p values) = ap (λ (v : Scalar). occurrences v (take p values)) h.2 in
      let c = occurrences-here value values p h.1 h.2 in
      let m = h.3 in
      other (p + 1) (occurrences (value_in values p) (take p values) + 1) (let x = h.1 in omega (arith, x)) (omega (arith, m)) (e2 e ∙ sym c) (λ q a d v. h.4 q (omega arith) d v)
    where
      e2 : occurrences (value_in values p) (take p values) ≡ occurrences value (take p values) → occurrences (value_in values p) (take p values) + 1 ≡ occurrences value (take p values) + 1
      e2 e = ap (λ (k : ℕ). k + 1) e
