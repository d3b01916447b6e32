-- Two runs merged into one.
use Rattle.std.proofs.Common.{◌≡◌, ℕ, suc, ◌+◌, ◌-◌, ◌<◌, ◌≤◌, Bool, true, false, not, List, [], ◌∷◌, ◌++◌, length, length-append, take, slice_index, refl, sym, ap, subst, ◌∙◌, inl, inr, arith}
use Rattle.std.proofs.lemmas.Bool.{false≢true, cases_eq, cases_lt, eq-eqb, ne_eqb}
use Rattle.std.proofs.lemmas.List.{get_or_append_left, get_or-append_right, get_or_at, get_or-take, length-take-le}
use Rattle.mu_values.specs.declared.scalars.Scalar.{Scalar}
use Rattle.write_history.specs.ScalarOrder.{is_lower}
use Rattle.write_history.specs.ByValue.{value_in, ComesBefore, IsRun, next_is_older}
use Rattle.write_history.specs.Merging.{Interleaves}
use Rattle.write_history.proofs.ScalarOrder.{lower-trans, lower-not, lower-cases}

pub comes-trans : (values : List Scalar) (p q r : ℕ) → ComesBefore values p q → ComesBefore values q r → ComesBefore values p r
comes-trans values p q r (inl l) (inl m) = inl (lower-trans (value_in values p) (value_in values q) (value_in values r) l m)
comes-trans values p q r (inl l) (inr (e, m)) = inl (subst (λ x. is_lower (value_in values p) x ≡ true) e l)
comes-trans values p q r (inr (e, l)) (inl m) = inl (subst (λ x. is_lower x (value_in values r) ≡ true) (sym e) m)
comes-trans values p q r (inr (e, l)) (inr (f, m)) = inr (e ∙ f, omega arith)

pub comes-one : (values : List Scalar) (p q : ℕ) → ComesBefore values p q → ComesBefore values q p → ⊥
comes-one values p q a b = same (comes-trans values p q p a b)
  where
    same : ComesBefore values p p → ⊥
    same (inl l) = lower-not (value_in values p) l
    same (inr (e, l)) = omega arith

-- an earlier position comes before a later one whose value is not lower
comes-earlier : (values : List Scalar) (p q : ℕ) → p < q → is_lower (value_in values q) (value_in values p) ≡ false → ComesBefore values p q
comes-earlier values p q l h = elim (lower-cases (value_in values p) (value_in values q) h) [ inl a ↦ inl a | inr e ↦ inr (e, l) ]

-- a list with one more item
pub pushed-old : (xs : List ℕ) (x i : ℕ) → i < length xs → slice_index (xs ++ x ∷ []) i ≡ slice_index xs i
pushed-old xs x i l = get_or_append_left xs (x ∷ []) 0 i l

pub pushed-new : (xs : List ℕ) (x i : ℕ) → i ≡ length xs → slice_index (xs ++ x ∷ []) i ≡ x
pushed-new xs x i e = get_or_at xs x [] 0 i (sym e)

at-same : (values : List Scalar) (p q p' q' : ℕ) → p ≡ p' → q ≡ q' → ComesBefore values p' q' → ComesBefore values p q
at-same values p q p' q' e f h = subst (λ k. ComesBefore values k q) (sym e) (subst (λ k. ComesBefore values p' k) (sym f) h)

pub interleaved-none : (values : List Scalar) (order : List ℕ) (start middle : ℕ) → start ≤ middle → middle ≤ length order → Interleaves values order start middle start middle []
interleaved-none values order start middle l m = record {
  left_from = omega arith;
  left_to = l;
  right_from = omega arith;
  right_to = m;
  count = omega arith;
  ordered = λ i j a b. absurd (omega arith);
  ahead_left = λ i k a b c. absurd (omega arith);
  ahead_right = λ i k a b c. absurd (omega arith);
  within = λ i a. absurd (omega arith);
  all_left = λ k a b. absurd (omega arith);
  all_right = λ k a b. absurd (omega arith);
}

module _ (values : List Scalar) (order : List ℕ) (start middle left right : ℕ) (merged : List ℕ)
    (h : Interleaves values order start middle left right merged) (older : IsRun values order start middle) (newer : IsRun values order middle (length order)) where
  -- one more position, which comes before all that is left
  more : (x left' right' : ℕ) → left ≤ left' → left' ≤ middle → right ≤ right' → right' ≤ length order → left' + right' ≡ suc (left + right)
      → ((i : ℕ) → i < length merged → ComesBefore values (slice_index merged i) x)
      → ((k : ℕ) → left' ≤ k → k < middle → ComesBefore values x (slice_index order k))
      → ((k : ℕ) → right' ≤ k → k < length order → ComesBefore values x (slice_index order k))
      → (start ≤ x) × (x < length order)
      → ((k : ℕ) → left ≤ k → k < left' → x ≡ slice_index order k)
      → ((k : ℕ) → right ≤ k → k < right' → x ≡ slice_index order k)
      → Interleaves values order start middle left' right' (merged ++ x ∷ [])
  more x left' right' l lm r rm s behind before_left before_right range new_left new_right =
      let n : length (merged ++ x ∷ []) ≡ length merged + 1 = length-append merged (x ∷ []) in
      let here : slice_index (merged ++ x ∷ []) (length merged) ≡ x = pushed-new merged x (length merged) refl in
      let a = h.left_from in let b = h.right_from in let c = h.count in
      record {
        left_from = omega arith;
        left_to = lm;
        right_from = omega arith;
        right_to = rm;
        count = omega (arith, n, c, s);
        ordered = λ i j m w. elim (cases_lt j (length merged)) [
          | inl o ↦ at-same values _ _ _ _ (pushed-old merged x i (omega (arith, m, o))) (pushed-old merged x j o) (h.ordered i j m o)
          | inr o ↦ at-same values _ _ _ _ (pushed-old merged x i (omega (arith, m, w, n))) (pushed-new merged x j (omega (arith, o, w, n))) (behind i (omega (arith, m, w, n)))
        ];
        ahead_left = λ i k m v w. elim (cases_lt i (length merged)) [
          | inl o ↦ at-same values _ _ _ _ (pushed-old merged x i o) refl (h.ahead_left i k o (omega (arith, l, v)) w)
          | inr o ↦ at-same values _ _ _ _ (pushed-new merged x i (omega (arith, o, m, n))) refl (before_left k v w)
        ];
        ahead_right = λ i k m v w. elim (cases_lt i (length merged)) [
          | inl o ↦ at-same values _ _ _ _ (pushed-old merged x i o) refl (h.ahead_right i k o (omega (arith, r, v)) w)
          | inr o ↦ at-same values _ _ _ _ (pushed-new merged x i (omega (arith, o, m, n))) refl (before_right k v w)
        ];
        within = λ i m. elim (cases_lt i (length merged)) [
          | inl o ↦ subst (λ k. (start ≤ k) × (k < length order)) (sym (pushed-old merged x i o)) (h.within i o)
          | inr o ↦ subst (λ k. (start ≤ k) × (k < length order)) (sym (pushed-new merged x i (omega (arith, o, m, n)))) range
        ];
        all_left = λ k v w. elim (cases_lt k left) [
          | inl o ↦ (let f = h.all_left k v o in (f.0, (let g = f.1 in omega (arith, g, n)), pushed-old merged x f.0 f.1 ∙ f.2))
          | inr o ↦ (length merged, omega (arith, n), here ∙ new_left k o w)
        ];
        all_right = λ k v w. elim (cases_lt k right) [
          | inl o ↦ (let f = h.all_right k v o in (f.0, (let g = f.1 in omega (arith, g, n)), pushed-old merged x f.0 f.1 ∙ f.2))
          | inr o ↦ (length merged, omega (arith, n), here ∙ new_right k o w)
        ];
      }

  -- the next of the older run is taken
  pub taken-older : left < middle → ((right < length order) → is_lower (value_in values (slice_index order right)) (value_in values (slice_index order left)) ≡ false)
      → Interleaves values order start middle (left + 1) right (merged ++ slice_index order left ∷ [])
  taken-older l first =
      let a = h.left_from in let b = h.right_from in let c = h.right_to in
      let w = older.within left a l in
      more (slice_index order left) (left + 1) right (omega arith) (omega arith) (omega arith) c (omega arith)
      (λ i m. h.ahead_left i left m (omega arith) l)
      (λ k v u. older.ordered left k a (omega arith) u)
      (λ k v u. ahead k v u)
      (w.0, (let x = w.1 in omega (arith, x, b, c)))
      (λ k v u. ap (λ (j : ℕ). slice_index order j) (omega arith))
      (λ k v u. absurd (omega arith))
    where
      ahead : (k : ℕ) → right ≤ k → k < length order → ComesBefore values (slice_index order left) (slice_index order k)
      ahead k v u =
          let b = h.right_from in
          let w = (older.within left h.left_from l).1 in
          let z = (newer.within right b (omega arith)).0 in
          let next = comes-earlier values (slice_index order left) (slice_index order right) (omega (arith, w, z)) (first (omega arith)) in
          elim (cases_lt right k) [
            | inl o ↦ comes-trans values _ _ _ next (newer.ordered right k b o u)
            | inr o ↦ subst (λ j. ComesBefore values (slice_index order left) (slice_index order j)) (omega arith) next
          ]

  -- the next of the newer run is taken
  pub taken-newer : right < length order → ((left < middle) → is_lower (value_in values (slice_index order right)) (value_in values (slice_index order left)) ≡ true)
      → Interleaves values order start middle left (right + 1) (merged ++ slice_index order right ∷ [])
  taken-newer l first =
      let a = h.left_from in let b = h.right_from in let c = h.left_to in
      let w = newer.within right b l in
      more (slice_index order right) left (right + 1) (omega arith) c (omega arith) (omega arith) (omega arith)
      (λ i m. h.ahead_right i right m (omega arith) l)
      (λ k v u. ahead k v u)
      (λ k v u. newer.ordered right k b (omega arith) u)
      ((let x = w.0 in omega (arith, x, a, c)), w.1)
      (λ k v u. absurd (omega arith))
      (λ k v u. ap (λ (j : ℕ). slice_index order j) (omega arith))
    where
      ahead : (k : ℕ) → left ≤ k → k < middle → ComesBefore values (slice_index order right) (slice_index order k)
      ahead k v u =
          let next : ComesBefore values (slice_index order right) (slice_index order left) = inl (first (omega arith)) in
          elim (cases_lt left k) [
            | inl o ↦ comes-trans values _ _ _ next (older.ordered left k h.left_from o u)
            | inr o ↦ subst (λ j. ComesBefore values (slice_index order right) (slice_index order j)) (omega arith) next
          ]

pub not-true : (b : Bool) → not b ≡ true → b ≡ false
not-true true q = absurd (false≢true q)
not-true false q = refl

-- which of the two is next
pub next-older : (values : List Scalar) (order : List ℕ) (left middle right : ℕ) → left ≤ middle → right ≤ length order → next_is_older values order left middle right ≡ true
    → (left < middle) × ((right < length order) → is_lower (value_in values (slice_index order right)) (value_in values (slice_index order left)) ≡ false)
next-older values order left middle right l m h = elim (cases_eq left middle) [
  | inl e ↦ absurd (false≢true (rw (eq-eqb left middle e) at h))
  | inr n ↦ (omega (arith, n, l), λ r. not-true (is_lower (value_in values (slice_index order right)) (value_in values (slice_index order left))) (rw (ne_eqb left middle n, ne_eqb right (length order) (λ e. omega (arith, e, r))) at h))
]

pub next-newer : (values : List Scalar) (order : List ℕ) (left middle right : ℕ) → left ≤ middle → right ≤ length order → left + right < length order + middle → next_is_older values order left middle right ≡ false
    → (right < length order) × ((left < middle) → is_lower (value_in values (slice_index order right)) (value_in values (slice_index order left)) ≡ true)
next-newer values order left middle right l m s h = elim (cases_eq left middle) [
  | inl e ↦ (omega (arith, e, s), λ r. absurd (omega (arith, e, r)))
  | inr n ↦ elim (cases_eq right (length order)) [
    | inl e ↦ absurd (false≢true (sym (rw (ne_eqb left middle n, eq-eqb right (length order) e) at h)))
    | inr k ↦ (omega (arith, k, m), λ r. not-false (is_lower (value_in values (slice_index order right)) (value_in values (slice_index order left))) (rw (ne_eqb left middle n, ne_eqb right (length order) k) at h))
  ]
]
  where
    not-false : (b : Bool) → not b ≡ false → b ≡ true
    not-false true q = refl
    not-false false q = absurd (false≢true (sym q))

-- both are taken to the end
pub run-merged : (values : List Scalar) (order : List ℕ) (start middle : ℕ) (merged : List ℕ) → Interleaves values order start middle middle (length order) merged → IsRun values order start middle → IsRun values order middle (length order)
    → IsRun values (take start order ++ merged) start (length order)
run-merged values order start middle merged h older newer =
    record {
      ordered = λ i j a b c. at-same values _ _ _ _ (at i a) (at j (omega (arith, a, b))) (h.ordered (i - start) (j - start) (omega (arith, a, b)) (omega (arith, a, b, c, n, lm)));
      within = λ i a b. subst (λ k. (start ≤ k) × (k < length order)) (sym (at i a)) (h.within (i - start) (omega (arith, a, b, n, lm)));
      all = λ q a b. elim (cases_lt q middle) [
        | inl o ↦ (let f = older.all q a o in let g = h.all_left f.0 f.1 f.2 in placed q g.0 g.1 (g.2 ∙ f.3))
        | inr o ↦ (let f = newer.all q o b in let g = h.all_right f.0 f.1 f.2 in placed q g.0 g.1 (g.2 ∙ f.3))
      ];
    }
  where
    n : length merged + (start + middle) ≡ middle + length order
    n = h.count

    lm : start ≤ middle
    lm = h.left_from

    size : length (take start order) ≡ start
    size = let a = h.right_from in length-take-le start order (omega (arith, a, lm))

    at : (i : ℕ) → start ≤ i → slice_index (take start order ++ merged) i ≡ slice_index merged (i - start)
    at i a = get_or-append_right (take start order) merged start i 0 size a

    placed : (q i : ℕ) → i < length merged → slice_index merged i ≡ q → (k : ℕ) × (start ≤ k) × (k < length order) × (slice_index (take start order ++ merged) k ≡ q)
    placed q i a e = (start + i, omega arith, omega (arith, a, n), at (start + i) (omega arith) ∙ (ap (λ (j : ℕ). slice_index merged j) (omega arith) ∙ e))

pub merged-size : (values : List Scalar) (order : List ℕ) (start middle : ℕ) (merged : List ℕ) → Interleaves values order start middle middle (length order) merged → length (take start order ++ merged) ≡ length order
merged-size values order start middle merged h =
    let a = h.left_from in
    let b = h.right_to in
    let n = h.count in
    let r = h.right_from in
    let s = length-append (take start order) merged in
    let t = length-take-le start order (omega (arith, a, r)) in
    omega (arith, a, n, s, t)

-- what is in order already is one run
pub run-joined : (values : List Scalar) (order : List ℕ) (start middle end : ℕ) → start ≤ middle → middle ≤ end → IsRun values order start middle → IsRun values order middle end
    → (start < middle → middle < end → is_lower (value_in values (slice_index order middle)) (value_in values (slice_index order (middle - 1))) ≡ false) → IsRun values order start end
run-joined values order start middle end l m older newer between = record {
  ordered = λ i j a b c. elim (cases_lt j middle) [
    | inl o ↦ older.ordered i j a b o
    | inr o ↦ elim (cases_lt i middle) [
      | inr p ↦ newer.ordered i j p b c
      | inl p ↦ across i j a p o c
    ]
  ];
  within = λ i a b. elim (cases_lt i middle) [
    | inl o ↦ (let w = older.within i a o in (w.0, (let x = w.1 in omega (arith, x, m))))
    | inr o ↦ (let w = newer.within i o b in ((let x = w.0 in omega (arith, x, l)), w.1))
  ];
  all = λ q a b. elim (cases_lt q middle) [
    | inl o ↦ (let f = older.all q a o in (f.0, f.1, (let x = f.2 in omega (arith, x, m)), f.3))
    | inr o ↦ (let f = newer.all q o b in (f.0, (let x = f.1 in omega (arith, x, l)), f.2, f.3))
  ];
}
  where
    across : (i j : ℕ) → start ≤ i → i < middle → middle ≤ j → j < end → ComesBefore values (slice_index order i) (slice_index order j)
    across i j a p o c =
        let x = (older.within (middle - 1) (omega (arith, a, p)) (omega (arith, p))).1 in
        let y = (newer.within middle (omega arith) (omega (arith, o, c))).0 in
        let next = comes-earlier values (slice_index order (middle - 1)) (slice_index order middle) (omega (arith, x, y)) (between (omega (arith, a, p)) (omega (arith, o, c))) in
        let one : ComesBefore values (slice_index order i) (slice_index order middle) = elim (cases_lt i (middle - 1)) [
          | inl q ↦ comes-trans values _ _ _ (older.ordered i (middle - 1) a q (omega (arith, p))) next
          | inr q ↦ (let e : middle - 1 ≡ i = omega (arith, p, q) in subst (λ k. ComesBefore values (slice_index order k) (slice_index order middle)) e next)
        ] in
        elim (cases_lt middle j) [
          | inl q ↦ comes-trans values _ _ _ one (newer.ordered middle j (omega arith) q c)
          | inr q ↦ (let e : middle ≡ j = omega (arith, o, q) in subst (λ k. ComesBefore values (slice_index order i) (slice_index order k)) e one)
        ]

-- a run does not read the list elsewhere
pub run-kept : (values : List Scalar) (old new : List ℕ) (n start end : ℕ) → take n new ≡ take n old → end ≤ n → IsRun values old start end → IsRun values new start end
run-kept values old new n start end e l h = record {
  ordered = λ i j a b c. at-same values _ _ _ _ (at i (omega (arith, b, c, l))) (at j (omega (arith, c, l))) (h.ordered i j a b c);
  within = λ i a b. subst (λ k. (start ≤ k) × (k < end)) (sym (at i (omega (arith, b, l)))) (h.within i a b);
  all = λ q a b. (let f = h.all q a b in let g = f.2 in (f.0, f.1, f.2, at f.0 (omega (arith, g, l)) ∙ f.3));
}
  where
    at : (i : ℕ) → i < n → slice_index new i ≡ slice_index old i
    at i a = sym (get_or-take n new i 0 a) ∙ (ap (λ (xs : List ℕ). slice_index xs i) e ∙ get_or-take n old i 0 a)

-- a run of no positions
pub run-none : (values : List Scalar) (order : List ℕ) (n : ℕ) → IsRun values order n n
run-none values order n = record { ordered = λ i j a b c. absurd (omega arith); within = λ i a b. absurd (omega arith); all = λ q a b. absurd (omega arith) }
