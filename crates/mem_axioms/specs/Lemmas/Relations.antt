-- The axioms as relations.
use Rattle.std.proofs.Common.{◌≡◌, ℕ, ◌<◌, ◌≤◌, Bool, true, false, not, ◌&&◌, ◌||◌, eqb, ltb, List, Some, refl, sym, ◌∙◌, inl, inr, ◌⊎◌, ◌↔◌, arith}
use Rattle.std.proofs.lemmas.Bool.{false≢true, eq-eqb, eqb-true, cases_lt, or_cases, or_left, or_right, and_from, and_parts, ltb-true, lt-ltb}
use Rattle.mu_values.specs.declared.scalars.Scalar.{Scalar}
use Rattle.mu_values.specs.declared.cells.CellId.{CellId}
use Rattle.mem_axioms.specs.Events.{position_of, order_of, is_fence, is_read, is_seq_cst, on_one_cell}
use Rattle.mem_axioms.specs.Logs.{event_at, each_where}
use Rattle.mem_axioms.specs.HappensBefore.{happens_before}
use Rattle.mem_axioms.specs.Form.{has_form}
use Rattle.mem_axioms.specs.Axioms.{reads_older, is_coherent, is_seq_cst_ordered, meets_axioms, comes_first, is_or_fences, is_or_is_fenced, has_seq_cst, Coherent, SeqCstOrdered, MeetsAxioms}
use Rattle.mem_axioms.specs.Lemmas.Numbers.{each-at, each-from}
use Rattle.mem_axioms.specs.Lemmas.Least.{before-from, before-is}
use Rattle.mem_axioms.specs.declared.types.Event.{Event}
use Rattle.mem_axioms.specs.declared.types.Rule.{Rule}

implied : (a b : Bool) → (not a || b) ≡ true → a ≡ true → b ≡ true
implied true b h p = h
implied false b h p = absurd (false≢true p)

implies : (a b : Bool) → (a ≡ true → b ≡ true) → (not a || b) ≡ true
implies true b h = h refl
implies false b h = refl

absurd_not : (a : Bool) → not a ≡ true → a ≡ true → ⊥
absurd_not true h p = false≢true h
absurd_not false h p = false≢true p

not_from : (a : Bool) → (a ≡ true → ⊥) → not a ≡ true
not_from true h = absurd (h refl)
not_from false h = refl

pub where-at : (which test : ℕ → Event → Bool) (log : List Event) (i : ℕ) (e : Event) → each_where which test log ≡ true → event_at log i ≡ Some e → which i e ≡ true → test i e ≡ true
where-at which test log i e h at w = implied (which i e) (test i e) (each-at (λ i e. not (which i e) || test i e) log i e h at) w

pub where-from : (which test : ℕ → Event → Bool) (log : List Event) → ((i : ℕ) (e : Event) → event_at log i ≡ Some e → which i e ≡ true → test i e ≡ true) → each_where which test log ≡ true
where-from which test log h = each-from (λ i e. not (which i e) || test i e) log (λ i e at. implies (which i e) (test i e) (h i e at))

module _ (rule : Rule) where
  -- an access and a read that it happens before
  pub record Newer (log : List Event) (i j : ℕ) (ei ej : Event) : Type 0 where
    pub at_i : event_at log i ≡ Some ei
    pub at_j : event_at log j ≡ Some ej
    pub cell : on_one_cell ei ej ≡ true
    pub read : is_read ej ≡ true
    pub before : happens_before rule log i j ≡ true

  -- four events that the order of SEQ_CST speaks of
  pub record Linked (log : List Event) (a b x y : ℕ) (ea eb ex ey : Event) : Type 0 where
    pub at_a : event_at log a ≡ Some ea
    pub at_b : event_at log b ≡ Some eb
    pub at_x : event_at log x ≡ Some ex
    pub at_y : event_at log y ≡ Some ey
    pub seq_a : is_seq_cst (order_of ea) ≡ true
    pub seq_b : is_seq_cst (order_of eb) ≡ true
    pub first : comes_first ex ey ≡ true
    pub from : (a ≡ x) ⊎ ((is_fence ea ≡ true) × (happens_before rule log a x ≡ true))
    pub to : (b ≡ y) ⊎ ((is_fence eb ≡ true) × (happens_before rule log y b ≡ true))

  abbrev pub Coherence : List Event → Type 0
  Coherence log = (i j : ℕ) (ei ej : Event) → Newer log i j ei ej → position_of ei ≤ position_of ej

  abbrev pub InOrder : List Event → Type 0
  InOrder log = (a b x y : ℕ) (ea eb ex ey : Event) → Linked log a b x y ea eb ex ey → a < b

  pub coherence-is : (log : List Event) → is_coherent rule log ≡ true → Coherence log
  unfolding is_coherent
  coherence-is log h i j ei ej n = go (cases_lt (position_of ej) (position_of ei))
    where
      go : (position_of ej < position_of ei) ⊎ (position_of ei ≤ position_of ej) → position_of ei ≤ position_of ej
      go (inr p) = p
      go (inl p) =
          let q = each-at (λ j ej. each_where (λ i ei. reads_older ej ei) (λ i ei. not (happens_before rule log i j)) log) log j ej h n.at_j in
          let r = where-at (λ i ei. reads_older ej ei) (λ i ei. not (happens_before rule log i j)) log i ei q n.at_i
          (and_from (on_one_cell ei ej && is_read ej) (ltb (position_of ej) (position_of ei)) (and_from (on_one_cell ei ej) (is_read ej) n.cell n.read) (lt-ltb (position_of ej) (position_of ei) p)) in
          absurd (absurd_not (happens_before rule log i j) r n.before)

  pub coherence-from : (log : List Event) → Coherence log → is_coherent rule log ≡ true
  unfolding is_coherent
  coherence-from log h = each-from (λ j ej. each_where (λ i ei. reads_older ej ei) (λ i ei. not (happens_before rule log i j)) log) log (λ j ej at_j.
      where-from (λ i ei. reads_older ej ei) (λ i ei. not (happens_before rule log i j)) log (λ i ei at_i w.
      not_from (happens_before rule log i j) (λ b.
      let p = and_parts (on_one_cell ei ej && is_read ej) (ltb (position_of ej) (position_of ei)) w in
      let q = and_parts (on_one_cell ei ej) (is_read ej) p.0 in
      let l = ltb-true (position_of ej) (position_of ei) p.1 in
      let k = h i j ei ej (record { at_i = at_i; at_j = at_j; cell = q.0; read = q.1; before = b }) in omega (arith, l, k))))

  from_fence : (log : List Event) (a : ℕ) (ea : Event) (x : ℕ) → is_or_fences rule log a ea x ≡ true → (a ≡ x) ⊎ ((is_fence ea ≡ true) × (happens_before rule log a x ≡ true))
  from_fence log a ea x h = elim (or_cases (eqb a x) (is_fence ea && happens_before rule log a x) h) [ inl p ↦ inl (eqb-true a x p) | inr p ↦ inr (and_parts (is_fence ea) (happens_before rule log a x) p) ]

  to_fence : (log : List Event) (a : ℕ) (ea : Event) (x : ℕ) → (a ≡ x) ⊎ ((is_fence ea ≡ true) × (happens_before rule log a x ≡ true)) → is_or_fences rule log a ea x ≡ true
  to_fence log a ea x s = elim s [ inl p ↦ or_left (eqb a x) (is_fence ea && happens_before rule log a x) (eq-eqb a x p) | inr p ↦ or_right (eqb a x) (is_fence ea && happens_before rule log a x) (and_from (is_fence ea) (happens_before rule log a x) p.0 p.1) ]

  from_fenced : (log : List Event) (y b : ℕ) (eb : Event) → is_or_is_fenced rule log y b eb ≡ true → (b ≡ y) ⊎ ((is_fence eb ≡ true) × (happens_before rule log y b ≡ true))
  from_fenced log y b eb h = elim (or_cases (eqb b y) (is_fence eb && happens_before rule log y b) h) [ inl p ↦ inl (eqb-true b y p) | inr p ↦ inr (and_parts (is_fence eb) (happens_before rule log y b) p) ]

  to_fenced : (log : List Event) (y b : ℕ) (eb : Event) → (b ≡ y) ⊎ ((is_fence eb ≡ true) × (happens_before rule log y b ≡ true)) → is_or_is_fenced rule log y b eb ≡ true
  to_fenced log y b eb s = elim s [ inl p ↦ or_left (eqb b y) (is_fence eb && happens_before rule log y b) (eq-eqb b y p) | inr p ↦ or_right (eqb b y) (is_fence eb && happens_before rule log y b) (and_from (is_fence eb) (happens_before rule log y b) p.0 p.1) ]

  -- the tests that the order of SEQ_CST is made of, from the inside out
  test_y : (log : List Event) (b : ℕ) (eb : Event) (y : ℕ) (ey : Event) → Bool
  test_y log b eb y ey = not (is_or_is_fenced rule log y b eb)

  test_x : (log : List Event) (b : ℕ) (eb : Event) (x : ℕ) (ex : Event) → Bool
  test_x log b eb x ex = each_where (λ y ey. comes_first ex ey) (test_y log b eb) log

  test_b : (log : List Event) (a : ℕ) (ea : Event) (b : ℕ) (eb : Event) → Bool
  test_b log a ea b eb = each_where (λ x ex. is_or_fences rule log a ea x) (test_x log b eb) log

  test_a : (log : List Event) (a : ℕ) (ea : Event) → Bool
  test_a log a ea = each_where (λ b eb. has_seq_cst b eb && not (ltb a b)) (test_b log a ea) log

  order-tests : (log : List Event) → is_seq_cst_ordered rule log ≡ each_where has_seq_cst (test_a log) log
  unfolding is_seq_cst_ordered test_a test_b test_x test_y
  order-tests log = refl

  pub in_order-is : (log : List Event) → is_seq_cst_ordered rule log ≡ true → InOrder log
  unfolding test_a test_b test_x test_y
  in_order-is log h a b x y ea eb ex ey l = go (ltb a b) refl
    where
      go : (v : Bool) → ltb a b ≡ v → a < b
      go true p = ltb-true a b p
      go false p =
          let q = where-at has_seq_cst (test_a log) log a ea (sym (order-tests log) ∙ h) l.at_a l.seq_a in
          let r = where-at (λ b eb. has_seq_cst b eb && not (ltb a b)) (test_b log a ea) log b eb q l.at_b (and_from (has_seq_cst b eb) (not (ltb a b)) l.seq_b (rw p)) in
          let s = where-at (λ x ex. is_or_fences rule log a ea x) (test_x log b eb) log x ex r l.at_x (to_fence log a ea x l.from) in
          let t = where-at (λ y ey. comes_first ex ey) (test_y log b eb) log y ey s l.at_y l.first in
          absurd (absurd_not (is_or_is_fenced rule log y b eb) t (to_fenced log y b eb l.to))

  pub in_order-from : (log : List Event) → InOrder log → is_seq_cst_ordered rule log ≡ true
  unfolding test_a test_b test_x test_y
  in_order-from log h = order-tests log ∙
      where-from has_seq_cst (test_a log) log (λ a ea at_a sa.
      where-from (λ b eb. has_seq_cst b eb && not (ltb a b)) (test_b log a ea) log (λ b eb at_b sb.
      where-from (λ x ex. is_or_fences rule log a ea x) (test_x log b eb) log (λ x ex at_x fr.
      where-from (λ y ey. comes_first ex ey) (test_y log b eb) log (λ y ey at_y first.
      not_from (is_or_is_fenced rule log y b eb) (λ to.
      let s = and_parts (has_seq_cst b eb) (not (ltb a b)) sb in
      let l = h a b x y ea eb ex ey (record { at_a = at_a; at_b = at_b; at_x = at_x; at_y = at_y; seq_a = sa; seq_b = s.0; first = first; from = from_fence log a ea x fr; to = from_fenced log y b eb to }) in
      absurd_not (ltb a b) s.1 (lt-ltb a b l))))))

  -- the relations of specs/ speak of `Before` in place of the test
  pub coherent-iff : (log : List Event) → (is_coherent rule log ≡ true) ↔ Coherent rule log
  coherent-iff log = (
    λ h i j ei ej r. coherence-is log h i j ei ej (record { at_i = r.there_i; at_j = r.there_j; cell = r.cell; read = r.read; before = before-from rule log r.before }),
    λ h. coherence-from log (λ i j ei ej n. h i j ei ej (record { there_i = n.at_i; there_j = n.at_j; cell = n.cell; read = n.read; before = before-is rule log i j n.before })),
  )

  pub seq_cst_ordered-iff : (log : List Event) → (is_seq_cst_ordered rule log ≡ true) ↔ SeqCstOrdered rule log
  seq_cst_ordered-iff log = (
    λ h a b x y ea eb ex ey l. in_order-is log h a b x y ea eb ex ey (record {
      at_a = l.there_a;
      at_b = l.there_b;
      at_x = l.there_x;
      at_y = l.there_y;
      seq_a = l.seq_cst_a;
      seq_b = l.seq_cst_b;
      first = l.first;
      from = elim l.from [ inl p ↦ inl p | inr p ↦ inr (p.0, before-from rule log p.1) ];
      to = elim l.to [ inl p ↦ inl p | inr p ↦ inr (p.0, before-from rule log p.1) ];
    }),
    λ h. in_order-from log (λ a b x y ea eb ex ey l. h a b x y ea eb ex ey (record {
      there_a = l.at_a;
      there_b = l.at_b;
      there_x = l.at_x;
      there_y = l.at_y;
      seq_cst_a = l.seq_a;
      seq_cst_b = l.seq_b;
      first = l.first;
      from = elim l.from [ inl p ↦ inl p | inr p ↦ inr (p.0, before-is rule log a x p.1) ];
      to = elim l.to [ inl p ↦ inl p | inr p ↦ inr (p.0, before-is rule log y b p.1) ];
    })),
  )

  pub meets-iff : (initial : CellId → Scalar) (log : List Event) → (meets_axioms rule initial log ≡ true) ↔ MeetsAxioms rule initial log
  unfolding meets_axioms
  meets-iff initial log = (
    λ h.
        let p = and_parts (has_form initial log && is_coherent rule log) (is_seq_cst_ordered rule log) h in
        let q = and_parts (has_form initial log) (is_coherent rule log) p.0 in
        record { form = q.0; coherent = (coherent-iff log).0 q.1; seq_cst_ordered = (seq_cst_ordered-iff log).0 p.1 },
    λ m. and_from (has_form initial log && is_coherent rule log) (is_seq_cst_ordered rule log)
        (and_from (has_form initial log) (is_coherent rule log) m.form ((coherent-iff log).1 m.coherent)) ((seq_cst_ordered-iff log).1 m.seq_cst_ordered),
  )
