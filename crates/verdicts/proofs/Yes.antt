-- The verdict is Yes of exactly the logs without faults.
use Rattle.std.proofs.Common.{◌≡◌, ℕ, suc, ◌<◌, ◌≤◌, Bool, true, false, ◌&&◌, eqb, ltb, leb, List, [], ◌∷◌, length, refl, subst, inl, inr, ◌⊎◌, arith}
use Rattle.std.specs.Prelude.{Option, Some, None, is_none}
use Rattle.std.proofs.lemmas.Bool.{cases_lt, or_cases, or_left, or_right, and_from, and_parts, false≢true, ltb-true, lt-ltb, leb-true, le-leb, eqb-true, eq-eqb}
use Rattle.mem_axioms.specs.Events.{position_of, is_fence, is_read, is_seq_cst, order_of, on_one_cell}
use Rattle.mem_axioms.specs.Logs.{event_at, any_event, least_event}
use Rattle.mem_axioms.specs.HappensBefore.{happens_before}
use Rattle.mem_axioms.specs.Form.{fits_form_alone, has_form_alone}
use Rattle.mem_axioms.specs.Axioms.{comes_first, is_or_fences, is_or_is_fenced}
use Rattle.mem_axioms.specs.Races.{race, is_race_free}
use Rattle.mem_axioms.specs.Lemmas.Numbers.{any-from, any-some, event-newest, event-kept}
use Rattle.mem_axioms.specs.Lemmas.Racings.{LeastOr, least-is}
use Rattle.mem_axioms.specs.Lemmas.Relations.{Linked, Coherence, InOrder, coherence-is, coherence-from, in_order-is, in_order-from}
use Rattle.mem_axioms.specs.Lemmas.Added.{Allowed, coherence-past, in_order-past, coherence-more}
use Rattle.mem_axioms.specs.declared.types.Rule.{Rule}
use Rattle.mem_axioms.specs.declared.types.Event.{Event}
use Rattle.verdicts.specs.Verdicts.{verdict, next_verdict, first_failing, goes_on, breaks_coherence, breaks_order, must_precede, least_b, least_a, least_pair}
use Rattle.verdicts.specs.Laws.{IsFaultless, YesIsExact}
use Rattle.verdicts.specs.declared.types.Verdict.{Verdict}
use Rattle.verdicts.specs.declared.types.Verdict.TheVariants.{Yes, Form, Axiom1, Axiom3, Race}

-- ---- the four tests

pub record NoneFails (f : Bool) (c : Option ℕ) (p : Option (ℕ × ℕ)) (r : Option ℕ) (m n : ℕ) : Type 0 where
  pub fits : f ≡ true
  pub coherent : c ≡ None
  pub ordered : p ≡ None
  pub race_free : r ≡ None
  pub number : m ≡ suc n

yes-parts : (n m : ℕ) (f : Bool) (c : Option ℕ) (p : Option (ℕ × ℕ)) (r : Option ℕ) → first_failing n f c p r ≡ Yes m → NoneFails f c p r m n
yes-parts n m false c p r h = absurd (cc)
yes-parts n m true (Some i) p r h = absurd (cc)
yes-parts n m true None (Some q) r h = absurd (cc)
yes-parts n m true None None (Some i) h = absurd (cc)
yes-parts n m true None None None h = record { fits = refl; coherent = refl; ordered = refl; race_free = refl; number = cc }

module _ (rule : Rule) where
  -- ---- axiom 1

  pub none-older : (past : List Event) (e : Event) → least_event (breaks_coherence rule past e) past ≡ None →
      (i : ℕ) (ei : Event) → event_at past i ≡ Some ei → on_one_cell ei e ≡ true → is_read e ≡ true → happens_before rule (e ∷ past) i (length past) ≡ true → position_of ei ≤ position_of e
  none-older past e q i ei at c r b = go (cases_lt (position_of e) (position_of ei))
    where
      none : (j : ℕ) (ej : Event) → event_at past j ≡ Some ej → breaks_coherence rule past e j ej ≡ true → ⊥
      none = subst (LeastOr (breaks_coherence rule past e) past) q (least-is (breaks_coherence rule past e) past)

      go : (position_of e < position_of ei) ⊎ (position_of ei ≤ position_of e) → position_of ei ≤ position_of e
      go (inr l) = l
      go (inl l) = absurd (none i ei at (and_from (on_one_cell ei e && is_read e && ltb (position_of e) (position_of ei)) (happens_before rule (e ∷ past) i (length past))
          (and_from (on_one_cell ei e && is_read e) (ltb (position_of e) (position_of ei)) (and_from (on_one_cell ei e) (is_read e) c r) (lt-ltb (position_of e) (position_of ei) l)) b))

  pub older-none : (past : List Event) (e : Event) → Coherence rule (e ∷ past) → least_event (breaks_coherence rule past e) past ≡ None
  older-none past e h = go (least_event (breaks_coherence rule past e) past) refl (least-is (breaks_coherence rule past e) past)
    where
      go : (o : Option ℕ) → least_event (breaks_coherence rule past e) past ≡ o → LeastOr (breaks_coherence rule past e) past o → least_event (breaks_coherence rule past e) past ≡ None
      go None q w = q
      go (Some i) q w =
          let p = and_parts (on_one_cell w.ei e && is_read e && ltb (position_of e) (position_of w.ei)) (happens_before rule (e ∷ past) i (length past)) w.passes in
          let s = and_parts (on_one_cell w.ei e && is_read e) (ltb (position_of e) (position_of w.ei)) p.0 in
          let t = and_parts (on_one_cell w.ei e) (is_read e) s.0 in
          let l = ltb-true (position_of e) (position_of w.ei) s.1 in
          let k = h i (length past) w.ei e (record { at_i = event-kept e past i w.ei w.there; at_j = event-newest e past; cell = t.0; read = t.1; before = p.1 }) in
          absurd (omega arith)

  -- ---- axiom 3

  module _ (log : List Event) where
    pub from_fence : (a : ℕ) (ea : Event) (x : ℕ) → is_or_fences rule log a ea x ≡ true → (a ≡ x) ⊎ ((is_fence ea ≡ true) × (happens_before rule log a x ≡ true))
    from_fence a ea x h = elim (or_cases (eqb a x) (is_fence ea && happens_before rule log a x) h) [ inl p ↦ inl (eqb-true a x p) | inr p ↦ inr (and_parts (is_fence ea) (happens_before rule log a x) p) ]

    pub to_fence : (a : ℕ) (ea : Event) (x : ℕ) → (a ≡ x) ⊎ ((is_fence ea ≡ true) × (happens_before rule log a x ≡ true)) → is_or_fences rule log a ea x ≡ true
    to_fence a ea x s = elim s [ inl p ↦ or_left (eqb a x) (is_fence ea && happens_before rule log a x) (eq-eqb a x p) | inr p ↦ or_right (eqb a x) (is_fence ea && happens_before rule log a x) (and_from (is_fence ea) (happens_before rule log a x) p.0 p.1) ]

    pub from_fenced : (y b : ℕ) (eb : Event) → is_or_is_fenced rule log y b eb ≡ true → (b ≡ y) ⊎ ((is_fence eb ≡ true) × (happens_before rule log y b ≡ true))
    from_fenced y b eb h = elim (or_cases (eqb b y) (is_fence eb && happens_before rule log y b) h) [ inl p ↦ inl (eqb-true b y p) | inr p ↦ inr (and_parts (is_fence eb) (happens_before rule log y b) p) ]

    pub to_fenced : (y b : ℕ) (eb : Event) → (b ≡ y) ⊎ ((is_fence eb ≡ true) × (happens_before rule log y b ≡ true)) → is_or_is_fenced rule log y b eb ≡ true
    to_fenced y b eb s = elim s [ inl p ↦ or_left (eqb b y) (is_fence eb && happens_before rule log y b) (eq-eqb b y p) | inr p ↦ or_right (eqb b y) (is_fence eb && happens_before rule log y b) (and_from (is_fence eb) (happens_before rule log y b) p.0 p.1) ]

    abbrev pub test_y : ℕ → Event → Event → ℕ → Event → Bool
    test_y b eb ex y ey = comes_first ex ey && is_or_is_fenced rule log y b eb

    abbrev pub test_x : ℕ → Event → ℕ → Event → ℕ → Event → Bool
    test_x a ea b eb x ex = is_or_fences rule log a ea x && any_event (test_y b eb ex) log

    -- some x and y that link a and b, where b is not after a
    pub breaks-from : (a b x y : ℕ) (ea eb ex ey : Event) → Linked rule log a b x y ea eb ex ey → b ≤ a → breaks_order rule log b eb a ea ≡ true
    breaks-from a b x y ea eb ex ey l h =
        let ys = any-from (test_y b eb ex) log y ey l.at_y (and_from (comes_first ex ey) (is_or_is_fenced rule log y b eb) l.first (to_fenced y b eb l.to)) in
        let xs = any-from (test_x a ea b eb) log x ex l.at_x (and_from (is_or_fences rule log a ea x) (any_event (test_y b eb ex) log) (to_fence a ea x l.from) ys) in
        and_from (is_seq_cst (order_of ea) && is_seq_cst (order_of eb) && leb b a) (must_precede rule log a ea b eb)
        (and_from (is_seq_cst (order_of ea) && is_seq_cst (order_of eb)) (leb b a) (and_from (is_seq_cst (order_of ea)) (is_seq_cst (order_of eb)) l.seq_a l.seq_b) (le-leb b a h)) xs

    pub breaks-not : (a b : ℕ) (ea eb : Event) → event_at log a ≡ Some ea → event_at log b ≡ Some eb → breaks_order rule log b eb a ea ≡ true → InOrder rule log → ⊥
    breaks-not a b ea eb ha hb t h =
        let p = and_parts (is_seq_cst (order_of ea) && is_seq_cst (order_of eb) && leb b a) (must_precede rule log a ea b eb) t in
        let q = and_parts (is_seq_cst (order_of ea) && is_seq_cst (order_of eb)) (leb b a) p.0 in
        let r = and_parts (is_seq_cst (order_of ea)) (is_seq_cst (order_of eb)) q.0 in
        let x = any-some (test_x a ea b eb) log p.1 in
        let s = and_parts (is_or_fences rule log a ea x.0) (any_event (test_y b eb x.1) log) x.3 in
        let y = any-some (test_y b eb x.1) log s.1 in
        let u = and_parts (comes_first x.1 y.1) (is_or_is_fenced rule log y.0 b eb) y.3 in
        let l = leb-true b a q.1 in
        let k = h a b x.0 y.0 ea eb x.1 y.1 (record { at_a = ha; at_b = hb; at_x = x.2; at_y = y.2; seq_a = r.0; seq_b = r.1; first = u.0; from = from_fence a ea x.0 s.0; to = from_fenced y.0 b eb u.1 }) in
        omega arith

    abbrev some_a : ℕ → Event → Bool
    some_a b eb = any_event (breaks_order rule log b eb) log

    abbrev at_b : ℕ → ℕ → Event → Bool
    at_b b a ea = any_event (λ k eb. eqb k b && breaks_order rule log k eb a ea) log

    pair-none : least_pair rule log ≡ None → (least_b rule log ≡ None)
    pair-none h = go (least_b rule log) refl (least-is some_a log)
      where
        go : (o : Option ℕ) → least_b rule log ≡ o → LeastOr some_a log o → least_b rule log ≡ None
        go None q w = q
        go (Some b) q w = absurd (deep (least_a rule log b) refl (least-is (at_b b) log))
          where
            a : (a : ℕ) × (ea : Event) × (event_at log a ≡ Some ea) × (breaks_order rule log b w.ei a ea ≡ true)
            a = any-some (breaks_order rule log b w.ei) log w.passes

            passes : at_b b a.0 a.1 ≡ true
            passes = any-from (λ k eb. eqb k b && breaks_order rule log k eb a.0 a.1) log b w.ei w.there (and_from (eqb b b) (breaks_order rule log b w.ei a.0 a.1) (eq-eqb b b refl) a.3)

            deep : (o : Option ℕ) → least_a rule log b ≡ o → LeastOr (at_b b) log o → ⊥
            deep None p v = v a.0 a.1 a.2 passes
            deep (Some i) p v = let z = rw (q, p) at h in absurd (cc)

    pub order-none : least_pair rule log ≡ None → InOrder rule log
    order-none h a b x y ea eb ex ey l = go (cases_lt a b)
      where
        none : (j : ℕ) (ej : Event) → event_at log j ≡ Some ej → some_a j ej ≡ true → ⊥
        none = subst (LeastOr some_a log) (pair-none h) (least-is some_a log)

        go : (a < b) ⊎ (b ≤ a) → a < b
        go (inl p) = p
        go (inr p) = absurd (none b eb l.at_b (any-from (breaks_order rule log b eb) log a ea l.at_a (breaks-from a b x y ea eb ex ey l p)))

    pub none-order : InOrder rule log → least_pair rule log ≡ None
    none-order h = go (least_b rule log) refl (least-is some_a log)
      where
        go : (o : Option ℕ) → least_b rule log ≡ o → LeastOr some_a log o → least_pair rule log ≡ None
        go None q w = rw q refl
        go (Some b) q w = let a = any-some (breaks_order rule log b w.ei) log w.passes in absurd (breaks-not a.0 b a.1 w.ei a.2 w.there a.3 h)

  -- ---- the next event

  is-none : (o : Option ℕ) → is_none o ≡ true → o ≡ None
  is-none None h = refl
  is-none (Some i) h = absurd (false≢true h)

  pub next-yes : (past : List Event) (e : Event) (m : ℕ) → next_verdict rule past e ≡ Yes m → IsFaultless rule past → IsFaultless rule (e ∷ past) × (m ≡ suc (length past))
  unfolding next_verdict
  next-yes past e m h w =
      let p = yes-parts (length past) m (fits_form_alone past e) (least_event (breaks_coherence rule past e) past) (least_pair rule (e ∷ past)) (race rule past e) h in
      let order = order-none (e ∷ past) p.ordered in
      let allowed : Allowed rule past e = record { newer = none-older past e p.coherent; ordered = λ a b y ea eb ey l ly lb. order a b (length past) y ea eb e ey l } in (
        record {
          form = and_from (fits_form_alone past e) (has_form_alone past) p.fits w.form;
          coherent = coherence-from rule (e ∷ past) (coherence-more rule e past (coherence-is rule past w.coherent) allowed);
          ordered = in_order-from rule (e ∷ past) order;
          race_free = and_from (is_none (race rule past e)) (is_race_free rule past) (rw p.race_free refl) w.race_free;
        },
        p.number,
      )

  pub faultless-next : (past : List Event) (e : Event) → IsFaultless rule (e ∷ past) → IsFaultless rule past × (next_verdict rule past e ≡ Yes (suc (length past)))
  unfolding next_verdict
  faultless-next past e w =
      let f = and_parts (fits_form_alone past e) (has_form_alone past) w.form in
      let r = and_parts (is_none (race rule past e)) (is_race_free rule past) w.race_free in
      let c = coherence-is rule (e ∷ past) w.coherent in
      let o = in_order-is rule (e ∷ past) w.ordered in (
        record {
          form = f.1;
          coherent = coherence-from rule past (coherence-past rule e past c);
          ordered = in_order-from rule past (in_order-past rule e past o);
          race_free = r.1;
        },
        rw (f.0, older-none past e c, none-order (e ∷ past) o, is-none (race rule past e) r.0) refl,
      )

  -- ---- all events

  abbrev Exactly : List Event → Type 0
  Exactly log = ((m : ℕ) → verdict rule log ≡ Yes m → IsFaultless rule log × (m ≡ length log)) × (IsFaultless rule log → verdict rule log ≡ Yes (length log))

  faultless-none : IsFaultless rule []
  faultless-none = record { form = refl; coherent = coherence-from rule [] (λ i j ei ej n. absurd (let a = n.at_i in cc)); ordered = in_order-from rule [] (λ a b x y ea eb ex ey l. absurd (let u = l.at_a in cc)); race_free = refl }

  pub exactly : (log : List Event) → Exactly log
  exactly [] = (λ m h. (faultless-none, cc), λ w. refl)
  exactly (e ∷ past) = (there (verdict rule past) refl (exactly past), back (exactly past))
    where
      there : (v : Verdict) → verdict rule past ≡ v → Exactly past → (m : ℕ) → goes_on rule past e v ≡ Yes m → IsFaultless rule (e ∷ past) × (m ≡ suc (length past))
      there (Yes n) q ih m h = next-yes past e m h (ih.0 n q).0
      there (Form j) q ih m h = absurd (cc)
      there (Axiom1 i j) q ih m h = absurd (cc)
      there (Axiom3 a b) q ih m h = absurd (cc)
      there (Race i j) q ih m h = absurd (cc)

      back : Exactly past → IsFaultless rule (e ∷ past) → goes_on rule past e (verdict rule past) ≡ Yes (suc (length past))
      back ih w = let p = faultless-next past e w in rw (ih.1 p.0) p.1

pub exact : YesIsExact
exact rule log = (λ h. ((exactly rule log).0 (length log) h).0, (exactly rule log).1)
