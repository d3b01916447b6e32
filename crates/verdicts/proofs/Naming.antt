-- The pair of axiom 3 that a read names.
use Rattle.std.proofs.Common.{◌≡◌, ℕ, ◌<◌, ◌≤◌, Bool, true, false, ◌&&◌, ◌||◌, eqb, ltb, leb, List, ◌∷◌, length, refl, sym, ap, ◌∙◌, inl, inr, ◌⊎◌, arith}
use Rattle.std.specs.Prelude.{Option, Some, None}
use Rattle.std.proofs.lemmas.Bool.{cases_lt, or_cases, or_left, or_right, and_from, and_parts, lt-ltb, leb-true, le-leb, eqb-true, eq-eqb}
use Rattle.mem_axioms.specs.Events.{position_of, is_fence, is_read, is_seq_cst, is_seq_cst_fence, order_of, on_one_cell, is_modification}
use Rattle.mem_axioms.specs.Logs.{event_at, any_event, least_event}
use Rattle.mem_axioms.specs.HappensBefore.{happens_before}
use Rattle.mem_axioms.specs.Axioms.{comes_first, reads_older, has_seq_cst, is_or_fences, is_or_is_fenced}
use Rattle.mem_axioms.specs.PassedOver.{has_seq_cst_from}
use Rattle.mem_axioms.specs.Lemmas.Numbers.{any-from, any-some, event-newest, event-kept, event-older, event-cases, event-below}
use Rattle.mem_axioms.specs.Lemmas.Steps.{before-older, before-less}
use Rattle.mem_axioms.specs.Lemmas.Racings.{LeastOr, least-is}
use Rattle.mem_axioms.specs.Lemmas.Relations.{Linked, InOrder, in_order-is}
use Rattle.mem_axioms.specs.Lemmas.Added.{read_alone, no_self, not_both}
use Rattle.mem_axioms.specs.Lemmas.Kept.{first-cases}
use Rattle.mem_axioms.specs.Lemmas.Passing.{same_cell_flip}
use Rattle.mem_axioms.specs.declared.types.Rule.{Rule}
use Rattle.mem_axioms.specs.declared.types.Event.{Event}
use Rattle.verdicts.specs.Verdicts.{breaks_order, must_precede, least_b, least_a, least_pair}
use Rattle.verdicts.specs.Laws.{is_b, is_a, pair_of_read, PairIsOfRead}
use Rattle.verdicts.proofs.Yes.{from_fence, to_fence, from_fenced, to_fenced, test_x, test_y, breaks-from}

both_ways : (a b : Bool) → (a ≡ true → b ≡ true) → (b ≡ true → a ≡ true) → a ≡ b
both_ways true true f g = refl
both_ways true false f g = sym (f refl)
both_ways false true f g = g refl
both_ways false false f g = refl

-- tests that are the same of each event of a log
abbrev Same : (ℕ → Event → Bool) → (ℕ → Event → Bool) → List Event → Type 0
Same test test' log = (i : ℕ) (ei : Event) → event_at log i ≡ Some ei → test i ei ≡ test' i ei

least-same : (test test' : ℕ → Event → Bool) (log : List Event) → Same test test' log → least_event test log ≡ least_event test' log
least-same test test' log h = go (least_event test log) (least_event test' log) (least-is test log) (least-is test' log)
  where
    go : (o o' : Option ℕ) → LeastOr test log o → LeastOr test' log o' → o ≡ o'
    go None None w v = refl
    go None (Some j) w v = absurd (w j v.ei v.there (h j v.ei v.there ∙ v.passes))
    go (Some i) None w v = absurd (v i w.ei w.there (sym (h i w.ei w.there) ∙ w.passes))
    go (Some i) (Some j) w v =
        let a = w.least j v.ei v.there (h j v.ei v.there ∙ v.passes) in
        let b = v.least i w.ei w.there (sym (h i w.ei w.there) ∙ w.passes) in
        let z : i ≡ j = omega arith in ap Some z

-- an event that does not pass may be left out
newest-out : (test : ℕ → Event → Bool) (e : Event) (past : List Event) → test (length past) e ≡ false → least_event test (e ∷ past) ≡ least_event test past
newest-out test e past h = go (least_event test past) refl
  where
    go : (o : Option ℕ) → least_event test past ≡ o → least_event test (e ∷ past) ≡ o
    go None q = rw (q, h) refl
    go (Some i) q = rw q refl

module _ (rule : Rule) (past : List Event) (e : Event) (order : InOrder rule past) (read : is_read e ≡ true) where
  abbrev log : List Event
  log = e ∷ past

  abbrev n : ℕ
  n = length past

  -- what a and b that break the order go by: the read, and an access that it passes over
  record Breach (a b : ℕ) (ea eb : Event) : Type 0 where
    y : ℕ
    ey : Event
    there : event_at past y ≡ Some ey
    over : reads_older e ey ≡ true
    to : (b ≡ y) ⊎ ((is_fence eb ≡ true) × (happens_before rule past y b ≡ true))
    from : (a ≡ n) ⊎ ((is_fence ea ≡ true) × (happens_before rule log a n ≡ true))
    seq_a : is_seq_cst (order_of ea) ≡ true
    seq_b : is_seq_cst (order_of eb) ≡ true
    late : b ≤ a
    early : b < n

  linked-breach : (a b x y : ℕ) (ea eb ex ey : Event) → Linked rule log a b x y ea eb ex ey → b ≤ a → Breach a b ea eb
  linked-breach a b x y ea eb ex ey l h = last (event-cases e past x ex l.at_x)
    where
      ax : a ≤ x
      ax = elim l.from [ inl p ↦ omega arith | inr p ↦ (let q = before-less rule log a x p.1 in omega arith) ]

      yb : y ≤ b
      yb = elim l.to [ inl p ↦ omega arith | inr p ↦ (let q = before-less rule log y b p.1 in omega arith) ]

      older : (i : ℕ) (ei : Event) → event_at log i ≡ Some ei → i < n → event_at past i ≡ Some ei
      older i ei at k = sym (event-older e past i k) ∙ at

      last : ((x ≡ n) × (ex ≡ e)) ⊎ ((x < n) × (event_at past x ≡ Some ex)) → Breach a b ea eb
      last (inr q) =
          let u = ax in let v = yb in let w = q.0 in
          let k = order a b x y ea eb ex ey (record {
            at_a = older a ea l.at_a (omega arith);
            at_b = older b eb l.at_b (omega arith);
            at_x = q.1;
            at_y = older y ey l.at_y (omega arith);
            seq_a = l.seq_a;
            seq_b = l.seq_b;
            first = l.first;
            from = elim l.from [ inl r ↦ inl r | inr r ↦ inr (r.0, sym (before-older rule e past a x q.0) ∙ r.1) ];
            to = elim l.to [ inl r ↦ inl r | inr r ↦ inr (r.0, sym (before-older rule e past y b (omega arith)) ∙ r.1) ];
          }) in
          absurd (omega arith)
      last (inl q) =
          let c = first-cases ex ey l.first in
          let f = rw q.1 at c in
          let below : position_of e < position_of ey = elim f.1 [ inl r ↦ r | inr r ↦ absurd (read_alone e read r.0) ] in
          let apart : b < n = elim (cases_lt b n) [ inl r ↦ r | inr r ↦ absurd (no_b r) ] in
          let v = yb in
          record {
            y = y;
            ey = ey;
            there = older y ey l.at_y (omega arith);
            over = and_from (on_one_cell ey e && is_read e) (ltb (position_of e) (position_of ey)) (and_from (on_one_cell ey e) (is_read e) (same_cell_flip e ey f.0) read) (lt-ltb (position_of e) (position_of ey) below);
            to = elim l.to [ inl r ↦ inl r | inr r ↦ inr (r.0, sym (before-older rule e past y b apart) ∙ r.1) ];
            from = rw q.0 at l.from;
            seq_a = l.seq_a;
            seq_b = l.seq_b;
            late = h;
            early = apart;
          }
        where
          no_b : n ≤ b → ⊥
          no_b r = elim (event-cases e past b eb l.at_b) [
            | inl z ↦ elim l.to [
              | inl t ↦ (let y_is : y ≡ n = sym t ∙ z.0 in let k = rw y_is at l.at_y in let m = event-newest e past in let same : ey ≡ e = cc in no_self e (rw (q.1, same) at l.first))
              | inr t ↦ not_both e ey (rw z.1 at t.0) (rw q.1 at l.first)
            ]
            | inr z ↦ (let k = z.0 in omega arith)
          ]

  breach-breaks : (a b : ℕ) (ea eb : Event) → event_at log a ≡ Some ea → event_at log b ≡ Some eb → Breach a b ea eb → breaks_order rule log b eb a ea ≡ true
  breach-breaks a b ea eb ha hb r =
      let p = and_parts (on_one_cell r.ey e && is_read e) (ltb (position_of e) (position_of r.ey)) r.over in
      let c = and_parts (on_one_cell r.ey e) (is_read e) p.0 in
      breaks-from rule log a b n r.y ea eb e r.ey (record {
        at_a = ha;
        at_b = hb;
        at_x = event-newest e past;
        at_y = event-kept e past r.y r.ey r.there;
        seq_a = r.seq_a;
        seq_b = r.seq_b;
        first = and_from (on_one_cell e r.ey) (ltb (position_of e) (position_of r.ey) || (is_modification e && is_read r.ey && eqb (position_of e) (position_of r.ey))) (same_cell_flip r.ey e c.0) (or_left (ltb (position_of e) (position_of r.ey)) _ p.1);
        from = r.from;
        to = elim r.to [ inl q ↦ inl q | inr q ↦ inr (q.0, before-older rule e past r.y b r.early ∙ q.1) ];
      }) r.late

  breaks-breach : (a b : ℕ) (ea eb : Event) → event_at log a ≡ Some ea → event_at log b ≡ Some eb → breaks_order rule log b eb a ea ≡ true → Breach a b ea eb
  breaks-breach a b ea eb ha hb t =
      let p = and_parts (is_seq_cst (order_of ea) && is_seq_cst (order_of eb) && leb b a) (must_precede rule log a ea b eb) t in
      let q = and_parts (is_seq_cst (order_of ea) && is_seq_cst (order_of eb)) (leb b a) p.0 in
      let r = and_parts (is_seq_cst (order_of ea)) (is_seq_cst (order_of eb)) q.0 in
      let x = any-some (test_x rule log a ea b eb) log p.1 in
      let s = and_parts (is_or_fences rule log a ea x.0) (any_event (test_y rule log b eb x.1) log) x.3 in
      let y = any-some (test_y rule log b eb x.1) log s.1 in
      let u = and_parts (comes_first x.1 y.1) (is_or_is_fenced rule log y.0 b eb) y.3 in
      linked-breach a b x.0 y.0 ea eb x.1 y.1
      (record { at_a = ha; at_b = hb; at_x = x.2; at_y = y.2; seq_a = r.0; seq_b = r.1; first = u.0; from = from_fence rule log a ea x.0 s.0; to = from_fenced rule log y.0 b eb u.1 }) (leb-true b a q.1)

  -- ---- the tests

  abbrev some_a : ℕ → Event → Bool
  some_a b eb = any_event (breaks_order rule log b eb) log

  abbrev over_test : ℕ → Event → ℕ → Event → Bool
  over_test b eb y ey = reads_older e ey && is_or_is_fenced rule past y b eb

  abbrev from_test : ℕ → ℕ → Event → Bool
  from_test b a ea = is_seq_cst_fence ea && leb b a && happens_before rule log a n

  fenced_past : (y b : ℕ) (eb : Event) → (b ≡ y) ⊎ ((is_fence eb ≡ true) × (happens_before rule past y b ≡ true)) → is_or_is_fenced rule past y b eb ≡ true
  fenced_past y b eb s = to_fenced rule past y b eb s

  b_there : (b : ℕ) (eb : Event) → event_at past b ≡ Some eb → some_a b eb ≡ true → is_b rule past e b eb ≡ true
  b_there b eb hb t =
      let a = any-some (breaks_order rule log b eb) log t in
      let r = breaks-breach a.0 b a.1 eb a.2 (event-kept e past b eb hb) a.3 in
      let over = any-from (over_test b eb) past r.y r.ey r.there (and_from (reads_older e r.ey) (is_or_is_fenced rule past r.y b eb) r.over (fenced_past r.y b eb r.to)) in
      and_from (has_seq_cst b eb && any_event (over_test b eb) past) (has_seq_cst_from rule past e b) (and_from (has_seq_cst b eb) (any_event (over_test b eb) past) r.seq_b over) (from a.0 a.1 a.2 r)
    where
      from : (a : ℕ) (ea : Event) → event_at log a ≡ Some ea → Breach a b ea eb → has_seq_cst_from rule past e b ≡ true
      from a ea ha r = elim r.from [
        | inl z ↦ (let k = rw z at ha in let m = event-newest e past in let same : ea ≡ e = cc in or_left (is_seq_cst (order_of e)) (any_event (from_test b) past) (rw same at r.seq_a))
        | inr z ↦ (let l = before-less rule log a n z.1 in
            or_right (is_seq_cst (order_of e)) (any_event (from_test b) past) (any-from (from_test b) past a ea (sym (event-older e past a l.0) ∙ ha)
            (and_from (is_seq_cst_fence ea && leb b a) (happens_before rule log a n) (and_from (is_seq_cst_fence ea) (leb b a) (and_from (is_fence ea) (is_seq_cst (order_of ea)) z.0 r.seq_a) (le-leb b a r.late)) z.1)))
      ]

  -- from the test of b: a breach with each a that the read goes by
  record Stands (b : ℕ) (eb : Event) : Type 0 where
    y : ℕ
    ey : Event
    there : event_at past y ≡ Some ey
    over : reads_older e ey ≡ true
    to : (b ≡ y) ⊎ ((is_fence eb ≡ true) × (happens_before rule past y b ≡ true))
    seq : is_seq_cst (order_of eb) ≡ true
    from : has_seq_cst_from rule past e b ≡ true

  stands : (b : ℕ) (eb : Event) → is_b rule past e b eb ≡ true → Stands b eb
  stands b eb t =
      let p = and_parts (has_seq_cst b eb && any_event (over_test b eb) past) (has_seq_cst_from rule past e b) t in
      let q = and_parts (has_seq_cst b eb) (any_event (over_test b eb) past) p.0 in
      let y = any-some (over_test b eb) past q.1 in
      let s = and_parts (reads_older e y.1) (is_or_is_fenced rule past y.0 b eb) y.3 in
      record { y = y.0; ey = y.1; there = y.2; over = s.0; to = from_fenced rule past y.0 b eb s.1; seq = q.0; from = p.1 }

  breach : (a b : ℕ) (ea eb : Event) → event_at past b ≡ Some eb → Stands b eb → is_seq_cst (order_of ea) ≡ true → (a ≡ n) ⊎ ((is_fence ea ≡ true) × (happens_before rule log a n ≡ true)) → b ≤ a → Breach a b ea eb
  breach a b ea eb hb s c f l = record { y = s.y; ey = s.ey; there = s.there; over = s.over; to = s.to; from = f; seq_a = c; seq_b = s.seq; late = l; early = event-below past b eb hb }

  b_back : (b : ℕ) (eb : Event) → event_at past b ≡ Some eb → is_b rule past e b eb ≡ true → some_a b eb ≡ true
  b_back b eb hb t = elim (or_cases (is_seq_cst (order_of e)) (any_event (from_test b) past) (stands b eb t).from) [
    | inl c ↦ (let l = event-below past b eb hb in with_a n e (event-newest e past) c (inl refl) (omega arith))
    | inr c ↦ (let a = any-some (from_test b) past c in
        let p = and_parts (is_seq_cst_fence a.1 && leb b a.0) (happens_before rule log a.0 n) a.3 in
        let q = and_parts (is_seq_cst_fence a.1) (leb b a.0) p.0 in
        let f = and_parts (is_fence a.1) (is_seq_cst (order_of a.1)) q.0 in
        with_a a.0 a.1 (event-kept e past a.0 a.1 a.2) f.1 (inr (f.0, p.1)) (leb-true b a.0 q.1))
  ]
    where
      with_a : (a : ℕ) (ea : Event) → event_at log a ≡ Some ea → is_seq_cst (order_of ea) ≡ true → (a ≡ n) ⊎ ((is_fence ea ≡ true) × (happens_before rule log a n ≡ true)) → b ≤ a → some_a b eb ≡ true
      with_a a ea ha c f l = any-from (breaks_order rule log b eb) log a ea ha (breach-breaks a b ea eb ha (event-kept e past b eb hb) (breach a b ea eb hb (stands b eb t) c f l))

  not_newest : some_a n e ≡ false
  not_newest = go (some_a n e) refl
    where
      go : (x : Bool) → some_a n e ≡ x → some_a n e ≡ false
      go false q = q
      go true q =
          let a = any-some (breaks_order rule log n e) log q in
          let r = breaks-breach a.0 n a.1 e a.2 (event-newest e past) a.3 in
          let k = r.early in absurd (omega arith)

  b_same : least_b rule log ≡ least_event (is_b rule past e) past
  b_same =
      newest-out some_a e past not_newest
      ∙ least-same some_a (is_b rule past e) past (λ b eb hb. both_ways (some_a b eb) (is_b rule past e b eb) (b_there b eb hb) (b_back b eb hb))

  abbrev at_b : ℕ → ℕ → Event → Bool
  at_b b a ea = any_event (λ k eb. eqb k b && breaks_order rule log k eb a ea) log

  abbrev by_a : ℕ → ℕ → Event → Bool
  by_a b a ea = leb b a && is_a rule past e a ea

  a_there : (b a : ℕ) (ea : Event) → event_at log a ≡ Some ea → at_b b a ea ≡ true → by_a b a ea ≡ true
  a_there b a ea ha t =
      let k = any-some (λ k eb. eqb k b && breaks_order rule log k eb a ea) log t in
      let p = and_parts (eqb k.0 b) (breaks_order rule log k.0 k.1 a ea) k.3 in
      let r = breaks-breach a k.0 ea k.1 ha k.2 p.1 in
      let z = eqb-true k.0 b p.0 in
      and_from (leb b a) (is_a rule past e a ea) (le-leb b a (let l = r.late in omega (arith, l, z)))
      (and_from (has_seq_cst a ea) (is_or_fences rule log a ea n) r.seq_a (to_fence rule log a ea n r.from))

  a_back : (b a : ℕ) (ea eb : Event) → event_at past b ≡ Some eb → is_b rule past e b eb ≡ true → event_at log a ≡ Some ea → by_a b a ea ≡ true → at_b b a ea ≡ true
  a_back b a ea eb hb s ha t =
      let p = and_parts (leb b a) (is_a rule past e a ea) t in
      let q = and_parts (has_seq_cst a ea) (is_or_fences rule log a ea n) p.1 in
      let r = breach a b ea eb hb (stands b eb s) q.0 (from_fence rule log a ea n q.1) (leb-true b a p.0) in
      any-from (λ k eb. eqb k b && breaks_order rule log k eb a ea) log b eb (event-kept e past b eb hb)
      (and_from (eqb b b) (breaks_order rule log b eb a ea) (eq-eqb b b refl) (breach-breaks a b ea eb ha (event-kept e past b eb hb) r))

  a_same : (b : ℕ) (eb : Event) → event_at past b ≡ Some eb → is_b rule past e b eb ≡ true → least_a rule log b ≡ least_event (by_a b) log
  a_same b eb hb s = least-same (at_b b) (by_a b) log (λ a ea ha. both_ways (at_b b a ea) (by_a b a ea) (a_there b a ea ha) (a_back b a ea eb hb s ha))

  pair_same : least_pair rule log ≡ pair_of_read rule past e
  pair_same = go (least_event (is_b rule past e) past) refl (least-is (is_b rule past e) past)
    where
      go : (o : Option ℕ) → least_event (is_b rule past e) past ≡ o → LeastOr (is_b rule past e) past o → least_pair rule log ≡ pair_of_read rule past e
      go None q v = rw (b_same, q) refl
      go (Some b) q v = rw (b_same, q, a_same b v.ei v.there v.passes) refl

pub named : PairIsOfRead
named rule past e w r = pair_same rule past e (in_order-is rule past w.ordered) r
