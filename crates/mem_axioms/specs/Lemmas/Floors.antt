-- The options of a load are all positions from the newest down to a floor.
use Rattle.std.proofs.Common.{◌≡◌, ℕ, suc, zero, ◌<◌, ◌≤◌, Bool, true, false, cond, max, ◌&&◌, ◌||◌, eqb, ltb, leb, List, [], ◌∷◌, length, Some, refl, sym, ◌∙◌, inl, inr, ◌⊎◌, ◌↔◌, arith}
use Rattle.std.proofs.lemmas.Bool.{cases_eq, cases_lt, or_cases, or_left, or_right, and_from, and_parts, false≢true, leb-true, ltb-true, le-leb, lt-ltb}
use Rattle.std.proofs.lemmas.Bool.Decides.{same_from_decides}
use Rattle.mu_base.specs.declared.order.Order.{Order}
use Rattle.mu_values.specs.declared.scalars.Scalar.{Scalar}
use Rattle.mu_values.specs.declared.cells.CellId.{CellId}
use Rattle.mu_values.specs.CellLaws.{same_cell-true, same_cell-refl}
use Rattle.mem_axioms.specs.Events.{accesses, position_of, order_of, is_atomic, is_fence, is_seq_cst, is_seq_cst_fence, is_read, on_one_cell}
use Rattle.mem_axioms.specs.Logs.{event_at, any_event, newest, greatest_position, last_number}
use Rattle.mem_axioms.specs.Synchronizes.{acquires, released, released_to, makes_thread, synchronizes_by_release}
use Rattle.mem_axioms.specs.HappensBefore.{happens_before, precedes}
use Rattle.mem_axioms.specs.Form.{has_form, is_value_at}
use Rattle.mem_axioms.specs.Axioms.{meets_axioms, comes_first}
use Rattle.mem_axioms.specs.Choices.{read_at, options, down_from}
use Rattle.mem_axioms.specs.Floor.{plain, is_known, seq_cst_limit, first_kind, second_kind, third_kind, floor}
use Rattle.mem_axioms.specs.Lemmas.Numbers.{any-from, any-some, event-below, event-kept, event-cases, event-older, event-newest}
use Rattle.mem_axioms.specs.Lemmas.Steps.{before-older, before-less, before-trans, newest-step, step-newest}
use Rattle.mem_axioms.specs.Lemmas.Relations.{Linked}
use Rattle.mem_axioms.specs.Lemmas.Added.{Allowed, meets-newest}
use Rattle.mem_axioms.specs.Lemmas.Positions.{released-allows}
use Rattle.mem_axioms.specs.Lemmas.Kept.{one_cell, on_one, first-cases, read-fits, form-of}
use Rattle.mem_axioms.specs.declared.types.Event.{Event}
use Rattle.mem_axioms.specs.declared.types.Rule.{Rule}
use Rattle.mem_axioms.specs.declared.types.Kind.{Kind}
use Rattle.mem_axioms.specs.declared.types.Kind.TheVariants.{Access, Fence, NewStack, NewThread, Leave, Enter, Wake, Woken}

pub greatest-at : (test : ℕ → Event → Bool) (log : List Event) (i : ℕ) (e : Event) → event_at log i ≡ Some e → test i e ≡ true → position_of e ≤ greatest_position test log
greatest-at test [] i e h t = absurd (cc)
greatest-at test (f ∷ past) i e h t = go (greatest-at test past i e) (event-cases f past i e h)
  where
    go : (event_at past i ≡ Some e → test i e ≡ true → position_of e ≤ greatest_position test past) → ((i ≡ length past) × (e ≡ f)) ⊎ ((i < length past) × (event_at past i ≡ Some e)) → position_of e ≤ greatest_position test (f ∷ past)
    go ih (inl p) = let q : test (length past) f ≡ true = rw (p.0, p.1) at t in rw (p.1, greatest_position, q) (omega arith)
    go ih (inr p) = let q = ih p.1 t in elim (test (length past) f) as (λ b. position_of e ≤ cond b (max (position_of f) (greatest_position test past)) (greatest_position test past)) [ true ↦ omega (arith, q) | false ↦ q ]

pub greatest-below : (test : ℕ → Event → Bool) (log : List Event) (p : ℕ) → ((i : ℕ) (e : Event) → event_at log i ≡ Some e → test i e ≡ true → position_of e ≤ p) → greatest_position test log ≤ p
greatest-below test [] p h = omega arith
greatest-below test (f ∷ past) p h = go (test (length past) f) refl (greatest-below test past p (λ i e at t. h i e (event-kept f past i e at) t))
  where
    go : (b : Bool) → test (length past) f ≡ b → greatest_position test past ≤ p → greatest_position test (f ∷ past) ≤ p
    go true q ih = let r = h (length past) f (event-newest f past) q in rw (q, greatest_position) (omega (arith, r, ih))
    go false q ih = rw (q, greatest_position) ih

-- the last event that passes is one that passes, or nothing passes
pub last-is : (test : ℕ → Event → Bool) (log : List Event) → ((last_number test log ≡ 0)) ⊎ ((a : ℕ) × (ea : Event) × (event_at log a ≡ Some ea) × (test a ea ≡ true) × (last_number test log ≡ a))
last-is test [] = inl refl
last-is test (f ∷ past) = go (test (length past) f) refl (last-is test past)
  where
    go : (b : Bool) → test (length past) f ≡ b → ((last_number test past ≡ 0)) ⊎ ((a : ℕ) × (ea : Event) × (event_at past a ≡ Some ea) × (test a ea ≡ true) × (last_number test past ≡ a)) → ((last_number test (f ∷ past) ≡ 0)) ⊎ ((a : ℕ) × (ea : Event) × (event_at (f ∷ past) a ≡ Some ea) × (test a ea ≡ true) × (last_number test (f ∷ past) ≡ a))
    go true q ih = inr (length past, f, event-newest f past, q, rw (q, last_number))
    go false q (inl z) = inl (rw (q, last_number) z)
    go false q (inr z) = inr (z.0, z.1, event-kept f past z.0 z.1 z.2, z.3, rw (q, last_number) z.4)

pub last-above : (test : ℕ → Event → Bool) (log : List Event) (i : ℕ) (e : Event) → event_at log i ≡ Some e → test i e ≡ true → i ≤ last_number test log
last-above test [] i e h t = absurd (cc)
last-above test (f ∷ past) i e h t = go (last-above test past i e) (event-cases f past i e h)
  where
    go : (event_at past i ≡ Some e → test i e ≡ true → i ≤ last_number test past) → ((i ≡ length past) × (e ≡ f)) ⊎ ((i < length past) × (event_at past i ≡ Some e)) → i ≤ last_number test (f ∷ past)
    go ih (inl p) = let q : test (length past) f ≡ true = rw (p.0, p.1) at t in rw (q, last_number) (let z = p.0 in omega arith)
    go ih (inr p) = let q = ih p.1 t in let l = p.0 in elim (test (length past) f) as (λ b. i ≤ cond b (length past) (last_number test past)) [ true ↦ omega arith | false ↦ q ]

fence_no_access-kind : (t : ℕ) (k : Kind) (c : CellId) → is_fence (record { thread = t; kind = k }) ≡ true → accesses c (record { thread = t; kind = k }) ≡ true → ⊥
fence_no_access-kind t (Access mode cell order position value) c f h = false≢true f
fence_no_access-kind t (Fence o) c f h = false≢true h
fence_no_access-kind t (NewStack o) c f h = false≢true h
fence_no_access-kind t (NewThread o) c f h = false≢true h
fence_no_access-kind t (Leave o) c f h = false≢true h
fence_no_access-kind t (Enter o) c f h = false≢true h
fence_no_access-kind t (Wake o n) c f h = false≢true h
fence_no_access-kind t (Woken o) c f h = false≢true h

fence_no_access : (e : Event) (c : CellId) → is_fence e ≡ true → accesses c e ≡ true → ⊥
fence_no_access e c = fence_no_access-kind e.thread e.kind c

module _ (rule : Rule) (initial : CellId → Scalar) (past : List Event) (t : ℕ) (c : CellId) (o : Order) (p : ℕ) where
  -- what leads to a read: what leads to all that its thread does, and the releases of the position that it reads
  read-edge : (k : ℕ) (ek : Event) → precedes rule past k ek (read_at initial past t c o p) ≡ true → (precedes rule past k ek (plain t) ≡ true) ⊎ (released rule past c p k ek ≡ true)
  read-edge k ek h = elim (or_cases (eqb ek.thread t) _ h) [
    | inl q ↦ inl (or_left (eqb ek.thread t) _ q)
    | inr q ↦ elim (or_cases (synchronizes_by_release rule past k ek (read_at initial past t c o p)) _ q) [
      | inl r ↦ elim (or_cases (released_to rule past (read_at initial past t c o p) k ek) _ (and_parts (acquires o) _ r).1) [
        | inl s ↦ inr (and_parts (is_atomic o) (released rule past c p k ek) s).1
        | inr s ↦ absurd (false≢true s)
      ]
      | inr r ↦ elim (or_cases (makes_thread t ek) _ r) [ inl s ↦ inl (or_right (eqb ek.thread t) _ (or_left (makes_thread t ek) _ s)) | inr s ↦ absurd (false≢true s) ]
    ]
  ]

  edge-read : (k : ℕ) (ek : Event) → precedes rule past k ek (plain t) ≡ true → precedes rule past k ek (read_at initial past t c o p) ≡ true
  edge-read k ek h = elim (or_cases (eqb ek.thread t) _ h) [
    | inl q ↦ or_left (eqb ek.thread t) _ q
    | inr q ↦ elim (or_cases (makes_thread t ek) _ q) [
      | inl r ↦ or_right (eqb ek.thread t) _ (or_right (synchronizes_by_release rule past k ek (read_at initial past t c o p)) _ (or_left (makes_thread t ek) _ r))
      | inr r ↦ absurd (false≢true r)
    ]
  ]

  known-read : (i : ℕ) → is_known rule past t i ≡ true → happens_before rule (read_at initial past t c o p ∷ past) i (length past) ≡ true
  known-read i h =
      let s = newest-step rule (plain t) past i h in
      step-newest rule (read_at initial past t c o p) past i (record { k = s.k; ek = s.ek; there = s.there; edge = edge-read s.k s.ek s.edge; rest = s.rest })

  -- what happens before a read: what its thread knows, and what is not after a release of the position
  read-known : (i : ℕ) → happens_before rule (read_at initial past t c o p ∷ past) i (length past) ≡ true
      → (is_known rule past t i ≡ true) ⊎ ((k : ℕ) × (ek : Event) × (released rule past c p k ek ≡ true) × (i ≤ k))
  read-known i h =
      let s = newest-step rule (read_at initial past t c o p) past i h in
      elim (read-edge s.k s.ek s.edge) [
        | inl q ↦ inl (step-newest rule (plain t) past i (record { k = s.k; ek = s.ek; there = s.there; edge = q; rest = s.rest }))
        | inr q ↦ inr (s.k, s.ek, q, elim s.rest [ inl r ↦ omega arith | inr r ↦ (let b = before-less rule past i s.k r in omega arith) ])
      ]

  known-trans : (i j : ℕ) → happens_before rule past i j ≡ true → is_known rule past t j ≡ true → is_known rule past t i ≡ true
  known-trans i j h k = before-trans rule (plain t ∷ past) i j (length past) (before-older rule (plain t) past i j (before-less rule past i j h).1 ∙ h) k

  -- what the three kinds ask of the position
  record Above : Type 0 where
    one : (y : ℕ) (ey : Event) → event_at past y ≡ Some ey → accesses c ey ≡ true → is_known rule past t y ≡ true → position_of ey ≤ p
    two : (y : ℕ) (ey : Event) → event_at past y ≡ Some ey → accesses c ey ≡ true → is_seq_cst (order_of ey) ≡ true → y < seq_cst_limit rule past t o → position_of ey ≤ p
    three : (y : ℕ) (ey : Event) (b : ℕ) (eb : Event) → event_at past y ≡ Some ey → accesses c ey ≡ true → event_at past b ≡ Some eb → is_seq_cst_fence eb ≡ true → b < seq_cst_limit rule past t o → happens_before rule past y b ≡ true → position_of ey ≤ p

  seq_fence : (e : Event) → is_seq_cst_fence e ≡ true → (is_fence e ≡ true) × (is_seq_cst (order_of e) ≡ true)
  seq_fence e h = and_parts (is_fence e) (is_seq_cst (order_of e)) h

  read_of : (y : ℕ) (ey : Event) → accesses c ey ≡ true → on_one_cell (read_at initial past t c o p) ey ≡ true
  read_of y ey h = h

  comes : (ey : Event) → accesses c ey ≡ true → p < position_of ey → comes_first (read_at initial past t c o p) ey ≡ true
  comes ey h l = and_from (on_one_cell (read_at initial past t c o p) ey) _ h (or_left (ltb p (position_of ey)) _ (lt-ltb p (position_of ey) l))

  -- the event that the limit speaks of, seen as the third axiom does
  record Limit (z : ℕ) : Type 0 where
    a : ℕ
    ea : Event
    at_a : event_at (read_at initial past t c o p ∷ past) a ≡ Some ea
    seq_a : is_seq_cst (order_of ea) ≡ true
    from : (a ≡ length past) ⊎ ((is_fence ea ≡ true) × (happens_before rule (read_at initial past t c o p ∷ past) a (length past) ≡ true))
    less : z < a

  limit-at : (z : ℕ) → z < seq_cst_limit rule past t o → Limit z
  limit-at z h = go (is_seq_cst o) refl (last-is (λ a ea. is_seq_cst_fence ea && is_known rule past t a) past)
    where
      go : (b : Bool) → is_seq_cst o ≡ b
          → ((last_number (λ a ea. is_seq_cst_fence ea && is_known rule past t a) past ≡ 0)) ⊎ ((a : ℕ) × (ea : Event) × (event_at past a ≡ Some ea) × ((is_seq_cst_fence ea && is_known rule past t a) ≡ true) × (last_number (λ a ea. is_seq_cst_fence ea && is_known rule past t a) past ≡ a)) → Limit z
      go true s d = let l : z < length past = rw (s, seq_cst_limit) at h in
          record { a = length past; ea = read_at initial past t c o p; at_a = event-newest (read_at initial past t c o p) past; seq_a = s; from = inl refl; less = l }
      go false s (inl d) = let l : z < last_number (λ a ea. is_seq_cst_fence ea && is_known rule past t a) past = rw (s, seq_cst_limit) at h in absurd (omega (arith, l, d))
      go false s (inr d) = let l : z < last_number (λ a ea. is_seq_cst_fence ea && is_known rule past t a) past = rw (s, seq_cst_limit) at h in
          let q = and_parts (is_seq_cst_fence d.1) (is_known rule past t d.0) d.3 in
          let r = seq_fence d.1 q.0 in
          record { a = d.0; ea = d.1; at_a = event-kept (read_at initial past t c o p) past d.0 d.1 d.2; seq_a = r.1; from = inr (r.0, known-read d.0 q.1); less = omega (arith, l, d.4) }

  above-allowed : Above → has_form initial past ≡ true → p ≤ newest past c → Allowed rule past (read_at initial past t c o p)
  above-allowed w f le = record { newer = nw; ordered = od }
    where
      e : Event
      e = read_at initial past t c o p

      nw : (i : ℕ) (ei : Event) → event_at past i ≡ Some ei → on_one_cell ei (read_at initial past t c o p) ≡ true → is_read (read_at initial past t c o p) ≡ true
          → happens_before rule (read_at initial past t c o p ∷ past) i (length past) ≡ true → position_of ei ≤ p
      nw i ei at oc r b =
          let q = one_cell ei (read_at initial past t c o p) oc in
          let a : accesses c ei ≡ true = rw (sym (same_cell-true c q.cell q.of_y)) at q.of_x in
          elim (read-known i b) [ inl k ↦ w.one i ei at a k | inr k ↦ released-allows rule (is_value_at initial) past c p k.0 i k.1 ei f k.2 k.3 at a ]

      od : (a b y : ℕ) (ea eb ey : Event) → Linked rule (read_at initial past t c o p ∷ past) a b (length past) y ea eb (read_at initial past t c o p) ey → y < length past → b < length past → a < b
      od a b y ea eb ey l ly lb = go (cases_lt a b)
        where
          aty : event_at past y ≡ Some ey
          aty = sym (event-older (read_at initial past t c o p) past y ly) ∙ l.at_y

          atb : event_at past b ≡ Some eb
          atb = sym (event-older (read_at initial past t c o p) past b lb) ∙ l.at_b

          parts : (accesses c ey ≡ true) × (p < position_of ey)
          parts = let q = first-cases (read_at initial past t c o p) ey l.first in (q.0, elim q.1 [ inl r ↦ r | inr r ↦ absurd (false≢true r.0) ])

          to_past : (b ≡ y) ⊎ ((is_fence eb ≡ true) × (happens_before rule past y b ≡ true))
          to_past = elim l.to [ inl r ↦ inl r | inr r ↦ inr (r.0, sym (before-older rule (read_at initial past t c o p) past y b lb) ∙ r.1) ]

          yb : y ≤ b
          yb = elim to_past [ inl r ↦ omega arith | inr r ↦ (let q = before-less rule past y b r.1 in omega arith) ]

          -- b stands below the limit
          under : b < seq_cst_limit rule past t o → ⊥
          under h = elim to_past [
            | inl r ↦ (let s : event_at past y ≡ Some eb = rw r at atb in let u = aty in let v : eb ≡ ey = cc in
                let k = w.two y ey aty parts.0 (rw v at l.seq_b) (rw r at h) in let m = parts.1 in omega (arith, k, m))
            | inr r ↦ (let k = w.three y ey b eb aty parts.0 atb (and_from (is_fence eb) (is_seq_cst (order_of eb)) r.0 l.seq_b) h r.1 in let m = parts.1 in omega (arith, k, m))
          ]

          -- y is known
          seen : is_known rule past t y ≡ true → ⊥
          seen h = let k = w.one y ey aty parts.0 h in let m = parts.1 in omega (arith, k, m)

          fenced : is_fence ea ≡ true → happens_before rule (read_at initial past t c o p ∷ past) a (length past) ≡ true → b ≤ a → a < b
          fenced fe hb le' = elim (read-known a hb) [
            | inl k ↦ absurd (elim (cases_eq b a) [
              | inl q ↦ elim to_past [
                | inl r ↦ (let s : event_at past y ≡ Some eb = rw r at atb in let u = aty in let v : eb ≡ ey = cc in
                    let z : event_at (read_at initial past t c o p ∷ past) b ≡ Some ea = rw (sym q) at l.at_a in let z' = l.at_b in let v' : ea ≡ eb = cc in
                    fence_no_access ey c (rw (v' ∙ v) at fe) parts.0)
                | inr r ↦ seen (known-trans y b r.1 (rw (sym q) at k))
              ]
              | inr q ↦ under (let lm = lim k in omega arith)
            ])
            | inr k ↦ (let y2 = yb in let r = released-allows rule (is_value_at initial) past c p k.0 y k.1 ey f k.2 (let z = k.3 in omega arith) aty parts.0 in let m = parts.1 in omega (arith, r, m))
          ]
            where
              lim : is_known rule past t a ≡ true → a ≤ seq_cst_limit rule past t o
              lim k = pick (is_seq_cst o) refl
                where
                  less : (a < length past) × (length past < suc (length past))
                  less = before-less rule (plain t ∷ past) a (length past) k

                  pick : (v : Bool) → is_seq_cst o ≡ v → a ≤ seq_cst_limit rule past t o
                  pick true s = rw (s, seq_cst_limit) (let z = less in omega arith)
                  pick false s = rw (s, seq_cst_limit) (last-above (λ a ea. is_seq_cst_fence ea && is_known rule past t a) past a ea (sym (event-older (read_at initial past t c o p) past a less.0) ∙ l.at_a)
                      (and_from (is_seq_cst_fence ea) (is_known rule past t a) (and_from (is_fence ea) (is_seq_cst (order_of ea)) fe l.seq_a) k))

          go : (a < b) ⊎ (b ≤ a) → a < b
          go (inl q) = q
          go (inr q) = elim l.from [
            | inl r ↦ absurd (under (let z : event_at (read_at initial past t c o p ∷ past) (length past) ≡ Some ea = rw r at l.at_a in let u = l.at_x in
                let v : ea ≡ read_at initial past t c o p = cc in let k : is_seq_cst o ≡ true = rw v at l.seq_a in rw (k, seq_cst_limit) lb))
            | inr r ↦ fenced r.0 r.1 q
          ]

  allowed-above : Allowed rule past (read_at initial past t c o p) → Above
  allowed-above w = record {
    one = λ y ey at a k. w.newer y ey at (on_one ey (read_at initial past t c o p) c a (same_cell-refl c)) refl (known-read y k);
    two = λ y ey at a sq h. elim (cases_lt p (position_of ey)) [
      | inr q ↦ q
      | inl q ↦ (let l = limit-at y h in
          let r = w.ordered l.a y y l.ea ey ey (record {
            at_a = l.at_a;
            at_b = event-kept (read_at initial past t c o p) past y ey at;
            at_x = event-newest (read_at initial past t c o p) past;
            at_y = event-kept (read_at initial past t c o p) past y ey at;
            seq_a = l.seq_a;
            seq_b = sq;
            first = comes ey a q;
            from = l.from;
            to = inl refl;
          }) (event-below past y ey at) (event-below past y ey at) in
          let z = l.less in absurd (omega (arith, r, z)))
    ];
    three = λ y ey b eb at a atb sf h hb. elim (cases_lt p (position_of ey)) [
      | inr q ↦ q
      | inl q ↦ (let l = limit-at b h in
          let f = seq_fence eb sf in
          let r = w.ordered l.a b y l.ea eb ey (record {
            at_a = l.at_a;
            at_b = event-kept (read_at initial past t c o p) past b eb atb;
            at_x = event-newest (read_at initial past t c o p) past;
            at_y = event-kept (read_at initial past t c o p) past y ey at;
            seq_a = l.seq_a;
            seq_b = f.1;
            first = comes ey a q;
            from = l.from;
            to = inr (f.0, before-older rule (read_at initial past t c o p) past y b (event-below past b eb atb) ∙ hb);
          }) (event-below past y ey at) (event-below past b eb atb) in
          let z = l.less in absurd (omega (arith, r, z)))
    ];
  }

  kinds : ℕ → Event → Bool
  kinds y ey = first_kind rule past t c y ey || (second_kind (seq_cst_limit rule past t o) c y ey || third_kind rule past (seq_cst_limit rule past t o) c y ey)

  floor-above : floor rule past t c o ≤ p → Above
  unfolding kinds floor
  floor-above h0 = let h : greatest_position kinds past ≤ p = h0 in record {
    one = λ y ey at a k. let q = greatest-at kinds past y ey at (or_left (first_kind rule past t c y ey) _ (and_from (accesses c ey) _ a k)) in omega (arith, q, h);
    two = λ y ey at a sq l. let q = greatest-at kinds past y ey at (or_right (first_kind rule past t c y ey) _ (or_left (second_kind (seq_cst_limit rule past t o) c y ey) _ (and_from (accesses c ey && is_seq_cst (order_of ey)) _ (and_from (accesses c ey) _ a sq) (lt-ltb y (seq_cst_limit rule past t o) l)))) in omega (arith, q, h);
    three = λ y ey b eb at a atb sf l hb. let q = greatest-at kinds past y ey at (or_right (first_kind rule past t c y ey) _ (or_right (second_kind (seq_cst_limit rule past t o) c y ey) _ (and_from (accesses c ey) _ a
        (any-from (λ b eb. is_seq_cst_fence eb && ltb b (seq_cst_limit rule past t o) && happens_before rule past y b) past b eb atb (and_from (is_seq_cst_fence eb && ltb b (seq_cst_limit rule past t o)) _ (and_from (is_seq_cst_fence eb) _ sf (lt-ltb b (seq_cst_limit rule past t o) l)) hb))))) in omega (arith, q, h);
  }

  above-floor : Above → floor rule past t c o ≤ p
  unfolding kinds floor
  above-floor w = greatest-below kinds past p go
    where
      go : (y : ℕ) (ey : Event) → event_at past y ≡ Some ey → kinds y ey ≡ true → position_of ey ≤ p
      go y ey at h = elim (or_cases (first_kind rule past t c y ey) _ h) [
        | inl q ↦ (let r = and_parts (accesses c ey) (is_known rule past t y) q in w.one y ey at r.0 r.1)
        | inr q ↦ elim (or_cases (second_kind (seq_cst_limit rule past t o) c y ey) _ q) [
          | inl s ↦ (let r = and_parts (accesses c ey && is_seq_cst (order_of ey)) (ltb y (seq_cst_limit rule past t o)) s in let r' = and_parts (accesses c ey) (is_seq_cst (order_of ey)) r.0 in w.two y ey at r'.0 r'.1 (ltb-true y (seq_cst_limit rule past t o) r.1))
          | inr s ↦ (let r = and_parts (accesses c ey) (any_event (λ b eb. is_seq_cst_fence eb && ltb b (seq_cst_limit rule past t o) && happens_before rule past y b) past) s in
              let v = any-some (λ b eb. is_seq_cst_fence eb && ltb b (seq_cst_limit rule past t o) && happens_before rule past y b) past r.1 in
              let x = and_parts (is_seq_cst_fence v.1 && ltb v.0 (seq_cst_limit rule past t o)) (happens_before rule past y v.0) v.3 in
              let x' = and_parts (is_seq_cst_fence v.1) (ltb v.0 (seq_cst_limit rule past t o)) x.0 in
              w.three y ey v.0 v.1 at r.0 v.2 x'.0 (ltb-true v.0 (seq_cst_limit rule past t o) x'.1) x.1)
        ]
      ]

  -- a position is an option exactly from the floor on
  pub option-iff : meets_axioms rule initial past ≡ true → p ≤ newest past c → (meets_axioms rule initial (read_at initial past t c o p ∷ past) ≡ true) ↔ (floor rule past t c o ≤ p)
  option-iff m le = (
    λ h. above-floor (allowed-above ((meets-newest rule (read_at initial past t c o p) past initial).0 h).2),
    λ h. (meets-newest rule (read_at initial past t c o p) past initial).1 (m, read-fits initial past t c o p le, above-allowed (floor-above h) (form-of rule initial past m) le),
  )

down_from-same : (f g : ℕ → Bool) (n : ℕ) → ((k : ℕ) → k ≤ n → f k ≡ g k) → down_from f n ≡ down_from g n
down_from-same f g zero h = rw (h 0 (omega arith))
down_from-same f g (suc n) h = rw (h (suc n) (omega arith), down_from) (rw (down_from-same f g n (λ k l. h k (omega arith))))

-- the options of a load are all positions from the newest down to the floor
pub options-floor : (rule : Rule) (initial : CellId → Scalar) (past : List Event) (t : ℕ) (c : CellId) (o : Order) → meets_axioms rule initial past ≡ true
    → options rule initial past t c o ≡ down_from (λ p. leb (floor rule past t c o) p) (newest past c)
unfolding options
options-floor rule initial past t c o m = down_from-same _ _ (newest past c) (λ p le. same_from_decides (meets_axioms rule initial (read_at initial past t c o p ∷ past)) (leb (floor rule past t c o) p)
    (option-iff rule initial past t c o p m le) (λ h. leb-true (floor rule past t c o) p h, λ h. le-leb (floor rule past t c o) p h))
