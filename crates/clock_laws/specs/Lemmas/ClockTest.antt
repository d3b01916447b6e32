-- What each clock stands for, and what an event takes.
use Rattle.std.proofs.Common.{◌≡◌, ℕ, suc, ◌<◌, ◌≤◌, Bool, true, false, ◌&&◌, ◌||◌, eqb, ltb, leb, List, [], ◌∷◌, length, Some, refl, sym, ◌∙◌, inl, inr, ◌⊎◌, ◌↔◌, arith}
use Rattle.std.proofs.lemmas.Bool.{eq-eqb, eqb-true, or_cases, or_left, or_right, and_from, and_parts, false≢true, ltb-true, lt-ltb, leb-true}
use Rattle.mu_base.specs.declared.order.Order.{Order}
use Rattle.mu_values.specs.declared.scalars.Scalar.{Scalar}
use Rattle.mu_values.specs.declared.cells.CellId.{CellId}
use Rattle.mem_axioms.specs.Events.{is_atomic, position_taken, is_fence, order_of, loads, is_wake}
use Rattle.mem_axioms.specs.Logs.{event_at, any_event, newest}
use Rattle.mem_axioms.specs.Synchronizes.{acquires, releases, synchronizes_by_release, makes_thread, last_to_give_up, gives_up, heads, released, released_to}
use Rattle.mem_axioms.specs.HappensBefore.{happens_before}
use Rattle.mem_axioms.specs.Form.{fits_form_by}
use Rattle.mem_axioms.specs.Floor.{plain, is_known}
use Rattle.mem_axioms.specs.declared.types.Event.{Event}
use Rattle.mem_axioms.specs.declared.types.Rule.{Rule}
use Rattle.mem_axioms.specs.declared.types.Mode.{Mode}
use Rattle.mem_axioms.specs.declared.types.Mode.TheVariants.{Read, Write, Update}
use Rattle.mem_axioms.specs.declared.types.Kind.{Kind}
use Rattle.mem_axioms.specs.declared.types.Kind.TheVariants.{Access, Fence, NewStack, NewThread, Leave, Enter, Wake, Woken}
use Rattle.mem_axioms.specs.Lemmas.Numbers.{any-from, any-some, event-below, event-kept, event-cases, event-newest, event-exists}
use Rattle.mem_axioms.specs.Lemmas.Steps.{Step, newest-step, step-newest, before-older}
use Rattle.clock_laws.specs.Clocks.{Views, gains, knew, knows}
use Rattle.clock_laws.specs.Lemmas.Stands.{Stands, Upto, stands-none, stands-same, stands-or, stands-new, Gains, before-parts}

-- what a head gives: itself, or a release fence before it
abbrev pub Frees : ℕ → Event → ℕ → Event → Type 0
Frees k ek h head = ((k ≡ h) × (releases (order_of head) ≡ true)) ⊎ ((k < h) × (ek.thread ≡ head.thread) × (is_fence ek ≡ true) × (releases (order_of ek) ≡ true))

pub give-below : (log : List Event) (s k : ℕ) → last_to_give_up log s k ≡ true → k < length log
give-below [] s k h = absurd (false≢true h)
give-below (e ∷ past) s k h = go (give-below past s k) (gives_up s e) refl
  where
    go : (last_to_give_up past s k ≡ true → k < length past) → (b : Bool) → gives_up s e ≡ b → k < suc (length past)
    go ih true p = let q = eqb-true k (length past) (rw (p, last_to_give_up) at h) in omega arith
    go ih false p = let q = ih (rw (p, last_to_give_up) at h) in omega arith

module _ (right : List Event → CellId → ℕ → Scalar → Bool) (past : List Event) where
  pub taken-below : (t : ℕ) (mode : Mode) (c : CellId) (o : Order) (p : ℕ) (x : Scalar) → fits_form_by right past (record { thread = t; kind = Access mode c o p x }) ≡ true → loads mode ≡ true
      → position_taken (record { thread = t; kind = Access mode c o p x }) ≤ newest past c
  taken-below t Read c o p x f h = leb-true p (newest past c) (and_parts (leb p (newest past c)) _ f).0
  taken-below t Write c o p x f h = absurd (false≢true h)
  taken-below t Update c o p x f h = let q = eqb-true p (suc (newest past c)) f in omega (arith, q)

module _ (rule : Rule) where
  -- event i is known to who acquires position q of the cell
  pub record Sent (log : List Event) (c : CellId) (q i : ℕ) : Type 0 where
    pub k : ℕ
    pub ek : Event
    pub h : ℕ
    pub head : Event
    pub at_k : event_at log k ≡ Some ek
    pub at_h : event_at log h ≡ Some head
    pub heads_it : heads rule log c q h head ≡ true
    pub frees : Frees k ek h head
    pub rest : Upto rule log k i

  -- the same, of heads by one thread
  abbrev pub SentBy : List Event → CellId → ℕ → ℕ → ℕ → Type 0
  SentBy log c q u i = (s : Sent log c q i) × (s.head.thread ≡ u)

  abbrev pub Left : List Event → ℕ → ℕ → Type 0
  Left log s i = (k : ℕ) × (last_to_give_up log s k ≡ true) × Upto rule log k i

  pub record Fenced (log : List Event) (t i : ℕ) : Type 0 where
    pub k : ℕ
    pub ek : Event
    pub at_k : event_at log k ≡ Some ek
    pub of_thread : ek.thread ≡ t
    pub fence : is_fence ek ≡ true
    pub release : releases (order_of ek) ≡ true
    pub rest : Upto rule log k i

  pub record Pending (log : List Event) (t i : ℕ) : Type 0 where
    pub r : ℕ
    pub er : Event
    pub k : ℕ
    pub ek : Event
    pub at_r : event_at log r ≡ Some er
    pub of_thread : er.thread ≡ t
    pub less : k < r
    pub at_k : event_at log k ≡ Some ek
    pub taken_by : released_to rule log er k ek ≡ true
    pub rest : Upto rule log k i

  -- event w is a wake, and i is it or happens before it
  pub record Woke (log : List Event) (w i : ℕ) : Type 0 where
    pub ew : Event
    pub there : event_at log w ≡ Some ew
    pub wake : is_wake ew ≡ true
    pub rest : Upto rule log w i

  pub record Correct (log : List Event) (v : Views) : Type 0 where
    pub of_thread : (t : ℕ) → Stands log (λ i. is_known rule log t i ≡ true) (v.thread t)
    pub of_event : (k : ℕ) (ek : Event) → event_at log k ≡ Some ek → Stands log (Upto rule log k) (v.at k)
    pub of_woke : (w : ℕ) → Stands log (Woke log w) (v.woke w)
    pub of_left : (s : ℕ) → Stands log (Left log s) (v.left s)
    pub of_released : (c : CellId) (q : ℕ) → q ≤ newest log c → Stands log (Sent log c q) (v.released c q)
    pub of_sequence : (c : CellId) (u : ℕ) → Stands log (SentBy log c (newest log c) u) (v.sequence c u)
    pub of_fenced : (t : ℕ) → Stands log (Fenced log t) (v.fenced t)
    pub of_pending : (t : ℕ) → Stands log (Pending log t) (v.pending t)

  -- what released_ says by its head
  pub released-sent : (log : List Event) (c : CellId) (q k i : ℕ) (ek : Event) → event_at log k ≡ Some ek → released rule log c q k ek ≡ true → Upto rule log k i → Sent log c q i
  released-sent log c q k i ek at r u =
      let s = any-some (λ h head. heads rule log c q h head && ((eqb k h && releases (order_of head)) || (ltb k h && eqb ek.thread head.thread && is_fence ek && releases (order_of ek)))) log r in
      let t = and_parts (heads rule log c q s.0 s.1) _ s.3 in
      record {
        k = k;
        ek = ek;
        h = s.0;
        head = s.1;
        at_k = at;
        at_h = s.2;
        heads_it = t.0;
        rest = u;
        frees = elim (or_cases (eqb k s.0 && releases (order_of s.1)) _ t.1) [
          | inl x ↦ (let y = and_parts (eqb k s.0) _ x in inl (eqb-true k s.0 y.0, y.1))
          | inr x ↦ (let y = and_parts (ltb k s.0 && eqb ek.thread s.1.thread && is_fence ek) _ x in
              let z = and_parts (ltb k s.0 && eqb ek.thread s.1.thread) _ y.0 in let w = and_parts (ltb k s.0) _ z.0 in
              inr (ltb-true k s.0 w.0, eqb-true ek.thread s.1.thread w.1, z.1, y.1))
        ];
      }

  pub sent-released : (log : List Event) (c : CellId) (q i : ℕ) (s : Sent log c q i) → released rule log c q s.k s.ek ≡ true
  sent-released log c q i s = any-from (λ h head. heads rule log c q h head && ((eqb s.k h && releases (order_of head)) || (ltb s.k h && eqb s.ek.thread head.thread && is_fence s.ek && releases (order_of s.ek)))) log s.h s.head s.at_h
      (and_from (heads rule log c q s.h s.head) _ s.heads_it (elim s.frees [
        | inl x ↦ or_left (eqb s.k s.h && releases (order_of s.head)) _ (and_from (eqb s.k s.h) _ (eq-eqb s.k s.h x.0) x.1)
        | inr x ↦ or_right (eqb s.k s.h && releases (order_of s.head)) _ (and_from (ltb s.k s.h && eqb s.ek.thread s.head.thread && is_fence s.ek) _
            (and_from (ltb s.k s.h && eqb s.ek.thread s.head.thread) _ (and_from (ltb s.k s.h) _ (lt-ltb s.k s.h x.0) (eq-eqb s.ek.thread s.head.thread x.1)) x.2) x.3)
      ]))

  module _ (right : List Event → CellId → ℕ → Scalar → Bool) (past : List Event) where
    gains-kind : (v : Views) (t : ℕ) (k : Kind) → Correct past v → fits_form_by right past (record { thread = t; kind = k }) ≡ true
        → Stands past (Gains rule past (record { thread = t; kind = k })) (gains v (record { thread = t; kind = k }))
    gains-kind v t (Access mode c o p x) cor f = go (acquires o && (loads mode && is_atomic o)) refl
      where
        e : Event
        e = record { thread = t; kind = Access mode c o p x }

        edge : (i : ℕ) (g : Gains rule past (record { thread = t; kind = Access mode c o p x }) i) → ((acquires o && (loads mode && is_atomic o)) ≡ true) × (released rule past c (position_taken (record { thread = t; kind = Access mode c o p x })) g.k g.ek ≡ true)
        edge i g = elim (or_cases (synchronizes_by_release rule past g.k g.ek (record { thread = t; kind = Access mode c o p x })) _ g.edge) [
          | inl q ↦ (let y = and_parts (acquires o) _ q in elim (or_cases (loads mode && is_atomic o && released rule past c (position_taken (record { thread = t; kind = Access mode c o p x })) g.k g.ek) _ y.1) [
            | inl r ↦ (let z = and_parts (loads mode && is_atomic o) _ r in (and_from (acquires o) _ y.0 z.0, z.1))
            | inr r ↦ absurd (false≢true r)
          ])
          | inr q ↦ absurd (false≢true q)
        ]

        go : (b : Bool) → (acquires o && (loads mode && is_atomic o)) ≡ b → Stands past (Gains rule past (record { thread = t; kind = Access mode c o p x })) (gains v (record { thread = t; kind = Access mode c o p x }))
        go false q = rw (q, gains) (stands-none past _ (λ i g. false≢true (sym q ∙ (edge i g).0)))
        go true q =
            let parts = and_parts (acquires o) _ q in
            let parts2 = and_parts (loads mode) (is_atomic o) parts.1 in
            rw (q, gains) (stands-same past (Sent past c (position_taken (record { thread = t; kind = Access mode c o p x }))) _ _ (λ i ei at. (
              λ g. released-sent past c _ g.k i g.ek g.there (edge i g).1 g.rest,
              λ s. record {
                k = s.k;
                ek = s.ek;
                there = s.at_k;
                rest = s.rest;
                edge = or_left (synchronizes_by_release rule past s.k s.ek (record { thread = t; kind = Access mode c o p x })) _ (and_from (acquires o) _ parts.0
                    (or_left (loads mode && is_atomic o && released rule past c (position_taken (record { thread = t; kind = Access mode c o p x })) s.k s.ek) _ (and_from (loads mode && is_atomic o) _ parts.1 (sent-released past c _ i s))));
              },
            ))
            (cor.of_released c (position_taken (record { thread = t; kind = Access mode c o p x })) (taken-below right past t mode c o p x f parts2.0)))
    gains-kind v t (Fence o) cor f = go (acquires o) refl
      where
        e : Event
        e = record { thread = t; kind = Fence o }

        test : (k : ℕ) (ek : Event) (r : ℕ) (er : Event) → Bool
        test k ek r er = ltb k r && eqb er.thread t && released_to rule past er k ek

        edge : (i : ℕ) (g : Gains rule past (record { thread = t; kind = Fence o }) i) → (acquires o ≡ true) × (any_event (test g.k g.ek) past ≡ true)
        edge i g = elim (or_cases (synchronizes_by_release rule past g.k g.ek (record { thread = t; kind = Fence o })) _ g.edge) [
          | inl q ↦ and_parts (acquires o) (any_event (test g.k g.ek) past) q
          | inr q ↦ absurd (false≢true q)
        ]

        pend : (i : ℕ) → Gains rule past (record { thread = t; kind = Fence o }) i → Pending past t i
        pend i g =
            let a = any-some (test g.k g.ek) past (edge i g).1 in
            let x = and_parts (ltb g.k a.0 && eqb a.1.thread t) (released_to rule past a.1 g.k g.ek) a.3 in
            let y = and_parts (ltb g.k a.0) _ x.0 in
            record { r = a.0; er = a.1; k = g.k; ek = g.ek; at_r = a.2; of_thread = eqb-true a.1.thread t y.1; less = ltb-true g.k a.0 y.0; at_k = g.there; taken_by = x.1; rest = g.rest }

        gain : acquires o ≡ true → (i : ℕ) → Pending past t i → Gains rule past (record { thread = t; kind = Fence o }) i
        gain q i s = record {
          k = s.k;
          ek = s.ek;
          there = s.at_k;
          rest = s.rest;
          edge = or_left (synchronizes_by_release rule past s.k s.ek (record { thread = t; kind = Fence o })) _ (and_from (acquires o) _ q
              (any-from (test s.k s.ek) past s.r s.er s.at_r (and_from (ltb s.k s.r && eqb s.er.thread t) _ (and_from (ltb s.k s.r) _ (lt-ltb s.k s.r s.less) (eq-eqb s.er.thread t s.of_thread)) s.taken_by)));
        }

        go : (b : Bool) → acquires o ≡ b → Stands past (Gains rule past (record { thread = t; kind = Fence o })) (gains v (record { thread = t; kind = Fence o }))
        go false q = rw (q, gains) (stands-none past _ (λ i g. false≢true (sym q ∙ (edge i g).0)))
        go true q = rw (q, gains) (stands-same past (Pending past t) _ _ (λ i ei at. (pend i, gain q i)) (cor.of_pending t))
    gains-kind v t (NewStack s) cor f = stands-none past _ (λ i g. false≢true g.edge)
    gains-kind v t (NewThread s) cor f = stands-none past _ (λ i g. false≢true g.edge)
    gains-kind v t (Leave s) cor f = stands-none past _ (λ i g. false≢true g.edge)
    gains-kind v t (Enter s) cor f = stands-same past (Left past s) _ _ (λ i ei at. (
      λ g. (g.k, elim (or_cases (last_to_give_up past s g.k) false g.edge) [ inl q ↦ q | inr q ↦ absurd (false≢true q) ], g.rest),
      λ l. (let x = event-exists past l.0 (give-below past s l.0 l.1) in
          record { k = l.0; ek = x.0; there = x.1; edge = or_left (last_to_give_up past s l.0) false l.1; rest = l.2 }),
    )) (cor.of_left s)
    gains-kind v t (Wake s m) cor f = stands-none past _ (λ i g. false≢true g.edge)
    gains-kind v t (Woken w) cor f =
        stands-same past (Woke past w) _ _ (λ i ei at. (
          λ g. (let p = and_parts (eqb g.k w) (is_wake g.ek) g.edge in let z = eqb-true g.k w p.0 in record { ew = g.ek; there = (rw z at g.there); wake = p.1; rest = (rw z at g.rest) }),
          λ x. record { k = w; ek = x.ew; there = x.there; edge = and_from (eqb w w) (is_wake x.ew) (eq-eqb w w refl) x.wake; rest = x.rest },
        )) (cor.of_woke w)

    -- what is known before an event, and after it
    pub knew-stands : (v : Views) (e : Event) → Correct past v → fits_form_by right past e ≡ true → Stands past (λ i. happens_before rule (e ∷ past) i (length past) ≡ true) (knew v e)
    knew-stands v e cor f = stands-same past (λ i. (is_known rule past e.thread i ≡ true) ⊎ Gains rule past e i) _ _ (λ i ei at. before-parts rule e past i)
        (stands-or past _ _ _ _ (cor.of_thread e.thread) (gains-kind v e.thread e.kind cor f))

    pub knows-stands : (v : Views) (e : Event) → Correct past v → fits_form_by right past e ≡ true → Stands (e ∷ past) (Upto rule (e ∷ past) (length past)) (knows v (length past) e)
    knows-stands v e cor f = stands-new rule e past (knew v e) (knew-stands v e cor f)

  module _ (e : Event) (past : List Event) where
    -- with one more event, a thread knows what it knew; and the event and what happens before it, where the event is its own or stores it
    pub known-new : (t i : ℕ) → (is_known rule (e ∷ past) t i ≡ true) ↔ ((is_known rule past t i ≡ true) ⊎ (((eqb e.thread t || makes_thread t e) ≡ true) × Upto rule (e ∷ past) (length past) i))
    known-new t i = (there, back)
      where
        there : is_known rule (e ∷ past) t i ≡ true → (is_known rule past t i ≡ true) ⊎ (((eqb e.thread t || makes_thread t e) ≡ true) × Upto rule (e ∷ past) (length past) i)
        there h = go (newest-step rule (plain t) (e ∷ past) i h)
          where
            shape : (ek : Event) → (eqb ek.thread t || (false || (false || (makes_thread t ek || false)))) ≡ true → (eqb ek.thread t || makes_thread t ek) ≡ true
            shape ek h = elim (or_cases (eqb ek.thread t) _ h) [ inl p ↦ or_left (eqb ek.thread t) _ p | inr p ↦ or_right (eqb ek.thread t) _ (elim (or_cases (makes_thread t ek) false p) [ inl q ↦ q | inr q ↦ absurd (false≢true q) ]) ]

            go : Step rule (e ∷ past) (plain t) i → (is_known rule past t i ≡ true) ⊎ (((eqb e.thread t || makes_thread t e) ≡ true) × Upto rule (e ∷ past) (length past) i)
            go s = pick (event-cases e past s.k s.ek s.there)
              where
                pick : ((s.k ≡ length past) × (s.ek ≡ e)) ⊎ ((s.k < length past) × (event_at past s.k ≡ Some s.ek)) → (is_known rule past t i ≡ true) ⊎ (((eqb e.thread t || makes_thread t e) ≡ true) × Upto rule (e ∷ past) (length past) i)
                pick (inl p) = inr (rw p.1 at (shape s.ek s.edge), elim s.rest [ inl q ↦ inl (sym q ∙ p.0) | inr q ↦ inr (rw p.0 at q) ])
                pick (inr p) = inl (step-newest rule (plain t) past i (record { k = s.k; ek = s.ek; there = p.1; edge = s.edge; rest = elim s.rest [ inl q ↦ inl q | inr q ↦ inr (sym (before-older rule e past i s.k p.0) ∙ q) ] }))

        back : (is_known rule past t i ≡ true) ⊎ (((eqb e.thread t || makes_thread t e) ≡ true) × Upto rule (e ∷ past) (length past) i) → is_known rule (e ∷ past) t i ≡ true
        back (inl h) = go (newest-step rule (plain t) past i h)
          where
            go : Step rule past (plain t) i → is_known rule (e ∷ past) t i ≡ true
            go s = let l = event-below past s.k s.ek s.there in step-newest rule (plain t) (e ∷ past) i (record {
              k = s.k;
              ek = s.ek;
              there = event-kept e past s.k s.ek s.there;
              edge = s.edge;
              rest = elim s.rest [ inl q ↦ inl q | inr q ↦ inr (before-older rule e past i s.k l ∙ q) ];
            })
        back (inr h) = step-newest rule (plain t) (e ∷ past) i (record {
          k = length past;
          ek = e;
          there = event-newest e past;
          edge = elim (or_cases (eqb e.thread t) (makes_thread t e) h.0) [ inl p ↦ or_left (eqb e.thread t) _ p | inr p ↦ or_right (eqb e.thread t) _ (or_left (makes_thread t e) false p) ];
          rest = elim h.1 [ inl q ↦ inl (sym q) | inr q ↦ inr q ];
        })

    -- its thread's own: what was known there happens before the event
    pub known-own : (i : ℕ) → is_known rule past e.thread i ≡ true → Upto rule (e ∷ past) (length past) i
    known-own i h = inr ((before-parts rule e past i).1 (inl h))
