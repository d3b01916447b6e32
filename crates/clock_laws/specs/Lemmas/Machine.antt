-- The clocks stay right with one more event.
use Rattle.std.proofs.Common.{◌≡◌, ℕ, suc, ◌-◌, ◌<◌, ◌≤◌, Bool, true, false, cond, ◌&&◌, ◌||◌, eqb, ltb, List, [], ◌∷◌, length, Some, refl, sym, ap, ◌∙◌, inl, inr, ◌⊎◌, ◌↔◌, arith}
use Rattle.std.specs.Prelude.{max}
use Rattle.std.proofs.lemmas.Bool.{ne_eqb, eq-eqb, eqb-true, cases_eq, or_cases, or_left, or_right, and_from, and_parts, false≢true}
use Rattle.mu_values.specs.declared.scalars.Scalar.{Scalar}
use Rattle.mu_values.specs.declared.cells.CellId.{CellId}
use Rattle.mu_values.specs.CellLaws.{same_cell-refl}
use Rattle.mem_axioms.specs.Events.{is_atomic, position_of, position_taken, modifies, is_fence, is_update, order_of, loads, is_wake}
use Rattle.mem_axioms.specs.Logs.{event_at, newest}
use Rattle.mem_axioms.specs.Synchronizes.{releases, continues, makes_thread, last_to_give_up, gives_up, heads, released, released_to}
use Rattle.mem_axioms.specs.Form.{fits_form_by, has_form_by}
use Rattle.mem_axioms.specs.Floor.{plain, is_known}
use Rattle.mem_axioms.specs.declared.types.Event.{Event}
use Rattle.mem_axioms.specs.declared.types.Rule.{Rule}
use Rattle.mem_axioms.specs.declared.types.Kind.{Kind}
use Rattle.mem_axioms.specs.declared.types.Kind.TheVariants.{Access, Fence, NewStack, NewThread, Leave, Enter, Wake, Woken}
use Rattle.mem_axioms.specs.Lemmas.Numbers.{any-from, any-some, event-below, event-kept, event-cases, event-newest}
use Rattle.mem_axioms.specs.Lemmas.Steps.{before-less}
use Rattle.mem_axioms.specs.Lemmas.Positions.{fits-next, form-position, newest-changed, newest-same, heads-below}
use Rattle.clock_laws.specs.Clocks.{Views, start, join, knows, gives, pends, after, views}
use Rattle.clock_laws.specs.Lemmas.Stands.{Stands, Upto, upto-less, upto-older, stands-none, stands-same, stands-or, stands-ext, stands-older}
use Rattle.clock_laws.specs.Lemmas.ClockTest.{taken-below, Sent, SentBy, Left, Fenced, Pending, Correct, Woke, released-sent, sent-released, give-below, known-new, known-own, knows-stands}
use Rattle.clock_laws.specs.Lemmas.Sequences.{Own, own-stands, sequenced, older-at, sent-same, sent_by-same, sequence-new, released-new, heads-same}

module _ (rule : Rule) where
  known-less : (past : List Event) (t i : ℕ) → is_known rule past t i ≡ true → i < length past
  known-less past t i h = (before-less rule (plain t ∷ past) i (length past) h).0

  module _ (right : List Event → CellId → ℕ → Scalar → Bool) (e : Event) (past : List Event) where
    -- what was released at a position stays as it is
    released-there : (c : CellId) (q k : ℕ) (ek : Event) → (modifies c e && eqb (position_of e) q) ≡ false → released rule (e ∷ past) c q k ek ≡ true → released rule past c q k ek ≡ true
    released-there c q k ek p h =
        let s = any-some (λ h head. heads rule (e ∷ past) c q h head && ((eqb k h && releases (order_of head)) || (ltb k h && eqb ek.thread head.thread && is_fence ek && releases (order_of ek)))) (e ∷ past) h in
        let t = and_parts (heads rule (e ∷ past) c q s.0 s.1) _ s.3 in
        let hd = sym (heads-same rule e past c q s.0 s.1 p) ∙ t.0 in
        let l = heads-below rule past c q s.0 s.1 hd in
        any-from (λ h head. heads rule past c q h head && ((eqb k h && releases (order_of head)) || (ltb k h && eqb ek.thread head.thread && is_fence ek && releases (order_of ek)))) past s.0 s.1
        (older-at rule e past s.0 s.1 s.2 l) (and_from (heads rule past c q s.0 s.1) _ hd t.1)

    released-back : (c : CellId) (q k : ℕ) (ek : Event) → (modifies c e && eqb (position_of e) q) ≡ false → released rule past c q k ek ≡ true → released rule (e ∷ past) c q k ek ≡ true
    released-back c q k ek p h =
        let s = any-some (λ h head. heads rule past c q h head && ((eqb k h && releases (order_of head)) || (ltb k h && eqb ek.thread head.thread && is_fence ek && releases (order_of ek)))) past h in
        let t = and_parts (heads rule past c q s.0 s.1) _ s.3 in
        any-from (λ h head. heads rule (e ∷ past) c q h head && ((eqb k h && releases (order_of head)) || (ltb k h && eqb ek.thread head.thread && is_fence ek && releases (order_of ek)))) (e ∷ past) s.0 s.1
        (event-kept e past s.0 s.1 s.2) (and_from (heads rule (e ∷ past) c q s.0 s.1) _ (heads-same rule e past c q s.0 s.1 p ∙ t.0) t.1)

    -- no position up to the newest is made
    unmade : (c : CellId) (q : ℕ) → fits_form_by right past e ≡ true → q ≤ newest past c → (modifies c e && eqb (position_of e) q) ≡ false
    unmade c q f l = go (modifies c e) refl
      where
        go : (b : Bool) → modifies c e ≡ b → (modifies c e && eqb (position_of e) q) ≡ false
        go true p = let a = fits-next right past e c f p in rw p (ne_eqb (position_of e) q (λ z. omega (arith, a, z, l)))
        go false p = rw p

    same-kind : (t : ℕ) (kd : Kind) (r : ℕ) → has_form_by right past ≡ true → fits_form_by right past e ≡ true → event_at past r ≡ Some (record { thread = t; kind = kd })
        → (k : ℕ) (ek : Event) → (released_to rule (e ∷ past) (record { thread = t; kind = kd }) k ek ≡ true) ↔ (released_to rule past (record { thread = t; kind = kd }) k ek ≡ true)
    same-kind t (Access mode c o p x) r form f at k ek =
        let er : Event = record { thread = t; kind = Access mode c o p x } in
        let top : p ≤ newest past c = form-position right past r er c form at (same_cell-refl c) in
        let low : position_taken er ≤ p = elim (is_update er) as (λ b. cond b (p - 1) p ≤ p) [ true ↦ omega arith | false ↦ omega arith ] in
        let no_change = unmade c (position_taken er) f (omega (arith, top, low)) in (
          λ h. (let y = and_parts (loads mode && is_atomic o) _ h in and_from (loads mode && is_atomic o) _ y.0 (released-there c (position_taken er) k ek no_change y.1)),
          λ h. (let y = and_parts (loads mode && is_atomic o) _ h in and_from (loads mode && is_atomic o) _ y.0 (released-back c (position_taken er) k ek no_change y.1)),
        )
    same-kind t (Fence o) r form f at k ek = (λ h. h, λ h. h)
    same-kind t (NewStack o) r form f at k ek = (λ h. h, λ h. h)
    same-kind t (NewThread o) r form f at k ek = (λ h. h, λ h. h)
    same-kind t (Leave o) r form f at k ek = (λ h. h, λ h. h)
    same-kind t (Enter o) r form f at k ek = (λ h. h, λ h. h)
    same-kind t (Wake o m) r form f at k ek = (λ h. h, λ h. h)
    same-kind t (Woken o) r form f at k ek = (λ h. h, λ h. h)

  fresh-kind : (right : List Event → CellId → ℕ → Scalar → Bool) (past : List Event) (t : ℕ) (kd : Kind) → fits_form_by right past (record { thread = t; kind = kd }) ≡ true
      → (k : ℕ) (ek : Event) → (released_to rule (record { thread = t; kind = kd } ∷ past) (record { thread = t; kind = kd }) k ek ≡ true) ↔ (released_to rule past (record { thread = t; kind = kd }) k ek ≡ true)
  fresh-kind right past t (Access mode c o p x) f k ek =
      let e : Event = record { thread = t; kind = Access mode c o p x } in
      let tk : (loads mode && is_atomic o) ≡ true → loads mode ≡ true = λ y. (and_parts (loads mode) (is_atomic o) y).0 in (
        λ h. (let y = and_parts (loads mode && is_atomic o) _ h in and_from (loads mode && is_atomic o) _ y.0 (released-there right e past c (position_taken e) k ek (unmade right e past c (position_taken e) f (taken-below right past t mode c o p x f (tk y.0))) y.1)),
        λ h. (let y = and_parts (loads mode && is_atomic o) _ h in and_from (loads mode && is_atomic o) _ y.0 (released-back right e past c (position_taken e) k ek (unmade right e past c (position_taken e) f (taken-below right past t mode c o p x f (tk y.0))) y.1)),
      )
  fresh-kind right past t (Fence o) f k ek = (λ h. h, λ h. h)
  fresh-kind right past t (NewStack o) f k ek = (λ h. h, λ h. h)
  fresh-kind right past t (NewThread o) f k ek = (λ h. h, λ h. h)
  fresh-kind right past t (Leave o) f k ek = (λ h. h, λ h. h)
  fresh-kind right past t (Enter o) f k ek = (λ h. h, λ h. h)
  fresh-kind right past t (Wake o m) f k ek = (λ h. h, λ h. h)
  fresh-kind right past t (Woken o) f k ek = (λ h. h, λ h. h)

  -- what the newest event leaves for an acquire fence
  record Fresh (e : Event) (past : List Event) (i : ℕ) : Type 0 where
    k : ℕ
    ek : Event
    at_k : event_at past k ≡ Some ek
    taken_by : released_to rule past e k ek ≡ true
    rest : Upto rule past k i

  pends-kind : (right : List Event → CellId → ℕ → Scalar → Bool) (past : List Event) (v : Views) (t : ℕ) (kd : Kind) → Correct rule past v → fits_form_by right past (record { thread = t; kind = kd }) ≡ true
      → Stands past (Fresh (record { thread = t; kind = kd }) past) (pends v (record { thread = t; kind = kd }))
  pends-kind right past v t (Access mode c o p x) cor f = go (loads mode && is_atomic o) refl
    where
      go : (b : Bool) → (loads mode && is_atomic o) ≡ b → Stands past (Fresh (record { thread = t; kind = Access mode c o p x }) past) (pends v (record { thread = t; kind = Access mode c o p x }))
      go false q = rw (q, pends) (stands-none past (Fresh (record { thread = t; kind = Access mode c o p x }) past) (λ i g. false≢true (sym q ∙ (and_parts (loads mode && is_atomic o) _ g.taken_by).0)))
      go true q = rw (q, pends) (stands-same past (Sent rule past c (position_taken (record { thread = t; kind = Access mode c o p x }))) (Fresh (record { thread = t; kind = Access mode c o p x }) past) _ (λ i ei at. (
        λ g. released-sent rule past c _ g.k i g.ek g.at_k (and_parts (loads mode && is_atomic o) _ g.taken_by).1 g.rest,
        λ s. record { k = s.k; ek = s.ek; at_k = s.at_k; rest = s.rest; taken_by = and_from (loads mode && is_atomic o) _ q (sent-released rule past c _ i s) },
      ))
          (cor.of_released c (position_taken (record { thread = t; kind = Access mode c o p x })) (taken-below right past t mode c o p x f (and_parts (loads mode) (is_atomic o) q).0)))
  pends-kind right past v t (Fence o) cor f = stands-none past _ (λ i g. false≢true g.taken_by)
  pends-kind right past v t (NewStack o) cor f = stands-none past _ (λ i g. false≢true g.taken_by)
  pends-kind right past v t (NewThread o) cor f = stands-none past _ (λ i g. false≢true g.taken_by)
  pends-kind right past v t (Leave o) cor f = stands-none past _ (λ i g. false≢true g.taken_by)
  pends-kind right past v t (Enter o) cor f = stands-none past _ (λ i g. false≢true g.taken_by)
  pends-kind right past v t (Wake o m) cor f = stands-none past _ (λ i g. false≢true g.taken_by)
  pends-kind right past v t (Woken o) cor f = stands-none past _ (λ i g. false≢true g.taken_by)

  module _ (right : List Event → CellId → ℕ → Scalar → Bool) (e : Event) (past : List Event) (v : Views) (cor : Correct rule past v) (form : has_form_by right past ≡ true) (f : fits_form_by right past e ≡ true) where
    pub own : Stands (e ∷ past) (Upto rule (e ∷ past) (length past)) (knows v (length past) e)
    own = knows-stands rule right past v e cor f

    own_gives : Stands (e ∷ past) (Own rule e past) (gives v (length past) e)
    own_gives = own-stands rule e past v own (cor.of_fenced e.thread)

    -- what a thread knew, with one more event
    kept_known : (t : ℕ) → Stands (e ∷ past) (λ i. is_known rule past t i ≡ true) (v.thread t)
    kept_known t = stands-older e past (λ i. is_known rule past t i ≡ true) (λ i. is_known rule past t i ≡ true) (v.thread t) (λ i l. (λ x. x, λ x. x)) (λ x. let l = known-less past t (length past) x in omega arith) (cor.of_thread t)

    thread_after : (t : ℕ) → Stands (e ∷ past) (λ i. is_known rule (e ∷ past) t i ≡ true) ((after rule v (length past) e).thread t)
    thread_after t = go (cases_eq t e.thread) (makes_thread t e) refl
      where
        go : (t ≡ e.thread) ⊎ (t ≡ e.thread → ⊥) → (b : Bool) → makes_thread t e ≡ b → Stands (e ∷ past) (λ i. is_known rule (e ∷ past) t i ≡ true) ((after rule v (length past) e).thread t)
        go (inl q) b s = stands-ext (e ∷ past) _ (knows v (length past) e) _ (λ u. rw (eq-eqb t e.thread q) refl) (stands-same (e ∷ past) (Upto rule (e ∷ past) (length past)) _ _ (λ i ei at. (
          λ h. elim ((known-new rule e past t i).0 h) [ inl x ↦ known-own rule e past i (rw q at x) | inr x ↦ x.1 ],
          λ u. (known-new rule e past t i).1 (inr (or_left (eqb e.thread t) (makes_thread t e) (eq-eqb e.thread t (sym q)), u)),
        )) own)
        go (inr q) true s = stands-ext (e ∷ past) _ (join (v.thread t) (knows v (length past) e)) _ (λ u. rw (ne_eqb t e.thread q, s) refl) (stands-same (e ∷ past) (λ i. (is_known rule past t i ≡ true) ⊎ Upto rule (e ∷ past) (length past) i) _ _ (λ i ei at. (
          λ h. elim ((known-new rule e past t i).0 h) [ inl x ↦ inl x | inr x ↦ inr x.1 ],
          λ x. (known-new rule e past t i).1 (elim x [ inl y ↦ inl y | inr y ↦ inr (or_right (eqb e.thread t) (makes_thread t e) s, y) ]),
        ))
            (stands-or (e ∷ past) _ _ _ _ (kept_known t) own))
        go (inr q) false s = stands-ext (e ∷ past) _ (v.thread t) _ (λ u. rw (ne_eqb t e.thread q, s) refl) (stands-same (e ∷ past) (λ i. is_known rule past t i ≡ true) _ _ (λ i ei at. (
          λ h. elim ((known-new rule e past t i).0 h) [ inl x ↦ x | inr x ↦ absurd (elim (or_cases (eqb e.thread t) (makes_thread t e) x.0) [ inl y ↦ q (sym (eqb-true e.thread t y)) | inr y ↦ false≢true (sym s ∙ y) ]) ],
          λ x. (known-new rule e past t i).1 (inl x),
        )) (kept_known t))

    event_after : (k : ℕ) (ek : Event) → event_at (e ∷ past) k ≡ Some ek → Stands (e ∷ past) (Upto rule (e ∷ past) k) ((after rule v (length past) e).at k)
    event_after k ek at = go (event-cases e past k ek at)
      where
        go : ((k ≡ length past) × (ek ≡ e)) ⊎ ((k < length past) × (event_at past k ≡ Some ek)) → Stands (e ∷ past) (Upto rule (e ∷ past) k) ((after rule v (length past) e).at k)
        go (inl p) = stands-ext (e ∷ past) _ (knows v (length past) e) _ (λ u. rw (eq-eqb k (length past) p.0) refl) (rw p.0 own)
        go (inr p) = stands-ext (e ∷ past) _ (v.at k) _ (λ u. rw (ne_eqb k (length past) (λ z. (let l = p.0 in omega arith))) refl) (stands-older e past (Upto rule past k) (Upto rule (e ∷ past) k) (v.at k) (λ i l. upto-older rule e past k i p.0)
            (λ u. let l = upto-less rule (e ∷ past) k (length past) u in let m = p.0 in omega arith) (cor.of_event k ek p.1))

    woke_after : (w : ℕ) → Stands (e ∷ past) (Woke rule (e ∷ past) w) ((after rule v (length past) e).woke w)
    woke_after w = go (is_wake e && eqb w (length past)) refl
      where
        go : (b : Bool) → (is_wake e && eqb w (length past)) ≡ b → Stands (e ∷ past) (Woke rule (e ∷ past) w) ((after rule v (length past) e).woke w)
        go true p =
            let q = and_parts (is_wake e) (eqb w (length past)) p in
            let z = eqb-true w (length past) q.1 in
            stands-ext (e ∷ past) _ (knows v (length past) e) _ (λ u. rw p refl) (stands-same (e ∷ past) (Upto rule (e ∷ past) (length past)) (Woke rule (e ∷ past) w) _ (λ i ei at. (
              λ x. (rw z at x.rest),
              λ u. record { ew = e; there = ap (λ (k : ℕ). event_at (e ∷ past) k) z ∙ event-newest e past; wake = q.0; rest = rw z u },
            )) own)
        go false p = stands-ext (e ∷ past) _ (v.woke w) _ (λ u. rw p refl) (stands-older e past (Woke rule past w) (Woke rule (e ∷ past) w) (v.woke w) (λ i l. (older i, newer i)) late (cor.of_woke w))
          where
            there : (i : ℕ) → (x : Woke rule (e ∷ past) w i) → (w < length past) × (event_at past w ≡ Some x.ew)
            there i x = elim (event-cases e past w x.ew x.there) [
              | inl c ↦ absurd (false≢true (sym p ∙ and_from (is_wake e) (eqb w (length past)) (rw c.1 at x.wake) (eq-eqb w (length past) c.0)))
              | inr c ↦ c
            ]

            older : (i : ℕ) → Woke rule (e ∷ past) w i → Woke rule past w i
            older i x = let c = there i x in record { ew = x.ew; there = c.1; wake = x.wake; rest = (upto-older rule e past w i c.0).0 x.rest }

            newer : (i : ℕ) → Woke rule past w i → Woke rule (e ∷ past) w i
            newer i x = record { ew = x.ew; there = event-kept e past w x.ew x.there; wake = x.wake; rest = (upto-older rule e past w i (event-below past w x.ew x.there)).1 x.rest }

            late : Woke rule (e ∷ past) w (length past) → ⊥
            late x = let c = there (length past) x in let l = upto-less rule (e ∷ past) w (length past) x.rest in let m = c.0 in omega arith

    left_after : (s : ℕ) → Stands (e ∷ past) (Left rule (e ∷ past) s) ((after rule v (length past) e).left s)
    left_after s = go (gives_up s e) refl
      where
        go : (b : Bool) → gives_up s e ≡ b → Stands (e ∷ past) (Left rule (e ∷ past) s) ((after rule v (length past) e).left s)
        go true p = stands-ext (e ∷ past) _ (knows v (length past) e) _ (λ u. rw p refl) (stands-same (e ∷ past) (Upto rule (e ∷ past) (length past)) (Left rule (e ∷ past) s) _ (λ i ei at. (
          λ x. (let z = eqb-true x.0 (length past) (rw (p, last_to_give_up) at x.1) in rw z at x.2),
          λ u. (length past, rw (p, last_to_give_up) (eq-eqb (length past) (length past) refl), u),
        )) own)
        go false p = stands-ext (e ∷ past) _ (v.left s) _ (λ u. rw p refl) (stands-older e past (Left rule past s) (Left rule (e ∷ past) s) (v.left s) (λ i l. (
          λ x. (let z : last_to_give_up past s x.0 ≡ true = rw (p, last_to_give_up) at x.1 in (x.0, z, (upto-older rule e past x.0 i (give-below past s x.0 z)).0 x.2)),
          λ x. (x.0, rw (p, last_to_give_up) x.1, (upto-older rule e past x.0 i (give-below past s x.0 x.1)).1 x.2),
        ))
            (λ x. (let z : last_to_give_up past s x.0 ≡ true = rw (p, last_to_give_up) at x.1 in let l = give-below past s x.0 z in let m = upto-less rule (e ∷ past) x.0 (length past) x.2 in omega arith)) (cor.of_left s))

    fenced_after : (t : ℕ) → Stands (e ∷ past) (Fenced rule (e ∷ past) t) ((after rule v (length past) e).fenced t)
    fenced_after t = go ((eqb t e.thread) && (is_fence e && releases (order_of e))) refl
      where
        back : (i : ℕ) → Fenced rule past t i → Fenced rule (e ∷ past) t i
        back i x = record { k = x.k; ek = x.ek; at_k = event-kept e past x.k x.ek x.at_k; of_thread = x.of_thread; fence = x.fence; release = x.release; rest = (upto-older rule e past x.k i (event-below past x.k x.ek x.at_k)).1 x.rest }

        older : (i : ℕ) (x : Fenced rule (e ∷ past) t i) → x.k < length past → Fenced rule past t i
        older i x l = record { k = x.k; ek = x.ek; at_k = older-at rule e past x.k x.ek x.at_k l; of_thread = x.of_thread; fence = x.fence; release = x.release; rest = (upto-older rule e past x.k i l).0 x.rest }

        go : (b : Bool) → ((eqb t e.thread) && (is_fence e && releases (order_of e))) ≡ b → Stands (e ∷ past) (Fenced rule (e ∷ past) t) ((after rule v (length past) e).fenced t)
        go true p =
            let y = and_parts (eqb t e.thread) _ p in let z = and_parts (is_fence e) _ y.1 in let q = eqb-true t e.thread y.0 in
            stands-ext (e ∷ past) _ (knows v (length past) e) _ (λ u. rw p refl) (stands-same (e ∷ past) (Upto rule (e ∷ past) (length past)) (Fenced rule (e ∷ past) t) _ (λ i ei at. (
              λ x. elim (event-cases e past x.k x.ek x.at_k) [ inl c ↦ (rw c.0 at x.rest) | inr c ↦ sequenced rule e past x.k i x.ek c.1 (x.of_thread ∙ q) ((upto-older rule e past x.k i c.0).0 x.rest) ],
              λ u. record { k = length past; ek = e; at_k = event-newest e past; of_thread = sym q; fence = z.0; release = z.1; rest = u },
            )) own)
        go false p = stands-ext (e ∷ past) _ (v.fenced t) _ (λ u. rw p refl) (stands-older e past (Fenced rule past t) (Fenced rule (e ∷ past) t) (v.fenced t) (λ i l. (λ x. older i x (below i x), back i)) (λ x. (let l = below (length past) x in let m = upto-less rule (e ∷ past) x.k (length past) x.rest in omega arith)) (cor.of_fenced t))
          where
            below : (i : ℕ) (x : Fenced rule (e ∷ past) t i) → x.k < length past
            below i x = elim (event-cases e past x.k x.ek x.at_k) [
              | inl c ↦ absurd (false≢true (sym p ∙ and_from (eqb t e.thread) _ (eq-eqb t e.thread (sym (rw c.1 at x.of_thread))) (and_from (is_fence e) _ (rw c.1 at x.fence) (rw c.1 at x.release))))
              | inr c ↦ c.0
            ]

    released_after : (c : CellId) (q : ℕ) → q ≤ newest (e ∷ past) c → Stands (e ∷ past) (Sent rule (e ∷ past) c q) ((after rule v (length past) e).released c q)
    released_after c q l = go (modifies c e && eqb (position_of e) q) refl
      where
        go : (b : Bool) → (modifies c e && eqb (position_of e) q) ≡ b → Stands (e ∷ past) (Sent rule (e ∷ past) c q) ((after rule v (length past) e).released c q)
        go true p =
            let y = and_parts (modifies c e) _ p in
            let a = fits-next right past e c f y.0 in
            let z = eqb-true (position_of e) q y.1 in
            let same : q - 1 ≡ newest past c = omega (arith, a, z) in
            stands-ext (e ∷ past) _ (λ w. max (gives v (length past) e w) (cond (is_update e) (v.released c (q - 1) w) (cond (continues rule e e.thread) (v.sequence c e.thread w) 0))) _ (λ u. rw p refl) (released-new rule e past v c q p own_gives (cor.of_released c (q - 1) (omega (arith, same))) (rw same (cor.of_sequence c e.thread)))
        go false p = stands-ext (e ∷ past) _ (v.released c q) _ (λ u. rw p refl) (sent-same rule e past c q (v.released c q) p (cor.of_released c q (low (modifies c e) refl)))
          where
            low : (b : Bool) → modifies c e ≡ b → q ≤ newest past c
            low false x = rw (newest-same e past c x) at l
            low true x =
                let a = fits-next right past e c f x in
                let m : q ≤ suc (newest past c) = rw (newest-changed e past c x) at l in
                elim (cases_eq (position_of e) q) [ inl z ↦ absurd (false≢true (sym p ∙ and_from (modifies c e) _ x (eq-eqb (position_of e) q z))) | inr z ↦ omega (arith, a, m, z) ]

    sequence_after : (c : CellId) (u : ℕ) → Stands (e ∷ past) (SentBy rule (e ∷ past) c (newest (e ∷ past) c) u) ((after rule v (length past) e).sequence c u)
    sequence_after c u = go (modifies c e) refl
      where
        go : (b : Bool) → modifies c e ≡ b → Stands (e ∷ past) (SentBy rule (e ∷ past) c (newest (e ∷ past) c) u) ((after rule v (length past) e).sequence c u)
        go true p =
            let a = fits-next right past e c f p in
            let same : suc (newest past c) - 1 ≡ newest past c = omega arith in
            let made : (modifies c e && eqb (position_of e) (suc (newest past c))) ≡ true = and_from (modifies c e) _ p (eq-eqb (position_of e) (suc (newest past c)) a) in
            rw p (stands-ext (e ∷ past) _ (λ w. max (cond (eqb u e.thread) (gives v (length past) e w) 0) (cond (continues rule e u) (v.sequence c u w) 0)) _ (λ w. rw p refl) (sequence-new rule e past v c (suc (newest past c)) u made own_gives (rw same (cor.of_sequence c u))))
        go false p = rw p (stands-ext (e ∷ past) _ (v.sequence c u) _ (λ w. rw p refl) (sent_by-same rule e past c (newest past c) u (v.sequence c u) (unmade right e past c (newest past c) f (omega arith)) (cor.of_sequence c u)))

    pending_after : (t : ℕ) → Stands (e ∷ past) (Pending rule (e ∷ past) t) ((after rule v (length past) e).pending t)
    pending_after t = go (cases_eq t e.thread)
      where
        kept : Stands (e ∷ past) (Pending rule past t) (v.pending t)
        kept = stands-older e past (Pending rule past t) (Pending rule past t) (v.pending t) (λ i l. (λ x. x, λ x. x)) (λ x. (let a = event-below past x.k x.ek x.at_k in let b = upto-less rule past x.k (length past) x.rest in omega arith)) (cor.of_pending t)

        fresh : Stands (e ∷ past) (Fresh e past) (pends v e)
        fresh = stands-older e past (Fresh e past) (Fresh e past) (pends v e) (λ i l. (λ x. x, λ x. x)) (λ x. (let a = event-below past x.k x.ek x.at_k in let b = upto-less rule past x.k (length past) x.rest in omega arith)) (pends-kind right past v e.thread e.kind cor f)

        back : (i : ℕ) → Pending rule past t i → Pending rule (e ∷ past) t i
        back i x = record {
          r = x.r;
          er = x.er;
          k = x.k;
          ek = x.ek;
          at_r = event-kept e past x.r x.er x.at_r;
          of_thread = x.of_thread;
          less = x.less;
          at_k = event-kept e past x.k x.ek x.at_k;
          taken_by = (same-kind right e past x.er.thread x.er.kind x.r form f x.at_r x.k x.ek).1 x.taken_by;
          rest = (upto-older rule e past x.k i (event-below past x.k x.ek x.at_k)).1 x.rest;
        }

        older : (i : ℕ) (x : Pending rule (e ∷ past) t i) → x.r < length past → Pending rule past t i
        older i x l =
            let at_r = older-at rule e past x.r x.er x.at_r l in
            let z = x.less in
            let kl : x.k < length past = omega arith in
            record {
              r = x.r;
              er = x.er;
              k = x.k;
              ek = x.ek;
              at_r = at_r;
              of_thread = x.of_thread;
              less = x.less;
              at_k = older-at rule e past x.k x.ek x.at_k kl;
              taken_by = (same-kind right e past x.er.thread x.er.kind x.r form f at_r x.k x.ek).0 x.taken_by;
              rest = (upto-older rule e past x.k i kl).0 x.rest;
            }

        go : (t ≡ e.thread) ⊎ (t ≡ e.thread → ⊥) → Stands (e ∷ past) (Pending rule (e ∷ past) t) ((after rule v (length past) e).pending t)
        go (inl q) = stands-ext (e ∷ past) _ (join (v.pending t) (pends v e)) _ (λ u. rw (eq-eqb t e.thread q) refl) (stands-same (e ∷ past) (λ i. Pending rule past t i ⊎ Fresh e past i) (Pending rule (e ∷ past) t) _ (λ i ei at. (there i, here i)) (stands-or (e ∷ past) _ _ _ _ kept fresh))
          where
            there : (i : ℕ) → Pending rule (e ∷ past) t i → Pending rule past t i ⊎ Fresh e past i
            there i x = elim (event-cases e past x.r x.er x.at_r) [
              | inl c ↦ (let z = x.less in let y = c.0 in let kl : x.k < length past = omega arith in
                  inr (record {
                    k = x.k;
                    ek = x.ek;
                    at_k = older-at rule e past x.k x.ek x.at_k kl;
                    rest = (upto-older rule e past x.k i kl).0 x.rest;
                    taken_by = (fresh-kind right past e.thread e.kind f x.k x.ek).0 (rw c.1 at x.taken_by);
                  }))
              | inr c ↦ inl (older i x c.0)
            ]

            here : (i : ℕ) → Pending rule past t i ⊎ Fresh e past i → Pending rule (e ∷ past) t i
            here i (inl x) = back i x
            here i (inr x) = let l = event-below past x.k x.ek x.at_k in record {
              r = length past;
              er = e;
              k = x.k;
              ek = x.ek;
              at_r = event-newest e past;
              of_thread = sym q;
              less = l;
              at_k = event-kept e past x.k x.ek x.at_k;
              taken_by = (fresh-kind right past e.thread e.kind f x.k x.ek).1 x.taken_by;
              rest = (upto-older rule e past x.k i l).1 x.rest;
            }
        go (inr q) = stands-ext (e ∷ past) _ (v.pending t) _ (λ u. rw (ne_eqb t e.thread q) refl) (stands-same (e ∷ past) (Pending rule past t) (Pending rule (e ∷ past) t) _ (λ i ei at. (
          λ x. elim (event-cases e past x.r x.er x.at_r) [ inl c ↦ absurd (q (sym x.of_thread ∙ ap (λ (z : Event). z.thread) c.1)) | inr c ↦ older i x c.0 ],
          back i,
        )) kept)

    correct-after : Correct rule (e ∷ past) (after rule v (length past) e)
    correct-after = record { of_thread = thread_after; of_event = event_after; of_woke = woke_after; of_left = left_after; of_released = released_after; of_sequence = sequence_after; of_fenced = fenced_after; of_pending = pending_after }

  correct-start : Correct rule [] start
  correct-start = record {
    of_thread = λ t. stands-none [] (λ i. is_known rule [] t i ≡ true) (λ i h. (let l = known-less [] t i h in omega arith));
    of_event = λ k ek at. absurd (cc);
    of_woke = λ w. stands-none [] (Woke rule [] w) (λ i x. (let l = event-below [] w x.ew x.there in omega arith));
    of_left = λ s. stands-none [] (Left rule [] s) (λ i x. false≢true x.1);
    of_released = λ c q l. stands-none [] (Sent rule [] c q) (λ i x. false≢true x.heads_it);
    of_sequence = λ c u. stands-none [] (SentBy rule [] c 0 u) (λ i x. false≢true x.0.heads_it);
    of_fenced = λ t. stands-none [] (Fenced rule [] t) (λ i x. (let l = event-below [] x.k x.ek x.at_k in omega arith));
    of_pending = λ t. stands-none [] (Pending rule [] t) (λ i x. (let l = event-below [] x.k x.ek x.at_k in omega arith));
  }

  -- the clocks of a log are right
  pub views-correct : (right : List Event → CellId → ℕ → Scalar → Bool) (log : List Event) → has_form_by right log ≡ true → Correct rule log (views rule log)
  views-correct right [] h = correct-start
  views-correct right (e ∷ past) h =
      let p = and_parts (fits_form_by right past e) (has_form_by right past) h in
      correct-after right e past (views rule past) (views-correct right past p.1) p.1 p.0
