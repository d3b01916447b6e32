-- The tests of earlier events by what is known of the event that comes next.
use Rattle.std.proofs.Common.{◌≡◌, ℕ, zero, suc, ◌+◌, ◌<◌, ◌≤◌, Bool, true, false, cond, ◌&&◌, eqb, ltb, leb, List, ◌∷◌, length, Option, Some, None, refl, sym, ap, ◌∙◌, inl, inr, ◌⊎◌, ◌↔◌, arith, slice_index}
use Rattle.std.specs.Prelude.{min, MatchOption}
use Rattle.std.proofs.lemmas.Bool.{eq-eqb, ne_eqb, eqb-true, ltb-true, lt-ltb, leb-true, le-leb, cases_lt, cases_eq, or_cases, or_left, or_right, and_from, and_parts, false≢true}
use Rattle.mem_axioms.specs.Events.{is_fence, is_seq_cst, order_of, is_seq_cst_fence}
use Rattle.mem_axioms.specs.Logs.{event_at, any_event}
use Rattle.mem_axioms.specs.Form.{is_only_value, fits_form_alone, has_form_alone}
use Rattle.mem_axioms.specs.Axioms.{reads_older, is_or_is_fenced}
use Rattle.mem_axioms.specs.HappensBefore.{happens_before}
use Rattle.mem_axioms.specs.PassedOver.{has_seq_cst_from}
use Rattle.mem_axioms.specs.Lemmas.Numbers.{any-from, any-some, event-below, event-one}
use Rattle.mem_axioms.specs.declared.types.Rule.{Rule}
use Rattle.mem_axioms.specs.declared.types.Event.{Event}
use Rattle.clock_laws.specs.Clocks.{views, knew}
use Rattle.clock_laws.specs.Lemmas.Tests.{before-test, next-test, same-test}
use Rattle.clocks.specs.Tables.{Table, table_at}
use Rattle.verdicts.specs.Searches.{Extends, passed_by}
use Rattle.verdicts.specs.Newer.{event_there}
use Rattle.log_judge.specs.Kept.{AreFirsts, is_up_to, IsLastFence, FencesHold, ThreadsHold}

-- an event of a log that goes on after the past
pub event-in : (past whole : List Event) (i : ℕ) (e : Event) → Extends whole past → i < length past → event_at whole i ≡ Some e → event_at past i ≡ Some e
event-in past whole i e x l at = event_there whole past i e x l at

-- ---- the last event of some

module _ (test : ℕ → Event → Bool) (past : List Event) where
  -- of those with a number below i that pass, a is the last
  pub record LastBelow (i a : ℕ) : Type 0 where
    pub ea : Event
    pub there : event_at past a ≡ Some ea
    pub passes : test a ea ≡ true
    pub last : (k : ℕ) (ek : Event) → k < i → event_at past k ≡ Some ek → test k ek ≡ true → k ≤ a

  abbrev pub NonePass : ℕ → Type 0
  NonePass i = (k : ℕ) (ek : Event) → k < i → event_at past k ≡ Some ek → test k ek ≡ true → ⊥

  abbrev pub IsLast : ℕ → Option ℕ → Type 0
  IsLast i o = MatchOption o (NonePass i) (LastBelow i)

  pub none_first : IsLast 0 None
  none_first k ek l = absurd (omega arith)

  pub last_here : (i : ℕ) (e : Event) → event_at past i ≡ Some e → test i e ≡ true → IsLast (i + 1) (Some i)
  last_here i e at t = record { ea = e; there = at; passes = t; last = λ k ek l h p. omega (arith, l) }

  same : (i k : ℕ) (e ek : Event) → k ≡ i → event_at past i ≡ Some e → event_at past k ≡ Some ek → test i e ≡ false → test k ek ≡ true → ⊥
  same i k e ek z at h f t = false≢true (sym f ∙ (rw (z, event-one past i ek e (rw z at h) at) at t))

  pub last_stays : (i : ℕ) (e : Event) (o : Option ℕ) → event_at past i ≡ Some e → test i e ≡ false → IsLast i o → IsLast (i + 1) o
  last_stays i e None at f h = λ k ek l there t. elim (cases_lt k i) [ inl q ↦ h k ek q there t | inr q ↦ same i k e ek (omega arith) at there f t ]
  last_stays i e (Some a) at f h = record {
    ea = h.ea;
    there = h.there;
    passes = h.passes;
    last = λ k ek l there t. elim (cases_lt k i) [ inl q ↦ h.last k ek q there t | inr q ↦ absurd (same i k e ek (omega arith) at there f t) ];
  }

-- the fences that a clock knows
abbrev pub knows_fence : List ℕ → ℕ → Event → Bool
knows_fence clock a ea = is_seq_cst_fence ea && ltb a (slice_index clock ea.thread)

pub fence-holds : (s f l : Bool) → s ≡ true → s ≡ f → l ≡ true → (f && l) ≡ true
fence-holds s f l p q r = rw (sym q ∙ p, r) refl

pub not-first : (a b : Bool) → a ≡ false → (a && b) ≡ false
not-first a b h = rw h refl

pub not-second : (a b : Bool) → b ≡ false → (a && b) ≡ false
not-second true b h = h
not-second false b h = refl

pub and-is : (a b : Bool) → a ≡ true → b ≡ (a && b)
and-is a b h = rw h refl

pub not-zero : (n : ℕ) → (n ≡ 0 → ⊥) → 0 < n
not-zero zero h = absurd (h refl)
not-zero (suc n) h = omega arith

pub last_is : (past : List Event) (clock : List ℕ) (i : ℕ) (o : Option ℕ) → length past ≤ i → IsLast (knows_fence clock) past i o → IsLastFence o past clock
last_is past clock i None l h b = go (any_event (λ a ea. is_seq_cst_fence ea && leb b a && ltb a (slice_index clock ea.thread)) past) refl
  where
    go : (x : Bool) → any_event (λ a ea. is_seq_cst_fence ea && leb b a && ltb a (slice_index clock ea.thread)) past ≡ x → any_event (λ a ea. is_seq_cst_fence ea && leb b a && ltb a (slice_index clock ea.thread)) past ≡ false
    go false q = q
    go true q =
        let w = any-some (λ a ea. is_seq_cst_fence ea && leb b a && ltb a (slice_index clock ea.thread)) past q in
        let p = and_parts (is_seq_cst_fence w.1 && leb b w.0) (ltb w.0 (slice_index clock w.1.thread)) w.3 in
        let r = and_parts (is_seq_cst_fence w.1) (leb b w.0) p.0 in
        absurd (h w.0 w.1 (let n = event-below past w.0 w.1 w.2 in omega (arith, n, l)) w.2 (and_from (is_seq_cst_fence w.1) (ltb w.0 (slice_index clock w.1.thread)) r.0 p.1))
last_is past clock i (Some a) l h b = same-test (any_event (λ a ea. is_seq_cst_fence ea && leb b a && ltb a (slice_index clock ea.thread)) past) (leb b a)
    (λ q. let w = any-some (λ a ea. is_seq_cst_fence ea && leb b a && ltb a (slice_index clock ea.thread)) past q in
    let p = and_parts (is_seq_cst_fence w.1 && leb b w.0) (ltb w.0 (slice_index clock w.1.thread)) w.3 in
    let r = and_parts (is_seq_cst_fence w.1) (leb b w.0) p.0 in
    let n = event-below past w.0 w.1 w.2 in
    let m = h.last w.0 w.1 (omega (arith, n, l)) w.2 (and_from (is_seq_cst_fence w.1) (ltb w.0 (slice_index clock w.1.thread)) r.0 p.1) in
    let k = leb-true b w.0 r.1 in
    le-leb b a (omega (arith, m, k)))
    (λ q. let r = and_parts (is_seq_cst_fence h.ea) (ltb a (slice_index clock h.ea.thread)) h.passes in
    any-from (λ a ea. is_seq_cst_fence ea && leb b a && ltb a (slice_index clock ea.thread)) past a h.ea h.there
    (and_from (is_seq_cst_fence h.ea && leb b a) (ltb a (slice_index clock h.ea.thread)) (and_from (is_seq_cst_fence h.ea) (leb b a) r.0 q) r.1))

-- ---- the first access of each thread that is passed over

pub record FirstsBelow (firsts : List ℕ) (past : List Event) (e : Event) (i : ℕ) : Type 0 where
  pub least : (y : ℕ) (ey : Event) → y < i → event_at past y ≡ Some ey → reads_older e ey ≡ true → (0 < slice_index firsts ey.thread) × (slice_index firsts ey.thread ≤ suc y)
  pub there : (u : ℕ) → 0 < slice_index firsts u → (y : ℕ) × (ey : Event) × (event_at past y ≡ Some ey) × (reads_older e ey ≡ true) × (ey.thread ≡ u) × (suc y ≡ slice_index firsts u)
  pub bound : (u : ℕ) → slice_index firsts u ≤ i

pub firsts-none : (firsts : List ℕ) (past : List Event) (e : Event) → ((u : ℕ) → slice_index firsts u ≡ 0) → FirstsBelow firsts past e 0
firsts-none firsts past e z = record { least = λ y ey l. absurd (omega arith); there = λ u l. absurd (let n = z u in omega (arith, n, l)); bound = λ u. (let n = z u in omega (arith, n)) }

-- the next event is the first of its thread
pub firsts-set : (old new : List ℕ) (past : List Event) (e : Event) (i : ℕ) (ei : Event) → event_at past i ≡ Some ei → reads_older e ei ≡ true → slice_index old ei.thread ≡ 0
    → ((u : ℕ) → slice_index new u ≡ cond (eqb u ei.thread) (suc i) (slice_index old u)) → FirstsBelow old past e i → FirstsBelow new past e (i + 1)
firsts-set old new past e i ei at r z s h = record {
  least = λ y ey l there t. elim (cases_eq ey.thread ei.thread) [
    | inl q ↦ (let n = here ey.thread q in elim (cases_lt y i) [
      | inl k ↦ absurd (let m = (h.least y ey k there t).0 in let w = ap (λ (x : ℕ). slice_index old x) q in omega (arith, m, w, z))
      | inr k ↦ (omega (arith, n), omega (arith, n, k))
    ])
    | inr q ↦ (let n = other ey.thread q in elim (cases_lt y i) [
      | inl k ↦ (let m = h.least y ey k there t in (let a = m.0 in omega (arith, a, n), let b = m.1 in omega (arith, b, n)))
      | inr k ↦ absurd (q (let w : y ≡ i = omega (arith, k, l) in ap (λ (x : Event). x.thread) (event-one past i ey ei (rw w at there) at)))
    ])
  ];
  there = λ u l. elim (cases_eq u ei.thread) [
    | inl q ↦ (i, ei, at, r, sym q, sym (here u q))
    | inr q ↦ (let n = other u q in let w = h.there u (omega (arith, n, l)) in (w.0, w.1, w.2, w.3, w.4, w.5 ∙ sym n))
  ];
  bound = λ u. elim (cases_eq u ei.thread) [
    | inl q ↦ (let n = here u q in omega (arith, n))
    | inr q ↦ (let n = other u q in let m = h.bound u in omega (arith, n, m))
  ];
}
  where
    here : (u : ℕ) → u ≡ ei.thread → slice_index new u ≡ suc i
    here u q = s u ∙ rw (eq-eqb u ei.thread q) refl

    other : (u : ℕ) → (u ≡ ei.thread → ⊥) → slice_index new u ≡ slice_index old u
    other u q = s u ∙ rw (ne_eqb u ei.thread q) refl

-- the next event is none of them
pub firsts-stay : (firsts : List ℕ) (past : List Event) (e : Event) (i : ℕ) (ei : Event) → event_at past i ≡ Some ei → (reads_older e ei ≡ true → 0 < slice_index firsts ei.thread) → FirstsBelow firsts past e i → FirstsBelow firsts past e (i + 1)
firsts-stay firsts past e i ei at n h = record {
  least = λ y ey l there t. elim (cases_lt y i) [
    | inl k ↦ h.least y ey k there t
    | inr k ↦ (let w : y ≡ i = omega (arith, k, l) in let one : ey ≡ ei = event-one past i ey ei (rw w at there) at in
        let some : 0 < slice_index firsts ey.thread = rw one (n (rw one at t)) in
        (some, (let m = h.bound ey.thread in omega (arith, m, k))))
  ];
  there = h.there;
  bound = λ u. (let m = h.bound u in omega (arith, m));
}

-- an access by that thread, with a number below k, that the event passes over
abbrev passed_over : Event → ℕ → ℕ → ℕ → Event → Bool
passed_over e u k y ey = reads_older e ey && eqb ey.thread u && ltb y k

-- so the least number of such an access is known
pub firsts-are : (firsts : List ℕ) (past : List Event) (e : Event) (i : ℕ) → length past ≤ i → FirstsBelow firsts past e i → AreFirsts firsts past e
firsts-are firsts past e i l h u k = same-test (any_event (passed_over e u k) past) (ltb 0 (slice_index firsts u) && leb (slice_index firsts u) k) there back
  where
    there : any_event (passed_over e u k) past ≡ true → (ltb 0 (slice_index firsts u) && leb (slice_index firsts u) k) ≡ true
    there q =
        let w = any-some (passed_over e u k) past q in
        let p = and_parts (reads_older e w.1 && eqb w.1.thread u) (ltb w.0 k) w.3 in
        let r = and_parts (reads_older e w.1) (eqb w.1.thread u) p.0 in
        let own = eqb-true w.1.thread u r.1 in
        let n = event-below past w.0 w.1 w.2 in
        let m = h.least w.0 w.1 (omega (arith, n, l)) w.2 r.0 in
        let b = ltb-true w.0 k p.1 in
        let some : 0 < slice_index firsts u = rw own at m.0 in
        let low : slice_index firsts u ≤ suc w.0 = rw own at m.1 in
        and_from (ltb 0 (slice_index firsts u)) (leb (slice_index firsts u) k) (lt-ltb 0 (slice_index firsts u) some) (le-leb (slice_index firsts u) k (omega (arith, low, b)))

    back : (ltb 0 (slice_index firsts u) && leb (slice_index firsts u) k) ≡ true → any_event (passed_over e u k) past ≡ true
    back q =
        let p = and_parts (ltb 0 (slice_index firsts u)) (leb (slice_index firsts u) k) q in
        let w = h.there u (ltb-true 0 (slice_index firsts u) p.0) in
        let b = leb-true (slice_index firsts u) k p.1 in
        let s = w.5 in
        any-from (passed_over e u k) past w.0 w.1 w.2 (and_from (reads_older e w.1 && eqb w.1.thread u) (ltb w.0 k) (and_from (reads_older e w.1) (eqb w.1.thread u) w.3 (eq-eqb w.1.thread u w.4)) (lt-ltb w.0 k (omega (arith, b, s))))

-- ---- the tests

module _ (rule : Rule) (past : List Event) (e : Event) (form : has_form_alone past ≡ true) where
  knows-is : fits_form_alone past e ≡ true → (clock : List ℕ) → ((u : ℕ) → slice_index clock u ≡ knew (views rule past) e u)
      → (i : ℕ) (ei : Event) → event_at past i ≡ Some ei → happens_before rule (e ∷ past) i (length past) ≡ ltb i (slice_index clock ei.thread)
  knows-is f clock k i ei at = next-test rule is_only_value past form e f i ei at ∙ ap (λ (n : ℕ). ltb i n) (sym (k ei.thread))

  -- an earlier event happens before the next one exactly where the clock knows it
  pub knows_test : fits_form_alone past e ≡ true → (clock : List ℕ) → ((u : ℕ) → slice_index clock u ≡ knew (views rule past) e u)
      → (i : ℕ) (ei : Event) (b : Bool) → event_at past i ≡ Some ei → b ≡ ltb i (slice_index clock ei.thread) → b ≡ happens_before rule (e ∷ past) i (length past)
  knows_test f clock k i ei b at q = q ∙ sym (knows-is f clock k i ei at)

  -- a SEQ_CST fence from that number on is known exactly where the last one is not below it
  any-same : (test other : ℕ → Event → Bool) (log : List Event) → ((i : ℕ) (ei : Event) → event_at log i ≡ Some ei → test i ei ≡ other i ei) → any_event test log ≡ any_event other log
  any-same test other log h = same-test (any_event test log) (any_event other log)
      (λ q. let w = any-some test log q in any-from other log w.0 w.1 w.2 (sym (h w.0 w.1 w.2) ∙ w.3))
      (λ q. let w = any-some other log q in any-from test log w.0 w.1 w.2 (h w.0 w.1 w.2 ∙ w.3))

  fences-are : fits_form_alone past e ≡ true → (clock : List ℕ) (last : Option ℕ) → ((u : ℕ) → slice_index clock u ≡ knew (views rule past) e u) → IsLastFence last past clock
      → (b : ℕ) → any_event (λ a ea. is_seq_cst_fence ea && leb b a && happens_before rule (e ∷ past) a (length past)) past ≡ is_up_to last b
  fences-are f clock last k h b = any-same (λ a ea. is_seq_cst_fence ea && leb b a && happens_before rule (e ∷ past) a (length past)) (λ a ea. is_seq_cst_fence ea && leb b a && ltb a (slice_index clock ea.thread)) past
      (λ a ea at. ap (λ (x : Bool). is_seq_cst_fence ea && leb b a && x) (knows-is f clock k a ea at)) ∙ h b

  pub from_seq_cst : (s : Bool) (b : ℕ) → s ≡ is_seq_cst (order_of e) → s ≡ true → true ≡ has_seq_cst_from rule past e b
  from_seq_cst s b q t = rw (sym q ∙ t) refl

  pub from_fence : fits_form_alone past e ≡ true → (clock : List ℕ) (last : Option ℕ) → ((u : ℕ) → slice_index clock u ≡ knew (views rule past) e u) → IsLastFence last past clock
      → (s : Bool) (b : ℕ) → s ≡ is_seq_cst (order_of e) → s ≡ false → is_up_to last b ≡ has_seq_cst_from rule past e b
  from_fence f clock last k h s b q t = sym (fences-are f clock last k h b) ∙ rw (sym q ∙ t) refl

  -- what stands between the event and a fence
  module _ (firsts : List ℕ) (fences : Table) (first : AreFirsts firsts past e) (kept : FencesHold rule past fences) (threads : List ℕ) (listed : ThreadsHold threads past) where
    abbrev pub KnownAt : ℕ → Type 0
    KnownAt b = (u : ℕ) × (u < 64) × (0 < slice_index firsts u) × (slice_index firsts u ≤ b) × (slice_index firsts u ≤ table_at fences b u)

    abbrev test : ℕ → ℕ → ℕ → Event → Bool
    test u k y ey = reads_older e ey && eqb ey.thread u && ltb y k

    -- some access by thread u that is passed over has a number below k
    first-below : (u k y : ℕ) (ey : Event) → event_at past y ≡ Some ey → reads_older e ey ≡ true → ey.thread ≡ u → y < k → (0 < slice_index firsts u) × (slice_index firsts u ≤ k)
    first-below u k y ey at r t l =
        let a : any_event (test u k) past ≡ true = any-from (test u k) past y ey at (and_from (reads_older e ey && eqb ey.thread u) (ltb y k) (and_from (reads_older e ey) (eqb ey.thread u) r (eq-eqb ey.thread u t)) (lt-ltb y k l)) in
        let p = and_parts (ltb 0 (slice_index firsts u)) (leb (slice_index firsts u) k) (sym (first u k) ∙ a) in
        (ltb-true 0 (slice_index firsts u) p.0, leb-true (slice_index firsts u) k p.1)

    below-first : (u k : ℕ) → 0 < slice_index firsts u → slice_index firsts u ≤ k → (y : ℕ) × (ey : Event) × (event_at past y ≡ Some ey) × (reads_older e ey ≡ true) × (ey.thread ≡ u) × (y < k)
    below-first u k s l =
        let w = any-some (test u k) past (first u k ∙ and_from (ltb 0 (slice_index firsts u)) (leb (slice_index firsts u) k) (lt-ltb 0 (slice_index firsts u) s) (le-leb (slice_index firsts u) k l)) in
        let p = and_parts (reads_older e w.1 && eqb w.1.thread u) (ltb w.0 k) w.3 in
        let r = and_parts (reads_older e w.1) (eqb w.1.thread u) p.0 in
        (w.0, w.1, w.2, r.0, eqb-true w.1.thread u r.1, ltb-true w.0 k p.1)

    module _ (b : ℕ) (eb : Event) (at : event_at past b ≡ Some eb) (s : is_seq_cst (order_of eb) ≡ true) where
      known-is : is_fence eb ≡ true → (y u : ℕ) (ey : Event) → event_at past y ≡ Some ey → ey.thread ≡ u → happens_before rule past y b ≡ (ltb y b && ltb y (table_at fences b u))
      known-is f y u ey there t =
          before-test rule is_only_value past form y b ey eb there at
          ∙ ap (λ (n : ℕ). ltb y b && ltb y n) (sym (kept b eb at (and_from (is_fence eb) (is_seq_cst (order_of eb)) f s) ey.thread) ∙ ap (λ (x : ℕ). table_at fences b x) t)

      passes : (reads_older e eb ≡ true) ⊎ ((is_fence eb ≡ true) × KnownAt b) → passed_by rule past e b eb ≡ true
      passes (inl r) = any-from (λ y ey. reads_older e ey && is_or_is_fenced rule past y b eb) past b eb at
          (and_from (reads_older e eb) (is_or_is_fenced rule past b b eb) r (or_left (eqb b b) (is_fence eb && happens_before rule past b b) (eq-eqb b b refl)))
      passes (inr w) =
          let n = w.1 in
          let m : ℕ = min b (table_at fences b n.0) in
          let k = below-first n.0 m n.2 (let x = n.3 in let y = n.4 in omega (arith, x, y)) in
          let low = k.5 in
          any-from (λ y ey. reads_older e ey && is_or_is_fenced rule past y b eb) past k.0 k.1 k.2
          (and_from (reads_older e k.1) (is_or_is_fenced rule past k.0 b eb) k.3 (or_right (eqb b k.0) (is_fence eb && happens_before rule past k.0 b)
          (and_from (is_fence eb) (happens_before rule past k.0 b) w.0 (known-is w.0 k.0 n.0 k.1 k.2 k.4
          ∙ and_from (ltb k.0 b) (ltb k.0 (table_at fences b n.0)) (lt-ltb k.0 b (omega (arith, low))) (lt-ltb k.0 (table_at fences b n.0) (omega (arith, low)))))))

      passed : passed_by rule past e b eb ≡ true → (reads_older e eb ≡ true) ⊎ ((is_fence eb ≡ true) × KnownAt b)
      passed q =
          let w = any-some (λ y ey. reads_older e ey && is_or_is_fenced rule past y b eb) past q in
          let p = and_parts (reads_older e w.1) (is_or_is_fenced rule past w.0 b eb) w.3 in
          elim (or_cases (eqb b w.0) (is_fence eb && happens_before rule past w.0 b) p.1) [
            | inl z ↦ inl (let o : w.0 ≡ b = sym (eqb-true b w.0 z) in let one : w.1 ≡ eb = event-one past b w.1 eb (rw o at w.2) at in rw one at p.0)
            | inr z ↦ (let f = and_parts (is_fence eb) (happens_before rule past w.0 b) z in
                let l = and_parts (ltb w.0 b) (ltb w.0 (table_at fences b w.1.thread)) (sym (known-is f.0 w.0 w.1.thread w.1 w.2 refl) ∙ f.1) in
                let x = first-below w.1.thread b w.0 w.1 w.2 p.0 refl (ltb-true w.0 b l.0) in
                let y = first-below w.1.thread (table_at fences b w.1.thread) w.0 w.1 w.2 p.0 refl (ltb-true w.0 (table_at fences b w.1.thread) l.1) in
                let small : w.1.thread < 64 = (let n = listed.listed w.0 w.1 w.2 in let m = listed.few in omega (arith, n, m)) in
                inr (f.0, (w.1.thread, small, x.0, x.1, y.1)))
          ]

      -- it is passed itself, or is a fence that knows such an access
      pub passed_here : (r : Bool) → r ≡ reads_older e eb → r ≡ true → true ≡ passed_by rule past e b eb
      passed_here r q t = sym (passes (inl (sym q ∙ t)))

      pub passed_test : (r f known : Bool) → r ≡ reads_older e eb → r ≡ false → f ≡ is_fence eb → ((known ≡ true) ↔ KnownAt b) → (f && known) ≡ passed_by rule past e b eb
      passed_test r f known q t g k = same-test (f && known) (passed_by rule past e b eb)
          (λ h. let p = and_parts f known h in passes (inr (sym g ∙ p.0, k.0 p.1)))
          (λ h. elim (passed h) [ inl z ↦ absurd (false≢true (sym t ∙ (q ∙ z))) | inr z ↦ and_from f known (g ∙ z.0) (k.1 z.1) ])

      -- it is neither
      pub passed_none : (r f : Bool) → r ≡ reads_older e eb → r ≡ false → f ≡ is_fence eb → f ≡ false → f ≡ passed_by rule past e b eb
      passed_none r f q t g n = same-test f (passed_by rule past e b eb)
          (λ h. absurd (false≢true (sym n ∙ h)))
          (λ h. elim (passed h) [ inl z ↦ absurd (false≢true (sym t ∙ (q ∙ z))) | inr z ↦ g ∙ z.0 ])
