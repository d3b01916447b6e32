-- Happens-before, step by step.
use Rattle.std.proofs.Common.{◌≡◌, ℕ, suc, ◌<◌, ◌≤◌, Bool, true, false, ◌&&◌, ◌||◌, eqb, List, [], ◌∷◌, length, Some, refl, sym, ap, ◌∙◌, inl, inr, ◌⊎◌, arith}
use Rattle.std.proofs.lemmas.Bool.{ne_eqb, eq-eqb, eqb-true, cases_eq, or_cases, or_left, or_right, false≢true}
use Rattle.mem_axioms.specs.Logs.{event_at, any_event, past_of}
use Rattle.mem_axioms.specs.Synchronizes.{synchronizes}
use Rattle.mem_axioms.specs.HappensBefore.{happens_before, precedes}
use Rattle.mem_axioms.specs.Lemmas.Numbers.{any-from, any-some, event-below, event-cases, event-older, past_of-newest, past_of-older}
use Rattle.mem_axioms.specs.declared.types.Event.{Event}
use Rattle.mem_axioms.specs.declared.types.Rule.{Rule}

-- what leads to the newest event
unfoldable pub leads : (rule : Rule) (past : List Event) (e : Event) (i k : ℕ) (ek : Event) → Bool
leads rule past e i k ek = precedes rule past k ek e && (eqb k i || happens_before rule past i k)

-- One step back from the newest event
pub record Step (rule : Rule) (past : List Event) (e : Event) (i : ℕ) : Type 0 where
  pub k : ℕ
  pub ek : Event
  pub there : event_at past k ≡ Some ek
  pub edge : precedes rule past k ek e ≡ true
  pub rest : (k ≡ i) ⊎ (happens_before rule past i k ≡ true)

module _ (rule : Rule) where
  pub before-newest : (e : Event) (past : List Event) (i : ℕ) → happens_before rule (e ∷ past) i (length past) ≡ any_event (leads rule past e i) past
  unfolding leads happens_before
  before-newest e past i = rw (eq-eqb (length past) (length past) refl, happens_before)

  -- a new event changes nothing between earlier ones
  pub before-older : (e : Event) (past : List Event) (i j : ℕ) → j < length past → happens_before rule (e ∷ past) i j ≡ happens_before rule past i j
  unfolding happens_before
  before-older e past i j h = rw (ne_eqb j (length past) (λ p. omega arith), happens_before)

  pub newest-step : (e : Event) (past : List Event) (i : ℕ) → happens_before rule (e ∷ past) i (length past) ≡ true → Step rule past e i
  unfolding leads
  newest-step e past i h =
      let a = any-some (leads rule past e i) past (sym (before-newest e past i) ∙ h) in
      go a.0 a.1 a.2 (precedes rule past a.0 a.1 e) refl a.3
    where
      go : (k : ℕ) (ek : Event) → event_at past k ≡ Some ek → (b : Bool) → precedes rule past k ek e ≡ b → leads rule past e i k ek ≡ true → Step rule past e i
      go k ek t true p q = record {
        k = k;
        ek = ek;
        there = t;
        edge = p;
        rest = cases (or_cases (eqb k i) (happens_before rule past i k) (rw (p, leads) at q));
      }
        where
          cases : (eqb k i ≡ true) ⊎ (happens_before rule past i k ≡ true) → (k ≡ i) ⊎ (happens_before rule past i k ≡ true)
          cases (inl x) = inl (eqb-true k i x)
          cases (inr x) = inr x
      go k ek t false p q = absurd (false≢true (rw (p, leads) at q))

  pub step-newest : (e : Event) (past : List Event) (i : ℕ) → Step rule past e i → happens_before rule (e ∷ past) i (length past) ≡ true
  unfolding leads
  step-newest e past i s = before-newest e past i ∙ any-from (leads rule past e i) past s.k s.ek s.there (rw (s.edge, leads) (go s.rest))
    where
      go : (s.k ≡ i) ⊎ (happens_before rule past i s.k ≡ true) → (eqb s.k i || happens_before rule past i s.k) ≡ true
      go (inl x) = or_left (eqb s.k i) (happens_before rule past i s.k) (eq-eqb s.k i x)
      go (inr x) = or_right (eqb s.k i) (happens_before rule past i s.k) x

  -- it goes from a smaller number to a greater one
  pub before-less : (log : List Event) (i j : ℕ) → happens_before rule log i j ≡ true → (i < j) × (j < length log)
  unfolding happens_before
  before-less [] i j h = absurd (false≢true h)
  before-less (e ∷ past) i j h = go (λ j. before-less past i j) (cases_eq j (length past))
    where
      go : ((j : ℕ) → happens_before rule past i j ≡ true → (i < j) × (j < length past)) → (j ≡ length past) ⊎ (j ≡ length past → ⊥) → (i < j) × (j < suc (length past))
      go ih (inl p) =
          let s = newest-step e past i (rw p at h) in
          let b = event-below past s.k s.ek s.there in
          elim s.rest [ inl q ↦ (omega arith, omega arith) | inr q ↦ (let c = ih s.k q in (omega arith, omega arith)) ]
      go ih (inr n) =
          let k : happens_before rule past i j ≡ true = rw (ne_eqb j (length past) n, happens_before) at h in
          let c = ih j k in (omega arith, omega arith)

  pub before-trans : (log : List Event) (i j k : ℕ) → happens_before rule log i j ≡ true → happens_before rule log j k ≡ true → happens_before rule log i k ≡ true
  unfolding happens_before
  before-trans [] i j k p q = p
  before-trans (e ∷ past) i j k p q = go (λ k. before-trans past i j k) (cases_eq k (length past))
    where
      jk : (j < k) × (k < suc (length past))
      jk = before-less (e ∷ past) j k q

      older : happens_before rule past i j ≡ true
      older = sym (before-older e past i j (let b = jk in omega arith)) ∙ p

      go : ((k : ℕ) → happens_before rule past i j ≡ true → happens_before rule past j k ≡ true → happens_before rule past i k ≡ true) → (k ≡ length past) ⊎ (k ≡ length past → ⊥) → happens_before rule (e ∷ past) i k ≡ true
      go ih (inl x) =
          let s = newest-step e past j (rw x at q) in
          rw x (step-newest e past i (record {
            k = s.k;
            ek = s.ek;
            there = s.there;
            edge = s.edge;
            rest = inr (elim s.rest [ inl y ↦ (rw y older) | inr y ↦ ih s.k older y ]);
          }))
      go ih (inr n) =
          let b = jk in
          let l : k < length past = omega arith in
          before-older e past i k l ∙ ih k older (sym (before-older e past j k l) ∙ q)

  pub before-not : (log : List Event) (i k : ℕ) → k ≤ i → happens_before rule log i k ≡ false
  before-not log i k h = go (happens_before rule log i k) refl
    where
      go : (b : Bool) → happens_before rule log i k ≡ b → happens_before rule log i k ≡ false
      go true p = let q = before-less log i k p in absurd (omega arith)
      go false p = p

  -- two events of one thread
  pub in-order : (log : List Event) (i j : ℕ) (ei ej : Event) → event_at log i ≡ Some ei → event_at log j ≡ Some ej → i < j → ei.thread ≡ ej.thread → happens_before rule log i j ≡ true
  in-order [] i j ei ej hi hj l t = absurd (cc)
  in-order (e ∷ past) i j ei ej hi hj l t = go (in-order past i j ei ej) (event-cases e past j ej hj)
    where
      older : j < suc (length past) → event_at past i ≡ Some ei
      older b = sym (event-older e past i (omega arith)) ∙ hi

      go : (event_at past i ≡ Some ei → event_at past j ≡ Some ej → i < j → ei.thread ≡ ej.thread → happens_before rule past i j ≡ true) → ((j ≡ length past) × (ej ≡ e)) ⊎ ((j < length past) × (event_at past j ≡ Some ej)) → happens_before rule (e ∷ past) i j ≡ true
      go ih (inl p) = rw p.0 (step-newest e past i (record { k = i; ek = ei; there = older (let y = p.0 in omega arith); rest = inl refl; edge = or_left (eqb ei.thread e.thread) (synchronizes rule past i ei e) (eq-eqb ei.thread e.thread (t ∙ ap (λ (z : Event). z.thread) p.1)) }))
      go ih (inr p) = before-older e past i j p.0 ∙ ih (older (let y = p.0 in omega arith)) p.1 l t

  -- an event and a later one that it synchronizes with
  pub edge-before : (log : List Event) (i j : ℕ) (ei ej : Event) → event_at log i ≡ Some ei → event_at log j ≡ Some ej → i < j → synchronizes rule (past_of log j) i ei ej ≡ true → happens_before rule log i j ≡ true
  edge-before [] i j ei ej hi hj l s = absurd (cc)
  edge-before (e ∷ past) i j ei ej hi hj l s = go (edge-before past i j ei ej) (event-cases e past j ej hj)
    where
      older : j < suc (length past) → event_at past i ≡ Some ei
      older b = sym (event-older e past i (omega arith)) ∙ hi

      go : (event_at past i ≡ Some ei → event_at past j ≡ Some ej → i < j → synchronizes rule (past_of past j) i ei ej ≡ true → happens_before rule past i j ≡ true) → ((j ≡ length past) × (ej ≡ e)) ⊎ ((j < length past) × (event_at past j ≡ Some ej)) → happens_before rule (e ∷ past) i j ≡ true
      go ih (inl p) =
          let z : synchronizes rule past i ei e ≡ true = rw (past_of-newest e past) at (rw (p.0, p.1) at s) in
          rw p.0 (step-newest e past i (record { k = i; ek = ei; there = older (let y = p.0 in omega arith); rest = inl refl; edge = or_right (eqb ei.thread e.thread) (synchronizes rule past i ei e) z }))
      go ih (inr p) = before-older e past i j p.0 ∙ ih (older (let y = p.0 in omega arith)) p.1 l (rw (past_of-older e past j p.0) at s)
