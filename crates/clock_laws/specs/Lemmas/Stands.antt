-- A clock stands for a set of events.
use Rattle.std.proofs.Common.{◌≡◌, ℕ, suc, ◌<◌, ◌≤◌, Bool, true, false, cond, ◌||◌, eqb, List, ◌∷◌, length, Some, refl, sym, ◌∙◌, inl, inr, ◌⊎◌, ◌↔◌, arith}
use Rattle.std.proofs.lemmas.Bool.{ne_eqb, eq-eqb, cases_eq, cases_lt, or_cases, or_left, or_right, false≢true}
use Rattle.mem_axioms.specs.Logs.{event_at}
use Rattle.mem_axioms.specs.HappensBefore.{happens_before}
use Rattle.mem_axioms.specs.Synchronizes.{synchronizes, synchronizes_by_release, synchronizes_by_stack, synchronizes_by_wake, makes_thread}
use Rattle.mem_axioms.specs.Floor.{plain, is_known}
use Rattle.mem_axioms.specs.Lemmas.Numbers.{event-cases}
use Rattle.mem_axioms.specs.Lemmas.Steps.{Step, newest-step, step-newest, before-older, before-less}
use Rattle.mem_axioms.specs.declared.types.Event.{Event}
use Rattle.mem_axioms.specs.declared.types.Rule.{Rule}
use Rattle.clock_laws.specs.Clocks.{Clock, nothing, join, bump}

pub record Stands (log : List Event) (S : ℕ → Type 0) (K : Clock) : Type 0 where
  pub bound : (u : ℕ) → K u ≤ length log
  pub exact : (i : ℕ) (ei : Event) → event_at log i ≡ Some ei → (S i ↔ (i < K ei.thread))

pub stands-none : (log : List Event) (S : ℕ → Type 0) → ((i : ℕ) → S i → ⊥) → Stands log S nothing
stands-none log S h = record { bound = λ u. omega arith; exact = λ i ei at. (λ s. absurd (h i s), λ l. absurd (omega arith)) }

pub stands-same : (log : List Event) (S S' : ℕ → Type 0) (K : Clock) → ((i : ℕ) (ei : Event) → event_at log i ≡ Some ei → (S' i ↔ S i)) → Stands log S K → Stands log S' K
stands-same log S S' K h s = record { bound = s.bound; exact = λ i ei at. (λ x. (s.exact i ei at).0 ((h i ei at).0 x), λ l. (h i ei at).1 ((s.exact i ei at).1 l)) }

pub stands-or : (log : List Event) (S S' : ℕ → Type 0) (K K' : Clock) → Stands log S K → Stands log S' K' → Stands log (λ i. S i ⊎ S' i) (join K K')
stands-or log S S' K K' s s' = record {
  bound = λ u. (let a = s.bound u in let b = s'.bound u in omega (arith, a, b));
  exact = λ i ei at. (
    λ x. elim x [ inl p ↦ (let q = (s.exact i ei at).0 p in omega (arith, q)) | inr p ↦ (let q = (s'.exact i ei at).0 p in omega (arith, q)) ],
    λ l. elim (cases_lt i (K ei.thread)) [ inl p ↦ inl ((s.exact i ei at).1 p) | inr p ↦ inr ((s'.exact i ei at).1 (omega (arith, l, p))) ],
  );
}

pub stands-older : (e : Event) (past : List Event) (S S' : ℕ → Type 0) (K : Clock) → ((i : ℕ) → i < length past → (S' i ↔ S i)) → (S' (length past) → ⊥) → Stands past S K → Stands (e ∷ past) S' K
stands-older e past S S' K h n s = record {
  bound = λ u. (let a = s.bound u in omega (arith, a));
  exact = λ i ei at. go i ei (event-cases e past i ei at);
}
  where
    go : (i : ℕ) (ei : Event) → ((i ≡ length past) × (ei ≡ e)) ⊎ ((i < length past) × (event_at past i ≡ Some ei)) → (S' i ↔ (i < K ei.thread))
    go i ei (inl p) = (λ x. absurd (n (rw p.0 at x)), λ l. (let b = s.bound ei.thread in let z = p.0 in absurd (omega (arith, b, l))))
    go i ei (inr p) = (λ x. (s.exact i ei p.1).0 ((h i p.0).0 x), λ l. (h i p.0).1 ((s.exact i ei p.1).1 l))

-- a clock that is another one at each thread
pub stands-ext : (log : List Event) (S : ℕ → Type 0) (K K' : Clock) → ((u : ℕ) → K' u ≡ K u) → Stands log S K → Stands log S K'
stands-ext log S K K' h s = record {
  bound = λ u. rw (h u) (s.bound u);
  exact = λ i ei at. (λ x. rw (h ei.thread) ((s.exact i ei at).0 x), λ l. (s.exact i ei at).1 (rw (h ei.thread) at l));
}

-- a set that is there or empty
pub stands-if : (log : List Event) (b : Bool) (S : ℕ → Type 0) (K : Clock) → Stands log S K → Stands log (λ i. (b ≡ true) × S i) (λ u. cond b (K u) 0)
stands-if log true S K s = stands-same log S _ K (λ i ei at. (λ x. x.1, λ x. (refl, x))) s
stands-if log false S K s = stands-none log _ (λ i x. false≢true x.0)

module _ (rule : Rule) where
  -- event i is k or happens before it
  abbrev pub Upto : List Event → ℕ → ℕ → Type 0
  Upto log k i = (i ≡ k) ⊎ (happens_before rule log i k ≡ true)

  pub upto-less : (log : List Event) (k i : ℕ) → Upto log k i → i ≤ k
  upto-less log k i u = elim u [ inl p ↦ omega arith | inr p ↦ (let q = before-less rule log i k p in omega arith) ]

  pub upto-older : (e : Event) (past : List Event) (k i : ℕ) → k < length past → (Upto (e ∷ past) k i ↔ Upto past k i)
  upto-older e past k i l = (λ u. elim u [ inl p ↦ inl p | inr p ↦ inr (sym (before-older rule e past i k l) ∙ p) ], λ u. elim u [ inl p ↦ inl p | inr p ↦ inr (before-older rule e past i k l ∙ p) ])

  -- the events up to a new one are known by the clock before it, with the event itself
  pub stands-new : (e : Event) (past : List Event) (J : Clock) → Stands past (λ i. happens_before rule (e ∷ past) i (length past) ≡ true) J → Stands (e ∷ past) (Upto (e ∷ past) (length past)) (bump J e.thread (length past))
  stands-new e past J s = record { bound = λ u. bd u; exact = λ i ei at. go i ei (event-cases e past i ei at) }
    where
      bd : (u : ℕ) → bump J e.thread (length past) u ≤ suc (length past)
      bd u = let a = s.bound u in elim (eqb u e.thread) as (λ b. cond b (suc (length past)) (J u) ≤ suc (length past)) [ true ↦ omega arith | false ↦ omega (arith, a) ]

      go : (i : ℕ) (ei : Event) → ((i ≡ length past) × (ei ≡ e)) ⊎ ((i < length past) × (event_at past i ≡ Some ei)) → (Upto (e ∷ past) (length past) i ↔ (i < bump J e.thread (length past) ei.thread))
      go i ei (inl p) = (λ x. rw (p.1, bump, eq-eqb e.thread e.thread refl) (let z = p.0 in omega arith), λ l. inl p.0)
      go i ei (inr p) = pick (cases_eq ei.thread e.thread)
        where
          pick : (ei.thread ≡ e.thread) ⊎ (ei.thread ≡ e.thread → ⊥) → (Upto (e ∷ past) (length past) i ↔ (i < bump J e.thread (length past) ei.thread))
          pick (inl q) = (
            λ x. rw (q, bump, eq-eqb e.thread e.thread refl) (let z = p.0 in omega arith),
            λ l. inr (step-newest rule e past i (record { k = i; ek = ei; there = p.1; edge = or_left (eqb ei.thread e.thread) (synchronizes rule past i ei e) (eq-eqb ei.thread e.thread q); rest = inl refl })),
          )
          pick (inr n) = (
            λ x. rw (ne_eqb ei.thread e.thread n, bump) (elim x [ inl q ↦ (let z = p.0 in absurd (omega arith)) | inr q ↦ (s.exact i ei p.1).0 q ]),
            λ l. inr ((s.exact i ei p.1).1 (rw (ne_eqb ei.thread e.thread n, bump) at l)),
          )

  -- what an event takes besides what its thread knows
  pub record Gains (past : List Event) (e : Event) (i : ℕ) : Type 0 where
    pub k : ℕ
    pub ek : Event
    pub there : event_at past k ≡ Some ek
    pub edge : (synchronizes_by_release rule past k ek e || (synchronizes_by_stack past k e || synchronizes_by_wake k ek e)) ≡ true
    pub rest : Upto past k i

  -- what happens before a new event
  pub before-parts : (e : Event) (past : List Event) (i : ℕ) → (happens_before rule (e ∷ past) i (length past) ≡ true) ↔ ((is_known rule past e.thread i ≡ true) ⊎ Gains past e i)
  before-parts e past i = (there, back)
    where
      flip : (k : ℕ) → (k ≡ i) ⊎ (happens_before rule past i k ≡ true) → Upto past k i
      flip k x = elim x [ inl p ↦ inl (sym p) | inr p ↦ inr p ]

      unflip : (k : ℕ) → Upto past k i → (k ≡ i) ⊎ (happens_before rule past i k ≡ true)
      unflip k x = elim x [ inl p ↦ inl (sym p) | inr p ↦ inr p ]

      there : happens_before rule (e ∷ past) i (length past) ≡ true → (is_known rule past e.thread i ≡ true) ⊎ Gains past e i
      there h = go (newest-step rule e past i h)
        where
          go : Step rule past e i → (is_known rule past e.thread i ≡ true) ⊎ Gains past e i
          go s = elim (or_cases (eqb s.ek.thread e.thread) _ s.edge) [
            | inl p ↦ inl (step-newest rule (plain e.thread) past i (record { k = s.k; ek = s.ek; there = s.there; edge = or_left (eqb s.ek.thread e.thread) _ p; rest = s.rest }))
            | inr p ↦ elim (or_cases (synchronizes_by_release rule past s.k s.ek e) _ p) [
              | inl q ↦ inr (record { k = s.k; ek = s.ek; there = s.there; edge = or_left (synchronizes_by_release rule past s.k s.ek e) _ q; rest = flip s.k s.rest })
              | inr q ↦ elim (or_cases (synchronizes_by_stack past s.k e) _ q) [
                | inl r ↦ inr (record { k = s.k; ek = s.ek; there = s.there; edge = or_right (synchronizes_by_release rule past s.k s.ek e) _ (or_left (synchronizes_by_stack past s.k e) _ r); rest = flip s.k s.rest })
                | inr r ↦ elim (or_cases (makes_thread e.thread s.ek) _ r) [
                  | inl x ↦ inl (step-newest rule (plain e.thread) past i (record { k = s.k; ek = s.ek; there = s.there; edge = or_right (eqb s.ek.thread e.thread) _ (or_left (makes_thread e.thread s.ek) _ x); rest = s.rest }))
                  | inr x ↦ inr (record { k = s.k; ek = s.ek; there = s.there; edge = or_right (synchronizes_by_release rule past s.k s.ek e) _ (or_right (synchronizes_by_stack past s.k e) _ x); rest = flip s.k s.rest })
                ]
              ]
            ]
          ]

      back : (is_known rule past e.thread i ≡ true) ⊎ Gains past e i → happens_before rule (e ∷ past) i (length past) ≡ true
      back (inl h) = go (newest-step rule (plain e.thread) past i h)
        where
          go : Step rule past (plain e.thread) i → happens_before rule (e ∷ past) i (length past) ≡ true
          go s = step-newest rule e past i (record {
            k = s.k;
            ek = s.ek;
            there = s.there;
            rest = s.rest;
            edge = elim (or_cases (eqb s.ek.thread e.thread) _ s.edge) [
              | inl p ↦ or_left (eqb s.ek.thread e.thread) _ p
              | inr p ↦ elim (or_cases (makes_thread e.thread s.ek) _ p) [
                | inl q ↦ or_right (eqb s.ek.thread e.thread) _ (or_right (synchronizes_by_release rule past s.k s.ek e) _ (or_right (synchronizes_by_stack past s.k e) _ (or_left (makes_thread e.thread s.ek) _ q)))
                | inr q ↦ absurd (false≢true q)
              ]
            ];
          })
      back (inr g) = step-newest rule e past i (record {
        k = g.k;
        ek = g.ek;
        there = g.there;
        rest = unflip g.k g.rest;
        edge = or_right (eqb g.ek.thread e.thread) _ (elim (or_cases (synchronizes_by_release rule past g.k g.ek e) _ g.edge) [
          | inl p ↦ or_left (synchronizes_by_release rule past g.k g.ek e) _ p
          | inr p ↦ or_right (synchronizes_by_release rule past g.k g.ek e) _ (elim (or_cases (synchronizes_by_stack past g.k e) _ p) [
            | inl q ↦ or_left (synchronizes_by_stack past g.k e) _ q
            | inr q ↦ or_right (synchronizes_by_stack past g.k e) _ (or_right (makes_thread e.thread g.ek) _ q)
          ])
        ]);
      })
