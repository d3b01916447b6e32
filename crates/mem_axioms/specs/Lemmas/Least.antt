-- Happens-before computes the least transitive relation.
use Rattle.std.proofs.Common.{◌≡◌, ℕ, ◌<◌, true, eqb, List, [], ◌∷◌, length, sym, ◌∙◌, inl, inr, ◌⊎◌, ◌↔◌, arith}
use Rattle.std.proofs.lemmas.Bool.{eqb-true, cases_eq, or_cases, false≢true}
use Rattle.mem_axioms.specs.HappensBefore.{happens_before, Before, sequenced, synchronized, through}
use Rattle.mem_axioms.specs.Lemmas.Numbers.{event-below, event-kept, event-newest, past_of-newest, past_of-older}
use Rattle.mem_axioms.specs.Lemmas.Steps.{Step, newest-step, before-older, before-less, before-trans, in-order, edge-before}
use Rattle.mem_axioms.specs.declared.types.Event.{Event}
use Rattle.mem_axioms.specs.declared.types.Rule.{Rule}

module _ (rule : Rule) where
  pub before-from : (log : List Event) {i j : ℕ} → Before rule log i j → happens_before rule log i j ≡ true
  before-from log (sequenced {i} {j} {ei} {ej} hi hj l t) = in-order rule log i j ei ej hi hj l t
  before-from log (synchronized {i} {j} {ei} {ej} hi hj l s) = edge-before rule log i j ei ej hi hj l s
  before-from log (through {i} {k} {j} p q) = before-trans rule log i k j (before-from log p) (before-from log q)

  before-kept : (e : Event) (past : List Event) {i j : ℕ} → Before rule past i j → Before rule (e ∷ past) i j
  before-kept e past (sequenced {i} {j} {ei} {ej} hi hj l t) = sequenced (event-kept e past i ei hi) (event-kept e past j ej hj) l t
  before-kept e past (synchronized {i} {j} {ei} {ej} hi hj l s) = synchronized (event-kept e past i ei hi) (event-kept e past j ej hj) l (rw (past_of-older e past j (event-below past j ej hj)) s)
  before-kept e past (through {i} {k} {j} p q) = through (before-kept e past p) (before-kept e past q)

  pub before-is : (log : List Event) (i j : ℕ) → happens_before rule log i j ≡ true → Before rule log i j
  unfolding happens_before
  before-is [] i j h = absurd (false≢true h)
  before-is (e ∷ past) i j h = go (λ i j. before-is past i j) (cases_eq j (length past))
    where
      go : ((i j : ℕ) → happens_before rule past i j ≡ true → Before rule past i j) → (j ≡ length past) ⊎ (j ≡ length past → ⊥) → Before rule (e ∷ past) i j
      go ih (inl p) = rw p (last s.rest)
        where
          s : Step rule past e i
          s = newest-step rule e past i (rw p at h)

          l : s.k < length past
          l = event-below past s.k s.ek s.there

          one : Before rule (e ∷ past) s.k (length past)
          one = elim (or_cases (eqb s.ek.thread e.thread) _ s.edge) [
            | inl q ↦ sequenced (event-kept e past s.k s.ek s.there) (event-newest e past) l (eqb-true s.ek.thread e.thread q)
            | inr q ↦ synchronized (event-kept e past s.k s.ek s.there) (event-newest e past) l (rw (past_of-newest e past) q)
          ]

          last : (s.k ≡ i) ⊎ (happens_before rule past i s.k ≡ true) → Before rule (e ∷ past) i (length past)
          last (inl q) = rw (sym q) one
          last (inr q) = through (before-kept e past (ih i s.k q)) one
      go ih (inr n) =
          let b = before-less rule (e ∷ past) i j h in
          let l : j < length past = omega arith in
          before-kept e past (ih i j (sym (before-older rule e past i j l) ∙ h))

  pub before-iff : (log : List Event) (i j : ℕ) → (happens_before rule log i j ≡ true) ↔ Before rule log i j
  before-iff log i j = (before-is log i j, λ b. before-from log b)
