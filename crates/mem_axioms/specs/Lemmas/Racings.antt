-- The least event that races.
use Rattle.std.proofs.Common.{◌≡◌, ℕ, ◌<◌, ◌≤◌, Bool, true, false, not, cond, is_none, List, [], ◌∷◌, length, Some, None, Option, refl, sym, ◌∙◌, inl, inr, ◌⊎◌, arith, MatchOption}
use Rattle.std.proofs.lemmas.Bool.{false≢true, and_from, and_parts}
use Rattle.mem_axioms.specs.Logs.{event_at, least_event}
use Rattle.mem_axioms.specs.HappensBefore.{happens_before}
use Rattle.mem_axioms.specs.Races.{may_race, races, race, is_race_free, Racing}
use Rattle.mem_axioms.specs.Lemmas.Numbers.{event-below, event-kept, event-cases, event-newest, event-older}
use Rattle.mem_axioms.specs.Lemmas.Steps.{before-older}
use Rattle.mem_axioms.specs.Lemmas.Least.{before-from, before-is}
use Rattle.mem_axioms.specs.declared.types.Event.{Event}
use Rattle.mem_axioms.specs.declared.types.Rule.{Rule}

-- the least event that passes
pub record Least (test : ℕ → Event → Bool) (log : List Event) (i : ℕ) : Type 0 where
  pub ei : Event
  pub there : event_at log i ≡ Some ei
  pub passes : test i ei ≡ true
  pub least : (j : ℕ) (ej : Event) → event_at log j ≡ Some ej → test j ej ≡ true → i ≤ j

pub least-one : (test : ℕ → Event → Bool) (log : List Event) (i j : ℕ) → Least test log i → Least test log j → i ≡ j
least-one test log i j p q = let a = p.least j q.ei q.there q.passes in let b = q.least i p.ei p.there p.passes in omega arith

abbrev pub LeastOr : (test : ℕ → Event → Bool) → List Event → Option ℕ → Type 0
LeastOr test log (Some i) = Least test log i
LeastOr test log None = (j : ℕ) (ej : Event) → event_at log j ≡ Some ej → test j ej ≡ true → ⊥

pub least-is : (test : ℕ → Event → Bool) (log : List Event) → LeastOr test log (least_event test log)
least-is test [] = λ j ej at t. cc
least-is test (e ∷ past) = go (least_event test past) refl (least-is test past)
  where
    go : (o : Option ℕ) → least_event test past ≡ o → LeastOr test past o → LeastOr test (e ∷ past) (least_event test (e ∷ past))
    go (Some i) p w = rw (p, least_event) (record {
      ei = w.ei;
      there = event-kept e past i w.ei w.there;
      passes = w.passes;
      least = λ j ej at t. elim (event-cases e past j ej at) [ inl q ↦ (let z = event-below past i w.ei w.there in let y = q.0 in omega arith) | inr q ↦ w.least j ej q.1 t ];
    })
    go None p w = rw (p, least_event) (last (test (length past) e) refl)
      where
        last : (b : Bool) → test (length past) e ≡ b → LeastOr test (e ∷ past) (cond (test (length past) e) (Some (length past)) None)
        last true q = rw q (record {
          ei = e;
          there = event-newest e past;
          passes = q;
          least = λ j ej at t. elim (event-cases e past j ej at) [ inl z ↦ (let y = z.0 in omega arith) | inr z ↦ absurd (w j ej z.1 t) ];
        })
        last false q = rw q (λ j ej at t. elim (event-cases e past j ej at) [ inl z ↦ false≢true (sym q ∙ (rw (z.0, z.1) at t)) | inr z ↦ w j ej z.1 t ])

not_test : (a : Bool) → not a ≡ true → a ≡ true → ⊥
not_test true h p = false≢true h
not_test false h p = false≢true p

test_not : (a : Bool) → (a ≡ true → ⊥) → not a ≡ true
test_not true h = absurd (h refl)
test_not false h = refl

module _ (rule : Rule) where
  -- the test of the newest event with an earlier one, and the relation
  racing-from : (e : Event) (past : List Event) (i : ℕ) (ei : Event) → event_at past i ≡ Some ei → races rule past e i ei ≡ true → Racing rule (e ∷ past) i (length past)
  racing-from e past i ei at t =
      let p = and_parts (may_race ei e) (not (happens_before rule (e ∷ past) i (length past))) t in
      record {
        ei = ei;
        ej = e;
        there_i = event-kept e past i ei at;
        there_j = event-newest e past;
        order = event-below past i ei at;
        conflict = p.0;
        apart = λ b. not_test (happens_before rule (e ∷ past) i (length past)) p.1 (before-from rule (e ∷ past) b);
      }

  racing-is : (e : Event) (past : List Event) (i : ℕ) → (r : Racing rule (e ∷ past) i (length past)) → (event_at past i ≡ Some r.ei) × (races rule past e i r.ei ≡ true)
  racing-is e past i r =
      let older : event_at past i ≡ Some r.ei = sym (event-older e past i r.order) ∙ r.there_i in
      let n = event-newest e past in
      let m = r.there_j in
      let s : r.ej ≡ e = cc in (
        older,
        and_from (may_race r.ei e) (not (happens_before rule (e ∷ past) i (length past))) (rw s at r.conflict)
            (test_not (happens_before rule (e ∷ past) i (length past)) (λ b. r.apart (before-is rule (e ∷ past) i (length past) b))),
      )

  -- the answer of `race`, as a relation
  pub race-is : (past : List Event) (e : Event) → MatchOption (race rule past e)
      ((i : ℕ) → Racing rule (e ∷ past) i (length past) → ⊥)
      (λ i. Racing rule (e ∷ past) i (length past) × ((k : ℕ) → Racing rule (e ∷ past) k (length past) → i ≤ k))
  unfolding race
  race-is past e = go (least_event (races rule past e) past) (least-is (races rule past e) past)
    where
      go : (o : Option ℕ) → LeastOr (races rule past e) past o → MatchOption o
          ((i : ℕ) → Racing rule (e ∷ past) i (length past) → ⊥)
          (λ i. Racing rule (e ∷ past) i (length past) × ((k : ℕ) → Racing rule (e ∷ past) k (length past) → i ≤ k))
      go None w = λ i r. let p = racing-is e past i r in w i r.ei p.0 p.1
      go (Some i) w = (racing-from e past i w.ei w.there w.passes, λ k r. let p = racing-is e past k r in w.least k r.ei p.0 p.1)

  -- two events of the past race in the longer log as they did in the shorter
  racing-kept : (e : Event) (past : List Event) (i j : ℕ) → Racing rule past i j → Racing rule (e ∷ past) i j
  racing-kept e past i j r = record {
    ei = r.ei;
    ej = r.ej;
    there_i = event-kept e past i r.ei r.there_i;
    there_j = event-kept e past j r.ej r.there_j;
    order = r.order;
    conflict = r.conflict;
    apart = λ b. r.apart (before-is rule past i j (sym (before-older rule e past i j (event-below past j r.ej r.there_j)) ∙ before-from rule (e ∷ past) b));
  }

  racing-older : (e : Event) (past : List Event) (i j : ℕ) → j < length past → Racing rule (e ∷ past) i j → Racing rule past i j
  racing-older e past i j l r = record {
    ei = r.ei;
    ej = r.ej;
    there_i = sym (event-older e past i (let o = r.order in omega arith)) ∙ r.there_i;
    there_j = sym (event-older e past j l) ∙ r.there_j;
    order = r.order;
    conflict = r.conflict;
    apart = λ b. r.apart (before-is rule (e ∷ past) i j (before-older rule e past i j l ∙ before-from rule past b));
  }

  pub race_free-is : (log : List Event) → is_race_free rule log ≡ true → (i j : ℕ) → Racing rule log i j → ⊥
  race_free-is [] h i j r = let a = r.there_i in cc
  race_free-is (e ∷ past) h i j r = go (race rule past e) refl (race-is past e) (race_free-is past) (event-cases e past j r.ej r.there_j)
    where
      parts : (is_none (race rule past e) ≡ true) × (is_race_free rule past ≡ true)
      parts = and_parts (is_none (race rule past e)) (is_race_free rule past) h

      go : (o : Option ℕ) → race rule past e ≡ o → MatchOption o
          ((i : ℕ) → Racing rule (e ∷ past) i (length past) → ⊥)
          (λ i. Racing rule (e ∷ past) i (length past) × ((k : ℕ) → Racing rule (e ∷ past) k (length past) → i ≤ k))
          → (is_race_free rule past ≡ true → (i j : ℕ) → Racing rule past i j → ⊥)
          → ((j ≡ length past) × (r.ej ≡ e)) ⊎ ((j < length past) × (event_at past j ≡ Some r.ej)) → ⊥
      go (Some k) p w ih c = false≢true (rw p at parts.0)
      go None p w ih (inl c) = w i (rw c.0 at r)
      go None p w ih (inr c) = ih parts.1 i j (racing-older e past i j c.0 r)

  pub race_free-from : (log : List Event) → ((i j : ℕ) → Racing rule log i j → ⊥) → is_race_free rule log ≡ true
  race_free-from [] h = refl
  race_free-from (e ∷ past) h = and_from (is_none (race rule past e)) (is_race_free rule past) (go (race rule past e) (race-is past e)) (race_free-from past (λ i j r. h i j (racing-kept e past i j r)))
    where
      go : (o : Option ℕ) → MatchOption o
          ((i : ℕ) → Racing rule (e ∷ past) i (length past) → ⊥)
          (λ i. Racing rule (e ∷ past) i (length past) × ((k : ℕ) → Racing rule (e ∷ past) k (length past) → i ≤ k)) → is_none o ≡ true
      go (Some k) w = absurd (h k (length past) w.0)
      go None w = refl
