-- What an index of some of the events holds.
use Rattle.std.proofs.Common.{◌≡◌, ℕ, suc, zero, ◌<◌, ◌≤◌, Bool, true, false, cond, ◌&&◌, ltb, leb, List, [], ◌∷◌, length, Option, Some, None, get_or, refl, ap, ◌∙◌, inl, inr, ◌⊎◌, arith}
use Rattle.std.specs.Prelude.{unwrap_or, All}
use Rattle.std.proofs.lemmas.Bool.{le-leb, lt-leb, lt-ltb, le-ltb, cases_lt}
use Rattle.mem_axioms.specs.Logs.{event_at, least_event}
use Rattle.mem_axioms.specs.declared.types.Event.{Event}
use Rattle.mem_axioms.specs.Lemmas.Numbers.{event-kept, event-newest}
use Rattle.write_history.specs.Indexes.{last_position, first_after}
use Rattle.view_parts.specs.Indexed.{entries_by}
use Rattle.view_parts.specs.Answers.{one_higher}

-- the position of the last event that passes, of those with a number below the bound, or 0
abbrev pub last_below : (ℕ → Event → ℕ) → (Event → Bool) → ℕ → List Event → ℕ
last_below position test bound [] = 0
last_below position test bound (e ∷ past) = cond (test e && ltb (length past) bound) (position (length past) e) (last_below position test bound past)

module _ (position : ℕ → Event → ℕ) (test : Event → Bool) where
  pub entries-few : (log : List Event) → length (entries_by position test log) ≤ length log
  entries-few [] = omega arith
  entries-few (e ∷ past) = go (test e) refl (entries-few past)
    where
      go : (b : Bool) → test e ≡ b → length (entries_by position test past) ≤ length past → length (entries_by position test (e ∷ past)) ≤ suc (length past)
      go true p h = rw (p, entries_by) (omega arith)
      go false p h = rw (p, entries_by) (omega arith)

  pub entries-below : (log : List Event) → All (λ entry. entry.event < suc (length log)) (entries_by position test log)
  entries-below [] k d l = absurd (omega arith)
  entries-below (e ∷ past) k d l = go (test e) refl (entries-below past)
    where
      older : All (λ entry. entry.event < suc (length past)) (entries_by position test past) → (k : ℕ) → k < length (entries_by position test past) → (get_or (entries_by position test past) k d).event < suc (suc (length past))
      older h k l = let q = h k d l in omega arith

      go : (b : Bool) → test e ≡ b → All (λ entry. entry.event < suc (length past)) (entries_by position test past) → (get_or (entries_by position test (e ∷ past)) k d).event < suc (suc (length past))
      go true p h = rw (p, entries_by) (first k (rw (p, entries_by) at l))
        where
          first : (k : ℕ) → k < suc (length (entries_by position test past)) → (get_or (record { event = suc (length past); position = position (length past) e } ∷ entries_by position test past) k d).event < suc (suc (length past))
          first zero l = omega arith
          first (suc k) l = older h k (omega arith)
      go false p h = rw (p, entries_by) (older h k (rw (p, entries_by) at l))

  pub entries-none : (log : List Event) → ((i : ℕ) (e : Event) → event_at log i ≡ Some e → test e ≡ false) → entries_by position test log ≡ []
  entries-none [] h = refl
  entries-none (e ∷ past) h = rw (h (length past) e (event-newest e past), entries_by) (entries-none past (λ i ei at. h i ei (event-kept e past i ei at)))

  -- the last up to a clock's number is the last below it
  pub entries-floor : (bound : ℕ) (log : List Event) → unwrap_or (last_position bound (entries_by position test log)) 0 ≡ last_below position test bound log
  entries-floor bound [] = refl
  entries-floor bound (e ∷ past) = go (test e) refl (cases_lt (length past) bound) (entries-floor bound past)
    where
      go : (b : Bool) → test e ≡ b → (length past < bound) ⊎ (bound ≤ length past) → unwrap_or (last_position bound (entries_by position test past)) 0 ≡ last_below position test bound past
          → unwrap_or (last_position bound (entries_by position test (e ∷ past))) 0 ≡ last_below position test bound (e ∷ past)
      go false p c h = rw (p, entries_by) h
      go true p (inl l) h = rw (p, entries_by, le-leb (suc (length past)) bound (omega arith)) refl
      go true p (inr l) h = rw (p, entries_by, lt-leb (suc (length past)) bound (omega arith)) h

  -- the first after a clock's number is the first that the clock does not know
  pub entries-after : (bound : ℕ) (log : List Event) → first_after bound (entries_by position test log) ≡ one_higher (least_event (λ k e. test e && leb bound k) log)
  entries-after bound [] = refl
  entries-after bound (e ∷ past) = go (test e) refl (least_event (λ k e. test e && leb bound k) past) refl (entries-after bound past) (cases_lt (length past) bound)
    where
      go : (b : Bool) → test e ≡ b → (o : Option ℕ) → least_event (λ k e. test e && leb bound k) past ≡ o → first_after bound (entries_by position test past) ≡ one_higher (least_event (λ k e. test e && leb bound k) past)
          → (length past < bound) ⊎ (bound ≤ length past) → first_after bound (entries_by position test (e ∷ past)) ≡ one_higher (least_event (λ k e. test e && leb bound k) (e ∷ past))
      go false p (Some i) q h c = rw (q, least_event, p, entries_by) (h ∙ ap one_higher q)
      go false p None q h c = rw (q, least_event, p, entries_by) (h ∙ ap one_higher q)
      go true p (Some i) q h c = let z : first_after bound (entries_by position test past) ≡ Some (suc i) = h ∙ ap one_higher q in rw (q, least_event, p, entries_by, z) refl
      go true p None q h (inl l) = let z : first_after bound (entries_by position test past) ≡ None = h ∙ ap one_higher q in rw (q, least_event, p, entries_by, z, le-ltb bound (suc (length past)) (omega arith), lt-leb bound (length past) l) refl
      go true p None q h (inr l) = let z : first_after bound (entries_by position test past) ≡ None = h ∙ ap one_higher q in rw (q, least_event, p, entries_by, z, lt-ltb bound (suc (length past)) (omega arith), le-leb bound (length past) l) refl
