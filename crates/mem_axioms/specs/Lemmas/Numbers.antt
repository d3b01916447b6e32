-- Events of a log by their numbers.
use Rattle.std.proofs.Common.{◌≡◌, ℕ, suc, ◌<◌, Bool, true, List, [], ◌∷◌, length, Some, refl, sym, ◌∙◌, inl, inr, ◌⊎◌, arith}
use Rattle.std.proofs.lemmas.Bool.{ne_eqb, eq-eqb, cases_eq, or_cases, or_left, or_right, and_from, and_parts}
use Rattle.mem_axioms.specs.Logs.{event_at, past_of, any_event, each_event}
use Rattle.mem_axioms.specs.declared.types.Event.{Event}

pub event-newest : (e : Event) (past : List Event) → event_at (e ∷ past) (length past) ≡ Some e
event-newest e past = rw (eq-eqb (length past) (length past) refl, event_at)

pub event-older : (e : Event) (past : List Event) (i : ℕ) → i < length past → event_at (e ∷ past) i ≡ event_at past i
event-older e past i h = rw (ne_eqb i (length past) (λ p. omega arith), event_at)

pub event-below : (log : List Event) (i : ℕ) (e : Event) → event_at log i ≡ Some e → i < length log
event-below [] i e h = absurd (cc)
event-below (f ∷ past) i e h = go (event-below past i e) (cases_eq i (length past))
  where
    go : (event_at past i ≡ Some e → i < length past) → (i ≡ length past) ⊎ (i ≡ length past → ⊥) → i < suc (length past)
    go ih (inl p) = omega arith
    go ih (inr n) = let k : event_at past i ≡ Some e = rw (ne_eqb i (length past) n, event_at) at h in let q = ih k in omega arith

pub event-one : (log : List Event) (i : ℕ) (e f : Event) → event_at log i ≡ Some e → event_at log i ≡ Some f → e ≡ f
event-one log i e f p q = cc

pub event-exists : (log : List Event) (i : ℕ) → i < length log → (e : Event) × (event_at log i ≡ Some e)
event-exists [] i h = absurd (omega arith)
event-exists (f ∷ past) i h = go (event-exists past i) (cases_eq i (length past))
  where
    go : (i < length past → (e : Event) × (event_at past i ≡ Some e)) → (i ≡ length past) ⊎ (i ≡ length past → ⊥) → (e : Event) × (event_at (f ∷ past) i ≡ Some e)
    go ih (inl p) = (f, rw p (event-newest f past))
    go ih (inr n) = let k = ih (omega arith) in (k.0, event-older f past i (omega arith) ∙ k.1)

-- what an older event is with one more
pub event-kept : (f : Event) (past : List Event) (i : ℕ) (e : Event) → event_at past i ≡ Some e → event_at (f ∷ past) i ≡ Some e
event-kept f past i e h = event-older f past i (event-below past i e h) ∙ h

-- an event of a log with one more is that, or an older one
pub event-cases : (f : Event) (past : List Event) (i : ℕ) (e : Event) → event_at (f ∷ past) i ≡ Some e → ((i ≡ length past) × (e ≡ f)) ⊎ ((i < length past) × (event_at past i ≡ Some e))
event-cases f past i e h = go (cases_eq i (length past))
  where
    go : (i ≡ length past) ⊎ (i ≡ length past → ⊥) → ((i ≡ length past) × (e ≡ f)) ⊎ ((i < length past) × (event_at past i ≡ Some e))
    go (inl p) = let n = event-newest f past in let q : event_at (f ∷ past) (length past) ≡ Some e = rw p at h in inl (p, (cc))
    go (inr n) = let b = event-below (f ∷ past) i e h in let s : i < length past = omega arith in inr (s, sym (event-older f past i s) ∙ h)

pub any-from : (test : ℕ → Event → Bool) (log : List Event) (i : ℕ) (e : Event) → event_at log i ≡ Some e → test i e ≡ true → any_event test log ≡ true
any-from test [] i e h t = absurd (cc)
any-from test (f ∷ past) i e h t = go (any-from test past i e) (event-cases f past i e h)
  where
    go : (event_at past i ≡ Some e → test i e ≡ true → any_event test past ≡ true) → ((i ≡ length past) × (e ≡ f)) ⊎ ((i < length past) × (event_at past i ≡ Some e)) → any_event test (f ∷ past) ≡ true
    go ih (inl p) = or_left (test (length past) f) (any_event test past) (rw (p.0, p.1) at t)
    go ih (inr p) = or_right (test (length past) f) (any_event test past) (ih p.1 t)

pub any-some : (test : ℕ → Event → Bool) (log : List Event) → any_event test log ≡ true → (i : ℕ) × (e : Event) × (event_at log i ≡ Some e) × (test i e ≡ true)
any-some test [] h = absurd (cc)
any-some test (f ∷ past) h = go (any-some test past) (or_cases (test (length past) f) (any_event test past) h)
  where
    go : (any_event test past ≡ true → (i : ℕ) × (e : Event) × (event_at past i ≡ Some e) × (test i e ≡ true)) → (test (length past) f ≡ true) ⊎ (any_event test past ≡ true) → (i : ℕ) × (e : Event) × (event_at (f ∷ past) i ≡ Some e) × (test i e ≡ true)
    go ih (inl t) = (length past, f, event-newest f past, t)
    go ih (inr t) = let k = ih t in (k.0, k.1, event-kept f past k.0 k.1 k.2, k.3)

pub each-at : (test : ℕ → Event → Bool) (log : List Event) (i : ℕ) (e : Event) → each_event test log ≡ true → event_at log i ≡ Some e → test i e ≡ true
each-at test [] i e t h = absurd (cc)
each-at test (f ∷ past) i e t h = go (each-at test past i e (and_parts (test (length past) f) (each_event test past) t).1) (event-cases f past i e h)
  where
    go : (event_at past i ≡ Some e → test i e ≡ true) → ((i ≡ length past) × (e ≡ f)) ⊎ ((i < length past) × (event_at past i ≡ Some e)) → test i e ≡ true
    go ih (inl p) = let q = (and_parts (test (length past) f) (each_event test past) t).0 in rw (p.0, p.1) q
    go ih (inr p) = ih p.1

pub each-from : (test : ℕ → Event → Bool) (log : List Event) → ((i : ℕ) (e : Event) → event_at log i ≡ Some e → test i e ≡ true) → each_event test log ≡ true
each-from test [] h = refl
each-from test (f ∷ past) h = and_from (test (length past) f) (each_event test past) (h (length past) f (event-newest f past)) (each-from test past (λ i e k. h i e (event-kept f past i e k)))

pub past_of-newest : (e : Event) (past : List Event) → past_of (e ∷ past) (length past) ≡ past
past_of-newest e past = rw (eq-eqb (length past) (length past) refl, past_of)

pub past_of-older : (e : Event) (past : List Event) (j : ℕ) → j < length past → past_of (e ∷ past) j ≡ past_of past j
past_of-older e past j l = rw (ne_eqb j (length past) (λ z. omega arith), past_of)
