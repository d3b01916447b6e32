-- What the judge finds at one event is the verdict.
use Rattle.std.proofs.Common.{◌≡◌, ℕ, suc, ◌+◌, ◌<◌, ◌≤◌, true, false, ◌&&◌, List, [], ◌∷◌, ◌++◌, length, refl, sym, ap, ◌∙◌, inl, inr, ◌⊎◌, arith, add-one, length-append}
use Rattle.std.specs.Prelude.{Some, None}
use Rattle.std.proofs.lemmas.Bool.{and_from, and_parts, cases_lt, ltb-true, lt-ltb, false≢true}
use Rattle.mem_axioms.specs.Logs.{least_event, event_at}
use Rattle.mem_axioms.specs.Form.{fits_form_alone}
use Rattle.mem_axioms.specs.Axioms.{is_coherent, is_seq_cst_ordered}
use Rattle.mem_axioms.specs.Races.{race}
use Rattle.mem_axioms.specs.Floor.{floor}
use Rattle.mem_axioms.specs.Lemmas.Relations.{coherence-is, coherence-from, in_order-is, in_order-from}
use Rattle.mem_axioms.specs.Lemmas.Added.{coherence-more, Allowed}
use Rattle.mem_axioms.specs.Lemmas.Numbers.{event-below, event-cases}
use Rattle.mem_axioms.specs.declared.types.Rule.{Rule}
use Rattle.mem_axioms.specs.declared.types.Mode.TheVariants as modes
use Rattle.mem_axioms.specs.declared.types.Kind.{Kind}
use Rattle.mem_axioms.specs.declared.types.Kind.TheVariants as kinds
use Rattle.mem_axioms.specs.declared.types.Event.{Event}
use Rattle.verdicts.specs.Verdicts.{verdict, next_verdict, goes_on, breaks_coherence, least_pair}
use Rattle.verdicts.specs.Laws.{IsFaultless}
use Rattle.verdicts.specs.Searches.{reads_below, IsNo}
use Rattle.verdicts.specs.declared.types.Verdict.{Verdict}
use Rattle.verdicts.specs.declared.types.Verdict.TheVariants.{Yes, Form, Axiom1, Axiom3, Race}
use Rattle.verdicts.proofs.Yes.{older-none, none-order, none-older, order-none, exactly}
use Rattle.verdicts.proofs.Below.{below}
use Rattle.verdicts.proofs.Bare.{ev}

module _ (rule : Rule) (past : List Event) (w : IsFaultless rule past) where
  -- not below its floor, it breaks neither axiom
  both : (t : ℕ) (k : Kind) → fits_form_alone past (ev t k) ≡ true → reads_below rule past (ev t k) ≡ false → (is_coherent rule (ev t k ∷ past) ≡ true) × (is_seq_cst_ordered rule (ev t k ∷ past) ≡ true)
  both t (kinds.Access modes.Read c o p v) f h =
      let e = ev t (kinds.Access modes.Read c o p v) in
      let le : floor rule past t c o ≤ p = elim (cases_lt p (floor rule past t c o)) [ inl l ↦ absurd (false≢true (sym h ∙ lt-ltb p (floor rule past t c o) l)) | inr l ↦ l ] in
      and_parts (is_coherent rule (e ∷ past)) (is_seq_cst_ordered rule (e ∷ past)) (((below rule past e w f).1 t p c o v refl).1 le)
  both t (kinds.Access modes.Write c o p v) f h = (below rule past _ w f).0 refl
  both t (kinds.Access modes.Update c o p v) f h = (below rule past _ w f).0 refl
  both t (kinds.Fence o) f h = (below rule past _ w f).0 refl
  both t (kinds.NewStack o) f h = (below rule past _ w f).0 refl
  both t (kinds.NewThread o) f h = (below rule past _ w f).0 refl
  both t (kinds.Leave o) f h = (below rule past _ w f).0 refl
  both t (kinds.Enter o) f h = (below rule past _ w f).0 refl
  both t (kinds.Wake c n) f h = (below rule past _ w f).0 refl
  both t (kinds.Woken o) f h = (below rule past _ w f).0 refl

  -- below it, it breaks one
  one_breaks : (t : ℕ) (k : Kind) → fits_form_alone past (ev t k) ≡ true → reads_below rule past (ev t k) ≡ true → (is_coherent rule (ev t k ∷ past) && is_seq_cst_ordered rule (ev t k ∷ past)) ≡ true → ⊥
  one_breaks t (kinds.Access modes.Read c o p v) f h g =
      let e = ev t (kinds.Access modes.Read c o p v) in
      let le = ((below rule past e w f).1 t p c o v refl).0 g in
      let l = ltb-true p (floor rule past t c o) h in
      omega arith
  one_breaks t (kinds.Access modes.Write c o p v) f h g = false≢true h
  one_breaks t (kinds.Access modes.Update c o p v) f h g = false≢true h
  one_breaks t (kinds.Fence o) f h g = false≢true h
  one_breaks t (kinds.NewStack o) f h g = false≢true h
  one_breaks t (kinds.NewThread o) f h g = false≢true h
  one_breaks t (kinds.Leave o) f h g = false≢true h
  one_breaks t (kinds.Enter o) f h g = false≢true h
  one_breaks t (kinds.Wake c n) f h g = false≢true h
  one_breaks t (kinds.Woken o) f h g = false≢true h

  module _ (e : Event) where
    pub no_form : fits_form_alone past e ≡ false → next_verdict rule past e ≡ Form (length past)
    unfolding next_verdict
    no_form h = rw h refl

    pub an_older : (i : ℕ) → fits_form_alone past e ≡ true → least_event (breaks_coherence rule past e) past ≡ Some i → next_verdict rule past e ≡ Axiom1 i (length past)
    unfolding next_verdict
    an_older i f c = rw (f, c) refl

    pub a_pair : (a b : ℕ) → fits_form_alone past e ≡ true → least_event (breaks_coherence rule past e) past ≡ None → least_pair rule (e ∷ past) ≡ Some (b, a) → next_verdict rule past e ≡ Axiom3 a b
    unfolding next_verdict
    a_pair a b f c p = rw (f, c, p) refl

    nones : fits_form_alone past e ≡ true → reads_below rule past e ≡ false → (least_event (breaks_coherence rule past e) past ≡ None) × (least_pair rule (e ∷ past) ≡ None)
    nones f h =
        let g = both e.thread e.kind f h in
        (older-none rule past e (coherence-is rule (e ∷ past) g.0), none-order rule (e ∷ past) (in_order-is rule (e ∷ past) g.1))

    pub a_race : (i : ℕ) → fits_form_alone past e ≡ true → reads_below rule past e ≡ false → race rule past e ≡ Some i → next_verdict rule past e ≡ Race i (length past)
    unfolding next_verdict
    a_race i f h r = let n = nones f h in rw (f, n.0, n.1, r) refl

    pub no_fault : fits_form_alone past e ≡ true → reads_below rule past e ≡ false → race rule past e ≡ None → next_verdict rule past e ≡ Yes (suc (length past))
    unfolding next_verdict
    no_fault f h r = let n = nones f h in rw (f, n.0, n.1, r) refl

    -- where it reads below its floor, one of both is found
    pub some_breach : fits_form_alone past e ≡ true → reads_below rule past e ≡ true → least_event (breaks_coherence rule past e) past ≡ None → least_pair rule (e ∷ past) ≡ None → ⊥
    some_breach f h c p =
        let order = order-none rule (e ∷ past) p in
        let allowed : Allowed rule past e = record { newer = none-older rule past e c; ordered = λ a b y ea eb ey l ly lb. order a b (length past) y ea eb e ey l } in
        one_breaks e.thread e.kind f h (and_from (is_coherent rule (e ∷ past)) (is_seq_cst_ordered rule (e ∷ past))
        (coherence-from rule (e ∷ past) (coherence-more rule e past (coherence-is rule past w.coherent) allowed)) (in_order-from rule (e ∷ past) order))

-- ---- the events before the next one

-- a verdict that is not Yes stays, whatever comes next
pub verdict_stays : (rule : Rule) (newer past : List Event) (v : Verdict) → IsNo v → verdict rule past ≡ v → verdict rule (newer ++ past) ≡ v
verdict_stays rule [] past v b h = h
verdict_stays rule (e ∷ newer) past v b h = go v b (verdict_stays rule newer past v b h)
  where
    go : (v : Verdict) → IsNo v → verdict rule (newer ++ past) ≡ v → goes_on rule (newer ++ past) e (verdict rule (newer ++ past)) ≡ v
    go (Yes n) b q = absurd b
    go (Form j) b q = rw q refl
    go (Axiom1 i j) b q = rw q refl
    go (Axiom3 i j) b q = rw q refl
    go (Race i j) b q = rw q refl

-- the next event of a log after a part of it
pub record Next (newer past : List Event) (e : Event) : Type 0 where
  pub front : List Event
  pub parts : front ++ e ∷ past ≡ newer ++ past

pub next_event : (newer past : List Event) (n : ℕ) (e : Event) → length past ≡ n → event_at (newer ++ past) n ≡ Some e → Next newer past e
next_event [] past n e l h = absurd (let b = event-below past n e h in omega (arith, b, l))
next_event (x ∷ newer) past n e l h = go (event-cases x (newer ++ past) n e h) (next_event newer past n e l)
  where
    go : ((n ≡ length (newer ++ past)) × (e ≡ x)) ⊎ ((n < length (newer ++ past)) × (event_at (newer ++ past) n ≡ Some e)) → (event_at (newer ++ past) n ≡ Some e → Next newer past e) → Next (x ∷ newer) past e
    go (inl p) ih = only newer (omega (arith, p.0, l, length-append newer past)) p.1
      where
        only : (xs : List Event) → length xs ≡ 0 → e ≡ x → Next (x ∷ xs) past e
        only [] z q = record { front = []; parts = rw q refl }
        only (y ∷ ys) z q = absurd (omega arith)
    go (inr p) ih = let r = ih p.1 in record { front = x ∷ r.front; parts = ap (λ (ys : List Event). x ∷ ys) r.parts }

-- a Yes goes on to what is found of the next event
pub goes_next : (rule : Rule) (past : List Event) (e : Event) (n : ℕ) (v : Verdict) → verdict rule past ≡ Yes n → next_verdict rule past e ≡ v → verdict rule (e ∷ past) ≡ v
goes_next rule past e n v q h = rw q h

pub faultless_of : (rule : Rule) (past : List Event) (n : ℕ) → verdict rule past ≡ Yes n → IsFaultless rule past
faultless_of rule past n h = ((exactly rule past).0 n h).0

pub none_left : (newer past log : List Event) (n : ℕ) → newer ++ past ≡ log → length past ≡ n → length log ≤ n → past ≡ log
none_left [] past log n p l h = p
none_left (x ∷ newer) past log n p l h = absurd (let q = ap length p in let k = length-append newer past in omega (arith, q, k, l, h))

-- ---- the loop

pub after_nothing : (log past : List Event) → past ≡ [] → log ++ past ≡ log
after_nothing [] past h = h
after_nothing (e ∷ log) past h = ap (λ (l : List Event). e ∷ l) (after_nothing log past h)

pub none_yet : (rule : Rule) (past : List Event) → past ≡ [] → (length past ≡ 0) × (verdict rule past ≡ Yes 0)
none_yet rule past h = rw h (refl, refl)

pub next_in : (newer past log : List Event) (n : ℕ) (e : Event) → newer ++ past ≡ log → length past ≡ n → event_at log n ≡ Some e → Next newer past e
next_in newer past log n e p l h = next_event newer past n e l (rw p h)

pub found_there : (rule first : Rule) (newer past log : List Event) (n : ℕ) (e : Event) (v : Verdict) → newer ++ past ≡ log → length past ≡ n → verdict rule past ≡ Yes n → rule ≡ first →
    event_at log n ≡ Some e → next_verdict rule past e ≡ v → IsNo v → v ≡ verdict first log
found_there rule first newer past log n e v p l y r h q b =
    let k = next_in newer past log n e p l h in
    let stays = verdict_stays rule k.front (e ∷ past) v b (goes_next rule past e n v y q) in
    sym (sym (ap (λ (x : List Event). verdict first x) (k.parts ∙ p)) ∙ ap (λ (x : Rule). verdict x (k.front ++ e ∷ past)) (sym r) ∙ stays)

pub goes_over : (rule first rule' : Rule) (newer past past' log : List Event) (n : ℕ) (e : Event) → newer ++ past ≡ log → length past ≡ n → verdict rule past ≡ Yes n → rule ≡ first →
    event_at log n ≡ Some e → next_verdict rule past e ≡ Yes (n + 1) → past' ≡ e ∷ past → rule' ≡ rule →
    (x : List Event) × (x ++ past' ≡ log) × (length past' ≡ n + 1) × (verdict rule' past' ≡ Yes (n + 1)) × (rule' ≡ first)
goes_over rule first rule' newer past past' log n e p l y r h q a s =
    let k = next_in newer past log n e p l h in (
      k.front,
      ap (λ (x : List Event). k.front ++ x) a ∙ k.parts ∙ p,
      ap length a ∙ ap suc l ∙ sym (add-one n),
      ap (λ (x : Rule). verdict x past') s ∙ ap (verdict rule) a ∙ goes_next rule past e n (Yes (n + 1)) y q,
      s ∙ r,
    )
