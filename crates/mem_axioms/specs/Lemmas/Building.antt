-- How a log that meets the axioms was built, and where its values come from.
use Rattle.std.proofs.Common.{◌≡◌, ℕ, suc, ◌<◌, Bool, true, false, ◌&&◌, eqb, leb, List, [], ◌∷◌, ◌++◌, All, length, Some, refl, sym, ap, ◌∙◌, inl, inr, ◌⊎◌, arith}
use Rattle.std.proofs.lemmas.Bool.{eq-eqb, eqb-true, and_from, and_parts, false≢true}
use Rattle.mu_base.specs.declared.order.Order.{Order}
use Rattle.mu_values.specs.declared.scalars.Scalar.{Scalar}
use Rattle.mu_values.specs.SameScalar.{same_scalar}
use Rattle.mu_values.specs.ScalarLaws.{same_scalar-true}
use Rattle.mu_values.specs.declared.cells.CellId.{CellId}
use Rattle.mem_axioms.specs.Events.{modifies, position_of, value_of}
use Rattle.mem_axioms.specs.Logs.{event_at, past_of, newest}
use Rattle.mem_axioms.specs.Form.{value_at, is_value_at, fits_form}
use Rattle.mem_axioms.specs.Axioms.{meets_axioms}
use Rattle.mem_axioms.specs.Choices.{is_option}
use Rattle.mem_axioms.specs.Lemmas.Numbers.{event-cases, event-kept, event-newest, past_of-newest, past_of-older}
use Rattle.mem_axioms.specs.Lemmas.Positions.{fits-next}
use Rattle.mem_axioms.specs.Lemmas.Values.{value-kept, value-made}
use Rattle.mem_axioms.specs.Lemmas.Added.{Allowed, meets-newest}
use Rattle.mem_axioms.specs.declared.types.Event.{Event}
use Rattle.mem_axioms.specs.declared.types.Rule.{Rule}
use Rattle.mem_axioms.specs.declared.types.Kind.TheVariants.{Access}
use Rattle.mem_axioms.specs.declared.types.Mode.TheVariants.{Read}

module _ (rule : Rule) (initial : CellId → Scalar) where
  pub past-meets : (newer log : List Event) → meets_axioms rule initial (newer ++ log) ≡ true → meets_axioms rule initial log ≡ true
  past-meets [] log m = m
  past-meets (e ∷ newer) log m = past-meets newer log ((meets-newest rule e (newer ++ log) initial).0 m).0

  pub was-next : (log : List Event) → meets_axioms rule initial log ≡ true → (i : ℕ) (ei : Event) (cell : CellId) → event_at log i ≡ Some ei → modifies cell ei ≡ true → position_of ei ≡ suc (newest (past_of log i) cell)
  was-next [] m i ei cell at ch = absurd (cc)
  was-next (e ∷ past) m i ei cell at ch = go (was-next past parts.0 i ei cell) (event-cases e past i ei at)
    where
      parts : (meets_axioms rule initial past ≡ true) × (fits_form initial past e ≡ true) × Allowed rule past e
      parts = (meets-newest rule e past initial).0 m

      go : (event_at past i ≡ Some ei → modifies cell ei ≡ true → position_of ei ≡ suc (newest (past_of past i) cell)) → ((i ≡ length past) × (ei ≡ e)) ⊎ ((i < length past) × (event_at past i ≡ Some ei))
          → position_of ei ≡ suc (newest (past_of (e ∷ past) i) cell)
      go ih (inl p) = rw (p.0, p.1, past_of-newest e past) (fits-next (is_value_at initial) past e cell parts.1 (rw p.1 at ch))
      go ih (inr p) = rw (past_of-older e past i p.0) (ih p.1 ch)

  module _ (thread : ℕ) (cell : CellId) (order : Order) (position : ℕ) (value : Scalar) where
    abbrev the_read : Event
    the_read = record { thread = thread; kind = Access Read cell order position value }

    newest-was-option : (past : List Event) → meets_axioms rule initial (the_read ∷ past) ≡ true → (is_option rule initial past thread cell order position ≡ true) × (value ≡ value_at initial past cell position)
    newest-was-option past m = (rw (sym right) m, right)
      where
        right : value ≡ value_at initial past cell position
        right = same_scalar-true value (value_at initial past cell position) (and_parts (leb position (newest past cell)) (same_scalar value (value_at initial past cell position)) ((meets-newest rule the_read past initial).0 m).1).1

    pub was-option : (log : List Event) → meets_axioms rule initial log ≡ true → (i : ℕ) → event_at log i ≡ Some the_read
        → (is_option rule initial (past_of log i) thread cell order position ≡ true) × (value ≡ value_at initial (past_of log i) cell position)
    was-option [] m i at = absurd (cc)
    was-option (e ∷ past) m i at = go (was-option past ((meets-newest rule e past initial).0 m).0 i) (event-cases e past i the_read at)
      where
        go : (event_at past i ≡ Some the_read → (is_option rule initial (past_of past i) thread cell order position ≡ true) × (value ≡ value_at initial (past_of past i) cell position))
            → ((i ≡ length past) × (the_read ≡ e)) ⊎ ((i < length past) × (event_at past i ≡ Some the_read))
            → (is_option rule initial (past_of (e ∷ past) i) thread cell order position ≡ true) × (value ≡ value_at initial (past_of (e ∷ past) i) cell position)
        go ih (inl p) = rw (p.0, past_of-newest e past) (newest-was-option past (rw (sym p.1) at m))
        go ih (inr p) = rw (past_of-older e past i p.0) (ih p.1)

-- ---- where values come from

abbrev pub Written : (CellId → Scalar) → List Event → CellId → ℕ → Type 0
Written initial log cell position = (value_at initial log cell position ≡ initial cell)
    ⊎ ((i : ℕ) × (ei : Event) × (event_at log i ≡ Some ei) × (modifies cell ei ≡ true) × (position_of ei ≡ position) × (value_at initial log cell position ≡ value_of ei))

pub value-written : (initial : CellId → Scalar) (log : List Event) (cell : CellId) (position : ℕ) → Written initial log cell position
value-written initial [] cell position = inl refl
value-written initial (e ∷ past) cell position = go (modifies cell e && eqb (position_of e) position) refl (value-written initial past cell position)
  where
    go : (b : Bool) → (modifies cell e && eqb (position_of e) position) ≡ b → Written initial past cell position → Written initial (e ∷ past) cell position
    go true h ih =
        let p = and_parts (modifies cell e) (eqb (position_of e) position) h in
        let q = eqb-true (position_of e) position p.1 in
        inr (length past, e, event-newest e past, p.0, q, ap (value_at initial (e ∷ past) cell) (sym q) ∙ value-made initial past e cell p.0)
    go false h ih =
        let kept = value-kept initial past e cell position (λ m q. false≢true (sym h ∙ and_from (modifies cell e) (eqb (position_of e) position) m (eq-eqb (position_of e) position q))) in
        elim ih [
          | inl r ↦ inl (kept ∙ r)
          | inr r ↦ inr (r.0, r.1, event-kept e past r.0 r.1 r.2, r.3, r.4, kept ∙ r.5)
        ]

-- what holds of each event of a log holds of the event with a number
pub each-event : (P : Event → Type 0) (log : List Event) → All P log → (i : ℕ) (ei : Event) → event_at log i ≡ Some ei → P ei
each-event P [] h i ei at = absurd (cc)
each-event P (e ∷ past) h i ei at = elim (event-cases e past i ei at) [
  | inl p ↦ rw p.1 (h 0 e (omega arith))
  | inr p ↦ each-event P past (λ k d l. h (suc k) d (omega arith)) i ei p.1
]
