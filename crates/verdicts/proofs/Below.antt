-- After a log without faults, an event that fits the form breaks axiom 1 or 3 exactly where it reads below its floor.
use Rattle.std.proofs.Common.{◌≡◌, ℕ, ◌≤◌, true, false, ◌&&◌, leb, List, ◌∷◌, refl, sym, ap, subst, ◌↔◌}
use Rattle.std.proofs.lemmas.Bool.{and_from, and_parts, false≢true, leb-true}
use Rattle.mu_base.specs.declared.order.Order.{Order}
use Rattle.mu_values.specs.declared.scalars.Scalar.{Scalar}
use Rattle.mu_values.specs.ScalarLaws.{same_scalar-true}
use Rattle.mu_values.specs.declared.cells.CellId.{CellId}
use Rattle.mem_axioms.specs.Events.{is_read}
use Rattle.mem_axioms.specs.Logs.{newest}
use Rattle.mem_axioms.specs.Form.{fits_form_alone, has_form_alone, has_form, fits_form, is_value_at, value_at, is_only_value}
use Rattle.mem_axioms.specs.Axioms.{is_coherent, is_seq_cst_ordered, meets_axioms}
use Rattle.mem_axioms.specs.Choices.{read_at, is_option}
use Rattle.mem_axioms.specs.Floor.{floor}
use Rattle.mem_axioms.specs.Lemmas.Positions.{form-parts}
use Rattle.mem_axioms.specs.Lemmas.Initials.{form-with-some}
use Rattle.mem_axioms.specs.Lemmas.Kept.{keeps-change, keeps-no_access}
use Rattle.mem_axioms.specs.Lemmas.Options.{floor-option}
use Rattle.mem_axioms.specs.declared.types.Rule.{Rule}
use Rattle.mem_axioms.specs.declared.types.Mode.TheVariants as modes
use Rattle.mem_axioms.specs.declared.types.Kind.{Kind}
use Rattle.mem_axioms.specs.declared.types.Kind.TheVariants as kinds
use Rattle.mem_axioms.specs.declared.types.Event.{Event}
use Rattle.verdicts.specs.Laws.{IsFaultless, NewestBreaksBelowFloor}

module _ (rule : Rule) (past : List Event) (w : IsFaultless rule past) where
  -- the log has the form with some initial scalars
  pub record Started (e : Event) : Type 0 where
    pub initial : CellId → Scalar
    pub fits : fits_form initial past e ≡ true
    pub form : has_form initial (e ∷ past) ≡ true
    pub axioms : meets_axioms rule initial past ≡ true

  meets : (initial : CellId → Scalar) → has_form initial past ≡ true → meets_axioms rule initial past ≡ true
  unfolding meets_axioms
  meets initial f = and_from (has_form initial past && is_coherent rule past) (is_seq_cst_ordered rule past) (and_from (has_form initial past) (is_coherent rule past) f w.coherent) w.ordered

  started : (e : Event) → fits_form_alone past e ≡ true → Started e
  started e f =
      let i = form-with-some (e ∷ past) (and_from (fits_form_alone past e) (has_form_alone past) f w.form) in
      let p = form-parts (is_value_at i.0) e past i.1 in
      record { initial = i.0; fits = p.0; form = i.1; axioms = meets i.0 p.1 }

  both_axioms : (initial : CellId → Scalar) (e : Event) → meets_axioms rule initial (e ∷ past) ≡ true → (is_coherent rule (e ∷ past) ≡ true) × (is_seq_cst_ordered rule (e ∷ past) ≡ true)
  unfolding meets_axioms
  both_axioms initial e h =
      let p = and_parts (has_form initial (e ∷ past) && is_coherent rule (e ∷ past)) (is_seq_cst_ordered rule (e ∷ past)) h in
      ((and_parts (has_form initial (e ∷ past)) (is_coherent rule (e ∷ past)) p.0).1, p.1)

  from_both : (initial : CellId → Scalar) (e : Event) → has_form initial (e ∷ past) ≡ true → (is_coherent rule (e ∷ past) && is_seq_cst_ordered rule (e ∷ past)) ≡ true → meets_axioms rule initial (e ∷ past) ≡ true
  unfolding meets_axioms
  from_both initial e f h =
      let p = and_parts (is_coherent rule (e ∷ past)) (is_seq_cst_ordered rule (e ∷ past)) h in
      and_from (has_form initial (e ∷ past) && is_coherent rule (e ∷ past)) (is_seq_cst_ordered rule (e ∷ past)) (and_from (has_form initial (e ∷ past)) (is_coherent rule (e ∷ past)) f p.0) p.1

  abbrev pub ev : ℕ → Kind → Event
  ev t k = record { thread = t; kind = k }

  -- what is no read breaks nothing
  no_read : (t : ℕ) (k : Kind) → fits_form_alone past (record { thread = t; kind = k }) ≡ true → is_read (record { thread = t; kind = k }) ≡ false →
      (is_coherent rule (record { thread = t; kind = k } ∷ past) ≡ true) × (is_seq_cst_ordered rule (record { thread = t; kind = k } ∷ past) ≡ true)
  no_read t (kinds.Access modes.Read c o p v) f r = absurd (false≢true (sym r))
  no_read t (kinds.Access modes.Write c o p v) f r = let e = ev t (kinds.Access modes.Write c o p v) in let s = started e f in both_axioms s.initial e (keeps-change rule s.initial past e s.axioms s.fits refl)
  no_read t (kinds.Access modes.Update c o p v) f r = let e = ev t (kinds.Access modes.Update c o p v) in let s = started e f in both_axioms s.initial e (keeps-change rule s.initial past e s.axioms s.fits refl)
  no_read t (kinds.Fence o) f r = let e = ev t (kinds.Fence o) in let s = started e f in both_axioms s.initial e (keeps-no_access rule s.initial past s.axioms e refl)
  no_read t (kinds.NewStack o) f r = let e = ev t (kinds.NewStack o) in let s = started e f in both_axioms s.initial e (keeps-no_access rule s.initial past s.axioms e refl)
  no_read t (kinds.NewThread o) f r = let e = ev t (kinds.NewThread o) in let s = started e f in both_axioms s.initial e (keeps-no_access rule s.initial past s.axioms e refl)
  no_read t (kinds.Leave o) f r = let e = ev t (kinds.Leave o) in let s = started e f in both_axioms s.initial e (keeps-no_access rule s.initial past s.axioms e refl)
  no_read t (kinds.Enter o) f r = let e = ev t (kinds.Enter o) in let s = started e f in both_axioms s.initial e (keeps-no_access rule s.initial past s.axioms e refl)
  no_read t (kinds.Wake c n) f r = let e = ev t (kinds.Wake c n) in let s = started e f in both_axioms s.initial e (keeps-no_access rule s.initial past s.axioms e refl)
  no_read t (kinds.Woken n) f r = let e = ev t (kinds.Woken n) in let s = started e f in both_axioms s.initial e (keeps-no_access rule s.initial past s.axioms e refl)

  -- a read does exactly where it reads below its floor
  a_read : (t p : ℕ) (c : CellId) (o : Order) (v : Scalar) → fits_form_alone past (ev t (kinds.Access modes.Read c o p v)) ≡ true →
      ((is_coherent rule (ev t (kinds.Access modes.Read c o p v) ∷ past) && is_seq_cst_ordered rule (ev t (kinds.Access modes.Read c o p v) ∷ past)) ≡ true) ↔ (floor rule past t c o ≤ p)
  a_read t p c o v f = (
    λ h. by_floor.0 (subst (λ (x : Event). meets_axioms rule s.initial (x ∷ past) ≡ true) same (from_both s.initial e s.form h)),
    λ h. let both = both_axioms s.initial e (subst (λ (x : Event). meets_axioms rule s.initial (x ∷ past) ≡ true) (sym same) (by_floor.1 h)) in
        and_from (is_coherent rule (e ∷ past)) (is_seq_cst_ordered rule (e ∷ past)) both.0 both.1,
  )
    where
      e : Event
      e = ev t (kinds.Access modes.Read c o p v)

      s : Started e
      s = started e f

      le : p ≤ newest past c
      le = leb-true p (newest past c) (and_parts (leb p (newest past c)) (is_only_value past c p v) f).0

      value : v ≡ value_at s.initial past c p
      value = same_scalar-true v (value_at s.initial past c p) (and_parts (leb p (newest past c)) (is_value_at s.initial past c p v) s.fits).1

      same : e ≡ read_at s.initial past t c o p
      same = ap (λ (x : Scalar). ev t (kinds.Access modes.Read c o p x)) value

      by_floor : (is_option rule s.initial past t c o p ≡ true) ↔ (floor rule past t c o ≤ p)
      by_floor = floor-option rule s.initial past t c s.axioms o p le

pub below : NewestBreaksBelowFloor
below rule past e w f = (
  λ r. no_read rule past w e.thread e.kind f r,
  λ t p c o v q.
      subst (λ (x : Event). ((is_coherent rule (x ∷ past) && is_seq_cst_ordered rule (x ∷ past)) ≡ true) ↔ (floor rule past t c o ≤ p)) (sym q)
      (a_read rule past w t p c o v (subst (λ (x : Event). fits_form_alone past x ≡ true) q f)),
)
