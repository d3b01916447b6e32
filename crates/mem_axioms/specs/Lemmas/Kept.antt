-- What may be added to a log that meets the axioms.
use Rattle.std.proofs.Common.{◌≡◌, ℕ, suc, ◌<◌, ◌≤◌, Bool, true, false, ◌&&◌, ◌||◌, eqb, ltb, leb, List, ◌∷◌, Some, refl, sym, ◌∙◌, inl, inr, ◌⊎◌, arith}
use Rattle.std.proofs.lemmas.Bool.{eq-eqb, eqb-true, or_cases, and_from, and_parts, false≢true, ltb-true, le-leb}
use Rattle.mu_base.specs.declared.order.Order.{Order}
use Rattle.mu_values.specs.declared.scalars.Scalar.{Scalar}
use Rattle.mu_values.specs.SameScalar.{same_scalar}
use Rattle.mu_values.specs.ScalarLaws.{same_scalar-refl}
use Rattle.mu_values.specs.declared.cells.CellId.{CellId}
use Rattle.mu_values.specs.SameCell.{same_cell}
use Rattle.mu_values.specs.CellLaws.{same_cell-true, same_cell-refl}
use Rattle.mem_axioms.specs.Events.{accesses, modifies, position_of, stores, is_access, is_read, is_modification, on_one_cell}
use Rattle.mem_axioms.specs.Logs.{event_at, newest}
use Rattle.mem_axioms.specs.Form.{fits_form, has_form, is_value_at, value_at}
use Rattle.mem_axioms.specs.Axioms.{is_coherent, is_seq_cst_ordered, meets_axioms, comes_first}
use Rattle.mem_axioms.specs.Choices.{read_at}
use Rattle.mem_axioms.specs.EventFits.{EventFits}
use Rattle.mem_axioms.specs.Objects.{initial_of}
use Rattle.mem_axioms.specs.Lemmas.Numbers.{event-older}
use Rattle.mem_axioms.specs.Lemmas.Added.{meets-newest, read_alone}
use Rattle.mem_axioms.specs.Lemmas.Positions.{form-position, fits-next}
use Rattle.mem_axioms.specs.declared.types.Event.{Event}
use Rattle.mem_axioms.specs.declared.types.Rule.{Rule}
use Rattle.mem_axioms.specs.declared.types.Kind.{Kind}
use Rattle.mem_axioms.specs.declared.types.Kind.TheVariants.{Access, Fence, NewStack, NewThread, Leave, Enter, Wake, Woken}
use Rattle.mem_axioms.specs.declared.types.Mode.TheVariants.{Read, Write, Update}

pub record OneCell (x y : Event) : Type 0 where
  pub cell : CellId
  pub of_x : accesses cell x ≡ true
  pub of_y : accesses cell y ≡ true
  pub change : is_modification x ≡ true → modifies cell x ≡ true

one_cell-kind : (t : ℕ) (k : Kind) (y : Event) → on_one_cell (record { thread = t; kind = k }) y ≡ true → OneCell (record { thread = t; kind = k }) y
one_cell-kind t (Access mode cell order position value) y h = record { cell = cell; of_x = same_cell-refl cell; of_y = h; change = λ m. and_from (stores mode) (same_cell cell cell) m (same_cell-refl cell) }
one_cell-kind t (Fence o) y h = absurd (false≢true h)
one_cell-kind t (NewStack o) y h = absurd (false≢true h)
one_cell-kind t (NewThread o) y h = absurd (false≢true h)
one_cell-kind t (Leave o) y h = absurd (false≢true h)
one_cell-kind t (Enter o) y h = absurd (false≢true h)
one_cell-kind t (Wake o n) y h = absurd (false≢true h)
one_cell-kind t (Woken o) y h = absurd (false≢true h)

pub one_cell : (x y : Event) → on_one_cell x y ≡ true → OneCell x y
one_cell x y = one_cell-kind x.thread x.kind y

on_one-kind : (t : ℕ) (k : Kind) (y : Event) (c : CellId) → accesses c (record { thread = t; kind = k }) ≡ true → accesses c y ≡ true → on_one_cell (record { thread = t; kind = k }) y ≡ true
on_one-kind t (Access mode cell order position value) y c h q = rw (same_cell-true cell c h) q
on_one-kind t (Fence o) y c h q = absurd (false≢true h)
on_one-kind t (NewStack o) y c h q = absurd (false≢true h)
on_one-kind t (NewThread o) y c h q = absurd (false≢true h)
on_one-kind t (Leave o) y c h q = absurd (false≢true h)
on_one-kind t (Enter o) y c h q = absurd (false≢true h)
on_one-kind t (Wake o n) y c h q = absurd (false≢true h)
on_one-kind t (Woken o) y c h q = absurd (false≢true h)

pub on_one : (x y : Event) (c : CellId) → accesses c x ≡ true → accesses c y ≡ true → on_one_cell x y ≡ true
on_one x y c = on_one-kind x.thread x.kind y c

pub first-cases : (x y : Event) → comes_first x y ≡ true → (on_one_cell x y ≡ true) × ((position_of x < position_of y) ⊎ ((is_modification x ≡ true) × (position_of x ≡ position_of y)))
first-cases x y h =
    let p = and_parts (on_one_cell x y) (ltb (position_of x) (position_of y) || (is_modification x && is_read y && eqb (position_of x) (position_of y))) h in (
      p.0,
      elim (or_cases (ltb (position_of x) (position_of y)) (is_modification x && is_read y && eqb (position_of x) (position_of y)) p.1) [
        | inl q ↦ inl (ltb-true (position_of x) (position_of y) q)
        | inr q ↦ inr ((and_parts (is_modification x) (is_read y) (and_parts (is_modification x && is_read y) (eqb (position_of x) (position_of y)) q).0).0, eqb-true (position_of x) (position_of y) (and_parts (is_modification x && is_read y) (eqb (position_of x) (position_of y)) q).1)
      ],
    )

module _ (rule : Rule) (initial : CellId → Scalar) (past : List Event) where
  pub form-of : meets_axioms rule initial past ≡ true → has_form initial past ≡ true
  unfolding meets_axioms
  form-of h = (and_parts (has_form initial past) (is_coherent rule past) (and_parts (has_form initial past && is_coherent rule past) (is_seq_cst_ordered rule past) h).0).0

  -- a write or update at the next position
  pub keeps-change : (e : Event) → meets_axioms rule initial past ≡ true → fits_form initial past e ≡ true → is_modification e ≡ true → meets_axioms rule initial (e ∷ past) ≡ true
  keeps-change e m f ch = (meets-newest rule e past initial).1 (
    m,
    f,
    record {
      newer = λ i ei at c r b. absurd (read_alone e r ch);
      ordered = λ a b y ea eb ey l ly lb. absurd (go y ey (sym (event-older e past y ly) ∙ l.at_y) l.first);
    },
  )
    where
      go : (y : ℕ) (ey : Event) → event_at past y ≡ Some ey → comes_first e ey ≡ true → ⊥
      go y ey at h =
          let p = first-cases e ey h in
          let o = one_cell e ey p.0 in
          let top = form-position (is_value_at initial) past y ey o.cell (form-of m) at o.of_y in
          let new = fits-next (is_value_at initial) past e o.cell f (o.change ch) in
          elim p.1 [ inl q ↦ omega (arith, top, new) | inr q ↦ omega (arith, top, new, q.1) ]

  -- an event that is no access
  pub keeps-other : (e : Event) → meets_axioms rule initial past ≡ true → fits_form initial past e ≡ true → ((y : Event) → on_one_cell e y ≡ true → ⊥) → ((x : Event) → on_one_cell x e ≡ true → ⊥) → meets_axioms rule initial (e ∷ past) ≡ true
  keeps-other e m f off off' = (meets-newest rule e past initial).1 (
    m,
    f,
    record {
      newer = λ i ei at c r b. absurd (off' ei c);
      ordered = λ a b y ea eb ey l ly lb. absurd (off ey (first-cases e ey l.first).0);
    },
  )

pub read-fits : (initial : CellId → Scalar) (past : List Event) (t : ℕ) (c : CellId) (o : Order) (p : ℕ) → p ≤ newest past c → fits_form initial past (read_at initial past t c o p) ≡ true
read-fits initial past t c o p h = and_from (leb p (newest past c)) (same_scalar (value_at initial past c p) (value_at initial past c p)) (le-leb p (newest past c) h) (same_scalar-refl (value_at initial past c p))

-- the newest position is an option of each load
pub newest-allowed : (rule : Rule) (initial : CellId → Scalar) (past : List Event) (t : ℕ) (c : CellId) (o : Order) → meets_axioms rule initial past ≡ true → meets_axioms rule initial (read_at initial past t c o (newest past c) ∷ past) ≡ true
newest-allowed rule initial past t c o m = (meets-newest rule (read_at initial past t c o (newest past c)) past initial).1 (
  m,
  read-fits initial past t c o (newest past c) (omega arith),
  record {
    newer = λ i ei at k r b. top i ei at k;
    ordered = λ a b y ea eb ey l ly lb. absurd (go y ey (sym (event-older (read_at initial past t c o (newest past c)) past y ly) ∙ l.at_y) l.first);
  },
)
  where
    f : has_form initial past ≡ true
    f = form-of rule initial past m

    top : (i : ℕ) (ei : Event) → event_at past i ≡ Some ei → on_one_cell ei (read_at initial past t c o (newest past c)) ≡ true → position_of ei ≤ newest past c
    top i ei at k = let q = one_cell ei (read_at initial past t c o (newest past c)) k in form-position (is_value_at initial) past i ei c f at (rw (sym (same_cell-true c q.cell q.of_y)) at q.of_x)

    go : (y : ℕ) (ey : Event) → event_at past y ≡ Some ey → comes_first (read_at initial past t c o (newest past c)) ey ≡ true → ⊥
    go y ey at h =
        let p = first-cases (read_at initial past t c o (newest past c)) ey h in
        let k = form-position (is_value_at initial) past y ey c f at p.0 in
        elim p.1 [ inl q ↦ omega (arith, k, q) | inr q ↦ false≢true q.0 ]

-- a test of an access, and the test that an event is an access
abbrev pub is_any_access : Event → Bool
is_any_access e = is_access (λ mode cell order position. true) e

no_access-left : (t : ℕ) (k : Kind) (y : Event) → is_any_access (record { thread = t; kind = k }) ≡ false → on_one_cell (record { thread = t; kind = k }) y ≡ true → ⊥
no_access-left t (Access mode cell order position value) y n h = false≢true (sym n)
no_access-left t (Fence o) y n h = false≢true h
no_access-left t (NewStack o) y n h = false≢true h
no_access-left t (NewThread o) y n h = false≢true h
no_access-left t (Leave o) y n h = false≢true h
no_access-left t (Enter o) y n h = false≢true h
no_access-left t (Wake o m) y n h = false≢true h
no_access-left t (Woken o) y n h = false≢true h

pub no_access-right : (t : ℕ) (k : Kind) (c : CellId) → is_any_access (record { thread = t; kind = k }) ≡ false → accesses c (record { thread = t; kind = k }) ≡ true → ⊥
no_access-right t (Access mode cell order position value) c n h = false≢true (sym n)
no_access-right t (Fence o) c n h = false≢true h
no_access-right t (NewStack o) c n h = false≢true h
no_access-right t (NewThread o) c n h = false≢true h
no_access-right t (Leave o) c n h = false≢true h
no_access-right t (Enter o) c n h = false≢true h
no_access-right t (Wake o m) c n h = false≢true h
no_access-right t (Woken o) c n h = false≢true h

no_access-fits : (initial : CellId → Scalar) (past : List Event) (t : ℕ) (k : Kind) → is_any_access (record { thread = t; kind = k }) ≡ false → fits_form initial past (record { thread = t; kind = k }) ≡ true
no_access-fits initial past t (Access mode cell order position value) n = absurd (false≢true (sym n))
no_access-fits initial past t (Fence o) n = refl
no_access-fits initial past t (NewStack o) n = refl
no_access-fits initial past t (NewThread o) n = refl
no_access-fits initial past t (Leave o) n = refl
no_access-fits initial past t (Enter o) n = refl
no_access-fits initial past t (Wake o m) n = refl
no_access-fits initial past t (Woken o) n = refl

change-fits : (initial : CellId → Scalar) (past : List Event) (t : ℕ) (k : Kind) (c : CellId) → modifies c (record { thread = t; kind = k }) ≡ true
    → position_of (record { thread = t; kind = k }) ≡ suc (newest past c) → fits_form initial past (record { thread = t; kind = k }) ≡ true
change-fits initial past t (Access Read cell order position value) c m p = absurd (false≢true m)
change-fits initial past t (Access Write cell order position value) c m p = eq-eqb position (suc (newest past cell)) (rw (same_cell-true cell c m) p)
change-fits initial past t (Access Update cell order position value) c m p = eq-eqb position (suc (newest past cell)) (rw (same_cell-true cell c m) p)
change-fits initial past t (Fence o) c m p = absurd (false≢true m)
change-fits initial past t (NewStack o) c m p = absurd (false≢true m)
change-fits initial past t (NewThread o) c m p = absurd (false≢true m)
change-fits initial past t (Leave o) c m p = absurd (false≢true m)
change-fits initial past t (Enter o) c m p = absurd (false≢true m)
change-fits initial past t (Wake o n) c m p = absurd (false≢true m)
change-fits initial past t (Woken o) c m p = absurd (false≢true m)

modifies-is : (t : ℕ) (k : Kind) (c : CellId) → modifies c (record { thread = t; kind = k }) ≡ true → is_modification (record { thread = t; kind = k }) ≡ true
modifies-is t (Access mode cell order position value) c m = (and_parts (stores mode) (same_cell cell c) m).0
modifies-is t (Fence o) c m = absurd (false≢true m)
modifies-is t (NewStack o) c m = absurd (false≢true m)
modifies-is t (NewThread o) c m = absurd (false≢true m)
modifies-is t (Leave o) c m = absurd (false≢true m)
modifies-is t (Enter o) c m = absurd (false≢true m)
modifies-is t (Wake o n) c m = absurd (false≢true m)
modifies-is t (Woken o) c m = absurd (false≢true m)

module _ (rule : Rule) (initial : CellId → Scalar) (past : List Event) (m : meets_axioms rule initial past ≡ true) where
  -- a write or update at the next position of its cell
  pub keeps-next : (e : Event) (c : CellId) → modifies c e ≡ true → position_of e ≡ suc (newest past c) → meets_axioms rule initial (e ∷ past) ≡ true
  keeps-next e c h p = keeps-change rule initial past e m (change-fits initial past e.thread e.kind c h p) (modifies-is e.thread e.kind c h)

  -- an event that is no access
  pub keeps-no_access : (e : Event) → is_any_access e ≡ false → meets_axioms rule initial (e ∷ past) ≡ true
  keeps-no_access e n = keeps-other rule initial past e m (no_access-fits initial past e.thread e.kind n) (λ y h. no_access-left e.thread e.kind y n h)
      (λ x h. let o = one_cell x e h in no_access-right e.thread e.kind o.cell n o.of_y)

-- an event that fits a run
module _ (rule : Rule) (objects : List (List Scalar)) (past : List Event) (m : meets_axioms rule (initial_of objects) past ≡ true) where
  keeps-fit-kind : (t : ℕ) (k : Kind) → EventFits rule objects past (record { thread = t; kind = k }) → meets_axioms rule (initial_of objects) (record { thread = t; kind = k } ∷ past) ≡ true
  keeps-fit-kind t (Access Read cell order position value) f = rw f.position.1 f.position.0
  keeps-fit-kind t (Access Write cell order position value) f = keeps-next rule (initial_of objects) past m (record { thread = t; kind = Access Write cell order position value }) cell (same_cell-refl cell) f.position
  keeps-fit-kind t (Access Update cell order position value) f = keeps-next rule (initial_of objects) past m (record { thread = t; kind = Access Update cell order position value }) cell (same_cell-refl cell) f.position
  keeps-fit-kind t (Fence o) f = keeps-no_access rule (initial_of objects) past m (record { thread = t; kind = Fence o }) refl
  keeps-fit-kind t (NewStack o) f = keeps-no_access rule (initial_of objects) past m (record { thread = t; kind = NewStack o }) refl
  keeps-fit-kind t (NewThread o) f = keeps-no_access rule (initial_of objects) past m (record { thread = t; kind = NewThread o }) refl
  keeps-fit-kind t (Leave o) f = keeps-no_access rule (initial_of objects) past m (record { thread = t; kind = Leave o }) refl
  keeps-fit-kind t (Enter o) f = keeps-no_access rule (initial_of objects) past m (record { thread = t; kind = Enter o }) refl
  keeps-fit-kind t (Wake o n) f = keeps-no_access rule (initial_of objects) past m (record { thread = t; kind = Wake o n }) refl
  keeps-fit-kind t (Woken o) f = keeps-no_access rule (initial_of objects) past m (record { thread = t; kind = Woken o }) refl

  pub keeps-fit : (e : Event) → EventFits rule objects past e → meets_axioms rule (initial_of objects) (e ∷ past) ≡ true
  keeps-fit e = keeps-fit-kind e.thread e.kind
