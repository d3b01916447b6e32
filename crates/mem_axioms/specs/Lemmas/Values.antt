-- Values at positions, and the form of a log with initial scalars and without.
use Rattle.std.proofs.Common.{◌≡◌, ℕ, ◌<◌, ◌≤◌, Bool, true, false, ◌&&◌, eqb, leb, List, [], ◌∷◌, length, Some, refl, sym, subst, ◌∙◌, inl, inr, ◌⊎◌, arith}
use Rattle.std.proofs.lemmas.Bool.{eq-eqb, ne_eqb, eqb-true, and_from, and_parts, false≢true, leb-true}
use Rattle.mu_values.specs.declared.scalars.Scalar.{Scalar}
use Rattle.mu_values.specs.SameScalar.{same_scalar}
use Rattle.mu_values.specs.ScalarLaws.{same_scalar-refl, same_scalar-true}
use Rattle.mu_values.specs.declared.cells.CellId.{CellId}
use Rattle.mu_values.specs.SameCell.{same_cell}
use Rattle.mu_values.specs.CellLaws.{same_cell-true}
use Rattle.mem_axioms.specs.Events.{accesses, modifies, position_of, value_of, stores}
use Rattle.mem_axioms.specs.Logs.{event_at, newest}
use Rattle.mem_axioms.specs.Form.{value_at, fits_form_by, has_form_by, is_value_at, fits_form, has_form, is_only_value, has_form_alone}
use Rattle.mem_axioms.specs.Lemmas.Numbers.{event-cases}
use Rattle.mem_axioms.specs.Lemmas.Relations.{where-from}
use Rattle.mem_axioms.specs.Lemmas.Positions.{form-parts, form-position, fits-next}
use Rattle.mem_axioms.specs.declared.types.Event.{Event}
use Rattle.mem_axioms.specs.declared.types.Kind.{Kind}
use Rattle.mem_axioms.specs.declared.types.Kind.TheVariants.{Access, Fence, NewStack, NewThread, Leave, Enter, Wake, Woken}
use Rattle.mem_axioms.specs.declared.types.Mode.TheVariants.{Read, Write, Update}

module _ (initial : CellId → Scalar) where
  -- an event that does not make the position leaves its value
  value-kept-kind : (past : List Event) (t : ℕ) (k : Kind) (c : CellId) (p : ℕ) → (modifies c (record { thread = t; kind = k }) ≡ true → position_of (record { thread = t; kind = k }) ≡ p → ⊥)
      → value_at initial (record { thread = t; kind = k } ∷ past) c p ≡ value_at initial past c p
  value-kept-kind past t (Access mode cell order made value) c p h = go (stores mode && same_cell cell c) refl
    where
      go : (b : Bool) → (stores mode && same_cell cell c) ≡ b → value_at initial (record { thread = t; kind = Access mode cell order made value } ∷ past) c p ≡ value_at initial past c p
      go false q = rw q
      go true q = rw (q, ne_eqb made p (λ z. h q z))
  value-kept-kind past t (Fence o) c p h = refl
  value-kept-kind past t (NewStack o) c p h = refl
  value-kept-kind past t (NewThread o) c p h = refl
  value-kept-kind past t (Leave o) c p h = refl
  value-kept-kind past t (Enter o) c p h = refl
  value-kept-kind past t (Wake o n) c p h = refl
  value-kept-kind past t (Woken o) c p h = refl

  pub value-kept : (past : List Event) (e : Event) (c : CellId) (p : ℕ) → (modifies c e ≡ true → position_of e ≡ p → ⊥) → value_at initial (e ∷ past) c p ≡ value_at initial past c p
  value-kept past e c p = value-kept-kind past e.thread e.kind c p

  -- the newest position has the value of the event that made it
  value-made-kind : (past : List Event) (t : ℕ) (k : Kind) (c : CellId) → modifies c (record { thread = t; kind = k }) ≡ true
      → value_at initial (record { thread = t; kind = k } ∷ past) c (position_of (record { thread = t; kind = k })) ≡ value_of (record { thread = t; kind = k })
  value-made-kind past t (Access mode cell order made value) c h = rw (h, eq-eqb made made refl)
  value-made-kind past t (Fence o) c h = absurd (false≢true h)
  value-made-kind past t (NewStack o) c h = absurd (false≢true h)
  value-made-kind past t (NewThread o) c h = absurd (false≢true h)
  value-made-kind past t (Leave o) c h = absurd (false≢true h)
  value-made-kind past t (Enter o) c h = absurd (false≢true h)
  value-made-kind past t (Wake o n) c h = absurd (false≢true h)
  value-made-kind past t (Woken o) c h = absurd (false≢true h)

  pub value-made : (past : List Event) (e : Event) (c : CellId) → modifies c e ≡ true → value_at initial (e ∷ past) c (position_of e) ≡ value_of e
  value-made past e c = value-made-kind past e.thread e.kind c

-- what fits leaves the values of the positions that there are
pub value-older : (right : List Event → CellId → ℕ → Scalar → Bool) (initial : CellId → Scalar) (past : List Event) (e : Event) (c : CellId) (p : ℕ) → fits_form_by right past e ≡ true → p ≤ newest past c
    → value_at initial (e ∷ past) c p ≡ value_at initial past c p
value-older right initial past e c p f le = value-kept initial past e c p (λ m q. let n = fits-next right past e c f m in omega (arith, n, q, le))

-- an access of a cell is a write or update of it, or a read, which has a position and a value that fit
record Fitted (right : List Event → CellId → ℕ → Scalar → Bool) (past : List Event) (e : Event) (c : CellId) : Type 0 where
  position : position_of e ≤ newest past c
  value : right past c (position_of e) (value_of e) ≡ true
  unchanged : modifies c e ≡ false

access-cases-kind : (right : List Event → CellId → ℕ → Scalar → Bool) (past : List Event) (t : ℕ) (k : Kind) (c : CellId) → fits_form_by right past (record { thread = t; kind = k }) ≡ true → accesses c (record { thread = t; kind = k }) ≡ true
    → (modifies c (record { thread = t; kind = k }) ≡ true) ⊎ Fitted right past (record { thread = t; kind = k }) c
access-cases-kind right past t (Access Read cell order position value) c f a =
    let s = sym (same_cell-true cell c a) in
    let p = and_parts (leb position (newest past cell)) (right past cell position value) f in
    inr (rw s (record { position = leb-true position (newest past cell) p.0; value = p.1; unchanged = refl }))
access-cases-kind right past t (Access Write cell order position value) c f a = inl a
access-cases-kind right past t (Access Update cell order position value) c f a = inl a
access-cases-kind right past t (Fence o) c f a = absurd (false≢true a)
access-cases-kind right past t (NewStack o) c f a = absurd (false≢true a)
access-cases-kind right past t (NewThread o) c f a = absurd (false≢true a)
access-cases-kind right past t (Leave o) c f a = absurd (false≢true a)
access-cases-kind right past t (Enter o) c f a = absurd (false≢true a)
access-cases-kind right past t (Wake o n) c f a = absurd (false≢true a)
access-cases-kind right past t (Woken o) c f a = absurd (false≢true a)

access-cases : (right : List Event → CellId → ℕ → Scalar → Bool) (past : List Event) (e : Event) (c : CellId) → fits_form_by right past e ≡ true → accesses c e ≡ true → (modifies c e ≡ true) ⊎ Fitted right past e c
access-cases right past e c = access-cases-kind right past e.thread e.kind c

-- every access has the value of its position
pub form-value : (initial : CellId → Scalar) (log : List Event) (i : ℕ) (ei : Event) (c : CellId) → has_form initial log ≡ true → event_at log i ≡ Some ei → accesses c ei ≡ true → value_of ei ≡ value_at initial log c (position_of ei)
form-value initial [] i ei c f h a = absurd (cc)
form-value initial (e ∷ past) i ei c f h a = go (form-value initial past i ei c (form-parts (is_value_at initial) e past f).1) (event-cases e past i ei h)
  where
    fits : fits_form initial past e ≡ true
    fits = (form-parts (is_value_at initial) e past f).0

    newest_one : accesses c e ≡ true → value_of e ≡ value_at initial (e ∷ past) c (position_of e)
    newest_one b = elim (access-cases (is_value_at initial) past e c fits b) [
      | inl m ↦ sym (value-made initial past e c m)
      | inr r ↦ same_scalar-true (value_of e) (value_at initial past c (position_of e)) r.value ∙ sym (value-older (is_value_at initial) initial past e c (position_of e) fits r.position)
    ]

    go : (event_at past i ≡ Some ei → accesses c ei ≡ true → value_of ei ≡ value_at initial past c (position_of ei)) → ((i ≡ length past) × (ei ≡ e)) ⊎ ((i < length past) × (event_at past i ≡ Some ei)) → value_of ei ≡ value_at initial (e ∷ past) c (position_of ei)
    go ih (inl p) = subst (λ (z : Event). value_of z ≡ value_at initial (e ∷ past) c (position_of z)) (sym p.1) (newest_one (rw p.1 at a))
    go ih (inr p) =
        let le = form-position (is_value_at initial) past i ei c (form-parts (is_value_at initial) e past f).1 p.1 a in
        ih p.1 a ∙ sym (value-older (is_value_at initial) initial past e c (position_of ei) fits le)

-- A read fits alone where the value is the only one of its position.
pub fits-alone-kind : (right right' : List Event → CellId → ℕ → Scalar → Bool) (past : List Event) (t : ℕ) (k : Kind)
    → ((c : CellId) (p : ℕ) (v : Scalar) → p ≤ newest past c → right past c p v ≡ true → right' past c p v ≡ true)
    → fits_form_by right past (record { thread = t; kind = k }) ≡ true → fits_form_by right' past (record { thread = t; kind = k }) ≡ true
fits-alone-kind right right' past t (Access Read cell order position value) h f =
    let p = and_parts (leb position (newest past cell)) (right past cell position value) f in
    and_from (leb position (newest past cell)) (right' past cell position value) p.0 (h cell position value (leb-true position (newest past cell) p.0) p.1)
fits-alone-kind right right' past t (Access Write cell order position value) h f = f
fits-alone-kind right right' past t (Access Update cell order position value) h f = f
fits-alone-kind right right' past t (Fence o) h f = refl
fits-alone-kind right right' past t (NewStack o) h f = refl
fits-alone-kind right right' past t (NewThread o) h f = refl
fits-alone-kind right right' past t (Leave o) h f = refl
fits-alone-kind right right' past t (Enter o) h f = refl
fits-alone-kind right right' past t (Wake o n) h f = refl
fits-alone-kind right right' past t (Woken o) h f = refl

pub form-more : (right right' : List Event → CellId → ℕ → Scalar → Bool) (e : Event) (past : List Event)
    → ((c : CellId) (p : ℕ) (v : Scalar) → p ≤ newest past c → right past c p v ≡ true → right' past c p v ≡ true)
    → fits_form_by right past e ≡ true → has_form_by right' past ≡ true → has_form_by right' (e ∷ past) ≡ true
form-more right right' e past h f g = and_from (fits_form_by right' past e) (has_form_by right' past) (fits-alone-kind right right' past e.thread e.kind h f) g

-- with initial scalars, then also without
pub form-alone : (initial : CellId → Scalar) (log : List Event) → has_form initial log ≡ true → has_form_alone log ≡ true
form-alone initial [] f = refl
form-alone initial (e ∷ past) f = form-more (is_value_at initial) is_only_value e past only parts.0 (form-alone initial past parts.1)
  where
    parts : (fits_form initial past e ≡ true) × (has_form initial past ≡ true)
    parts = form-parts (is_value_at initial) e past f

    only : (c : CellId) (p : ℕ) (v : Scalar) → p ≤ newest past c → is_value_at initial past c p v ≡ true → is_only_value past c p v ≡ true
    only c p v le h = where-from (λ i ei. accesses c ei && eqb (position_of ei) p) (λ i ei. same_scalar (value_of ei) v) past (λ i ei at w.
        let q = and_parts (accesses c ei) (eqb (position_of ei) p) w in
        let a = form-value initial past i ei c parts.1 at q.0 in
        let b : value_of ei ≡ value_at initial past c p = rw (eqb-true (position_of ei) p q.1) at a in
        let d = same_scalar-true v (value_at initial past c p) h in
        rw (b ∙ sym d) (same_scalar-refl v))
