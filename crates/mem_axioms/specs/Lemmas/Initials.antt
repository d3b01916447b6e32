-- Initial scalars: which of them matter, and that a log which has the form without them has it with some.
use Rattle.std.proofs.Common.{◌≡◌, ℕ, suc, ◌<◌, ◌≤◌, Bool, true, false, cond, ◌&&◌, eqb, leb, List, [], ◌∷◌, length, Some, refl, sym, ap, subst, ◌∙◌, inl, inr, ◌⊎◌, arith}
use Rattle.std.proofs.lemmas.Bool.{eq-eqb, eqb-true, cases_eq, and_from, and_parts, false≢true, leb-true}
use Rattle.mu_values.specs.declared.scalars.Scalar.{Scalar}
use Rattle.mu_values.specs.declared.scalars.Scalar.TheVariants.{Null}
use Rattle.mu_values.specs.SameScalar.{same_scalar}
use Rattle.mu_values.specs.ScalarLaws.{same_scalar-refl, same_scalar-true}
use Rattle.mu_values.specs.declared.cells.CellId.{CellId}
use Rattle.mu_values.specs.SameCell.{same_cell}
use Rattle.mu_values.specs.CellLaws.{same_cell-refl, same_cell-true}
use Rattle.mem_axioms.specs.Events.{accesses, modifies, position_of, value_of, stores}
use Rattle.mem_axioms.specs.Logs.{event_at, newest}
use Rattle.mem_axioms.specs.Form.{value_at, fits_form_by, has_form_by, is_value_at, fits_form, has_form, is_only_value, fits_form_alone, has_form_alone}
use Rattle.mem_axioms.specs.Axioms.{meets_axioms}
use Rattle.mem_axioms.specs.Lemmas.Numbers.{event-cases, event-kept, event-newest}
use Rattle.mem_axioms.specs.Lemmas.Relations.{where-at}
use Rattle.mem_axioms.specs.Lemmas.Positions.{form-parts, fits-next, newest-same}
use Rattle.mem_axioms.specs.Lemmas.Values.{value-kept, value-made}
use Rattle.mem_axioms.specs.declared.types.Event.{Event}
use Rattle.mem_axioms.specs.declared.types.Rule.{Rule}
use Rattle.mem_axioms.specs.declared.types.Kind.{Kind}
use Rattle.mem_axioms.specs.declared.types.Kind.TheVariants.{Access, Fence, NewStack, NewThread, Leave, Enter, Wake, Woken}
use Rattle.mem_axioms.specs.declared.types.Mode.TheVariants.{Read, Write, Update}

-- ---- which of them matter

pub value-same : (initial initial' : CellId → Scalar) (past : List Event) (c : CellId) (p : ℕ) → initial c ≡ initial' c → value_at initial past c p ≡ value_at initial' past c p
value-same initial initial' [] c p h = h
value-same initial initial' (e ∷ past) c p h = kinds e.thread e.kind (value-same initial initial' past c p h)
  where
    kinds : (t : ℕ) (k : Kind) → value_at initial past c p ≡ value_at initial' past c p → value_at initial (record { thread = t; kind = k } ∷ past) c p ≡ value_at initial' (record { thread = t; kind = k } ∷ past) c p
    kinds t (Access mode of order made value) ih = rw ih
    kinds t (Fence o) ih = ih
    kinds t (NewStack o) ih = ih
    kinds t (NewThread o) ih = ih
    kinds t (Leave o) ih = ih
    kinds t (Enter o) ih = ih
    kinds t (Wake o n) ih = ih
    kinds t (Woken o) ih = ih

fits-same : (initial initial' : CellId → Scalar) (past : List Event) (t : ℕ) (k : Kind) → ((c : CellId) → accesses c (record { thread = t; kind = k }) ≡ true → initial c ≡ initial' c)
    → fits_form initial past (record { thread = t; kind = k }) ≡ fits_form initial' past (record { thread = t; kind = k })
fits-same initial initial' past t (Access mode cell order position value) h = rw (value-same initial initial' past cell position (h cell (same_cell-refl cell)))
fits-same initial initial' past t (Fence o) h = refl
fits-same initial initial' past t (NewStack o) h = refl
fits-same initial initial' past t (NewThread o) h = refl
fits-same initial initial' past t (Leave o) h = refl
fits-same initial initial' past t (Enter o) h = refl
fits-same initial initial' past t (Wake o n) h = refl
fits-same initial initial' past t (Woken o) h = refl

form-same : (initial initial' : CellId → Scalar) (log : List Event) → ((i : ℕ) (ei : Event) (c : CellId) → event_at log i ≡ Some ei → accesses c ei ≡ true → initial c ≡ initial' c) → has_form initial log ≡ has_form initial' log
form-same initial initial' [] h = refl
form-same initial initial' (e ∷ past) h = rw (
  fits-same initial initial' past e.thread e.kind (λ c a. h (length past) e c (event-newest e past) a),
  form-same initial initial' past (λ i ei c at a. h i ei c (event-kept e past i ei at) a),
)

-- initial scalars matter only at the cells that are accessed
pub meets-same : (rule : Rule) (initial initial' : CellId → Scalar) (log : List Event) → ((i : ℕ) (ei : Event) (c : CellId) → event_at log i ≡ Some ei → accesses c ei ≡ true → initial c ≡ initial' c)
    → meets_axioms rule initial log ≡ meets_axioms rule initial' log
unfolding meets_axioms
meets-same rule initial initial' log h = rw (form-same initial initial' log h)

-- ---- some initial scalars for a log that has the form without

-- what the log reads at position 0
pub read_first : List Event → CellId → Scalar
read_first [] c = Null
read_first (e ∷ past) c = cond (accesses c e && eqb (position_of e) 0) (value_of e) (read_first past c)

abbrev Agrees : (CellId → Scalar) → List Event → Type 0
Agrees initial log = (i : ℕ) (ei : Event) (c : CellId) → event_at log i ≡ Some ei → accesses c ei ≡ true → position_of ei ≡ 0 → value_of ei ≡ initial c

-- position 0 keeps its initial scalar
value-initial : (right : List Event → CellId → ℕ → Scalar → Bool) (initial : CellId → Scalar) (log : List Event) (c : CellId) → has_form_by right log ≡ true → value_at initial log c 0 ≡ initial c
value-initial right initial [] c f = refl
value-initial right initial (e ∷ past) c f = value-kept initial past e c 0 (λ m p. let n = fits-next right past e c (form-parts right e past f).0 m in omega (arith, n, p)) ∙ value-initial right initial past c (form-parts right e past f).1

modifies-accesses : (t : ℕ) (k : Kind) (c : CellId) → modifies c (record { thread = t; kind = k }) ≡ true → accesses c (record { thread = t; kind = k }) ≡ true
modifies-accesses t (Access mode cell order position value) c m = (and_parts (stores mode) (same_cell cell c) m).1
modifies-accesses t (Fence o) c m = absurd (false≢true m)
modifies-accesses t (NewStack o) c m = absurd (false≢true m)
modifies-accesses t (NewThread o) c m = absurd (false≢true m)
modifies-accesses t (Leave o) c m = absurd (false≢true m)
modifies-accesses t (Enter o) c m = absurd (false≢true m)
modifies-accesses t (Wake o n) c m = absurd (false≢true m)
modifies-accesses t (Woken o) c m = absurd (false≢true m)

-- a position from 1 to the newest was made by some event, whose value it has
record Made (initial : CellId → Scalar) (log : List Event) (c : CellId) (p : ℕ) : Type 0 where
  i : ℕ
  ei : Event
  there : event_at log i ≡ Some ei
  cell : accesses c ei ≡ true
  position : position_of ei ≡ p
  value : value_of ei ≡ value_at initial log c p

made-at : (right : List Event → CellId → ℕ → Scalar → Bool) (initial : CellId → Scalar) (log : List Event) (c : CellId) (p : ℕ) → has_form_by right log ≡ true → 0 < p → p ≤ newest log c → Made initial log c p
made-at right initial [] c p f l h = absurd (omega arith)
made-at right initial (e ∷ past) c p f l h = go (modifies c e) refl (made-at right initial past c p parts.1 l)
  where
    parts : (fits_form_by right past e ≡ true) × (has_form_by right past ≡ true)
    parts = form-parts right e past f

    older : (modifies c e ≡ true → position_of e ≡ p → ⊥) → Made initial past c p → Made initial (e ∷ past) c p
    older n m = record {
      i = m.i;
      ei = m.ei;
      there = event-kept e past m.i m.ei m.there;
      cell = m.cell;
      position = m.position;
      value = m.value ∙ sym (value-kept initial past e c p n);
    }

    go : (b : Bool) → modifies c e ≡ b → (p ≤ newest past c → Made initial past c p) → Made initial (e ∷ past) c p
    go false q ih = older (λ m z. false≢true (sym q ∙ m)) (ih (let s = newest-same e past c q in omega (arith, s, h)))
    go true q ih = last (cases_eq (position_of e) p)
      where
        next : position_of e ≡ suc (newest past c)
        next = fits-next right past e c parts.0 q

        last : (position_of e ≡ p) ⊎ (position_of e ≡ p → ⊥) → Made initial (e ∷ past) c p
        last (inl z) = record {
          i = length past;
          ei = e;
          there = event-newest e past;
          cell = modifies-accesses e.thread e.kind c q;
          position = z;
          value = sym (subst (λ (n : ℕ). value_at initial (e ∷ past) c n ≡ value_of e) z (value-made initial past e c q));
        }
        last (inr z) = older (λ m y. z y) (ih (let n = next in let u : newest (e ∷ past) c ≡ suc (newest past c) = rw (q, newest) in omega (arith, n, u, h, z)))

form-with : (initial : CellId → Scalar) (log : List Event) → has_form_alone log ≡ true → Agrees initial log → has_form initial log ≡ true
form-with initial [] f g = refl
form-with initial (e ∷ past) f g = newest_fits (form-with initial past parts.1 (λ i ei c at a z. g i ei c (event-kept e past i ei at) a z)) e.thread e.kind parts.0 (λ c a z. g (length past) e c (event-newest e past) a z)
  where
    parts : (fits_form_alone past e ≡ true) × (has_form_alone past ≡ true)
    parts = form-parts is_only_value e past f

    value : (c : CellId) (p : ℕ) (v : Scalar) → p ≤ newest past c → is_only_value past c p v ≡ true → (p ≡ 0 → v ≡ initial c) → is_value_at initial past c p v ≡ true
    value c p v le o z = go (cases_eq p 0)
      where
        same : v ≡ value_at initial past c p → is_value_at initial past c p v ≡ true
        same q = rw q (same_scalar-refl (value_at initial past c p))

        go : (p ≡ 0) ⊎ (p ≡ 0 → ⊥) → is_value_at initial past c p v ≡ true
        go (inl q) = same (z q ∙ sym (value-initial is_only_value initial past c parts.1) ∙ ap (value_at initial past c) (sym q))
        go (inr q) =
            let m = made-at is_only_value initial past c p parts.1 (omega arith) le in
            let s = where-at (λ i ei. accesses c ei && eqb (position_of ei) p) (λ i ei. same_scalar (value_of ei) v) past m.i m.ei o m.there (and_from (accesses c m.ei) (eqb (position_of m.ei) p) m.cell (eq-eqb (position_of m.ei) p m.position)) in
            same (sym (same_scalar-true (value_of m.ei) v s) ∙ m.value)

    newest_fits : has_form initial past ≡ true → (t : ℕ) (k : Kind) → fits_form_alone past (record { thread = t; kind = k }) ≡ true
        → ((c : CellId) → accesses c (record { thread = t; kind = k }) ≡ true → position_of (record { thread = t; kind = k }) ≡ 0 → value_of (record { thread = t; kind = k }) ≡ initial c) → has_form initial (record { thread = t; kind = k } ∷ past) ≡ true
    newest_fits rest t (Access Read cell order position v) h z =
        let p = and_parts (leb position (newest past cell)) (is_only_value past cell position v) h in
        and_from (fits_form initial past (record { thread = t; kind = Access Read cell order position v })) (has_form initial past)
        (and_from (leb position (newest past cell)) (is_value_at initial past cell position v) p.0 (value cell position v (leb-true position (newest past cell) p.0) p.1 (z cell (same_cell-refl cell)))) rest
    newest_fits rest t (Access Write cell order position v) h z = and_from (fits_form initial past (record { thread = t; kind = Access Write cell order position v })) (has_form initial past) h rest
    newest_fits rest t (Access Update cell order position v) h z = and_from (fits_form initial past (record { thread = t; kind = Access Update cell order position v })) (has_form initial past) h rest
    newest_fits rest t (Fence o) h z = rest
    newest_fits rest t (NewStack o) h z = rest
    newest_fits rest t (NewThread o) h z = rest
    newest_fits rest t (Leave o) h z = rest
    newest_fits rest t (Enter o) h z = rest
    newest_fits rest t (Wake o n) h z = rest
    newest_fits rest t (Woken o) h z = rest

first-agrees : (log : List Event) → has_form_alone log ≡ true → Agrees (read_first log) log
unfolding read_first
first-agrees [] f i ei c at a z = absurd (cc)
first-agrees (e ∷ past) f i ei c at a z = go (first-agrees past parts.1) (accesses c e && eqb (position_of e) 0) refl (event-cases e past i ei at)
  where
    parts : (fits_form_alone past e ≡ true) × (has_form_alone past ≡ true)
    parts = form-parts is_only_value e past f

    -- the newest event, where it too reads position 0 of the cell
    both : (t : ℕ) (k : Kind) → fits_form_alone past (record { thread = t; kind = k }) ≡ true → accesses c (record { thread = t; kind = k }) ≡ true → position_of (record { thread = t; kind = k }) ≡ 0
        → event_at past i ≡ Some ei → value_of ei ≡ value_of (record { thread = t; kind = k })
    both t (Access Read cell order position v) h b y o =
        let p = and_parts (leb position (newest past cell)) (is_only_value past cell position v) h in
        let q : accesses cell ei ≡ true = rw (same_cell-true cell c b) a in
        let s = where-at (λ i ei. accesses cell ei && eqb (position_of ei) position) (λ i ei. same_scalar (value_of ei) v) past i ei p.1 o
        (and_from (accesses cell ei) (eqb (position_of ei) position) q (eq-eqb (position_of ei) position (z ∙ sym y))) in
        same_scalar-true (value_of ei) v s
    both t (Access Write cell order position v) h b y o = absurd (let n = eqb-true position (suc (newest past cell)) h in omega (arith, n, y))
    both t (Access Update cell order position v) h b y o = absurd (let n = eqb-true position (suc (newest past cell)) h in omega (arith, n, y))
    both t (Fence o) h b y at = absurd (false≢true b)
    both t (NewStack o) h b y at = absurd (false≢true b)
    both t (NewThread o) h b y at = absurd (false≢true b)
    both t (Leave o) h b y at = absurd (false≢true b)
    both t (Enter o) h b y at = absurd (false≢true b)
    both t (Wake o n) h b y at = absurd (false≢true b)
    both t (Woken o) h b y at = absurd (false≢true b)

    go : Agrees (read_first past) past → (b : Bool) → (accesses c e && eqb (position_of e) 0) ≡ b → ((i ≡ length past) × (ei ≡ e)) ⊎ ((i < length past) × (event_at past i ≡ Some ei)) → value_of ei ≡ cond (accesses c e && eqb (position_of e) 0) (value_of e) (read_first past c)
    go ih true q (inl p) = rw q (ap value_of p.1)
    go ih true q (inr p) = rw q (let w = and_parts (accesses c e) (eqb (position_of e) 0) q in both e.thread e.kind parts.0 w.0 (eqb-true (position_of e) 0 w.1) p.1)
    go ih false q (inl p) = absurd (false≢true (sym q ∙ and_from (accesses c e) (eqb (position_of e) 0) (subst (λ (x : Event). accesses c x ≡ true) p.1 a) (eq-eqb (position_of e) 0 (subst (λ (x : Event). position_of x ≡ 0) p.1 z))))
    go ih false q (inr p) = rw q (ih i ei c p.1 a z)

-- a log that has the form without initial scalars has it with some
pub form-with-some : (log : List Event) → has_form_alone log ≡ true → (initial : CellId → Scalar) × (has_form initial log ≡ true)
form-with-some log f = (read_first log, form-with (read_first log) log f (first-agrees log f))
