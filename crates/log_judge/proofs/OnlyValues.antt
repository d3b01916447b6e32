-- The only value that earlier accesses have at a position of a cell is the one that is kept.
use Rattle.std.proofs.Common.{◌≡◌, ℕ, suc, zero, ◌<◌, ◌≤◌, Bool, true, false, not, ◌&&◌, ◌||◌, eqb, leb, List, [], ◌∷◌, ◌++◌, length, Option, Some, None, refl, sym, ap, subst, ◌∙◌, inl, inr, ◌⊎◌, arith}
use Rattle.std.specs.Prelude.{slice_get, IsSomeAnd}
use Rattle.std.proofs.lemmas.Bool.{eq-eqb, eqb-true, cases_lt, cases_Bool, and_from, and_parts, false≢true}
use Rattle.mu_values.specs.declared.scalars.Scalar.{Scalar}
use Rattle.mu_values.specs.SameScalar.{same_scalar}
use Rattle.mu_values.specs.ScalarLaws.{same_scalar-true}
use Rattle.mu_values.specs.declared.cells.CellId.{CellId}
use Rattle.mu_values.specs.SameCell.{same_cell}
use Rattle.mu_values.specs.CellLaws.{same_cell-true}
use Rattle.mem_axioms.specs.Events.{accesses, modifies, position_of, value_of, stores}
use Rattle.mem_axioms.specs.Logs.{event_at, newest}
use Rattle.mem_axioms.specs.Form.{is_only_value, fits_form_alone, has_form_alone}
use Rattle.mem_axioms.specs.Lemmas.Numbers.{each-from}
use Rattle.mem_axioms.specs.Lemmas.Positions.{form-parts, form-position, fits-next, newest-changed, newest-same}
use Rattle.mem_axioms.specs.declared.types.Mode.TheVariants.{Read, Write, Update}
use Rattle.mem_axioms.specs.declared.types.Kind.{Kind}
use Rattle.mem_axioms.specs.declared.types.Kind.TheVariants.{Access, Fence, NewStack, NewThread, Leave, Enter, Wake, Woken}
use Rattle.mem_axioms.specs.declared.types.Event.{Event}
use Rattle.view_parts.specs.Holding.{values_of}
use Rattle.view_parts.specs.Lemmas.ValuesKept.{values-made, values-same, values-length}
use Rattle.log_judge.specs.Kept.{initial_read}

-- a value that is read is the one that is known, if one is
abbrev pub fits_value : Option Scalar → Scalar → Bool
fits_value None value = true
fits_value (Some known) value = same_scalar known value

read-kind : (past : List Event) (t : ℕ) (k : Kind) (cell : CellId) → fits_form_alone past (record { thread = t; kind = k }) ≡ true → accesses cell (record { thread = t; kind = k }) ≡ true → modifies cell (record { thread = t; kind = k }) ≡ false
    → is_only_value past cell (position_of (record { thread = t; kind = k })) (value_of (record { thread = t; kind = k })) ≡ true
read-kind past t (Access Read c o p v) cell f a m = subst (λ (x : CellId). is_only_value past x p v ≡ true) (same_cell-true c cell a) (and_parts (leb p (newest past c)) (is_only_value past c p v) f).1
read-kind past t (Access Write c o p v) cell f a m = absurd (false≢true (sym m ∙ a))
read-kind past t (Access Update c o p v) cell f a m = absurd (false≢true (sym m ∙ a))
read-kind past t (Fence o) cell f a m = absurd (false≢true a)
read-kind past t (NewStack o) cell f a m = absurd (false≢true a)
read-kind past t (NewThread o) cell f a m = absurd (false≢true a)
read-kind past t (Leave o) cell f a m = absurd (false≢true a)
read-kind past t (Enter o) cell f a m = absurd (false≢true a)
read-kind past t (Wake o n) cell f a m = absurd (false≢true a)
read-kind past t (Woken o) cell f a m = absurd (false≢true a)

-- a read that fits has the only value of its position
read_only : (past : List Event) (e : Event) (cell : CellId) → fits_form_alone past e ≡ true → accesses cell e ≡ true → modifies cell e ≡ false → is_only_value past cell (position_of e) (value_of e) ≡ true
read_only past e = read-kind past e.thread e.kind

modifies-kind : (t : ℕ) (k : Kind) (cell : CellId) → modifies cell (record { thread = t; kind = k }) ≡ true → accesses cell (record { thread = t; kind = k }) ≡ true
modifies-kind t (Access mode c o p v) cell m = (and_parts (stores mode) (same_cell c cell) m).1
modifies-kind t (Fence o) cell m = absurd (false≢true m)
modifies-kind t (NewStack o) cell m = absurd (false≢true m)
modifies-kind t (NewThread o) cell m = absurd (false≢true m)
modifies-kind t (Leave o) cell m = absurd (false≢true m)
modifies-kind t (Enter o) cell m = absurd (false≢true m)
modifies-kind t (Wake o n) cell m = absurd (false≢true m)
modifies-kind t (Woken o) cell m = absurd (false≢true m)

-- what changes the cell accesses it
modifies_accesses : (e : Event) (cell : CellId) → modifies cell e ≡ true → accesses cell e ≡ true
modifies_accesses e = modifies-kind e.thread e.kind

module _ (e : Event) (past : List Event) (cell : CellId) (p : ℕ) (v : Scalar) where
  -- an event that stands there counts, and no other does
  only_here : (accesses cell e && eqb (position_of e) p) ≡ true → is_only_value (e ∷ past) cell p v ≡ (same_scalar (value_of e) v && is_only_value past cell p v)
  only_here q = rw q refl

  only_there : (accesses cell e && eqb (position_of e) p) ≡ false → is_only_value (e ∷ past) cell p v ≡ is_only_value past cell p v
  only_there q = rw q refl

-- where no access stands at the position
none_there : (past : List Event) (cell : CellId) (p : ℕ) (v : Scalar) → ((i : ℕ) (ei : Event) → event_at past i ≡ Some ei → accesses cell ei ≡ true → position_of ei ≡ p → ⊥) → is_only_value past cell p v ≡ true
none_there past cell p v n = each-from (λ i ei. not (accesses cell ei && eqb (position_of ei) p) || same_scalar (value_of ei) v) past (λ i ei at. go ei (accesses cell ei && eqb (position_of ei) p) refl (n i ei at))
  where
    go : (ei : Event) (b : Bool) → (accesses cell ei && eqb (position_of ei) p) ≡ b → (accesses cell ei ≡ true → position_of ei ≡ p → ⊥) → (not (accesses cell ei && eqb (position_of ei) p) || same_scalar (value_of ei) v) ≡ true
    go ei true q n = let s = and_parts (accesses cell ei) (eqb (position_of ei) p) q in absurd (n s.0 (eqb-true (position_of ei) p s.1))
    go ei false q n = rw q refl

both : (a b : Bool) → (a ≡ true → b ≡ true) → (a && b) ≡ a
both true b h = h refl
both false b h = refl

same-same : (a : Bool) → (a && a) ≡ a
same-same true = refl
same-same false = refl

-- position 0
pub only_initial : (log : List Event) (cell : CellId) (v : Scalar) → has_form_alone log ≡ true → is_only_value log cell 0 v ≡ fits_value (initial_read log cell) v
only_initial [] cell v f = refl
only_initial (e ∷ past) cell v f = go (accesses cell e && eqb (position_of e) 0) refl (only_initial past cell v parts.1)
  where
    parts : (fits_form_alone past e ≡ true) × (has_form_alone past ≡ true)
    parts = form-parts is_only_value e past f

    go : (b : Bool) → (accesses cell e && eqb (position_of e) 0) ≡ b → is_only_value past cell 0 v ≡ fits_value (initial_read past cell) v → is_only_value (e ∷ past) cell 0 v ≡ fits_value (initial_read (e ∷ past) cell) v
    go false q ih =
        let kept : initial_read (e ∷ past) cell ≡ initial_read past cell = rw q refl in
        only_there e past cell 0 v q ∙ (ih ∙ ap (λ (o : Option Scalar). fits_value o v) (sym kept))
    go true q ih =
        let s = and_parts (accesses cell e) (eqb (position_of e) 0) q in
        let z : position_of e ≡ 0 = eqb-true (position_of e) 0 s.1 in
        let read : modifies cell e ≡ false = elim (cases_Bool (modifies cell e)) [
          | inl m ↦ absurd (let n = fits-next is_only_value past e cell parts.0 m in omega (arith, n, z))
          | inr m ↦ m
        ] in
        let here : is_only_value past cell 0 (value_of e) ≡ true = subst (λ (x : ℕ). is_only_value past cell x (value_of e) ≡ true) z (read_only past e cell parts.0 s.0 read) in
        let known : initial_read (e ∷ past) cell ≡ Some (value_of e) = rw q refl in
        only_here e past cell 0 v q
        ∙ (both (same_scalar (value_of e) v) (is_only_value past cell 0 v) (λ t. subst (λ (x : Scalar). is_only_value past cell 0 x ≡ true) (same_scalar-true (value_of e) v t) here)
        ∙ ap (λ (o : Option Scalar). fits_value o v) (sym known))

get-old : (xs : List Scalar) (y x : Scalar) (p : ℕ) → p < length xs → slice_get (xs ++ y ∷ []) p ≡ Some x → slice_get xs p ≡ Some x
get-old [] y x p l h = absurd (omega arith)
get-old (z ∷ zs) y x zero l h = h
get-old (z ∷ zs) y x (suc p) l h = get-old zs y x p (omega arith) h

get-last : (xs : List Scalar) (y x : Scalar) → slice_get (xs ++ y ∷ []) (length xs) ≡ Some x → x ≡ y
get-last [] y x h = cc
get-last (z ∷ zs) y x h = get-last zs y x h

-- a later position
pub only_later : (log : List Event) (cell : CellId) (p : ℕ) (v x : Scalar) → has_form_alone log ≡ true → 0 < p → p ≤ newest log cell → slice_get (values_of log cell) p ≡ Some x → is_only_value log cell p v ≡ same_scalar x v
only_later [] cell p v x f l n h = absurd (let z : newest [] cell ≡ 0 = refl in omega (arith, l, n, z))
only_later (e ∷ past) cell p v x f l n h = go (λ w. only_later past cell p w x parts.1 l) (modifies cell e) refl (cases_Bool (accesses cell e && eqb (position_of e) p))
  where
    parts : (fits_form_alone past e ≡ true) × (has_form_alone past ≡ true)
    parts = form-parts is_only_value e past f

    len : length (values_of past cell) ≡ suc (newest past cell)
    len = values-length past cell

    go : ((w : Scalar) → p ≤ newest past cell → slice_get (values_of past cell) p ≡ Some x → is_only_value past cell p w ≡ same_scalar x w) → (b : Bool) → modifies cell e ≡ b → ((accesses cell e && eqb (position_of e) p) ≡ true) ⊎ ((accesses cell e && eqb (position_of e) p) ≡ false) → is_only_value (e ∷ past) cell p v ≡ same_scalar x v
    go ih true m (inl q) =
        let s = and_parts (accesses cell e) (eqb (position_of e) p) q in
        let at : p ≡ length (values_of past cell) = (let a = eqb-true (position_of e) p s.1 in let b = fits-next is_only_value past e cell parts.0 m in omega (arith, a, b, len)) in
        let one : x ≡ value_of e = get-last (values_of past cell) (value_of e) x (subst (λ (i : ℕ). slice_get (values_of past cell ++ value_of e ∷ []) i ≡ Some x) at (subst (λ (xs : List Scalar). slice_get xs p ≡ Some x) (values-made e past cell m) h)) in
        let none : is_only_value past cell p v ≡ true = none_there past cell p v (λ i ei there a z. let b = form-position is_only_value past i ei cell parts.1 there a in omega (arith, b, z, at, len)) in
        only_here e past cell p v q ∙ (both (same_scalar (value_of e) v) (is_only_value past cell p v) (λ t. none) ∙ ap (λ (y : Scalar). same_scalar y v) (sym one))
    go ih true m (inr q) =
        let apart : position_of e ≡ p → ⊥ = λ z. false≢true (sym q ∙ and_from (accesses cell e) (eqb (position_of e) p) (modifies_accesses e cell m) (eq-eqb (position_of e) p z)) in
        let next = fits-next is_only_value past e cell parts.0 m in
        let grown = newest-changed e past cell m in
        let low : p ≤ newest past cell = elim (cases_lt (newest past cell) p) [ inl k ↦ absurd (apart (omega (arith, k, n, next, grown))) | inr k ↦ k ] in
        only_there e past cell p v q ∙ ih v low (get-old (values_of past cell) (value_of e) x p (omega (arith, low, len)) (subst (λ (xs : List Scalar). slice_get xs p ≡ Some x) (values-made e past cell m) h))
    go ih false m (inl q) =
        let s = and_parts (accesses cell e) (eqb (position_of e) p) q in
        let z : position_of e ≡ p = eqb-true (position_of e) p s.1 in
        let low : p ≤ newest past cell = (let k = newest-same e past cell m in omega (arith, k, n)) in
        let old : slice_get (values_of past cell) p ≡ Some x = subst (λ (xs : List Scalar). slice_get xs p ≡ Some x) (values-same e past cell m) h in
        let here : is_only_value past cell p (value_of e) ≡ true = subst (λ (i : ℕ). is_only_value past cell i (value_of e) ≡ true) z (read_only past e cell parts.0 s.0 m) in
        let one : x ≡ value_of e = same_scalar-true x (value_of e) (sym (ih (value_of e) low old) ∙ here) in
        only_here e past cell p v q ∙ (ap (λ (b : Bool). same_scalar (value_of e) v && b) (ih v low old) ∙ (ap (λ (y : Scalar). same_scalar y v && same_scalar x v) (sym one) ∙ same-same (same_scalar x v)))
    go ih false m (inr q) =
        let low : p ≤ newest past cell = (let k = newest-same e past cell m in omega (arith, k, n)) in
        only_there e past cell p v q ∙ ih v low (subst (λ (xs : List Scalar). slice_get xs p ≡ Some x) (values-same e past cell m) h)

-- the value that is kept judges a read
pub only_kept : (log : List Event) (cell : CellId) (p : ℕ) (v : Scalar) (o : Option Scalar) → has_form_alone log ≡ true → p ≤ newest log cell → (p ≡ 0 → o ≡ initial_read log cell)
    → (0 < p → IsSomeAnd o (λ x. slice_get (values_of log cell) p ≡ Some x)) → fits_value o v ≡ is_only_value log cell p v
only_kept log cell p v o f l z s = go (cases_lt 0 p)
  where
    later : 0 < p → (o : Option Scalar) → IsSomeAnd o (λ x. slice_get (values_of log cell) p ≡ Some x) → fits_value o v ≡ is_only_value log cell p v
    later q None h = absurd h
    later q (Some x) h = sym (only_later log cell p v x f q l h)

    go : (0 < p) ⊎ (p ≤ 0) → fits_value o v ≡ is_only_value log cell p v
    go (inl q) = later q o (s q)
    go (inr q) =
        let e : p ≡ 0 = omega arith in
        ap (λ (o : Option Scalar). fits_value o v) (z e) ∙ (sym (only_initial log cell v f) ∙ ap (λ (i : ℕ). is_only_value log cell i v) (sym e))
