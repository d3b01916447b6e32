-- The values of a cell by position.
use Rattle.std.proofs.Common.{◌≡◌, ℕ, suc, zero, ◌<◌, ◌≤◌, Bool, true, false, List, [], ◌∷◌, ◌++◌, length, length-append, Some, refl, sym, ap, ◌∙◌, inl, inr, arith}
use Rattle.std.specs.Prelude.{slice_get}
use Rattle.std.proofs.lemmas.Bool.{false≢true, cases_lt}
use Rattle.mu_values.specs.declared.scalars.Scalar.{Scalar}
use Rattle.mu_values.specs.declared.cells.CellId.{CellId}
use Rattle.mu_values.specs.CellLaws.{same_cell-true}
use Rattle.mem_axioms.specs.Events.{modifies, is_modification, position_of, value_of, accesses}
use Rattle.mem_axioms.specs.declared.types.Rule.{Rule}
use Rattle.mem_axioms.specs.Logs.{newest}
use Rattle.mem_axioms.specs.Form.{value_at, has_form, fits_form, is_value_at}
use Rattle.mem_axioms.specs.declared.types.Event.{Event}
use Rattle.mem_axioms.specs.declared.types.Kind.{Kind}
use Rattle.mem_axioms.specs.declared.types.Kind.TheVariants.{Access, Fence, NewStack, NewThread, Leave, Enter, Wake, Woken}
use Rattle.mem_axioms.specs.declared.types.Mode.TheVariants.{Read, Write, Update}
use Rattle.mem_axioms.specs.Lemmas.Numbers.{event-kept, event-newest}
use Rattle.mem_axioms.specs.Lemmas.Positions.{form-parts, fits-next, newest-changed, newest-same}
use Rattle.mem_axioms.specs.Lemmas.Values.{value-kept, value-made, value-older}
use Rattle.view_parts.specs.Holding.{values_of, CellHolds, IsUntouched}
use Rattle.view_parts.specs.declared.cell.CellViews.{CellViews}

get-kept : {X : Type 0} (xs : List X) (y x : X) (p : ℕ) → slice_get xs p ≡ Some x → slice_get (xs ++ y ∷ []) p ≡ Some x
get-kept [] y x p h = absurd (cc)
get-kept (z ∷ xs) y x zero h = h
get-kept (z ∷ xs) y x (suc p) h = get-kept xs y x p h

get-new : {X : Type 0} (xs : List X) (y : X) → slice_get (xs ++ y ∷ []) (length xs) ≡ Some y
get-new [] y = refl
get-new (x ∷ xs) y = get-new xs y

pub values-made : (e : Event) (past : List Event) (c : CellId) → modifies c e ≡ true → values_of (e ∷ past) c ≡ values_of past c ++ value_of e ∷ []
values-made e past c h = rw (h, values_of) refl

pub values-same : (e : Event) (past : List Event) (c : CellId) → modifies c e ≡ false → values_of (e ∷ past) c ≡ values_of past c
values-same e past c h = rw (h, values_of) refl

pub values-length : (log : List Event) (c : CellId) → length (values_of log c) ≡ suc (newest log c)
values-length [] c = refl
values-length (e ∷ past) c = go (modifies c e) refl (values-length past c)
  where
    go : (b : Bool) → modifies c e ≡ b → length (values_of past c) ≡ suc (newest past c) → length (values_of (e ∷ past) c) ≡ suc (newest (e ∷ past) c)
    go true p h = ap length (values-made e past c p) ∙ (length-append (values_of past c) (value_of e ∷ []) ∙ (let n = newest-changed e past c p in omega arith))
    go false p h = ap length (values-same e past c p) ∙ (h ∙ ap suc (sym (newest-same e past c p)))

-- at each position that was made stands its value
pub values-at : (initial : CellId → Scalar) (log : List Event) (c : CellId) (p : ℕ) → has_form initial log ≡ true → 0 < p → p ≤ newest log c → slice_get (values_of log c) p ≡ Some (value_at initial log c p)
values-at initial [] c p f h l = absurd (let z : newest [] c ≡ 0 = refl in omega (arith, z))
values-at initial (e ∷ past) c p f h l = go (modifies c e) refl (values-at initial past c p parts.1 h)
  where
    parts : (fits_form initial past e ≡ true) × (has_form initial past ≡ true)
    parts = form-parts (is_value_at initial) e past f

    go : (b : Bool) → modifies c e ≡ b → (p ≤ newest past c → slice_get (values_of past c) p ≡ Some (value_at initial past c p)) → slice_get (values_of (e ∷ past) c) p ≡ Some (value_at initial (e ∷ past) c p)
    go false q ih =
        let n = newest-same e past c q in
        ap (λ (xs : List Scalar). slice_get xs p) (values-same e past c q) ∙ (ih (omega (arith, n)) ∙ ap Some (sym (value-kept initial past e c p (λ m z. false≢true (sym q ∙ m)))))
    go true q ih = elim (cases_lt (newest past c) p) [
      | inl m ↦ (let n = newest-changed e past c q in
          let x = fits-next (is_value_at initial) past e c parts.0 q in
          let len = values-length past c in
          let here : p ≡ length (values_of past c) = omega (arith, n, len) in
          let pos : position_of e ≡ p = omega (arith, x, n) in
          ap (λ (xs : List Scalar). slice_get xs p) (values-made e past c q)
          ∙ ((rw here (get-new (values_of past c) (value_of e)))
          ∙ ap Some (sym (value-made initial past e c q) ∙ ap (λ (k : ℕ). value_at initial (e ∷ past) c k) pos)))
      | inr m ↦ ap (λ (xs : List Scalar). slice_get xs p) (values-made e past c q) ∙ (get-kept (values_of past c) (value_of e) (value_at initial past c p) p (ih m) ∙ ap Some (sym (value-older (is_value_at initial) initial past e c p parts.0 m)))
    ]

-- what does not access the cell does not change it
untouched-kind : (t : ℕ) (k : Kind) (c : CellId) → accesses c (record { thread = t; kind = k }) ≡ false → modifies c (record { thread = t; kind = k }) ≡ false
untouched-kind t (Access Read cell o q x) c h = refl
untouched-kind t (Access Write cell o q x) c h = h
untouched-kind t (Access Update cell o q x) c h = h
untouched-kind t (Fence o) c h = refl
untouched-kind t (NewStack o) c h = refl
untouched-kind t (NewThread o) c h = refl
untouched-kind t (Leave o) c h = refl
untouched-kind t (Enter o) c h = refl
untouched-kind t (Wake o n) c h = refl
untouched-kind t (Woken o) c h = refl

pub untouched-same : (e : Event) (c : CellId) → accesses c e ≡ false → modifies c e ≡ false
untouched-same e c = untouched-kind e.thread e.kind c

pub untouched-past : (e : Event) (past : List Event) (c : CellId) → IsUntouched (e ∷ past) c → IsUntouched past c
untouched-past e past c h i ei at = h i ei (event-kept e past i ei at)

pub untouched-newest : (log : List Event) (c : CellId) → IsUntouched log c → newest log c ≡ 0
untouched-newest [] c h = refl
untouched-newest (e ∷ past) c h = newest-same e past c (untouched-same e c (h (length past) e (event-newest e past))) ∙ untouched-newest past c (untouched-past e past c h)

pub untouched-length : (log : List Event) (c : CellId) → IsUntouched log c → length (values_of log c) ≡ 1
untouched-length log c h = values-length log c ∙ ap suc (untouched-newest log c h)

-- how many positions a cell has
pub newest-few : (log : List Event) (c : CellId) → newest log c ≤ length log
newest-few [] c = omega arith
newest-few (e ∷ past) c = go (modifies c e) refl (newest-few past c)
  where
    go : (b : Bool) → modifies c e ≡ b → newest past c ≤ length past → newest (e ∷ past) c ≤ suc (length past)
    go true q h = rw q (omega (arith, h))
    go false q h = rw q (omega (arith, h))

pub history-newest : (rule : Rule) (log : List Event) (c : CellId) (kept : CellViews) → CellHolds log c kept → length kept.history.values ≡ suc (newest log c)
history-newest rule log c kept h = ap (λ (xs : List Scalar). length xs) h.values ∙ values-length log c
