-- Events that a step logs fit.
use Rattle.std.specs.Prelude.{◌≡◌, ◌≤◌, ◌<◌, ◌&&◌, ◌||◌, ◌==◌, ℕ, zero, suc, Bool, true, false, List, [], ◌∷◌, ◌++◌, Some, None, IsSomeAnd, All, length, slice_get, slice_index_or, map, refl, if◌then◌else◌}
use Rattle.std.proofs.Common.{◌∙◌, ap, subst, arith}
use Rattle.std.proofs.lemmas.Bool.{and_parts}
use Rattle.std.proofs.lemmas.List.Elements.{All-head, All-tail}
use Rattle.mu_values.specs.declared.scalars.Scalar.{Scalar}
use Rattle.mu_values.specs.declared.scalars.Scalar.TheVariants.{Null}
use Rattle.mu_values.specs.declared.cells.CellId.{CellId}
use Rattle.mu_values.specs.SameCell.{same_cell}
use Rattle.mu_values.specs.CellLaws.{same_cell-true}
use Rattle.mem_axioms.specs.declared.types.Rule.{Rule}
use Rattle.mem_axioms.specs.declared.types.Event.{Event}
use Rattle.mem_axioms.specs.declared.types.Kind.{Kind}
use Rattle.mem_axioms.specs.declared.types.Kind.TheVariants as kinds
use Rattle.mem_axioms.specs.declared.types.Mode.{Mode}
use Rattle.mem_axioms.specs.Events.{stores}
use Rattle.mem_axioms.specs.Races.{race}
use Rattle.mem_axioms.specs.Lemmas.Kept.{is_any_access}
use Rattle.mem_axioms.specs.Lemmas.Fitting.{others-race}
use Rattle.mem_axioms.specs.EventFits.{is_thread, EventFits}
use Rattle.mem_axioms.specs.Form.{value_at}
use Rattle.mem_axioms.specs.Objects.{initial_of, HasCell}
use Rattle.type_definitions.specs.declared.definition.TypeDef.{TypeDef}
use Rattle.model_laws.specs.Lemmas.Basics.{some_at}
use Rattle.model_laws.specs.LogFits.{KindFits, LogFits, LoggedFits, ObjectFits}
use Rattle.model_laws.specs.Values.{leaf_at, world}
use Rattle.mu_model.specs.Accesses.{initial}
use Rattle.mu_model.specs.Acts.{Program}
use Rattle.mu_model.specs.Changes.{event, logged}
use Rattle.mu_model.specs.Configuration.{Configuration}
use Rattle.mu_model.specs.Types.{type_graph}
use Rattle.typed_heap.specs.Fits.{ScalarFits, ScalarsFit, World}
use Rattle.typed_heap.specs.Objects.{HeapObject}
use Rattle.typed_heap.specs.Places.{with_some}

-- what is no access races with nothing
abbrev pub IsOther : Kind → Type 0
IsOther (kinds.Access mode cell order position value) = ⊥
IsOther _ = Unit {0}

other_access : (i : ℕ) (k : Kind) → IsOther k → is_any_access (event i k) ≡ false
other_access i (kinds.Access mode cell order position value) h = absurd h
other_access i _ h = refl

pub other_races : (rule : Rule) (log : List Event) (i : ℕ) (k : Kind) → IsOther k → race rule log (event i k) ≡ None
other_races rule log i k h = others-race rule log (event i k) (other_access i k h)

-- Leave, Enter, NewStack and fences fit wherever their thread is one
abbrev pub IsPlain : Kind → Type 0
IsPlain (kinds.Fence o) = Unit {0}
IsPlain (kinds.NewStack k) = Unit {0}
IsPlain (kinds.Leave k) = Unit {0}
IsPlain (kinds.Enter k) = Unit {0}
IsPlain _ = ⊥

pub plain_other : (k : Kind) → IsPlain k → IsOther k
plain_other (kinds.Access mode cell order position value) h = absurd h
plain_other _ h = tt

pub plain_fits : (rule : Rule) (objects : List (List Scalar)) (log : List Event) (i : ℕ) (k : Kind) → IsPlain k → is_thread log i ≡ true → EventFits rule objects log (event i k)
plain_fits rule objects log i (kinds.Fence o) h t = record { thread = t; child = tt; cell = tt; wake = tt; position = tt }
plain_fits rule objects log i (kinds.NewStack o) h t = record { thread = t; child = tt; cell = tt; wake = tt; position = tt }
plain_fits rule objects log i (kinds.Leave o) h t = record { thread = t; child = tt; cell = tt; wake = tt; position = tt }
plain_fits rule objects log i (kinds.Enter o) h t = record { thread = t; child = tt; cell = tt; wake = tt; position = tt }
plain_fits rule objects log i _ h t = absurd h

pub plain_same : (log : List Event) (i : ℕ) (k : Kind) → IsPlain k → (j : ℕ) → is_thread (event i k ∷ log) j ≡ is_thread log j
plain_same log i (kinds.Fence o) h j = refl
plain_same log i (kinds.NewStack o) h j = refl
plain_same log i (kinds.Leave o) h j = refl
plain_same log i (kinds.Enter o) h j = refl
plain_same log i _ h j = absurd h

pub plain_kind : (graph : List TypeDef) (w : World) (k : Kind) → IsPlain k → KindFits graph w k
plain_kind graph w (kinds.Access mode cell order position value) h = absurd h
plain_kind graph w (kinds.Wake cell count) h = absurd h
plain_kind graph w _ h = tt

-- ---- the value at a position fits its cell

leaf_scalar : (graph : List TypeDef) (w : World) (cs : List ℕ) (ss : List Scalar) (n c : ℕ) (d : Scalar) → ScalarsFit graph w cs ss → slice_get cs n ≡ Some c → ScalarFits graph w c (slice_index_or ss n d) × (n < length ss)
leaf_scalar graph w [] ss n c d h e = cc
leaf_scalar graph w (x ∷ cs) [] n c d h e = absurd h
leaf_scalar graph w (x ∷ cs) (s ∷ ss) zero c d h e = let same : x ≡ c = cc in (subst (λ k. ScalarFits graph w k s) same h.0, omega arith)
leaf_scalar graph w (x ∷ cs) (s ∷ ss) (suc n) c d h e = let r = leaf_scalar graph w cs ss n c d h.1 e in (r.0, omega (arith, r.1))

objects_scalar : (graph : List TypeDef) (w : World) (os : List HeapObject) (cell : CellId) (c : ℕ) → All (ObjectFits graph w) os → leaf_at os cell ≡ Some c →
    ScalarFits graph w c (initial_of (map (λ (o : HeapObject). o.initial) os) cell) × HasCell (map (λ (o : HeapObject). o.initial) os) cell
objects_scalar graph w os cell c h e = by os cell.object h e
  where
    by : (os : List HeapObject) (n : ℕ) → All (ObjectFits graph w) os → with_some (slice_get os n) (λ o. slice_get o.leaves cell.at) ≡ Some c →
        ScalarFits graph w c (slice_index_or (slice_index_or (map (λ (o : HeapObject). o.initial) os) n []) cell.at Null)
        × ((n < length (map (λ (o : HeapObject). o.initial) os)) × (cell.at < length (slice_index_or (map (λ (o : HeapObject). o.initial) os) n [])))
    by [] n h e = cc
    by (o ∷ os) zero h e = let r = leaf_scalar graph w o.leaves o.initial cell.at c Null (All-head (ObjectFits graph w) o os h) e in (r.0, (omega arith, r.1))
    by (o ∷ os) (suc n) h e = let r = by os n (All-tail (ObjectFits graph w) o os h) e in (r.0, (omega (arith, r.1.0), r.1.1))

value_in : (graph : List TypeDef) (w : World) (first : CellId → Scalar) (cell : CellId) (c position : ℕ) (log : List Event) → leaf_at w.objects cell ≡ Some c → ScalarFits graph w c (first cell) → All (LoggedFits graph w) log → ScalarFits graph w c (value_at first log cell position)
value_in graph w first cell c position [] at h logged = h
value_in graph w first cell c position (e ∷ log) at h logged = by e.kind (All-head (LoggedFits graph w) e log logged) (value_in graph w first cell c position log at h (All-tail (LoggedFits graph w) e log logged))
  where
    here : (b : Bool) (mode : Mode) (of : CellId) (made : ℕ) (value : Scalar) → (stores mode && same_cell of cell && (made == position)) ≡ b → IsSomeAnd (leaf_at w.objects of) (λ k. ScalarFits graph w k value) →
        ScalarFits graph w c (value_at first log cell position) → ScalarFits graph w c (if b then value else value_at first log cell position)
    here false mode of made value e fit rest = rest
    here true mode of made value e fit rest =
        let same : of ≡ cell = same_cell-true of cell (and_parts (stores mode) (same_cell of cell) (and_parts (stores mode && same_cell of cell) (made == position) e).0).1 in
        some_at _ (λ k. ScalarFits graph w k value) c (ap (leaf_at w.objects) same ∙ at) fit

    by : (k : Kind) → KindFits graph w k → ScalarFits graph w c (value_at first log cell position) → ScalarFits graph w c (value_at first (record { thread = e.thread; kind = k } ∷ log) cell position)
    by (kinds.Access mode of order made value) fit rest = here (stores mode && same_cell of cell && (made == position)) mode of made value refl fit rest
    by _ fit rest = rest

pub value_fits : (p : Program) (c : Configuration) (cell : CellId) (k position : ℕ) → All (ObjectFits (type_graph p.tables) (world p.tables c)) c.objects → LogFits p c → leaf_at c.objects cell ≡ Some k →
    ScalarFits (type_graph p.tables) (world p.tables c) k (value_at (initial c) c.log cell position)
value_fits p c cell k position objects log at =
    value_in (type_graph p.tables) (world p.tables c) (initial c) cell k position c.log at (objects_scalar (type_graph p.tables) (world p.tables c) c.objects cell k objects at).0 log.events

pub has_cell : (p : Program) (c : Configuration) (cell : CellId) (k : ℕ) → All (ObjectFits (type_graph p.tables) (world p.tables c)) c.objects → leaf_at c.objects cell ≡ Some k → HasCell (map (λ (o : HeapObject). o.initial) c.objects) cell
has_cell p c cell k objects at = (objects_scalar (type_graph p.tables) (world p.tables c) c.objects cell k objects at).1
