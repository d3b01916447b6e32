-- The options of an access: what it may read.
use Rattle.std.specs.Prelude.{ℕ, zero, suc, Bool, true, false, not, ◌||◌, if◌then◌else◌, List, [], ◌∷◌, ◌++◌, map, filter}
use Rattle.mu_base.specs.declared.order.Order.{Order}
use Rattle.mu_values.specs.declared.scalars.Scalar.{Scalar}
use Rattle.mu_values.specs.SameScalar.{same_scalar}
use Rattle.mu_values.specs.declared.cells.CellId.{CellId}
use Rattle.mem_axioms.specs.Logs.{newest}
use Rattle.mem_axioms.specs.Form.{value_at}
use Rattle.mem_axioms.specs.Axioms.{meets_axioms}
use Rattle.mem_axioms.specs.declared.types.Rule.{Rule}
use Rattle.mem_axioms.specs.declared.types.Mode.TheVariants.{Read}
use Rattle.mem_axioms.specs.declared.types.Kind.TheVariants.{Access}
use Rattle.mem_axioms.specs.declared.types.Event.{Event}
use Rattle.mem_axioms.specs.declared.types.Wanted.{Wanted}
use Rattle.mem_axioms.specs.declared.types.Wanted.TheVariants.{Load, Swap, Compare}
use Rattle.mem_axioms.specs.declared.types.Chosen.{Chosen}

-- the positions that pass, from the newest down to 0
abbrev pub down_from : (ℕ → Bool) → ℕ → List ℕ
down_from test zero = if test 0 then 0 ∷ [] else []
down_from test (suc n) = if test (suc n) then suc n ∷ down_from test n else down_from test n

-- the read of a position by a thread
abbrev pub read_at : (CellId → Scalar) → List Event → ℕ → CellId → Order → ℕ → Event
read_at initial log thread cell order position = record { thread = thread; kind = Access Read cell order position (value_at initial log cell position) }

-- A position is an option of a load where the log with that read added meets the axioms.
abbrev pub is_option : Rule → (CellId → Scalar) → List Event → ℕ → CellId → Order → ℕ → Bool
is_option rule initial log thread cell order position = meets_axioms rule initial (read_at initial log thread cell order position ∷ log)

-- The options of a load, from the newest position down.
unfoldable pub options : Rule → (CellId → Scalar) → List Event → ℕ → CellId → Order → List ℕ
options rule initial log thread cell order = down_from (is_option rule initial log thread cell order) (newest log cell)

-- a position with its value
abbrev pub chosen_at : (CellId → Scalar) → List Event → CellId → Bool → ℕ → Chosen
chosen_at initial log cell success position = record { position = position; value = value_at initial log cell position; success = success }

-- the value at a position is the expected one
abbrev pub holds : (CellId → Scalar) → List Event → CellId → Scalar → ℕ → Bool
holds initial log cell expected position = same_scalar (value_at initial log cell position) expected

-- The options of what is wanted, in order.
--   A load: its options, which change nothing.
--   A swap: the newest position alone, which is taken and changed.
--   A comparison: first success, where the newest position has the expected value. Then failure, from the newest
--   position down, at each option of a load of the failure order whose value differs; of a weak one also at those whose
--   value is the expected one.
unfoldable pub choices : Rule → (CellId → Scalar) → List Event → ℕ → CellId → Wanted → List Chosen
choices rule initial log thread cell wanted = elim wanted [
  | Load order ↦ map (chosen_at initial log cell false) (options rule initial log thread cell order)
  | Swap ↦ chosen_at initial log cell true (newest log cell) ∷ []
  | Compare success failure expected weak ↦
      (if holds initial log cell expected (newest log cell) then chosen_at initial log cell true (newest log cell) ∷ [] else [])
      ++ map (chosen_at initial log cell false) (filter (λ position. weak || not (holds initial log cell expected position)) (options rule initial log thread cell failure))
]
