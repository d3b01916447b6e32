-- The laws on the options of an access, and on what keeps the axioms. Each is the contract of a function of `laws` that
-- does nothing, and each holds under both rules of release sequences.
use Rattle.std.specs.Prelude.{⊤, ◌≡◌, ◌↔◌, ℕ, suc, ◌+◌, ◌-◌, ◌<◌, ◌≤◌, nat_le, true, false, List, ◌∷◌, length, slice_get, Some, AllPairs}
use Rattle.mu_base.specs.declared.order.Order.{Order}
use Rattle.mu_base.specs.declared.order.Order.TheVariants.{NotAtomic}
use Rattle.mu_values.specs.declared.scalars.Scalar.{Scalar}
use Rattle.mu_values.specs.declared.cells.CellId.{CellId}
use Rattle.mem_axioms.specs.Events.{is_access, modifies, position_of}
use Rattle.mem_axioms.specs.Logs.{newest}
use Rattle.mem_axioms.specs.Axioms.{meets_axioms}
use Rattle.mem_axioms.specs.Choices.{down_from, is_option, options, chosen_at, choices}
use Rattle.mem_axioms.specs.Floor.{floor}
use Rattle.mem_axioms.specs.Objects.{initial_of, HasCell}
use Rattle.mem_axioms.specs.EventFits.{is_thread, EventFits}
use Rattle.mem_axioms.specs.declared.types.Mode.TheVariants.{Read, Update}
use Rattle.mem_axioms.specs.declared.types.Kind.TheVariants.{Access}
use Rattle.mem_axioms.specs.declared.types.Event.{Event}
use Rattle.mem_axioms.specs.declared.types.Rule.{Rule}
use Rattle.mem_axioms.specs.Form.{value_at}
use Rattle.mem_axioms.specs.declared.types.Wanted.{Wanted}
use Rattle.mem_axioms.specs.declared.types.Wanted.TheVariants.{Load, Swap, Compare}
use Rattle.mem_axioms.specs.declared.types.Chosen.{Chosen}

-- ---- Floor: the options of a load are all positions from the newest down to the floor.

abbrev pub OptionsReachFloor : Type 0
OptionsReachFloor = (rule : Rule) (initial : CellId → Scalar) (log : List Event) (thread : ℕ) (cell : CellId) (order : Order) → meets_axioms rule initial log ≡ true →
    options rule initial log thread cell order ≡ down_from (λ position. nat_le (floor rule log thread cell order) position) (newest log cell)

abbrev pub OptionIsFromFloor : Type 0
OptionIsFromFloor = (rule : Rule) (initial : CellId → Scalar) (log : List Event) (thread : ℕ) (cell : CellId) (order : Order) → meets_axioms rule initial log ≡ true →
    (position : ℕ) → position ≤ newest log cell → (is_option rule initial log thread cell order position ≡ true) ↔ (floor rule log thread cell order ≤ position)

abbrev pub FloorIsReached : Type 0
FloorIsReached = (rule : Rule) (initial : CellId → Scalar) (log : List Event) (thread : ℕ) (cell : CellId) (order : Order) → meets_axioms rule initial log ≡ true →
    floor rule log thread cell order ≤ newest log cell

abbrev pub OptionsAreCounted : Type 0
OptionsAreCounted = (rule : Rule) (initial : CellId → Scalar) (log : List Event) (thread : ℕ) (cell : CellId) (order : Order) → meets_axioms rule initial log ≡ true →
    length (options rule initial log thread cell order) ≡ suc (newest log cell) - floor rule log thread cell order

abbrev pub OptionsAreNumbered : Type 0
OptionsAreNumbered = (rule : Rule) (initial : CellId → Scalar) (log : List Event) (thread : ℕ) (cell : CellId) (order : Order) → meets_axioms rule initial log ≡ true →
    (n : ℕ) → floor rule log thread cell order + n ≤ newest log cell → slice_get (options rule initial log thread cell order) n ≡ Some (newest log cell - n)

-- ---- The newest position is an option of every load, and the first; and whatever is wanted has an option.

abbrev pub NewestIsOption : Type 0
NewestIsOption = (rule : Rule) (initial : CellId → Scalar) (log : List Event) (thread : ℕ) (cell : CellId) (order : Order) → meets_axioms rule initial log ≡ true →
    is_option rule initial log thread cell order (newest log cell) ≡ true

abbrev pub NewestIsFirst : Type 0
NewestIsFirst = (rule : Rule) (initial : CellId → Scalar) (log : List Event) (thread : ℕ) (cell : CellId) (order : Order) → meets_axioms rule initial log ≡ true →
    slice_get (options rule initial log thread cell order) 0 ≡ Some (newest log cell)

-- So choice 0 of a load is the newest position, with its value.
abbrev pub NewestIsFirstChoice : Type 0
NewestIsFirstChoice = (rule : Rule) (initial : CellId → Scalar) (log : List Event) (thread : ℕ) (cell : CellId) (order : Order) → meets_axioms rule initial log ≡ true →
    slice_get (choices rule initial log thread cell (Load order)) 0 ≡ Some (chosen_at initial log cell false (newest log cell))

abbrev pub SomeChoice : Type 0
SomeChoice = (rule : Rule) (initial : CellId → Scalar) (log : List Event) (thread : ℕ) (cell : CellId) (wanted : Wanted) → meets_axioms rule initial log ≡ true →
    0 < length (choices rule initial log thread cell wanted)

-- ---- No two options of what is wanted are the same choice: they differ in position or in success.

abbrev pub ChoicesDiffer : Type 0
ChoicesDiffer = (rule : Rule) (initial : CellId → Scalar) (log : List Event) (thread : ℕ) (cell : CellId) (wanted : Wanted) →
    AllPairs (λ a b. a.position ≡ b.position → a.success ≡ b.success → ⊥) (choices rule initial log thread cell wanted)

-- ---- Each choice has the value at its position. One that succeeds has the newest position; one that does not has an option of
-- a load of the order that it reads with.

-- a swap reads with no order of its own, as it always succeeds
abbrev pub order_to_read : Wanted → Order
order_to_read (Load order) = order
order_to_read Swap = NotAtomic
order_to_read (Compare success failure expected weak) = failure

pub record ChoiceStands (rule : Rule) (initial : CellId → Scalar) (log : List Event) (thread : ℕ) (cell : CellId) (wanted : Wanted) (c : Chosen) : Type 0 where
  pub value : c.value ≡ value_at initial log cell c.position
  pub success : c.success ≡ true → c.position ≡ newest log cell
  pub failure : c.success ≡ false → is_option rule initial log thread cell (order_to_read wanted) c.position ≡ true
  -- a load does not succeed, and a swap does
  pub certain : elim wanted as (λ _. Type 0) [ Load order ↦ c.success ≡ false | Swap ↦ c.success ≡ true | Compare success failure expected weak ↦ ⊤ ]

abbrev pub ChoicesStand : Type 0
ChoicesStand = (rule : Rule) (initial : CellId → Scalar) (log : List Event) (thread : ℕ) (cell : CellId) (wanted : Wanted) →
    (n : ℕ) (c : Chosen) → slice_get (choices rule initial log thread cell wanted) n ≡ Some c → ChoiceStands rule initial log thread cell wanted c

-- So what was chosen may come next in the log of a run: where it succeeds an update, of whatever order and value, that makes the
-- position after it, else a read of its position and value.
abbrev pub ChoicesFit : Type 0
ChoicesFit = (rule : Rule) (objects : List (List Scalar)) (log : List Event) (thread : ℕ) (cell : CellId) (wanted : Wanted) (n : ℕ) (c : Chosen) →
    is_thread log thread ≡ true → HasCell objects cell → slice_get (choices rule (initial_of objects) log thread cell wanted) n ≡ Some c →
    (c.success ≡ false → EventFits rule objects log (record { thread = thread; kind = Access Read cell (order_to_read wanted) c.position c.value }))
    × (c.success ≡ true → (order : Order) (value : Scalar) → EventFits rule objects log (record { thread = thread; kind = Access Update cell order (suc c.position) value }))

-- ---- Preservation: a log that meets the axioms meets them again ..

-- .. after a write or update at the next position;
abbrev pub ModificationsKeepAxioms : Type 0
ModificationsKeepAxioms = (rule : Rule) (initial : CellId → Scalar) (log : List Event) → meets_axioms rule initial log ≡ true →
    (e : Event) (cell : CellId) → modifies cell e ≡ true → position_of e ≡ suc (newest log cell) → meets_axioms rule initial (e ∷ log) ≡ true

-- .. after any event that is no access;
abbrev pub OthersKeepAxioms : Type 0
OthersKeepAxioms = (rule : Rule) (initial : CellId → Scalar) (log : List Event) → meets_axioms rule initial log ≡ true →
    (e : Event) → is_access (λ mode cell order position. true) e ≡ false → meets_axioms rule initial (e ∷ log) ≡ true

-- .. and so after every event that fits a run, a read of an option among them.
abbrev pub FittingEventsKeepAxioms : Type 0
FittingEventsKeepAxioms = (rule : Rule) (objects : List (List Scalar)) (log : List Event) → meets_axioms rule (initial_of objects) log ≡ true →
    (e : Event) → EventFits rule objects log e → meets_axioms rule (initial_of objects) (e ∷ log) ≡ true
