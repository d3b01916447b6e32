-- The laws on the log of a run: which events may come next, what stays sound, and how a log was built. Each is the contract
-- of a function of `laws` that does nothing, and each holds under both rules of release sequences.
use Rattle.std.specs.Prelude.{◌≡◌, ◌↔◌, ◌⊎◌, ℕ, suc, ◌<◌, true, false, List, [], ◌∷◌, ◌++◌, length, Some, None}
use Rattle.mu_base.specs.declared.order.Order.{Order}
use Rattle.mu_values.specs.declared.scalars.Scalar.{Scalar}
use Rattle.mu_values.specs.declared.cells.CellId.{CellId}
use Rattle.mem_axioms.specs.Events.{is_access, modifies, position_of, value_of}
use Rattle.mem_axioms.specs.Logs.{event_at, past_of, newest}
use Rattle.mem_axioms.specs.Synchronizes.{makes_thread}
use Rattle.mem_axioms.specs.Form.{value_at}
use Rattle.mem_axioms.specs.Axioms.{meets_axioms}
use Rattle.mem_axioms.specs.Races.{race}
use Rattle.mem_axioms.specs.Choices.{is_option}
use Rattle.mem_axioms.specs.Objects.{initial_of, HasCell}
use Rattle.mem_axioms.specs.EventFits.{is_thread, wakes_at, EventFits}
use Rattle.mem_axioms.specs.Sound.{IsSound}
use Rattle.mem_axioms.specs.Known.{HasCells}
use Rattle.mem_axioms.specs.declared.types.Rule.{Rule}
use Rattle.mem_axioms.specs.declared.types.Mode.TheVariants.{Read}
use Rattle.mem_axioms.specs.declared.types.Kind.TheVariants.{Access, Fence, NewStack, NewThread, Leave, Enter, Wake, Woken}
use Rattle.mem_axioms.specs.declared.types.Event.{Event}

-- ---- What may come next. A thread that was made may write or update a cell that is there, at the next position.

abbrev pub ModificationsFit : Type 0
ModificationsFit = (rule : Rule) (objects : List (List Scalar)) (log : List Event) (e : Event) (cell : CellId) →
    is_thread log e.thread ≡ true → HasCell objects cell → modifies cell e ≡ true → position_of e ≡ suc (newest log cell) → EventFits rule objects log e

-- What an event that is no access asks beside a thread that was made: of a new thread that its number is new and below 64,
-- of a wake that its cell is there, of a woken event that its wake is an earlier one, of the rest nothing.
pub record OthersFit (rule : Rule) (objects : List (List Scalar)) (log : List Event) (thread : ℕ) : Type 0 where
  pub fence : (order : Order) → EventFits rule objects log (record { thread = thread; kind = Fence order }) ↔ (is_thread log thread ≡ true)
  pub new_stack : (stack : ℕ) → EventFits rule objects log (record { thread = thread; kind = NewStack stack }) ↔ (is_thread log thread ≡ true)
  pub leave : (stack : ℕ) → EventFits rule objects log (record { thread = thread; kind = Leave stack }) ↔ (is_thread log thread ≡ true)
  pub enter : (stack : ℕ) → EventFits rule objects log (record { thread = thread; kind = Enter stack }) ↔ (is_thread log thread ≡ true)
  pub new_thread : (child : ℕ) → EventFits rule objects log (record { thread = thread; kind = NewThread child })
      ↔ ((is_thread log thread ≡ true) × (is_thread log child ≡ false) × (child < 64))
  pub wake : (cell : CellId) (count : ℕ) → EventFits rule objects log (record { thread = thread; kind = Wake cell count })
      ↔ ((is_thread log thread ≡ true) × HasCell objects cell)
  pub woken : (by_wake : ℕ) → EventFits rule objects log (record { thread = thread; kind = Woken by_wake })
      ↔ ((is_thread log thread ≡ true) × (wakes_at log by_wake ≡ true))

-- A thread that was made stays so; by one more event no other is made than the child that it names.
abbrev pub ThreadsStay : Type 0
ThreadsStay = (log : List Event) (e : Event) (thread : ℕ) → is_thread log thread ≡ true → is_thread (e ∷ log) thread ≡ true

abbrev pub ThreadsAreMade : Type 0
ThreadsAreMade = (log : List Event) (e : Event) (thread : ℕ) → (is_thread (e ∷ log) thread ≡ true) ↔ ((makes_thread thread e ≡ true) ⊎ (is_thread log thread ≡ true))

abbrev pub ThreadsAreSame : Type 0
ThreadsAreSame = (log : List Event) (e : Event) (thread : ℕ) → makes_thread thread e ≡ false → is_thread (e ∷ log) thread ≡ is_thread log thread

-- A wake has the number of the events before it, and stays a wake.
abbrev pub WakesAreNumbered : Type 0
WakesAreNumbered = (log : List Event) (thread : ℕ) (cell : CellId) (count : ℕ) → wakes_at (record { thread = thread; kind = Wake cell count } ∷ log) (length log) ≡ true

abbrev pub WakesStay : Type 0
WakesStay = (log : List Event) (e : Event) (wake : ℕ) → wakes_at log wake ≡ true → wakes_at (e ∷ log) wake ≡ true

-- ---- What stays sound: the empty log is, and so is a log with one more event that fits and does not race. What is no
-- access races with nothing.

abbrev pub EmptyLogIsSound : Type 0
EmptyLogIsSound = (rule : Rule) (objects : List (List Scalar)) → IsSound rule objects []

abbrev pub FittingEventsStaySound : Type 0
FittingEventsStaySound = (rule : Rule) (objects : List (List Scalar)) (log : List Event) (e : Event) → EventFits rule objects log e → race rule log e ≡ None →
    IsSound rule objects log → IsSound rule objects (e ∷ log)

abbrev pub OthersDoNotRace : Type 0
OthersDoNotRace = (rule : Rule) (log : List Event) (e : Event) → is_access (λ mode cell order position. true) e ≡ false → race rule log e ≡ None

-- ---- How a log was built. Each part of it from the oldest event on meets the axioms too; each write or update had the next
-- position, and each read was an option of its past.

abbrev pub PastsMeetAxioms : Type 0
PastsMeetAxioms = (rule : Rule) (initial : CellId → Scalar) (newer log : List Event) → meets_axioms rule initial (newer ++ log) ≡ true → meets_axioms rule initial log ≡ true

abbrev pub WritesWereNext : Type 0
WritesWereNext = (rule : Rule) (initial : CellId → Scalar) (log : List Event) → meets_axioms rule initial log ≡ true →
    (i : ℕ) (ei : Event) (cell : CellId) → event_at log i ≡ Some ei → modifies cell ei ≡ true → position_of ei ≡ suc (newest (past_of log i) cell)

abbrev pub ReadsWereOptions : Type 0
ReadsWereOptions = (rule : Rule) (initial : CellId → Scalar) (log : List Event) → meets_axioms rule initial log ≡ true →
    (i thread : ℕ) (cell : CellId) (order : Order) (position : ℕ) (value : Scalar) →
    event_at log i ≡ Some (record { thread = thread; kind = Access Read cell order position value }) →
    (is_option rule initial (past_of log i) thread cell order position ≡ true) × (value ≡ value_at initial (past_of log i) cell position)

-- The value at a position is the initial scalar, or that of the write or update that made the position.
abbrev pub ValuesAreWritten : Type 0
ValuesAreWritten = (initial : CellId → Scalar) (log : List Event) (cell : CellId) (position : ℕ) →
    (value_at initial log cell position ≡ initial cell)
    ⊎ ((i : ℕ) × (ei : Event) × (event_at log i ≡ Some ei) × (modifies cell ei ≡ true) × (position_of ei ≡ position) × (value_at initial log cell position ≡ value_of ei))

-- ---- More objects change nothing of a log whose cells are there: what was an option is one still, and what fits fits.

abbrev pub CellsStayThere : Type 0
CellsStayThere = (rule : Rule) (objects : List (List Scalar)) (log : List Event) (e : Event) → HasCells objects log → EventFits rule objects log e → HasCells objects (e ∷ log)

abbrev pub InitialsStay : Type 0
InitialsStay = (objects more : List (List Scalar)) (cell : CellId) → HasCell objects cell → HasCell (objects ++ more) cell × (initial_of (objects ++ more) cell ≡ initial_of objects cell)

abbrev pub OptionsStay : Type 0
OptionsStay = (rule : Rule) (objects more : List (List Scalar)) (log : List Event) → HasCells objects log → (thread : ℕ) (cell : CellId) (order : Order) (position : ℕ) → HasCell objects cell →
    is_option rule (initial_of (objects ++ more)) log thread cell order position ≡ is_option rule (initial_of objects) log thread cell order position

abbrev pub EventsStillFit : Type 0
EventsStillFit = (rule : Rule) (objects more : List (List Scalar)) (log : List Event) (e : Event) → HasCells objects log → EventFits rule objects log e → EventFits rule (objects ++ more) log e

abbrev pub LogsStaySound : Type 0
LogsStaySound = (rule : Rule) (objects more : List (List Scalar)) (log : List Event) → HasCells objects log → IsSound rule objects log → IsSound rule (objects ++ more) log
