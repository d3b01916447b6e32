-- The laws that join clocks to the memory model. Each is the contract of a function of `laws` that does nothing. They hold
-- under both rules of release sequences, of every log that has the form of a log; `right` stands for either form.
use Rattle.std.specs.Prelude.{◌≡◌, ℕ, Bool, true, ◌&&◌, nat_lt, List, ◌∷◌, length, Some}
use Rattle.mu_base.specs.declared.order.Order.{Order}
use Rattle.mu_values.specs.declared.scalars.Scalar.{Scalar}
use Rattle.mu_values.specs.declared.cells.CellId.{CellId}
use Rattle.mem_axioms.specs.Logs.{event_at}
use Rattle.mem_axioms.specs.Synchronizes.{last_to_give_up}
use Rattle.mem_axioms.specs.HappensBefore.{happens_before}
use Rattle.mem_axioms.specs.Form.{fits_form_by, has_form_by}
use Rattle.mem_axioms.specs.Floor.{is_known, floor}
use Rattle.mem_axioms.specs.declared.types.Rule.{Rule}
use Rattle.mem_axioms.specs.declared.types.Event.{Event}
use Rattle.clock_laws.specs.Clocks.{knew, views}
use Rattle.clock_laws.specs.ViewFloor.{view_floor}

-- ---- Happens-before is the clock test: at each event ..
abbrev pub HappensBeforeIsClockTest : Type 0
HappensBeforeIsClockTest = (right : List Event → CellId → ℕ → Scalar → Bool) (rule : Rule) (log : List Event) → has_form_by right log ≡ true →
    (i k : ℕ) (ei ek : Event) → event_at log i ≡ Some ei → event_at log k ≡ Some ek →
    happens_before rule log i k ≡ (nat_lt i k && nat_lt i ((views rule log).at k ei.thread))

-- .. at the event that comes next, with what it synchronizes with itself ..
abbrev pub NextIsClockTest : Type 0
NextIsClockTest = (right : List Event → CellId → ℕ → Scalar → Bool) (rule : Rule) (log : List Event) → has_form_by right log ≡ true →
    (e : Event) → fits_form_by right log e ≡ true → (i : ℕ) (ei : Event) → event_at log i ≡ Some ei →
    happens_before rule (e ∷ log) i (length log) ≡ nat_lt i (knew (views rule log) e ei.thread)

-- .. and of what a thread knows.
abbrev pub KnownIsClockTest : Type 0
KnownIsClockTest = (right : List Event → CellId → ℕ → Scalar → Bool) (rule : Rule) (log : List Event) → has_form_by right log ≡ true →
    (thread i : ℕ) (ei : Event) → event_at log i ≡ Some ei →
    is_known rule log thread i ≡ nat_lt i ((views rule log).thread thread ei.thread)

-- ---- The floor of a load by clocks is the floor.
abbrev pub ViewFloorIsFloor : Type 0
ViewFloorIsFloor = (right : List Event → CellId → ℕ → Scalar → Bool) (rule : Rule) (log : List Event) → has_form_by right log ≡ true →
    (thread : ℕ) (cell : CellId) (order : Order) → view_floor rule log thread cell order ≡ floor rule log thread cell order

-- ---- A stack that was left or made carries the clock of its last leaving or making; this holds of every log.
abbrev pub LeftStackCarriesClock : Type 0
LeftStackCarriesClock = (rule : Rule) (log : List Event) (stack k : ℕ) → last_to_give_up log stack k ≡ true →
    (u : ℕ) → (views rule log).left stack u ≡ (views rule log).at k u
