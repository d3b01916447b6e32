-- The cells of a log are those of the added objects.
use Rattle.std.specs.Prelude.{◌≡◌, ℕ, Some, true, List}
use Rattle.mu_values.specs.declared.scalars.Scalar.{Scalar}
use Rattle.mu_values.specs.declared.cells.CellId.{CellId}
use Rattle.mem_axioms.specs.Events.{accesses}
use Rattle.mem_axioms.specs.Logs.{event_at}
use Rattle.mem_axioms.specs.Objects.{HasCell}
use Rattle.mem_axioms.specs.declared.types.Event.{Event}

-- each access of the log is of a cell of an added object
pub record HasCells (objects : List (List Scalar)) (log : List Event) : Type 0 where
  pub each : (i : ℕ) (e : Event) (cell : CellId) → event_at log i ≡ Some e → accesses cell e ≡ true → HasCell objects cell
