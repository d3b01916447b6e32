-- What the answers of look-ups rest on. No clause of a public call speaks of it.
use Rattle.std.specs.Prelude.{◌≡◌, ℕ, suc, Bool, true, List, slice_index, Option, Some, None}
use Rattle.mu_values.specs.declared.scalars.Scalar.{Scalar}
use Rattle.mu_values.specs.declared.cells.CellId.{CellId}
use Rattle.mem_axioms.specs.Events.{accesses}
use Rattle.mem_axioms.specs.Form.{fits_form_by, has_form_by}
use Rattle.mem_axioms.specs.declared.types.Rule.{Rule}
use Rattle.mem_axioms.specs.declared.types.Event.{Event}
use Rattle.clock_laws.specs.Clocks.{views, knew}
use Rattle.view_parts.specs.Holding.{CellHolds}
use Rattle.view_parts.specs.declared.cell.CellViews.{CellViews}

-- a clock is what a thread knows
abbrev pub IsKnown : Rule → List Event → ℕ → List ℕ → Type 0
IsKnown rule log t known = (u : ℕ) → slice_index known u ≡ (views rule log).thread t u

-- one more than a number, if there is one
abbrev pub one_higher : Option ℕ → Option ℕ
one_higher None = None
one_higher (Some i) = Some (suc i)

-- an access of the cell fits the log, where `right` stands for either form, and the clock is what is known at it
pub record RaceFacts (rule : Rule) (right : List Event → CellId → ℕ → Scalar → Bool) (log : List Event) (cell : CellId) (e : Event) (kept : CellViews) (clock : List ℕ) : Type 0 where
  pub form : has_form_by right log ≡ true
  pub fits : fits_form_by right log e ≡ true
  pub access : accesses cell e ≡ true
  pub knows : (u : ℕ) → slice_index clock u ≡ knew (views rule log) e u
  pub holds : CellHolds log cell kept
