-- What an event that fits the log has.
use Rattle.std.proofs.Common.{◌∷◌, ◌≡◌, ℕ, suc, true, List, slice_index, ap, ◌∙◌}
use Rattle.std.proofs.lemmas.Bool.{false≢true}
use Rattle.mu_values.specs.declared.scalars.Scalar.{Scalar}
use Rattle.mu_values.specs.declared.cells.CellId.{CellId}
use Rattle.mu_values.specs.CellLaws.{same_cell-true}
use Rattle.mem_axioms.specs.EventFits.{EventFits}
use Rattle.mem_axioms.specs.Events.{accesses, is_modification, position_of}
use Rattle.mem_axioms.specs.Logs.{newest}
use Rattle.mem_axioms.specs.Form.{is_value_at}
use Rattle.mem_axioms.specs.Objects.{initial_of}
use Rattle.mem_axioms.specs.declared.types.Event.{Event}
use Rattle.mem_axioms.specs.declared.types.Rule.{Rule}
use Rattle.mem_axioms.specs.declared.types.Kind.{Kind}
use Rattle.mem_axioms.specs.declared.types.Kind.TheVariants.{Access, Fence, NewStack, NewThread, Leave, Enter, Wake, Woken}
use Rattle.mem_axioms.specs.declared.types.Mode.TheVariants.{Read, Write, Update}
use Rattle.mem_axioms.specs.Lemmas.Positions.{form-parts}
use Rattle.mem_axioms.specs.Lemmas.Kept.{keeps-fit}
use Rattle.clock_laws.specs.Clocks.{views, knew}
use Rattle.view_parts.specs.Answers.{RaceFacts}
use Rattle.view_parts.specs.Holding.{CellHolds}
use Rattle.view_parts.specs.Lemmas.FloorFound.{form-of}
use Rattle.view_parts.specs.declared.cell.CellViews.{CellViews}
use Rattle.mem_views.specs.Holding.{LogHolds}

-- a write or update of the cell makes the next position
next-kind : (rule : Rule) (objects : List (List Scalar)) (log : List Event) (t : ℕ) (k : Kind) (cell : CellId) → EventFits rule objects log (record { thread = t; kind = k }) → accesses cell (record { thread = t; kind = k }) ≡ true
    → is_modification (record { thread = t; kind = k }) ≡ true → position_of (record { thread = t; kind = k }) ≡ suc (newest log cell)
next-kind rule objects log t (Access Read of o p x) cell f a m = absurd (false≢true m)
next-kind rule objects log t (Access Write of o p x) cell f a m = f.position ∙ ap (λ (c : CellId). suc (newest log c)) (same_cell-true of cell a)
next-kind rule objects log t (Access Update of o p x) cell f a m = f.position ∙ ap (λ (c : CellId). suc (newest log c)) (same_cell-true of cell a)
next-kind rule objects log t (Fence o) cell f a m = absurd (false≢true m)
next-kind rule objects log t (NewStack o) cell f a m = absurd (false≢true m)
next-kind rule objects log t (NewThread o) cell f a m = absurd (false≢true m)
next-kind rule objects log t (Leave o) cell f a m = absurd (false≢true m)
next-kind rule objects log t (Enter o) cell f a m = absurd (false≢true m)
next-kind rule objects log t (Wake o n) cell f a m = absurd (false≢true m)
next-kind rule objects log t (Woken o) cell f a m = absurd (false≢true m)

pub next-position : (rule : Rule) (objects : List (List Scalar)) (log : List Event) (e : Event) (cell : CellId) → EventFits rule objects log e → accesses cell e ≡ true → is_modification e ≡ true → position_of e ≡ suc (newest log cell)
next-position rule objects log e = next-kind rule objects log e.thread e.kind

-- the premises, from what a memory holds
pub race-facts : (rule : Rule) (objects : List (List Scalar)) (log : List Event) (cell : CellId) (e : Event) (kept : CellViews) (clock : List ℕ) → LogHolds rule objects log → CellHolds log cell kept
    → EventFits rule objects log e → accesses cell e ≡ true → ((u : ℕ) → slice_index clock u ≡ knew (views rule log) e u)
    → RaceFacts rule (is_value_at (initial_of objects)) log cell e kept clock
race-facts rule objects log cell e kept clock h c f a k = record {
  form = form-of rule (initial_of objects) log h.sound.axioms;
  fits = (form-parts (is_value_at (initial_of objects)) e log (form-of rule (initial_of objects) (e ∷ log) (keeps-fit rule objects log h.sound.axioms e f))).0;
  access = a;
  knows = k;
  holds = c;
}
