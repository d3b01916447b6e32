-- What holds of the log of a run as it grows: its cells are those of added objects, and it is sound.
use Rattle.std.proofs.Common.{◌≡◌, ℕ, true, is_none, List, [], ◌∷◌, None, refl, ap, inl, inr}
use Rattle.std.proofs.lemmas.Bool.{and_from, false≢true}
use Rattle.mu_values.specs.declared.scalars.Scalar.{Scalar}
use Rattle.mu_values.specs.declared.cells.CellId.{CellId}
use Rattle.mu_values.specs.CellLaws.{same_cell-true}
use Rattle.mem_axioms.specs.Events.{accesses}
use Rattle.mem_axioms.specs.Axioms.{is_coherent, is_seq_cst_ordered, meets_axioms}
use Rattle.mem_axioms.specs.Races.{race, is_race_free}
use Rattle.mem_axioms.specs.Objects.{HasCell}
use Rattle.mem_axioms.specs.EventFits.{EventFits}
use Rattle.mem_axioms.specs.Known.{HasCells}
use Rattle.mem_axioms.specs.Sound.{IsSound}
use Rattle.mem_axioms.specs.declared.types.Event.{Event}
use Rattle.mem_axioms.specs.declared.types.Rule.{Rule}
use Rattle.mem_axioms.specs.declared.types.Kind.{Kind}
use Rattle.mem_axioms.specs.declared.types.Kind.TheVariants.{Access, Fence, NewStack, NewThread, Leave, Enter, Wake, Woken}
use Rattle.mem_axioms.specs.Lemmas.Numbers.{event-cases}
use Rattle.mem_axioms.specs.Lemmas.Kept.{keeps-fit}

pub cells-none : (objects : List (List Scalar)) → HasCells objects []
cells-none objects = record { each = λ i e c at a. absurd (cc) }

pub sound-none : (rule : Rule) (objects : List (List Scalar)) → IsSound rule objects []
unfolding meets_axioms is_coherent is_seq_cst_ordered
sound-none rule objects = record { axioms = refl; race_free = refl }

cells-kind : (rule : Rule) (objects : List (List Scalar)) (log : List Event) (t : ℕ) (k : Kind) (c : CellId) → EventFits rule objects log (record { thread = t; kind = k }) → accesses c (record { thread = t; kind = k }) ≡ true → HasCell objects c
cells-kind rule objects log t (Access mode cell order position value) c f a = rw (same_cell-true cell c a) at f.cell
cells-kind rule objects log t (Fence o) c f a = absurd (false≢true a)
cells-kind rule objects log t (NewStack o) c f a = absurd (false≢true a)
cells-kind rule objects log t (NewThread o) c f a = absurd (false≢true a)
cells-kind rule objects log t (Leave o) c f a = absurd (false≢true a)
cells-kind rule objects log t (Enter o) c f a = absurd (false≢true a)
cells-kind rule objects log t (Wake o n) c f a = absurd (false≢true a)
cells-kind rule objects log t (Woken o) c f a = absurd (false≢true a)

pub cells-more : (rule : Rule) (objects : List (List Scalar)) (log : List Event) (e : Event) → EventFits rule objects log e → HasCells objects log → HasCells objects (e ∷ log)
cells-more rule objects log e f h = record {
  each = λ i ei c at a. elim (event-cases e log i ei at) [
    | inl p ↦ cells-kind rule objects log e.thread e.kind c f (rw p.1 at a)
    | inr p ↦ h.each i ei c p.1 a
  ];
}

pub sound-more : (rule : Rule) (objects : List (List Scalar)) (log : List Event) (e : Event) → EventFits rule objects log e → race rule log e ≡ None → IsSound rule objects log → IsSound rule objects (e ∷ log)
sound-more rule objects log e f n s = record {
  axioms = keeps-fit rule objects log s.axioms e f;
  race_free = and_from (is_none (race rule log e)) (is_race_free rule log) (ap (λ r. is_none r) n) s.race_free;
}
