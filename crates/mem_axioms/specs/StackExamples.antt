-- A stack that moves to another thread takes along what its last thread knew when it left it.
use Rattle.std.specs.Prelude.{◌≡◌, List, [], ◌∷◌, None, refl}
use Rattle.mu_base.specs.declared.order.Order.TheVariants.{NotAtomic, Relaxed}
use Rattle.mu_values.specs.declared.scalars.Scalar.{Scalar}
use Rattle.mu_values.specs.declared.scalars.Scalar.TheVariants.{Null, Stack}
use Rattle.mu_values.specs.declared.cells.CellId.{CellId}
use Rattle.mem_axioms.specs.HappensBefore.{happens_before}
use Rattle.mem_axioms.specs.Axioms.{is_coherent, is_seq_cst_ordered, meets_axioms}
use Rattle.mem_axioms.specs.Races.{race}
use Rattle.mem_axioms.specs.Choices.{options}
use Rattle.mem_axioms.specs.ExampleNames.{x, y, by, read, write}
use Rattle.mem_axioms.specs.declared.types.Rule.TheVariants.{C11}
use Rattle.mem_axioms.specs.declared.types.Mode.TheVariants.{Read, Write}
use Rattle.mem_axioms.specs.declared.types.Kind.TheVariants.{Access, NewStack, NewThread, Leave, Enter}
use Rattle.mem_axioms.specs.declared.types.Event.{Event}

-- x holds a stack, y is a cell of the stack's own
abbrev nothing : CellId → Scalar
nothing cell = Null

abbrev handed_over : List Event
handed_over =
    by 1 (Enter 2) ∷ by 1 (Access Read x Relaxed 1 (Stack 2)) ∷ by 0 (Access Write x Relaxed 1 (Stack 2)) ∷ by 0 (Enter 0) ∷ by 0 (Leave 2)
    ∷ write 0 NotAtomic y 1 40 ∷ by 0 (Enter 2) ∷ by 0 (Leave 0) ∷ by 0 (NewStack 2) ∷ by 1 (Enter 1) ∷ by 0 (NewThread 1) ∷ by 0 (NewStack 1) ∷ []

pub own_cell_is_known : options C11 nothing handed_over 1 y NotAtomic ≡ 1 ∷ []
unfolding happens_before is_coherent is_seq_cst_ordered meets_axioms options
own_cell_is_known = refl

pub own_cell_does_not_race : race C11 handed_over (read 1 NotAtomic y 1 40) ≡ None
unfolding happens_before race
own_cell_does_not_race = refl
