-- Which events may come next in the log of a run.
use Rattle.std.specs.Prelude.{◌≡◌, true, false, ℕ, ◌==◌, List, [], ◌∷◌, refl}
use mathlib.Core.Bool.{true≢false, false≢true}
use mathlib.Core.Path.{ap}
use Rattle.mu_base.specs.declared.order.Order.TheVariants.{Relaxed, SeqCst}
use Rattle.mu_values.specs.declared.scalars.Scalar.{Scalar}
use Rattle.mem_axioms.specs.HappensBefore.{happens_before}
use Rattle.mem_axioms.specs.Axioms.{is_coherent, is_seq_cst_ordered, meets_axioms}
use Rattle.mem_axioms.specs.Choices.{is_option}
use Rattle.mem_axioms.specs.Objects.{initial_of}
use Rattle.mem_axioms.specs.EventFits.{EventFits}
use Rattle.mem_axioms.specs.ExampleNames.{x, by, number, read, write, fence}
use Rattle.mem_axioms.specs.declared.types.Rule.TheVariants.{C11}
use Rattle.mem_axioms.specs.declared.types.Kind.TheVariants.{NewStack, NewThread, Enter, Wake, Woken}
use Rattle.mem_axioms.specs.declared.types.Event.{Event}

-- x is the only cell; thread 1 was made, and thread 0 woke it
abbrev objects : List (List Scalar)
objects = (number 0 ∷ []) ∷ []

abbrev log : List Event
log = by 0 (Wake x 1) ∷ read 1 Relaxed x 0 0 ∷ by 1 (Enter 1) ∷ by 0 (NewThread 1) ∷ by 0 (NewStack 1) ∷ []

pub initial_scalar : initial_of objects x ≡ number 0
initial_scalar = refl

pub woken_by_the_wake : EventFits C11 objects log (by 1 (Woken 4))
woken_by_the_wake = record { thread = refl; child = tt; cell = tt; wake = refl; position = tt }

pub woken_by_another_event : EventFits C11 objects log (by 1 (Woken 3)) → ⊥
woken_by_another_event fits = false≢true fits.wake

pub fence_of_a_made_thread : EventFits C11 objects log (fence 1 SeqCst)
fence_of_a_made_thread = record { thread = refl; child = tt; cell = tt; wake = tt; position = tt }

pub fence_of_no_thread : EventFits C11 objects log (fence 2 SeqCst) → ⊥
fence_of_no_thread fits = false≢true fits.thread

pub thread_made_again : EventFits C11 objects log (by 0 (NewThread 1)) → ⊥
thread_made_again fits = true≢false fits.child.0

-- A thread may read x at position 0, and the next write of x makes position 1.
pub position_0_is_an_option : is_option C11 (initial_of objects) log 1 x Relaxed 0 ≡ true
unfolding happens_before is_coherent is_seq_cst_ordered meets_axioms
position_0_is_an_option = refl

pub position_1_is_none : is_option C11 (initial_of objects) log 1 x Relaxed 1 ≡ false
unfolding happens_before is_coherent is_seq_cst_ordered meets_axioms
position_1_is_none = refl

pub write_of_position_2 : EventFits C11 objects log (write 1 Relaxed x 2 7) → ⊥
write_of_position_2 fits = true≢false (ap (λ (n : ℕ). n == 2) fits.position)
