-- Clocks of message passing: thread 0 makes thread 1 and writes the data x and then the flag y, with events 3 and 4.
use Rattle.std.specs.Prelude.{◌≡◌, List, [], ◌∷◌, refl}
use Rattle.mu_base.specs.declared.order.Order.TheVariants.{NotAtomic, Relaxed, Acquire, Release, SeqCst}
use Rattle.mem_axioms.specs.ExampleNames.{x, y, by, read, write, update, fence}
use Rattle.mem_axioms.specs.declared.types.Rule.TheVariants.{C11, Rmw}
use Rattle.mem_axioms.specs.declared.types.Kind.TheVariants.{NewStack, NewThread, Enter, Leave, Wake, Woken}
use Rattle.mem_axioms.specs.declared.types.Event.{Event}
use Rattle.clock_laws.specs.Clocks.{views}
use Rattle.clock_laws.specs.ViewFloor.{view_floor}

abbrev sent : List Event
sent = write 0 Release y 1 1 ∷ write 0 NotAtomic x 1 40 ∷ by 1 (Enter 1) ∷ by 0 (NewThread 1) ∷ by 0 (NewStack 1) ∷ []

-- Thread 1 knows the event that made it, number 1, and its own; after an acquire of the flag all up to event 4.
started_thread_knows : (views C11 sent).thread 1 0 ≡ 2
started_thread_knows = refl

own_events_are_known : (views C11 sent).thread 1 1 ≡ 3
own_events_are_known = refl

acquired_flag_is_known : (views C11 (read 1 Acquire y 1 1 ∷ sent)).thread 1 0 ≡ 5
acquired_flag_is_known = refl

-- A RELAXED read takes nothing, until an acquire fence does.
relaxed_read_takes_nothing : (views C11 (read 1 Relaxed y 1 1 ∷ sent)).thread 1 0 ≡ 2
relaxed_read_takes_nothing = refl

fence_takes_what_was_read : (views C11 (fence 1 Acquire ∷ read 1 Relaxed y 1 1 ∷ sent)).thread 1 0 ≡ 5
fence_takes_what_was_read = refl

-- A RELAXED write by the head's thread goes on the sequence under C11 alone, an update by any thread under both rules.
own_write_goes_on : (views C11 (write 0 Relaxed y 2 2 ∷ sent)).released y 2 0 ≡ 5
own_write_goes_on = refl

own_write_ends_it : (views Rmw (write 0 Relaxed y 2 2 ∷ sent)).released y 2 0 ≡ 0
own_write_ends_it = refl

update_goes_on : (views Rmw (update 1 Relaxed y 2 2 ∷ sent)).released y 2 0 ≡ 5
update_goes_on = refl

-- A stack carries the clock of its leaving to whoever enters it, and a wake its own.
entered_stack_brings_its_clock : (views C11 (by 1 (Enter 0) ∷ by 0 (Leave 0) ∷ sent)).thread 1 0 ≡ 6
entered_stack_brings_its_clock = refl

woken_knows_the_wake : (views C11 (by 1 (Woken 5) ∷ by 0 (Wake y 1) ∷ sent)).thread 1 0 ≡ 6
woken_knows_the_wake = refl

-- The floor of the data rises with the acquire, and the floor of a SEQ_CST load with SEQ_CST writes that it does not know.
floor_before : view_floor C11 (read 1 Relaxed y 1 1 ∷ sent) 1 x NotAtomic ≡ 0
unfolding view_floor
floor_before = refl

floor_after : view_floor C11 (read 1 Acquire y 1 1 ∷ sent) 1 x NotAtomic ≡ 1
unfolding view_floor
floor_after = refl

seq_cst_floor : view_floor C11 (write 0 SeqCst x 2 41 ∷ sent) 1 x SeqCst ≡ 2
unfolding view_floor
seq_cst_floor = refl
