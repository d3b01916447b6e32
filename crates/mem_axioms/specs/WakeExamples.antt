-- Wakes, the making of threads, and when an event may come next.
use Rattle.std.specs.Prelude.{◌≡◌, true, false, List, [], ◌∷◌, Some, None, refl}
use Rattle.mu_base.specs.declared.order.Order.TheVariants.{NotAtomic, Relaxed}
use Rattle.mem_axioms.specs.HappensBefore.{happens_before}
use Rattle.mem_axioms.specs.Form.{has_form, has_form_alone}
use Rattle.mem_axioms.specs.Axioms.{is_coherent, is_seq_cst_ordered, meets_axioms}
use Rattle.mem_axioms.specs.Races.{race}
use Rattle.mem_axioms.specs.Choices.{options}
use Rattle.mem_axioms.specs.EventFits.{is_thread, wakes_at}
use Rattle.mem_axioms.specs.ExampleNames.{x, y, by, zeros, read, write, update}
use Rattle.mem_axioms.specs.declared.types.Rule.TheVariants.{C11}
use Rattle.mem_axioms.specs.declared.types.Kind.TheVariants.{NewStack, NewThread, Enter, Wake, Woken}
use Rattle.mem_axioms.specs.declared.types.Event.{Event}

-- Thread 1 waits at x, and thread 0 wakes it.
abbrev waiting : List Event
waiting = read 1 Relaxed x 0 0 ∷ by 1 (Enter 1) ∷ by 0 (NewThread 1) ∷ by 0 (NewStack 1) ∷ []

abbrev woken : List Event
woken = by 1 (Woken 4) ∷ by 0 (Wake x 1) ∷ waiting

-- A wait reads the newest position.
pub wait_reads_the_newest : options C11 zeros (by 1 (Enter 1) ∷ by 0 (NewThread 1) ∷ by 0 (NewStack 1) ∷ []) 1 x Relaxed ≡ 0 ∷ []
unfolding happens_before is_coherent is_seq_cst_ordered meets_axioms options
wait_reads_the_newest = refl

-- The wake happens before the woken event that names it.
pub wake_comes_first : happens_before C11 woken 4 5 ≡ true
unfolding happens_before
wake_comes_first = refl

-- So what the waker wrote before does not race with what the woken thread does next ..
pub what_the_waker_wrote_is_known : race C11 (by 1 (Woken 5) ∷ by 0 (Wake x 1) ∷ write 0 NotAtomic y 1 40 ∷ waiting) (read 1 NotAtomic y 1 40) ≡ None
unfolding happens_before race
what_the_waker_wrote_is_known = refl

-- .. and does without the wake.
pub without_a_wake_it_races : race C11 (write 0 NotAtomic y 1 40 ∷ waiting) (read 1 NotAtomic y 1 40) ≡ Some 4
unfolding happens_before race
without_a_wake_it_races = refl

-- A woken event that names another wake is of no use for it.
pub another_wake : race C11 (by 1 (Woken 4) ∷ by 0 (Wake x 1) ∷ write 0 NotAtomic y 1 40 ∷ by 2 (Wake x 0) ∷ waiting) (read 1 NotAtomic y 1 40) ≡ Some 5
unfolding happens_before race
another_wake = refl

-- What a thread did before it made another is known to that one.
pub before_the_thread_was_made : race C11 (by 0 (NewThread 1) ∷ write 0 NotAtomic y 1 40 ∷ []) (read 1 NotAtomic y 1 40) ≡ None
unfolding happens_before race
before_the_thread_was_made = refl

-- The threads of a log are 0 and those that were made.
pub thread_1_was_made : is_thread waiting 1 ≡ true
thread_1_was_made = refl

pub thread_2_was_not : is_thread waiting 2 ≡ false
thread_2_was_not = refl

pub event_4_is_a_wake : wakes_at woken 4 ≡ true
event_4_is_a_wake = refl

pub event_5_is_none : wakes_at woken 5 ≡ false
event_5_is_none = refl

-- The form of a log, with initial scalars and without: here x was 0 and y 7.
pub initial_scalars_are_read : has_form zeros (read 0 Relaxed x 0 0 ∷ []) ≡ true
initial_scalars_are_read = refl

pub another_value_is_not : has_form zeros (read 0 Relaxed x 0 7 ∷ []) ≡ false
another_value_is_not = refl

pub unknown_initial_scalars : has_form_alone (read 1 Relaxed y 0 7 ∷ read 0 Relaxed y 0 7 ∷ read 0 Relaxed x 0 0 ∷ []) ≡ true
unknown_initial_scalars = refl

pub two_values_at_one_position : has_form_alone (read 1 Relaxed y 0 8 ∷ read 0 Relaxed y 0 7 ∷ []) ≡ false
two_values_at_one_position = refl

-- Positions have no gaps, and an update makes position 1 at least.
pub next_position : has_form zeros (update 1 Relaxed x 2 2 ∷ write 0 Relaxed x 1 1 ∷ []) ≡ true
next_position = refl

pub gap_of_positions : has_form zeros (write 0 Relaxed x 2 2 ∷ []) ≡ false
gap_of_positions = refl

pub update_at_0 : has_form_alone (update 0 Relaxed x 0 0 ∷ []) ≡ false
update_at_0 = refl
