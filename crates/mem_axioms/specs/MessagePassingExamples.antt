-- Message passing: thread 0 writes the data x, then the flag y; thread 1 reads the flag, then the data.
-- Clauses are of ISO/IEC 9899:2011, 5.1.2.4 (happens-before, races) and 7.17.3, 7.17.4 (orders, fences).
use Rattle.std.specs.Prelude.{◌≡◌, List, [], ◌∷◌, Some, None, refl}
use Rattle.mu_base.specs.declared.order.Order.{Order}
use Rattle.mu_base.specs.declared.order.Order.TheVariants.{NotAtomic, Relaxed, Consume, Acquire, Release, SeqCst}
use Rattle.mem_axioms.specs.HappensBefore.{happens_before}
use Rattle.mem_axioms.specs.Axioms.{is_coherent, is_seq_cst_ordered, meets_axioms}
use Rattle.mem_axioms.specs.Races.{race}
use Rattle.mem_axioms.specs.Choices.{options}
use Rattle.mem_axioms.specs.ExampleNames.{x, y, by, zeros, read, write, fence}
use Rattle.mem_axioms.specs.declared.types.Rule.TheVariants.{C11}
use Rattle.mem_axioms.specs.declared.types.Kind.TheVariants.{NewStack, NewThread, Enter}
use Rattle.mem_axioms.specs.declared.types.Event.{Event}

abbrev started : List Event
started = by 1 (Enter 1) ∷ by 0 (NewThread 1) ∷ by 0 (NewStack 1) ∷ []

-- data and flag are written with those orders; the data is 40
abbrev sent : Order → Order → List Event
sent order order' = write 0 order' y 1 1 ∷ write 0 order x 1 40 ∷ started

-- RELAXED: the old data is allowed after the new flag, since nothing synchronizes.
pub relaxed_data_may_be_old : options C11 zeros (read 1 Relaxed y 1 1 ∷ sent Relaxed Relaxed) 1 x Relaxed ≡ 1 ∷ 0 ∷ []
unfolding happens_before is_coherent is_seq_cst_ordered meets_axioms options
relaxed_data_may_be_old = refl

-- An ACQUIRE of a flag that nobody released does not synchronize.
pub acquire_of_a_relaxed_flag : options C11 zeros (read 1 Acquire y 1 1 ∷ sent Relaxed Relaxed) 1 x Relaxed ≡ 1 ∷ 0 ∷ []
unfolding happens_before is_coherent is_seq_cst_ordered meets_axioms options
acquire_of_a_relaxed_flag = refl

-- Nor does a RELAXED read of one that was released.
pub relaxed_read_of_a_released_flag : options C11 zeros (read 1 Relaxed y 1 1 ∷ sent Relaxed Release) 1 x Relaxed ≡ 1 ∷ 0 ∷ []
unfolding happens_before is_coherent is_seq_cst_ordered meets_axioms options
relaxed_read_of_a_released_flag = refl

-- RELEASE and ACQUIRE: the flag itself may be read old or new.
pub flag_has_two_options : options C11 zeros (sent NotAtomic Release) 1 y Acquire ≡ 1 ∷ 0 ∷ []
unfolding happens_before is_coherent is_seq_cst_ordered meets_axioms options
flag_has_two_options = refl

-- After the new flag the old data is forbidden: the write of the data happens before the read of it (coherence).
pub released_data_is_new : options C11 zeros (read 1 Acquire y 1 1 ∷ sent NotAtomic Release) 1 x NotAtomic ≡ 1 ∷ []
unfolding happens_before is_coherent is_seq_cst_ordered meets_axioms options
released_data_is_new = refl

-- So the NOT_ATOMIC read of the data does not race with the write ..
pub released_data_does_not_race : race C11 (read 1 Acquire y 1 1 ∷ sent NotAtomic Release) (read 1 NotAtomic x 1 40) ≡ None
unfolding happens_before race
released_data_does_not_race = refl

-- .. and does after the old flag, with which it synchronizes with nothing.
pub unreleased_data_races : race C11 (read 1 Acquire y 0 0 ∷ sent NotAtomic Release) (read 1 NotAtomic x 1 40) ≡ Some 3
unfolding happens_before race
unreleased_data_races = refl

-- A NOT_ATOMIC flag races by itself.
pub not_atomic_flag_races : race C11 (sent NotAtomic NotAtomic) (read 1 Acquire y 1 1) ≡ Some 4
unfolding happens_before race
not_atomic_flag_races = refl

-- CONSUME means ACQUIRE.
pub consume_acts_as_acquire : options C11 zeros (read 1 Consume y 1 1 ∷ sent NotAtomic Release) 1 x NotAtomic ≡ 1 ∷ []
unfolding happens_before is_coherent is_seq_cst_ordered meets_axioms options
consume_acts_as_acquire = refl

-- A SEQ_CST flag is a release and an acquire.
pub seq_cst_flag : options C11 zeros (read 1 SeqCst y 1 1 ∷ sent NotAtomic SeqCst) 1 x NotAtomic ≡ 1 ∷ []
unfolding happens_before is_coherent is_seq_cst_ordered meets_axioms options
seq_cst_flag = refl

-- fences of those orders: after the data in thread 0, after the flag in thread 1; the flag itself is RELAXED
abbrev fenced : Order → Order → List Event
fenced order order' = fence 1 order' ∷ read 1 Relaxed y 1 1 ∷ write 0 Relaxed y 1 1 ∷ fence 0 order ∷ write 0 NotAtomic x 1 40 ∷ started

-- A release fence before the flag synchronizes with an acquire fence after the read of it (7.17.4).
pub fences_pass_the_data : options C11 zeros (fenced Release Acquire) 1 x NotAtomic ≡ 1 ∷ []
unfolding happens_before is_coherent is_seq_cst_ordered meets_axioms options
fences_pass_the_data = refl

-- So the data does not race.
pub fenced_data_does_not_race : race C11 (fenced Release Acquire) (read 1 NotAtomic x 1 40) ≡ None
unfolding happens_before race
fenced_data_does_not_race = refl

-- An acquire fence in place of the release fence releases nothing.
pub acquire_fence_alone : options C11 zeros (fenced Acquire Acquire) 1 x NotAtomic ≡ 1 ∷ 0 ∷ []
unfolding happens_before is_coherent is_seq_cst_ordered meets_axioms options
acquire_fence_alone = refl

-- A release fence in place of the acquire fence takes nothing.
pub release_fence_alone : options C11 zeros (fenced Release Release) 1 x NotAtomic ≡ 1 ∷ 0 ∷ []
unfolding happens_before is_coherent is_seq_cst_ordered meets_axioms options
release_fence_alone = refl

-- A release fence synchronizes with an ACQUIRE read of the flag ..
pub fence_and_acquire : options C11 zeros (read 1 Acquire y 1 1 ∷ write 0 Relaxed y 1 1 ∷ fence 0 Release ∷ write 0 NotAtomic x 1 40 ∷ started) 1 x NotAtomic ≡ 1 ∷ []
unfolding happens_before is_coherent is_seq_cst_ordered meets_axioms options
fence_and_acquire = refl

-- .. and a RELEASE of the flag with an acquire fence.
pub release_and_fence : options C11 zeros (fence 1 Acquire ∷ read 1 Relaxed y 1 1 ∷ sent NotAtomic Release) 1 x NotAtomic ≡ 1 ∷ []
unfolding happens_before is_coherent is_seq_cst_ordered meets_axioms options
release_and_fence = refl
