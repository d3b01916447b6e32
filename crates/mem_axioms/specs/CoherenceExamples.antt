-- Coherence: reads of one cell do not go back. Clauses are of ISO/IEC 14882:2020, 6.9.2 (the four coherence rules).
use Rattle.std.specs.Prelude.{◌≡◌, true, false, List, [], ◌∷◌, refl}
use Rattle.mu_base.specs.declared.order.Order.{Order}
use Rattle.mu_base.specs.declared.order.Order.TheVariants.{NotAtomic, Relaxed, Acquire, Release}
use Rattle.mem_axioms.specs.HappensBefore.{happens_before}
use Rattle.mem_axioms.specs.Axioms.{is_coherent, is_seq_cst_ordered, meets_axioms}
use Rattle.mem_axioms.specs.Choices.{options}
use Rattle.mem_axioms.specs.Floor.{floor}
use Rattle.mem_axioms.specs.ExampleNames.{x, y, z, zeros, read, write}
use Rattle.mem_axioms.specs.declared.types.Rule.TheVariants.{C11}
use Rattle.mem_axioms.specs.declared.types.Event.{Event}

-- Read-read: a thread that read the new value does not read the old one.
pub read_read : options C11 zeros (read 1 Relaxed x 1 1 ∷ write 0 Relaxed x 1 1 ∷ []) 1 x Relaxed ≡ 1 ∷ []
unfolding happens_before is_coherent is_seq_cst_ordered meets_axioms options
read_read = refl

-- Another thread may.
pub another_thread_may : options C11 zeros (read 1 Relaxed x 1 1 ∷ write 0 Relaxed x 1 1 ∷ []) 2 x Relaxed ≡ 1 ∷ 0 ∷ []
unfolding happens_before is_coherent is_seq_cst_ordered meets_axioms options
another_thread_may = refl

-- Write-read: a thread reads its own write, or a newer one.
pub write_read_own : options C11 zeros (write 1 Relaxed x 2 2 ∷ write 0 Relaxed x 1 1 ∷ []) 1 x Relaxed ≡ 2 ∷ []
unfolding happens_before is_coherent is_seq_cst_ordered meets_axioms options
write_read_own = refl

-- Thread 0 wrote first, so it may read either, and not the initial value.
pub write_read_newer : options C11 zeros (write 1 Relaxed x 2 2 ∷ write 0 Relaxed x 1 1 ∷ []) 0 x Relaxed ≡ 2 ∷ 1 ∷ []
unfolding happens_before is_coherent is_seq_cst_ordered meets_axioms options
write_read_newer = refl

-- A log in which a read goes back does not meet the axioms.
pub reading_back_breaks_the_axioms : meets_axioms C11 zeros (read 1 Relaxed x 0 0 ∷ read 1 Relaxed x 1 1 ∷ write 0 Relaxed x 1 1 ∷ []) ≡ false
unfolding happens_before is_coherent is_seq_cst_ordered meets_axioms
reading_back_breaks_the_axioms = refl

-- Write to read: thread 0 writes x, thread 1 reads it and writes y, thread 2 reads y.
abbrev passed_on : Order → Order → List Event
passed_on order order' = read 2 order' y 1 1 ∷ write 1 order y 1 1 ∷ read 1 Relaxed x 1 1 ∷ write 0 Relaxed x 1 1 ∷ []

-- Write-to-read causality with RELEASE and ACQUIRE: forbidden. Thread 1's read of x happens before that of thread 2.
pub write_to_read_causality : options C11 zeros (passed_on Release Acquire) 2 x Relaxed ≡ 1 ∷ []
unfolding happens_before is_coherent is_seq_cst_ordered meets_axioms options
write_to_read_causality = refl

-- RELAXED: allowed.
pub relaxed_causality : options C11 zeros (passed_on Relaxed Relaxed) 2 x Relaxed ≡ 1 ∷ 0 ∷ []
unfolding happens_before is_coherent is_seq_cst_ordered meets_axioms options
relaxed_causality = refl

-- The floor of that read is the position that thread 1 read ..
pub floor_of_causality : floor C11 (passed_on Release Acquire) 2 x Relaxed ≡ 1
unfolding happens_before floor
floor_of_causality = refl

-- .. and 0 where nothing synchronizes.
pub floor_of_relaxed_causality : floor C11 (passed_on Relaxed Relaxed) 2 x Relaxed ≡ 0
unfolding happens_before floor
floor_of_relaxed_causality = refl

-- Chains of synchronization: x is handed from thread to thread by flags.
abbrev chained : List Event
chained =
    read 2 Acquire z 1 1 ∷ write 1 Release z 1 1 ∷ read 1 Acquire y 1 1 ∷ write 0 Release y 1 1 ∷ write 0 NotAtomic x 1 40 ∷ []

-- Happens-before is transitive: what thread 0 released to thread 1, thread 1 releases to thread 2.
pub happens_before_is_transitive : options C11 zeros chained 2 x NotAtomic ≡ 1 ∷ []
unfolding happens_before is_coherent is_seq_cst_ordered meets_axioms options
happens_before_is_transitive = refl

-- The first event happens before the last ..
pub from_the_first_to_the_last : happens_before C11 chained 0 4 ≡ true
unfolding happens_before
from_the_first_to_the_last = refl

-- .. and not the other way round.
pub and_not_back : happens_before C11 chained 4 0 ≡ false
unfolding happens_before
and_not_back = refl
