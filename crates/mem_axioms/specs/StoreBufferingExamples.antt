-- Store buffering: thread 0 writes x and reads y, thread 1 writes y and reads x. Is 0 read twice?
-- Clauses are of ISO/IEC 14882:2020, 31.4 (order of SEQ_CST) and 6.9.2 (happens-before, coherence).
use Rattle.std.specs.Prelude.{◌≡◌, List, [], ◌∷◌, refl}
use Rattle.mu_base.specs.declared.order.Order.{Order}
use Rattle.mu_base.specs.declared.order.Order.TheVariants.{Relaxed, Acquire, Release, AcqRel, SeqCst}
use Rattle.mem_axioms.specs.HappensBefore.{happens_before}
use Rattle.mem_axioms.specs.Axioms.{is_coherent, is_seq_cst_ordered, meets_axioms}
use Rattle.mem_axioms.specs.Choices.{options}
use Rattle.mem_axioms.specs.ExampleNames.{x, y, by, zeros, read, write, fence}
use Rattle.mem_axioms.specs.declared.types.Rule.TheVariants.{C11}
use Rattle.mem_axioms.specs.declared.types.Kind.TheVariants.{NewStack, NewThread, Enter}
use Rattle.mem_axioms.specs.declared.types.Event.{Event}

abbrev started : List Event
started = by 1 (Enter 1) ∷ by 0 (NewThread 1) ∷ by 0 (NewStack 1) ∷ []

-- both threads wrote, with that order
abbrev stored : Order → List Event
stored order = write 1 order y 1 1 ∷ write 0 order x 1 1 ∷ started

-- RELAXED: allowed. Neither write happens before the read of the other thread, so no clause excludes the initial value.
pub both_may_read_the_old_value : options C11 zeros (stored Relaxed) 0 y Relaxed ≡ 1 ∷ 0 ∷ []
unfolding happens_before is_coherent is_seq_cst_ordered meets_axioms options
both_may_read_the_old_value = refl

-- The second thread reads the old value after the first has.
pub so_may_the_second : options C11 zeros (read 0 Relaxed y 0 0 ∷ stored Relaxed) 1 x Relaxed ≡ 1 ∷ 0 ∷ []
unfolding happens_before is_coherent is_seq_cst_ordered meets_axioms options
so_may_the_second = refl

-- RELEASE and ACQUIRE: allowed. No read takes what the other thread released.
pub release_and_acquire_do_not_help : options C11 zeros (read 0 Acquire y 0 0 ∷ stored Release) 1 x Acquire ≡ 1 ∷ 0 ∷ []
unfolding happens_before is_coherent is_seq_cst_ordered meets_axioms options
release_and_acquire_do_not_help = refl

-- SEQ_CST: forbidden. A read of 0 is coherence-ordered before the write of y, which stands before the read in S.
pub seq_cst_forbids_it : options C11 zeros (stored SeqCst) 0 y SeqCst ≡ 1 ∷ []
unfolding happens_before is_coherent is_seq_cst_ordered meets_axioms options
seq_cst_forbids_it = refl

-- One of the two may still read 0, where it does so before the other writes ..
pub seq_cst_first_reads_old : options C11 zeros (write 0 SeqCst x 1 1 ∷ started) 0 y SeqCst ≡ 0 ∷ []
unfolding happens_before is_coherent is_seq_cst_ordered meets_axioms options
seq_cst_first_reads_old = refl

-- .. and the other then reads 1.
pub seq_cst_second_reads_new : options C11 zeros (write 1 SeqCst y 1 1 ∷ read 0 SeqCst y 0 0 ∷ write 0 SeqCst x 1 1 ∷ started) 1 x SeqCst ≡ 1 ∷ []
unfolding happens_before is_coherent is_seq_cst_ordered meets_axioms options
seq_cst_second_reads_new = refl

-- a fence of that order between the write and the read of each thread; thread 0 has read the old value
abbrev fenced : Order → List Event
fenced order = fence 1 order ∷ write 1 Relaxed y 1 1 ∷ read 0 Relaxed y 0 0 ∷ fence 0 order ∷ write 0 Relaxed x 1 1 ∷ started

-- SEQ_CST fences: forbidden. The write of x happens before the first fence, which stands before the second in S.
pub seq_cst_fences_forbid_it : options C11 zeros (fenced SeqCst) 1 x Relaxed ≡ 1 ∷ []
unfolding happens_before is_coherent is_seq_cst_ordered meets_axioms options
seq_cst_fences_forbid_it = refl

-- ACQ_REL fences: allowed. Nothing that they released was read.
pub weaker_fences_do_not : options C11 zeros (fenced AcqRel) 1 x Relaxed ≡ 1 ∷ 0 ∷ []
unfolding happens_before is_coherent is_seq_cst_ordered meets_axioms options
weaker_fences_do_not = refl

-- both fences before both reads
abbrev both_fenced : List Event
both_fenced = fence 1 SeqCst ∷ fence 0 SeqCst ∷ write 1 Relaxed y 1 1 ∷ write 0 Relaxed x 1 1 ∷ started

-- The thread of the first fence may read the old value ..
pub first_fence_allows_the_old : options C11 zeros both_fenced 0 y Relaxed ≡ 1 ∷ 0 ∷ []
unfolding happens_before is_coherent is_seq_cst_ordered meets_axioms options
first_fence_allows_the_old = refl

-- .. and that of the second may not.
pub second_fence_does_not : options C11 zeros (read 0 Relaxed y 0 0 ∷ both_fenced) 1 x Relaxed ≡ 1 ∷ []
unfolding happens_before is_coherent is_seq_cst_ordered meets_axioms options
second_fence_does_not = refl

-- a SEQ_CST fence in thread 0, SEQ_CST accesses in thread 1
abbrev mixed : List Event
mixed = write 1 SeqCst y 1 1 ∷ fence 0 SeqCst ∷ write 0 Relaxed x 1 1 ∷ started

-- A fence on one side, SEQ_CST accesses on the other: 0 and 0 are forbidden. The side of the fence may read 0, as its fence
-- stands before the write in S ..
pub fence_side_may_read_old : options C11 zeros mixed 0 y Relaxed ≡ 1 ∷ 0 ∷ []
unfolding happens_before is_coherent is_seq_cst_ordered meets_axioms options
fence_side_may_read_old = refl

-- .. and then the SEQ_CST read has 1, since the write of x happens before a fence that stands before the read in S.
pub access_side_must_read_new : options C11 zeros (read 0 Relaxed y 0 0 ∷ mixed) 1 x SeqCst ≡ 1 ∷ []
unfolding happens_before is_coherent is_seq_cst_ordered meets_axioms options
access_side_must_read_new = refl

-- With a RELAXED read there they are allowed: that read is neither in S nor after a fence.
pub relaxed_access_side_may_read_old : options C11 zeros (read 0 Relaxed y 0 0 ∷ mixed) 1 x Relaxed ≡ 1 ∷ 0 ∷ []
unfolding happens_before is_coherent is_seq_cst_ordered meets_axioms options
relaxed_access_side_may_read_old = refl

-- A SEQ_CST write that stands before the fence in S is read after it.
pub write_before_the_fence_is_read : options C11 zeros (fence 0 SeqCst ∷ write 1 SeqCst y 1 1 ∷ write 0 Relaxed x 1 1 ∷ started) 0 y Relaxed ≡ 1 ∷ []
unfolding happens_before is_coherent is_seq_cst_ordered meets_axioms options
write_before_the_fence_is_read = refl
