-- Independent reads of independent writes: threads 0 and 1 write x and y; thread 2 reads x, then y, thread 3 reads y, then x.
-- May they disagree about which write came first? Clauses are of ISO/IEC 14882:2020, 31.4.
use Rattle.std.specs.Prelude.{◌≡◌, false, List, [], ◌∷◌, refl}
use Rattle.mu_base.specs.declared.order.Order.{Order}
use Rattle.mu_base.specs.declared.order.Order.TheVariants.{Relaxed, Acquire, Release, AcqRel, SeqCst}
use Rattle.mem_axioms.specs.HappensBefore.{happens_before}
use Rattle.mem_axioms.specs.Axioms.{is_coherent, is_seq_cst_ordered, meets_axioms}
use Rattle.mem_axioms.specs.Choices.{options}
use Rattle.mem_axioms.specs.ExampleNames.{x, y, zeros, read, write, fence}
use Rattle.mem_axioms.specs.declared.types.Rule.TheVariants.{C11}
use Rattle.mem_axioms.specs.declared.types.Event.{Event}

-- x and y are written with the first order, and read with the second: thread 2 saw x alone, and thread 3 saw y so far
abbrev seen : Order → Order → List Event
seen order order' = read 3 order' y 1 1 ∷ read 2 order' y 0 0 ∷ read 2 order' x 1 1 ∷ write 1 order y 1 1 ∷ write 0 order x 1 1 ∷ []

-- RELEASE and ACQUIRE: allowed. The two writes are not ordered, and neither reader synchronizes with the other.
pub acquire_readers_may_disagree : options C11 zeros (seen Release Acquire) 3 x Acquire ≡ 1 ∷ 0 ∷ []
unfolding happens_before is_coherent is_seq_cst_ordered meets_axioms options
acquire_readers_may_disagree = refl

-- SEQ_CST reads of RELAXED writes: forbidden. A read of 0 is coherence-ordered before the read of 1 by thread 2, which
-- stands before it in S.
pub seq_cst_readers_agree : options C11 zeros (seen Relaxed SeqCst) 3 x SeqCst ≡ 1 ∷ []
unfolding happens_before is_coherent is_seq_cst_ordered meets_axioms options
seq_cst_readers_agree = refl

-- Where the last read is RELAXED it is not in S.
pub one_relaxed_read_suffices : options C11 zeros (seen Relaxed SeqCst) 3 x Relaxed ≡ 1 ∷ 0 ∷ []
unfolding happens_before is_coherent is_seq_cst_ordered meets_axioms options
one_relaxed_read_suffices = refl

-- All SEQ_CST: forbidden. Thread 2 read y before it was written.
pub seq_cst_all_through : options C11 zeros (read 3 SeqCst y 1 1 ∷ write 1 SeqCst y 1 1 ∷ read 2 SeqCst y 0 0 ∷ read 2 SeqCst x 1 1 ∷ write 0 SeqCst x 1 1 ∷ []) 3 x SeqCst ≡ 1 ∷ []
unfolding happens_before is_coherent is_seq_cst_ordered meets_axioms options
seq_cst_all_through = refl

-- Where it would have read 0 after that write the log breaks the axioms, whatever thread 3 reads.
pub old_value_after_the_write : meets_axioms C11 zeros (seen SeqCst SeqCst) ≡ false
unfolding happens_before is_coherent is_seq_cst_ordered meets_axioms
old_value_after_the_write = refl

-- RELAXED accesses, with a fence of that order between the two reads of each reader
abbrev fenced : Order → List Event
fenced order =
    fence 3 order ∷ read 3 Relaxed y 1 1 ∷ read 2 Relaxed y 0 0 ∷ fence 2 order ∷ read 2 Relaxed x 1 1
    ∷ write 1 Relaxed y 1 1 ∷ write 0 Relaxed x 1 1 ∷ []

-- SEQ_CST fences: forbidden. Thread 2's read of x happens before its fence, which stands before that of thread 3 in S.
pub seq_cst_fences_make_them_agree : options C11 zeros (fenced SeqCst) 3 x Relaxed ≡ 1 ∷ []
unfolding happens_before is_coherent is_seq_cst_ordered meets_axioms options
seq_cst_fences_make_them_agree = refl

-- ACQ_REL fences: allowed.
pub weaker_fences_do_not : options C11 zeros (fenced AcqRel) 3 x Relaxed ≡ 1 ∷ 0 ∷ []
unfolding happens_before is_coherent is_seq_cst_ordered meets_axioms options
weaker_fences_do_not = refl
