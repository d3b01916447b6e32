-- Where a fence must stand, and which stack, thread and floor it is about. Clauses are of ISO/IEC 9899:2011, 7.17.4, and of
-- ISO/IEC 14882:2020, 31.4.
use Rattle.std.specs.Prelude.{◌≡◌, [], ◌∷◌, refl}
use Rattle.mu_base.specs.declared.order.Order.TheVariants.{NotAtomic, Relaxed, Acquire, Release, SeqCst}
use Rattle.mem_axioms.specs.HappensBefore.{happens_before}
use Rattle.mem_axioms.specs.Axioms.{is_coherent, is_seq_cst_ordered, meets_axioms}
use Rattle.mem_axioms.specs.Choices.{options}
use Rattle.mem_axioms.specs.Floor.{floor}
use Rattle.mem_axioms.specs.ExampleNames.{x, y, by, zeros, read, write, update, fence}
use Rattle.mem_axioms.specs.declared.types.Rule.TheVariants.{C11}
use Rattle.mem_axioms.specs.declared.types.Kind.TheVariants.{NewStack, Leave, Enter}

-- A release fence after the flag releases nothing through it ..
pub release_fence_after_the_flag : options C11 zeros (read 1 Acquire y 1 1 ∷ fence 0 Release ∷ write 0 Relaxed y 1 1 ∷ write 0 NotAtomic x 1 40 ∷ []) 1 x NotAtomic ≡ 1 ∷ 0 ∷ []
unfolding happens_before is_coherent is_seq_cst_ordered meets_axioms options
release_fence_after_the_flag = refl

-- .. nor does one of another thread.
pub release_fence_of_another_thread : options C11 zeros (read 1 Acquire y 1 1 ∷ write 0 Relaxed y 1 1 ∷ fence 2 Release ∷ write 2 NotAtomic x 1 40 ∷ []) 1 x NotAtomic ≡ 1 ∷ 0 ∷ []
unfolding happens_before is_coherent is_seq_cst_ordered meets_axioms options
release_fence_of_another_thread = refl

-- A NOT_ATOMIC flag heads no release sequence, so a fence before it releases nothing.
pub release_fence_before_a_plain_flag : options C11 zeros (read 1 Acquire y 1 1 ∷ write 0 NotAtomic y 1 1 ∷ fence 0 Release ∷ write 0 NotAtomic x 1 40 ∷ []) 1 x NotAtomic ≡ 1 ∷ 0 ∷ []
unfolding happens_before is_coherent is_seq_cst_ordered meets_axioms options
release_fence_before_a_plain_flag = refl

-- An acquire fence before the read of the flag takes nothing from it ..
pub acquire_fence_before_the_read : options C11 zeros (read 1 Relaxed y 1 1 ∷ fence 1 Acquire ∷ write 0 Release y 1 1 ∷ write 0 NotAtomic x 1 40 ∷ []) 1 x NotAtomic ≡ 1 ∷ 0 ∷ []
unfolding happens_before is_coherent is_seq_cst_ordered meets_axioms options
acquire_fence_before_the_read = refl

-- .. nor does one of another thread take what this thread read.
pub acquire_fence_of_another_thread : options C11 zeros (fence 2 Acquire ∷ read 1 Relaxed y 1 1 ∷ write 0 Release y 1 1 ∷ write 0 NotAtomic x 1 40 ∷ []) 2 x NotAtomic ≡ 1 ∷ 0 ∷ []
unfolding happens_before is_coherent is_seq_cst_ordered meets_axioms options
acquire_fence_of_another_thread = refl

-- A NOT_ATOMIC read leaves nothing for a fence.
pub plain_read_before_an_acquire_fence : options C11 zeros (fence 1 Acquire ∷ read 1 NotAtomic y 1 1 ∷ write 0 Release y 1 1 ∷ write 0 NotAtomic x 1 40 ∷ []) 1 x NotAtomic ≡ 1 ∷ 0 ∷ []
unfolding happens_before is_coherent is_seq_cst_ordered meets_axioms options
plain_read_before_an_acquire_fence = refl

-- A RELAXED update does: it takes the position just under its own.
pub update_before_an_acquire_fence : options C11 zeros (fence 1 Acquire ∷ update 1 Relaxed y 2 2 ∷ write 0 Release y 1 1 ∷ write 0 NotAtomic x 1 40 ∷ []) 1 x NotAtomic ≡ 1 ∷ []
unfolding happens_before is_coherent is_seq_cst_ordered meets_axioms options
update_before_an_acquire_fence = refl

-- So does an update that is an acquire itself.
pub acquiring_update : options C11 zeros (update 1 Acquire y 2 2 ∷ write 0 Release y 1 1 ∷ write 0 NotAtomic x 1 40 ∷ []) 1 x NotAtomic ≡ 1 ∷ []
unfolding happens_before is_coherent is_seq_cst_ordered meets_axioms options
acquiring_update = refl

-- A write takes nothing, whatever its order.
pub write_is_no_acquire : options C11 zeros (write 1 SeqCst y 2 2 ∷ write 0 Release y 1 1 ∷ write 0 NotAtomic x 1 40 ∷ []) 1 x NotAtomic ≡ 1 ∷ 0 ∷ []
unfolding happens_before is_coherent is_seq_cst_ordered meets_axioms options
write_is_no_acquire = refl

-- A read releases nothing, whatever its order.
pub read_is_no_release : options C11 zeros (read 1 Acquire y 0 0 ∷ read 0 SeqCst y 0 0 ∷ write 0 NotAtomic x 1 40 ∷ []) 1 x NotAtomic ≡ 1 ∷ 0 ∷ []
unfolding happens_before is_coherent is_seq_cst_ordered meets_axioms options
read_is_no_release = refl

-- A SEQ_CST access is no fence: it puts neither the RELAXED write before it into S ..
pub access_after_a_relaxed_write : options C11 zeros (write 0 SeqCst y 1 1 ∷ write 0 Relaxed x 1 1 ∷ []) 1 x SeqCst ≡ 1 ∷ 0 ∷ []
unfolding happens_before is_coherent is_seq_cst_ordered meets_axioms options
access_after_a_relaxed_write = refl

-- .. nor the RELAXED read after it.
pub access_before_a_relaxed_read : options C11 zeros (read 1 SeqCst y 0 0 ∷ write 0 SeqCst x 1 1 ∷ []) 1 x Relaxed ≡ 1 ∷ 0 ∷ []
unfolding happens_before is_coherent is_seq_cst_ordered meets_axioms options
access_before_a_relaxed_read = refl

-- A stack that was made and never left goes on from its making.
pub making_of_a_stack_counts : options C11 zeros (by 1 (Enter 1) ∷ by 0 (NewStack 1) ∷ write 0 NotAtomic x 1 40 ∷ []) 1 x NotAtomic ≡ 1 ∷ []
unfolding happens_before is_coherent is_seq_cst_ordered meets_axioms options
making_of_a_stack_counts = refl

-- A stack goes on from its last leaving: thread 1 knows what thread 2 knew, and so what thread 0 knew.
pub last_leave_counts : options C11 zeros (by 1 (Enter 1) ∷ by 2 (Leave 1) ∷ by 2 (Enter 1) ∷ by 0 (Leave 1) ∷ write 0 NotAtomic x 1 40 ∷ []) 1 x NotAtomic ≡ 1 ∷ []
unfolding happens_before is_coherent is_seq_cst_ordered meets_axioms options
last_leave_counts = refl

-- An earlier leaving of it does not count ..
pub earlier_leave_does_not : options C11 zeros (by 1 (Enter 1) ∷ by 2 (Leave 1) ∷ by 0 (Leave 1) ∷ write 0 NotAtomic x 1 40 ∷ []) 1 x NotAtomic ≡ 1 ∷ 0 ∷ []
unfolding happens_before is_coherent is_seq_cst_ordered meets_axioms options
earlier_leave_does_not = refl

-- .. nor that of another stack.
pub leave_of_another_stack : options C11 zeros (by 1 (Enter 1) ∷ by 0 (Leave 2) ∷ write 0 NotAtomic x 1 40 ∷ []) 1 x NotAtomic ≡ 1 ∷ 0 ∷ []
unfolding happens_before is_coherent is_seq_cst_ordered meets_axioms options
leave_of_another_stack = refl

-- A SEQ_CST access raises the floor of a SEQ_CST load ..
pub floor_by_a_seq_cst_access : floor C11 (write 0 SeqCst x 1 1 ∷ []) 1 x SeqCst ≡ 1
unfolding happens_before floor
floor_by_a_seq_cst_access = refl

-- .. and of no other ..
pub no_floor_for_an_acquire : floor C11 (write 0 SeqCst x 1 1 ∷ []) 1 x Acquire ≡ 0
unfolding happens_before floor
no_floor_for_an_acquire = refl

-- .. a SEQ_CST read as well as a write ..
pub floor_by_a_seq_cst_read : floor C11 (read 2 SeqCst x 1 1 ∷ write 0 Relaxed x 1 1 ∷ []) 1 x SeqCst ≡ 1
unfolding happens_before floor
floor_by_a_seq_cst_read = refl

-- .. and where the thread knows a SEQ_CST fence, those before the fence.
pub floor_after_a_fence : floor C11 (write 0 SeqCst x 2 2 ∷ fence 1 SeqCst ∷ write 0 SeqCst x 1 1 ∷ []) 1 x Relaxed ≡ 1
unfolding happens_before floor
floor_after_a_fence = refl

-- The last fence that it knows counts ..
pub floor_by_the_last_fence : floor C11 (fence 1 SeqCst ∷ write 0 SeqCst x 2 2 ∷ fence 1 SeqCst ∷ write 0 SeqCst x 1 1 ∷ []) 1 x Relaxed ≡ 2
unfolding happens_before floor
floor_by_the_last_fence = refl

-- .. of whichever thread.
pub floor_by_a_fence_of_another_thread : floor C11 (read 1 Acquire y 1 1 ∷ write 2 Release y 1 1 ∷ fence 2 SeqCst ∷ write 0 SeqCst x 1 1 ∷ []) 1 x Relaxed ≡ 1
unfolding happens_before floor
floor_by_a_fence_of_another_thread = refl
