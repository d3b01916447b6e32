-- Release sequences: thread 0 writes the data x and releases the flag y at position 1; thread 1 acquires the flag at a later
-- position and reads the data. Which writes of the flag may stand between? Under C11 updates and the own thread's atomic
-- writes (ISO/IEC 9899:2011, 5.1.2.4); under Rmw updates alone (ISO/IEC 14882:2020, 6.9.2).
use Rattle.std.specs.Prelude.{◌≡◌, List, [], ◌∷◌, refl}
use Rattle.mu_base.specs.declared.order.Order.TheVariants.{NotAtomic, Relaxed, Acquire, Release, AcqRel}
use Rattle.mem_axioms.specs.HappensBefore.{happens_before}
use Rattle.mem_axioms.specs.Axioms.{is_coherent, is_seq_cst_ordered, meets_axioms}
use Rattle.mem_axioms.specs.Choices.{options}
use Rattle.mem_axioms.specs.ExampleNames.{x, y, zeros, read, write, update, fence}
use Rattle.mem_axioms.specs.declared.types.Rule.TheVariants.{C11, Rmw}
use Rattle.mem_axioms.specs.declared.types.Event.{Event}

abbrev sent : List Event
sent = write 0 Release y 1 1 ∷ write 0 NotAtomic x 1 40 ∷ []

-- A store of the own thread goes on under C11 ..
pub own_store_goes_on_under_c11 : options C11 zeros (read 1 Acquire y 2 2 ∷ write 0 Relaxed y 2 2 ∷ sent) 1 x NotAtomic ≡ 1 ∷ []
unfolding happens_before is_coherent is_seq_cst_ordered meets_axioms options
own_store_goes_on_under_c11 = refl

-- .. and ends the sequence under Rmw.
pub own_store_ends_it_under_rmw : options Rmw zeros (read 1 Acquire y 2 2 ∷ write 0 Relaxed y 2 2 ∷ sent) 1 x NotAtomic ≡ 1 ∷ 0 ∷ []
unfolding happens_before is_coherent is_seq_cst_ordered meets_axioms options
own_store_ends_it_under_rmw = refl

-- A store of another thread ends it under both.
pub other_store_ends_it_under_c11 : options C11 zeros (read 1 Acquire y 2 2 ∷ write 2 Relaxed y 2 2 ∷ sent) 1 x NotAtomic ≡ 1 ∷ 0 ∷ []
unfolding happens_before is_coherent is_seq_cst_ordered meets_axioms options
other_store_ends_it_under_c11 = refl

-- The same under Rmw.
pub other_store_ends_it_under_rmw : options Rmw zeros (read 1 Acquire y 2 2 ∷ write 2 Relaxed y 2 2 ∷ sent) 1 x NotAtomic ≡ 1 ∷ 0 ∷ []
unfolding happens_before is_coherent is_seq_cst_ordered meets_axioms options
other_store_ends_it_under_rmw = refl

-- A RELAXED update of another thread goes on under both.
pub update_goes_on_under_c11 : options C11 zeros (read 1 Acquire y 2 2 ∷ update 2 Relaxed y 2 2 ∷ sent) 1 x NotAtomic ≡ 1 ∷ []
unfolding happens_before is_coherent is_seq_cst_ordered meets_axioms options
update_goes_on_under_c11 = refl

-- The same under Rmw.
pub update_goes_on_under_rmw : options Rmw zeros (read 1 Acquire y 2 2 ∷ update 2 Relaxed y 2 2 ∷ sent) 1 x NotAtomic ≡ 1 ∷ []
unfolding happens_before is_coherent is_seq_cst_ordered meets_axioms options
update_goes_on_under_rmw = refl

-- An update, then a store of the head's thread: it goes on under C11 ..
pub update_then_head_store_under_c11 : options C11 zeros (read 1 Acquire y 3 3 ∷ write 0 Relaxed y 3 3 ∷ update 2 Relaxed y 2 2 ∷ sent) 1 x NotAtomic ≡ 1 ∷ []
unfolding happens_before is_coherent is_seq_cst_ordered meets_axioms options
update_then_head_store_under_c11 = refl

-- .. and not under Rmw.
pub update_then_head_store_under_rmw : options Rmw zeros (read 1 Acquire y 3 3 ∷ write 0 Relaxed y 3 3 ∷ update 2 Relaxed y 2 2 ∷ sent) 1 x NotAtomic ≡ 1 ∷ 0 ∷ []
unfolding happens_before is_coherent is_seq_cst_ordered meets_axioms options
update_then_head_store_under_rmw = refl

-- An update, then a store of the updating thread: it ends thread 0's sequence, and the update, being RELAXED, released nothing.
pub update_then_its_own_store_under_c11 : options C11 zeros (read 1 Acquire y 3 3 ∷ write 2 Relaxed y 3 3 ∷ update 2 Relaxed y 2 2 ∷ sent) 1 x NotAtomic ≡ 1 ∷ 0 ∷ []
unfolding happens_before is_coherent is_seq_cst_ordered meets_axioms options
update_then_its_own_store_under_c11 = refl

-- The same under Rmw.
pub update_then_its_own_store_under_rmw : options Rmw zeros (read 1 Acquire y 3 3 ∷ write 2 Relaxed y 3 3 ∷ update 2 Relaxed y 2 2 ∷ sent) 1 x NotAtomic ≡ 1 ∷ 0 ∷ []
unfolding happens_before is_coherent is_seq_cst_ordered meets_axioms options
update_then_its_own_store_under_rmw = refl

-- Where the update is ACQ_REL it heads a sequence of its own, on which the store goes on under C11 ..
pub releasing_update_heads_its_own_under_c11 : options C11 zeros (read 1 Acquire y 3 3 ∷ write 2 Relaxed y 3 3 ∷ update 2 AcqRel y 2 2 ∷ sent) 1 x NotAtomic ≡ 1 ∷ []
unfolding happens_before is_coherent is_seq_cst_ordered meets_axioms options
releasing_update_heads_its_own_under_c11 = refl

-- .. and not under Rmw.
pub releasing_update_heads_its_own_under_rmw : options Rmw zeros (read 1 Acquire y 3 3 ∷ write 2 Relaxed y 3 3 ∷ update 2 AcqRel y 2 2 ∷ sent) 1 x NotAtomic ≡ 1 ∷ 0 ∷ []
unfolding happens_before is_coherent is_seq_cst_ordered meets_axioms options
releasing_update_heads_its_own_under_rmw = refl

-- A NOT_ATOMIC write is in no release sequence, the own thread's neither.
pub not_atomic_write_ends_it : options C11 zeros (read 1 Acquire y 2 2 ∷ write 0 NotAtomic y 2 2 ∷ sent) 1 x NotAtomic ≡ 1 ∷ 0 ∷ []
unfolding happens_before is_coherent is_seq_cst_ordered meets_axioms options
not_atomic_write_ends_it = refl

-- A release fence gives what stands before it to the sequences of RELAXED writes after it.
pub fence_before_a_relaxed_head : options C11 zeros (read 1 Acquire y 2 2 ∷ update 2 Relaxed y 2 2 ∷ write 0 Relaxed y 1 1 ∷ fence 0 Release ∷ write 0 NotAtomic x 1 40 ∷ []) 1 x NotAtomic ≡ 1 ∷ []
unfolding happens_before is_coherent is_seq_cst_ordered meets_axioms options
fence_before_a_relaxed_head = refl

-- The last two under Rmw.
pub not_atomic_write_ends_it_under_rmw : options Rmw zeros (read 1 Acquire y 2 2 ∷ write 0 NotAtomic y 2 2 ∷ sent) 1 x NotAtomic ≡ 1 ∷ 0 ∷ []
unfolding happens_before is_coherent is_seq_cst_ordered meets_axioms options
not_atomic_write_ends_it_under_rmw = refl

pub fence_before_a_relaxed_head_under_rmw : options Rmw zeros (read 1 Acquire y 2 2 ∷ update 2 Relaxed y 2 2 ∷ write 0 Relaxed y 1 1 ∷ fence 0 Release ∷ write 0 NotAtomic x 1 40 ∷ []) 1 x NotAtomic ≡ 1 ∷ []
unfolding happens_before is_coherent is_seq_cst_ordered meets_axioms options
fence_before_a_relaxed_head_under_rmw = refl
