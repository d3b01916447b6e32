-- Outcomes that ISO/IEC 14882:2020 allows and this model leaves out, since the modifications of a cell stand in the order of
-- the run and S is the order of the log.
use Rattle.std.specs.Prelude.{◌≡◌, false, List, [], ◌∷◌, refl}
use Rattle.mu_base.specs.declared.order.Order.TheVariants.{Relaxed, Release, SeqCst}
use Rattle.mem_axioms.specs.HappensBefore.{happens_before}
use Rattle.mem_axioms.specs.Form.{has_form}
use Rattle.mem_axioms.specs.Axioms.{is_coherent, is_seq_cst_ordered, meets_axioms}
use Rattle.mem_axioms.specs.Choices.{options}
use Rattle.mem_axioms.specs.ExampleNames.{x, y, zeros, read, write, update}
use Rattle.mem_axioms.specs.declared.types.Rule.TheVariants.{C11}
use Rattle.mem_axioms.specs.declared.types.Event.{Event}

-- Load buffering: both threads read, then write what the other reads. The first read has nothing but the initial value ..
pub load_buffering_reads_the_initial_value : options C11 zeros [] 0 x Relaxed ≡ 0 ∷ []
unfolding happens_before is_coherent is_seq_cst_ordered meets_axioms options
load_buffering_reads_the_initial_value = refl

-- .. and a read before the write that it reads is no log.
pub read_before_its_write : has_form zeros (write 1 Relaxed x 1 1 ∷ write 0 Relaxed y 1 1 ∷ read 0 Relaxed x 1 1 ∷ []) ≡ false
read_before_its_write = refl

-- Z6.U: thread 0 writes x and releases y at 1, thread 1 updates y to 2 and later reads 3, thread 2 writes y at 3 and reads x.
-- The weak outcome is that thread 2 reads 0: it needs an S in which thread 2's events stand before the write of x.
abbrev z6_u : List Event
z6_u = read 1 Relaxed y 3 3 ∷ write 2 SeqCst y 3 3 ∷ update 1 SeqCst y 2 2 ∷ write 0 Release y 1 1 ∷ write 0 SeqCst x 1 1 ∷ []

pub weak_outcome_of_z6_u : options C11 zeros z6_u 2 x SeqCst ≡ 1 ∷ []
unfolding happens_before is_coherent is_seq_cst_ordered meets_axioms options
weak_outcome_of_z6_u = refl

-- Message passing with SEQ_CST data x and a RELAXED flag y: thread 1 has seen the flag, which synchronizes nothing. A SEQ_CST load of
-- the data reads 1 alone, as its write stands before it in S. That it reads 0 needs an S in which the load comes first.
abbrev flag_seen : List Event
flag_seen = read 1 Relaxed y 1 1 ∷ write 0 Relaxed y 1 1 ∷ write 0 SeqCst x 1 1 ∷ []

pub seq_cst_data_after_a_relaxed_flag : options C11 zeros flag_seen 1 x SeqCst ≡ 1 ∷ []
unfolding happens_before is_coherent is_seq_cst_ordered meets_axioms options
seq_cst_data_after_a_relaxed_flag = refl

-- A RELAXED load may read either.
pub relaxed_data_after_a_relaxed_flag : options C11 zeros flag_seen 1 x Relaxed ≡ 1 ∷ 0 ∷ []
unfolding happens_before is_coherent is_seq_cst_ordered meets_axioms options
relaxed_data_after_a_relaxed_flag = refl
