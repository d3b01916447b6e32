-- Which accesses race (ISO/IEC 9899:2011, 5.1.2.4: two conflicting actions of two threads, one of them not atomic, neither of
-- which happens before the other). No event of these logs synchronizes with another unless a comment says so.
use Rattle.std.specs.Prelude.{◌≡◌, [], ◌∷◌, Some, None, true, false, refl}
use Rattle.mu_base.specs.declared.order.Order.TheVariants.{NotAtomic, Relaxed, Acquire, Release, SeqCst}
use Rattle.mem_axioms.specs.HappensBefore.{happens_before}
use Rattle.mem_axioms.specs.Races.{race, is_race_free}
use Rattle.mem_axioms.specs.ExampleNames.{x, y, read, write, update, fence}
use Rattle.mem_axioms.specs.declared.types.Rule.TheVariants.{C11}

-- A write and a read of two threads.
pub write_then_read : race C11 (write 0 NotAtomic x 1 1 ∷ []) (read 1 NotAtomic x 1 1) ≡ Some 0
unfolding happens_before race
write_then_read = refl

-- A read and a write.
pub read_then_write : race C11 (read 0 NotAtomic x 0 0 ∷ []) (write 1 NotAtomic x 1 1) ≡ Some 0
unfolding happens_before race
read_then_write = refl

-- A NOT_ATOMIC read and an atomic update.
pub read_then_update : race C11 (read 0 NotAtomic x 0 0 ∷ []) (update 1 Relaxed x 1 1) ≡ Some 0
unfolding happens_before race
read_then_update = refl

-- Two reads do not race ..
pub two_reads : race C11 (read 0 NotAtomic x 0 0 ∷ []) (read 1 NotAtomic x 0 0) ≡ None
unfolding happens_before race
two_reads = refl

-- .. nor two atomic accesses ..
pub two_atomics : race C11 (write 0 Relaxed x 1 1 ∷ []) (write 1 Relaxed x 2 2) ≡ None
unfolding happens_before race
two_atomics = refl

-- .. nor accesses of one thread ..
pub one_thread : race C11 (write 0 NotAtomic x 1 1 ∷ []) (write 0 NotAtomic x 2 2) ≡ None
unfolding happens_before race
one_thread = refl

-- .. nor of two cells.
pub two_cells : race C11 (write 0 NotAtomic x 1 1 ∷ []) (write 1 NotAtomic y 1 1) ≡ None
unfolding happens_before race
two_cells = refl

-- One atomic side does not help.
pub atomic_read_of_a_plain_write : race C11 (write 0 NotAtomic x 1 1 ∷ []) (read 1 SeqCst x 1 1) ≡ Some 0
unfolding happens_before race
atomic_read_of_a_plain_write = refl

-- Whichever side it is.
pub plain_read_of_an_atomic_write : race C11 (write 0 SeqCst x 1 1 ∷ []) (read 1 NotAtomic x 1 1) ≡ Some 0
unfolding happens_before race
plain_read_of_an_atomic_write = refl

-- The least event that races is named.
pub least_of_two : race C11 (write 2 NotAtomic x 2 2 ∷ read 0 NotAtomic x 0 0 ∷ read 0 NotAtomic y 0 0 ∷ []) (write 1 NotAtomic x 3 3) ≡ Some 1
unfolding happens_before race
least_of_two = refl

-- The order of SEQ_CST events gives no happens-before: fences without a read between them ..
pub seq_cst_order_is_no_happens_before : race C11 (fence 1 SeqCst ∷ fence 0 SeqCst ∷ write 0 NotAtomic x 1 1 ∷ []) (read 1 NotAtomic x 1 1) ≡ Some 0
unfolding happens_before race
seq_cst_order_is_no_happens_before = refl

-- .. or SEQ_CST reads.
pub nor_of_accesses : race C11 (read 1 SeqCst y 0 0 ∷ read 0 SeqCst y 0 0 ∷ write 0 NotAtomic x 1 1 ∷ []) (read 1 NotAtomic x 1 1) ≡ Some 0
unfolding happens_before race
nor_of_accesses = refl

-- What the new event itself acquires counts: it reads the released position ..
pub own_acquire_counts : race C11 (write 0 Release x 2 2 ∷ write 0 NotAtomic x 1 1 ∷ []) (read 1 Acquire x 2 2) ≡ None
unfolding happens_before race
own_acquire_counts = refl

-- .. and not if it reads another ..
pub own_acquire_of_another_position : race C11 (write 0 Release x 2 2 ∷ write 0 NotAtomic x 1 1 ∷ []) (read 1 Acquire x 1 1) ≡ Some 0
unfolding happens_before race
own_acquire_of_another_position = refl

-- .. or with a RELAXED read.
pub own_relaxed_read : race C11 (write 0 Release x 2 2 ∷ write 0 NotAtomic x 1 1 ∷ []) (read 1 Relaxed x 2 2) ≡ Some 0
unfolding happens_before race
own_relaxed_read = refl

-- A log without races ..
pub log_without_races : is_race_free C11 (read 1 Acquire x 2 2 ∷ write 0 Release x 2 2 ∷ write 0 NotAtomic x 1 1 ∷ []) ≡ true
unfolding happens_before race
log_without_races = refl

-- .. and one with a race among its earlier events.
pub log_with_a_race : is_race_free C11 (fence 0 SeqCst ∷ read 1 Relaxed x 2 2 ∷ write 0 Release x 2 2 ∷ write 0 NotAtomic x 1 1 ∷ []) ≡ false
unfolding happens_before race
log_with_a_race = refl
