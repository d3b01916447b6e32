-- Worked examples: the verdicts on some logs, each written newest event first.
use Rattle.std.specs.Prelude.{◌≡◌, [], ◌∷◌, refl}
use Rattle.mu_base.specs.declared.order.Order.TheVariants.{NotAtomic, Relaxed, Acquire, Release, SeqCst}
use Rattle.mem_axioms.specs.HappensBefore.{happens_before}
use Rattle.mem_axioms.specs.Races.{race}
use Rattle.mem_axioms.specs.ExampleNames.{x, y, by, read, write, update, fence}
use Rattle.mem_axioms.specs.declared.types.Rule.TheVariants.{C11}
use Rattle.mem_axioms.specs.declared.types.Kind.TheVariants.{NewThread}
use Rattle.verdicts.specs.Verdicts.{verdict, next_verdict}
use Rattle.verdicts.specs.declared.types.Verdict.TheVariants.{Yes, Form, Axiom1, Axiom3, Race}

-- a message is passed: the write of x happens before the read of x
message_passing : verdict C11 (read 1 NotAtomic x 1 40 ∷ read 1 Acquire y 1 1 ∷ write 0 Release y 1 1 ∷ write 0 NotAtomic x 1 40 ∷ by 0 (NewThread 1) ∷ []) ≡ Yes 5
unfolding happens_before race next_verdict
message_passing = refl

-- the same, but the read of x passes over the write
reads_an_older_position : verdict C11 (read 1 NotAtomic x 0 0 ∷ read 1 Acquire y 1 1 ∷ write 0 Release y 1 1 ∷ write 0 NotAtomic x 1 40 ∷ by 0 (NewThread 1) ∷ []) ≡ Axiom1 1 4
unfolding happens_before race next_verdict
reads_an_older_position = refl

-- Read 3 of y passes over write 2, so by axiom 3 it must come before write 2. Both are SEQ_CST, and it does not. Event 4 is judged no more.
store_buffering : verdict C11 (read 1 SeqCst x 0 0 ∷ read 0 SeqCst y 0 0 ∷ write 1 SeqCst y 1 1 ∷ write 0 SeqCst x 1 1 ∷ by 0 (NewThread 1) ∷ []) ≡ Axiom3 3 2
unfolding happens_before race next_verdict
store_buffering = refl

-- Read 5 of x passes over write 1. So fence 4, which happens before the read, must come before fence 2, which the write happens before.
store_buffering_by_fences : verdict C11 (read 1 Relaxed x 0 0 ∷ fence 1 SeqCst ∷ write 1 Relaxed y 1 1 ∷ fence 0 SeqCst ∷ write 0 Relaxed x 1 1 ∷ by 0 (NewThread 1) ∷ []) ≡ Axiom3 4 2
unfolding happens_before race next_verdict
store_buffering_by_fences = refl

racing : verdict C11 (read 1 Relaxed x 1 5 ∷ write 0 NotAtomic x 1 5 ∷ by 0 (NewThread 1) ∷ []) ≡ Race 1 2
unfolding happens_before race next_verdict
racing = refl

-- ---- the form

skips_a_position : verdict C11 (write 0 Relaxed x 2 5 ∷ []) ≡ Form 0
unfolding happens_before race next_verdict
skips_a_position = refl

reads_no_position : verdict C11 (read 0 Relaxed x 1 5 ∷ []) ≡ Form 0
unfolding happens_before race next_verdict
reads_no_position = refl

reads_another_value : verdict C11 (read 0 Relaxed x 1 6 ∷ write 0 Relaxed x 1 5 ∷ []) ≡ Form 1
unfolding happens_before race next_verdict
reads_another_value = refl

-- the initial scalar of a cell is not known, but it is one
has_two_initial_values : verdict C11 (read 0 Relaxed x 0 6 ∷ read 0 Relaxed x 0 5 ∷ []) ≡ Form 1
unfolding happens_before race next_verdict
has_two_initial_values = refl

updates_position_0 : verdict C11 (update 0 Relaxed x 0 5 ∷ []) ≡ Form 0
unfolding happens_before race next_verdict
updates_position_0 = refl

-- ---- the first event at which something fails decides, whatever comes later

stays : verdict C11 (write 0 Relaxed y 7 1 ∷ read 1 Relaxed x 1 5 ∷ write 0 NotAtomic x 1 5 ∷ by 0 (NewThread 1) ∷ []) ≡ Race 1 2
unfolding happens_before race next_verdict
stays = refl
