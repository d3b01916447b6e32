-- The options of a comparison: thread 1 compares x, which thread 0 has set from 0 to 1 (ISO/IEC 9899:2011, 7.17.7.4).
use Rattle.std.specs.Prelude.{◌≡◌, ℕ, true, false, List, [], ◌∷◌, refl}
use Rattle.mu_base.specs.declared.order.Order.TheVariants.{Relaxed, SeqCst}
use Rattle.mem_axioms.specs.HappensBefore.{happens_before}
use Rattle.mem_axioms.specs.Axioms.{is_coherent, is_seq_cst_ordered, meets_axioms}
use Rattle.mem_axioms.specs.Choices.{options, choices}
use Rattle.mem_axioms.specs.ExampleNames.{x, by, number, zeros, write}
use Rattle.mem_axioms.specs.declared.types.Rule.TheVariants.{C11}
use Rattle.mem_axioms.specs.declared.types.Kind.TheVariants.{NewStack, NewThread, Enter}
use Rattle.mem_axioms.specs.declared.types.Event.{Event}
use Rattle.mem_axioms.specs.declared.types.Wanted.TheVariants.{Load, Swap, Compare}
use Rattle.mem_axioms.specs.declared.types.Chosen.{Chosen}

abbrev set : List Event
set = write 0 Relaxed x 1 1 ∷ by 1 (Enter 1) ∷ by 0 (NewThread 1) ∷ by 0 (NewStack 1) ∷ []

-- it succeeded at, or failed on, that position with that number
abbrev success : ℕ → ℕ → Chosen
success position n = record { position = position; value = number n; success = true }

abbrev failure : ℕ → ℕ → Chosen
failure position n = record { position = position; value = number n; success = false }

-- A weak comparison with 0 fails on the newest value, or on the older equal one (a spurious failure).
pub weak_may_fail_on_an_older_equal_value : choices C11 zeros set 1 x (Compare Relaxed Relaxed (number 0) true) ≡ failure 1 1 ∷ failure 0 0 ∷ []
unfolding happens_before is_coherent is_seq_cst_ordered meets_axioms options choices
weak_may_fail_on_an_older_equal_value = refl

-- A strong one does not fail on an equal value.
pub strong_may_not : choices C11 zeros set 1 x (Compare Relaxed Relaxed (number 0) false) ≡ failure 1 1 ∷ []
unfolding happens_before is_coherent is_seq_cst_ordered meets_axioms options choices
strong_may_not = refl

-- A strong comparison with 1 succeeds at the newest value, or fails on the older one, which differs.
pub success_comes_first : choices C11 zeros set 1 x (Compare Relaxed Relaxed (number 1) false) ≡ success 1 1 ∷ failure 0 0 ∷ []
unfolding happens_before is_coherent is_seq_cst_ordered meets_axioms options choices
success_comes_first = refl

-- A weak one may fail on the newest value too.
pub weak_may_fail_on_the_newest_too : choices C11 zeros set 1 x (Compare Relaxed Relaxed (number 1) true) ≡ success 1 1 ∷ failure 1 1 ∷ failure 0 0 ∷ []
unfolding happens_before is_coherent is_seq_cst_ordered meets_axioms options choices
weak_may_fail_on_the_newest_too = refl

-- The order of failure decides which values a failure may read.
pub failure_order_decides : choices C11 zeros (write 0 SeqCst x 1 1 ∷ []) 1 x (Compare Relaxed SeqCst (number 0) true) ≡ failure 1 1 ∷ []
unfolding happens_before is_coherent is_seq_cst_ordered meets_axioms options choices
failure_order_decides = refl

-- A load changes nothing.
pub load_of_the_same : choices C11 zeros set 1 x (Load Relaxed) ≡ failure 1 1 ∷ failure 0 0 ∷ []
unfolding happens_before is_coherent is_seq_cst_ordered meets_axioms options choices
load_of_the_same = refl

-- A swap takes the newest value alone.
pub swap_of_the_same : choices C11 zeros set 1 x Swap ≡ success 1 1 ∷ []
unfolding happens_before is_coherent is_seq_cst_ordered meets_axioms options choices
swap_of_the_same = refl
