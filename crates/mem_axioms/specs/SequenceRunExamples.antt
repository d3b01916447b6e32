-- Release sequences in two logs of whole runs, with the races that they decide.
use Rattle.std.specs.Prelude.{◌≡◌, true, List, [], ◌∷◌, Some, None, refl}
use Rattle.mu_base.specs.declared.order.Order.TheVariants.{NotAtomic, Relaxed, Acquire, Release}
use Rattle.mem_axioms.specs.HappensBefore.{happens_before}
use Rattle.mem_axioms.specs.Axioms.{is_coherent, is_seq_cst_ordered, meets_axioms}
use Rattle.mem_axioms.specs.Races.{race}
use Rattle.mem_axioms.specs.Choices.{options, choices}
use Rattle.mem_axioms.specs.ExampleNames.{x, y, by, number, zeros, read, write, update}
use Rattle.mem_axioms.specs.declared.types.Rule.TheVariants.{C11, Rmw}
use Rattle.mem_axioms.specs.declared.types.Kind.TheVariants.{NewStack, NewThread, Enter}
use Rattle.mem_axioms.specs.declared.types.Event.{Event}
use Rattle.mem_axioms.specs.declared.types.Wanted.TheVariants.{Swap}

-- The released flag y is updated by thread 1 and then acquired by thread 2.
abbrev handed_on : List Event
handed_on =
    read 2 Acquire y 2 2 ∷ update 1 Relaxed y 2 2 ∷ write 0 Release y 1 1 ∷ write 0 NotAtomic x 1 40
    ∷ by 2 (Enter 2) ∷ by 0 (NewThread 2) ∷ by 1 (Enter 1) ∷ by 0 (NewThread 1) ∷ by 0 (NewStack 2) ∷ by 0 (NewStack 1) ∷ []

-- The update goes on the sequence, so the data is known.
pub data_passes_an_update : options C11 zeros handed_on 2 x NotAtomic ≡ 1 ∷ []
unfolding happens_before is_coherent is_seq_cst_ordered meets_axioms options
data_passes_an_update = refl

-- It does not race either ..
pub and_does_not_race : race C11 handed_on (read 2 NotAtomic x 1 40) ≡ None
unfolding happens_before race
and_does_not_race = refl

-- .. under neither rule.
pub under_rmw_neither : race Rmw handed_on (read 2 NotAtomic x 1 40) ≡ None
unfolding happens_before race
under_rmw_neither = refl

-- An update has one option, the newest position.
pub the_update_takes_the_newest : choices C11 zeros (write 0 Release y 1 1 ∷ []) 1 y Swap ≡ (record { position = 1; value = number 1; success = true }) ∷ []
unfolding happens_before is_coherent is_seq_cst_ordered meets_axioms options choices
the_update_takes_the_newest = refl

-- Thread 0 releases the flag y and writes it again with RELAXED order; thread 1 acquires the second write.
abbrev written_again : List Event
written_again =
    read 1 Acquire y 2 2 ∷ write 0 Relaxed y 2 2 ∷ write 0 Release y 1 1 ∷ write 0 NotAtomic x 1 40
    ∷ by 1 (Enter 1) ∷ by 0 (NewThread 1) ∷ by 0 (NewStack 1) ∷ []

-- Under C11 the own RELAXED write goes on the sequence: the data is known ..
pub own_write_goes_on_under_c11 : options C11 zeros written_again 1 x NotAtomic ≡ 1 ∷ []
unfolding happens_before is_coherent is_seq_cst_ordered meets_axioms options
own_write_goes_on_under_c11 = refl

-- .. and does not race.
pub so_the_data_does_not_race : race C11 written_again (read 1 NotAtomic x 1 40) ≡ None
unfolding happens_before race
so_the_data_does_not_race = refl

-- Under Rmw it ends the sequence: the data may be old ..
pub own_write_ends_it_under_rmw : options Rmw zeros written_again 1 x NotAtomic ≡ 1 ∷ 0 ∷ []
unfolding happens_before is_coherent is_seq_cst_ordered meets_axioms options
own_write_ends_it_under_rmw = refl

-- .. and races with its write, event 3.
pub so_the_data_races : race Rmw written_again (read 1 NotAtomic x 1 40) ≡ Some 3
unfolding happens_before race
so_the_data_races = refl
