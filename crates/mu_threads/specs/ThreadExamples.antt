-- Which threads may make the next step: computed.
use Rattle.std.specs.Prelude.{◌≡◌, [], ◌∷◌, None, refl}
use Rattle.mu_threads.specs.Threads.{Threads, runnable_of, with_state}
use Rattle.mu_threads.specs.declared.state.ThreadState.TheVariants.{Runs, Waits, Ended}

-- threads 0 and 3 run, thread 1 waits, and thread 2 has ended
abbrev four_threads : Threads
four_threads = record { states = Runs ∷ Waits ∷ Ended ∷ Runs ∷ []; stacks = None ∷ None ∷ None ∷ None ∷ [] }

threads_that_run : runnable_of four_threads ≡ 0 ∷ 3 ∷ []
threads_that_run = refl

thread_1_is_woken : runnable_of (with_state four_threads 1 Runs) ≡ 0 ∷ 1 ∷ 3 ∷ []
thread_1_is_woken = refl

no_thread_runs : runnable_of (record { states = Waits ∷ Ended ∷ []; stacks = None ∷ None ∷ [] }) ≡ []
no_thread_runs = refl
