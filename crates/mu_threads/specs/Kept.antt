-- How the threads are kept, beside what is seen of them.
use Rattle.std.specs.Prelude.{◌≡◌, ℕ, ◌≤◌, Bool, true, false, List, Option, Some, None, length}
use Rattle.mu_threads.specs.Threads.{runnable_from}
use Rattle.mu_threads.specs.declared.state.ThreadState.{ThreadState}
use Rattle.mu_threads.specs.declared.state.ThreadState.TheVariants.{Runs, Waits, Ended}

-- whether a thread is there and runs
abbrev pub is_running : Option ThreadState → Bool
is_running None = false
is_running (Some Runs) = true
is_running (Some Waits) = false
is_running (Some Ended) = false

-- the list of the threads that run is right, each thread has a place for its stack, and there is room for 64 threads
pub record IsSound (states : List ThreadState) (stacks : ℕ) (runnable : List ℕ) (states_room stacks_room runnable_room : ℕ) : Type 0 where
  pub listed : runnable ≡ runnable_from 0 states
  pub few : length states ≤ 64
  pub even : stacks ≡ length states
  pub states_fit : 64 ≤ states_room
  pub stacks_fit : 64 ≤ stacks_room
  pub runnable_fit : 64 ≤ runnable_room
