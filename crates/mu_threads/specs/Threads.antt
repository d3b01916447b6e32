-- What contracts see of the threads of a run, and which of them may make the next step.
use Rattle.std.specs.Prelude.{ℕ, ◌+◌, List, [], ◌∷◌, Option, Some, None, slice_get, slice_set}
use Rattle.stacks.specs.Stacks.{Bound}
use Rattle.mu_threads.specs.declared.state.ThreadState.{ThreadState}
use Rattle.mu_threads.specs.declared.state.ThreadState.TheVariants.{Runs, Waits, Ended}

-- The threads that were made, by number: the state of each, and its stack, which is not there where it was taken or has ended.
pub record Threads : Type 0 where
  pub states : List ThreadState
  pub stacks : List (Option Bound)

-- the numbers of the threads that run, in rising order, where the first of these has number n
abbrev pub runnable_from : ℕ → List ThreadState → List ℕ
runnable_from n [] = []
runnable_from n (Runs ∷ states) = n ∷ runnable_from (n + 1) states
runnable_from n (Waits ∷ states) = runnable_from (n + 1) states
runnable_from n (Ended ∷ states) = runnable_from (n + 1) states

-- the numbers of the threads that may make the next step
abbrev pub runnable_of : Threads → List ℕ
runnable_of t = runnable_from 0 t.states

-- the stack of a thread, where it is there
abbrev pub there : Option (Option Bound) → Option Bound
there None = None
there (Some stack) = stack

abbrev pub stack_of : Threads → ℕ → Option Bound
stack_of t n = there (slice_get t.stacks n)

-- a thread was made and has not ended
abbrev pub IsLeft : Option ThreadState → Type 0
IsLeft None = ⊥
IsLeft (Some Runs) = Unit {0}
IsLeft (Some Waits) = Unit {0}
IsLeft (Some Ended) = ⊥

-- the threads where the stack of one is this one, or is not there
abbrev pub with_stack : Threads → ℕ → Option Bound → Threads
with_stack t n stack = record t { stacks = slice_set t.stacks n stack }

-- the threads where the state of one is this one
abbrev pub with_state : Threads → ℕ → ThreadState → Threads
with_state t n state = record t { states = slice_set t.states n state }
