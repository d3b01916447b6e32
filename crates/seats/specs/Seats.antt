-- Threads on their stacks, and those that wait, in the words of the machine.
use Rattle.std.specs.Prelude.{◌≡◌, ℕ, not, List, [], ◌∷◌, Option, Some, None, filter, slice_get, IsSome, IsSomeAnd}
use Rattle.typed_heap.specs.Places.{with_some}
use Rattle.frames.specs.Activations.{Activation}
use Rattle.frames.specs.Handlers.{first_handler}
use Rattle.stacks.specs.declared.entered.Entered.{Entered}
use Rattle.stacks.specs.declared.entered.Entered.TheVariants.{Values, Thrown}
use Rattle.futex.specs.declared.waiters.Waiter.{Waiter}
use Rattle.mu_model.specs.Configuration.{Stack, Ready, Active, Dead, Thread}
use Rattle.mu_model.specs.Step.{threads_from, is_blocked}

-- The threads that were made, by number, each with its stack and its own object; nothing stands where one has ended. The stacks that
-- were made, by number. The threads that wait, oldest first.
pub record Seats : Type 0 where
  pub threads : List (Option Thread)
  pub stacks : List Stack
  pub waiters : List Waiter

-- a thread that is left
abbrev pub seat_of : Seats → ℕ → Option Thread
seat_of s i = with_some (slice_get s.threads i) (λ t. t)

-- a thread is left, and on this stack
abbrev pub IsOn : Seats → ℕ → ℕ → Type 0
IsOn s i k = IsSomeAnd (seat_of s i) (λ t. t.stack ≡ k)

-- the threads that may make the next step: all that are left but those that wait without a limit
abbrev pub runnable_of : Seats → List ℕ
runnable_of s = filter (λ i. not (is_blocked s.waiters i)) (threads_from 0 s.threads)

-- a stack that its thread has left
abbrev pub left_ready : Stack → Stack
left_ready (Active i fs) = Ready fs
left_ready (Ready fs) = Ready fs
left_ready Dead = Dead

-- a stack that a thread has entered
abbrev pub bound_to : ℕ → Stack → Stack
bound_to i (Ready fs) = Active i fs
bound_to i (Active j fs) = Active j fs
bound_to i Dead = Dead

-- frames take what comes: values of the classes that the top frame waits for, or an exception that one of them catches
abbrev pub Takes : List Activation → Entered → Type 0
Takes [] e = ⊥
Takes (f ∷ fs) (Values v) = v.types ≡ f.waits
Takes (f ∷ fs) (Thrown e) = IsSome (first_handler (f ∷ fs))

-- a stack is there and ready, and takes what comes
abbrev pub IsReadyFor : Option Stack → Entered → Type 0
IsReadyFor None e = ⊥
IsReadyFor (Some (Ready fs)) e = Takes fs e
IsReadyFor (Some (Active i fs)) e = ⊥
IsReadyFor (Some Dead) e = ⊥

-- a stack is there and on a thread, and its top frame waits for values of these classes
abbrev pub WaitsFor : Option Stack → List ℕ → Type 0
WaitsFor None cs = ⊥
WaitsFor (Some (Active i [])) cs = ⊥
WaitsFor (Some (Active i (f ∷ fs))) cs = f.waits ≡ cs
WaitsFor (Some (Ready fs)) cs = ⊥
WaitsFor (Some Dead) cs = ⊥

-- a stack is there and ready
abbrev pub IsReady : Option Stack → Type 0
IsReady None = ⊥
IsReady (Some (Ready fs)) = Unit {0}
IsReady (Some (Active i fs)) = ⊥
IsReady (Some Dead) = ⊥

-- a stack is not ready
abbrev pub IsActiveOrDead : Stack → Type 0
IsActiveOrDead (Ready fs) = ⊥
IsActiveOrDead (Active i fs) = Unit {0}
IsActiveOrDead Dead = Unit {0}
