-- How the threads and their stacks are kept: each container has its part, and they agree.
use Rattle.std.specs.Prelude.{◌≡◌, ℕ, suc, ◌<◌, ◌≤◌, Bool, true, false, List, [], ◌∷◌, Option, Some, None, map, length, slice_get, slice_set, is_some, IsSome, IsSomeAnd, if◌then◌else◌}
use Rattle.mu_values.specs.declared.scalars.Scalar.{Scalar}
use Rattle.frames.specs.Activations.{Activation}
use Rattle.frames.specs.Chains.{StoredChain, frames_in}
use Rattle.stacks.specs.Stacks.{Bound}
use Rattle.stacks.specs.declared.entered.Entered.{Entered}
use Rattle.stacks.specs.Directories as entries
use Rattle.stacks.specs.Directories.{Entry}
use Rattle.mu_threads.specs.Threads.{Threads, there, stack_of, with_stack, with_state, IsLeft}
use Rattle.mu_threads.specs.declared.state.ThreadState.{ThreadState}
use Rattle.mu_threads.specs.declared.state.ThreadState.TheVariants.{Runs, Waits, Ended}
use Rattle.futex.specs.declared.waiters.Waiter.{Waiter}
use Rattle.mu_model.specs.Configuration.{Stack, Ready, Active, Dead, Thread}
use Rattle.mu_model.specs.Step.{is_blocked}
use Rattle.seats.specs.Seats.{Seats, Takes}

-- ---- threads: a thread is left as long as a stack is bound to it

abbrev pub thread_seen : Option Bound → Scalar → Option Thread
thread_seen None own = None
thread_seen (Some b) own = Some (record { stack = b.number; own = own })

abbrev pub threads_seen : List (Option Bound) → List Scalar → List (Option Thread)
threads_seen [] owns = []
threads_seen (b ∷ bs) [] = []
threads_seen (b ∷ bs) (own ∷ owns) = thread_seen b own ∷ threads_seen bs owns

-- ---- stacks: the frames of one that is active stand with its thread

abbrev pub frames_there : Option Bound → List Activation
frames_there None = []
frames_there (Some b) = frames_in b.frames

abbrev pub stack_seen : List (Option Bound) → Entry → Stack
stack_seen bs (entries.Ready c waits) = Ready (frames_in c)
stack_seen bs (entries.Active i) = Active i (frames_there (there (slice_get bs i)))
stack_seen bs entries.Dead = Dead

abbrev pub stacks_seen : List (Option Bound) → List Entry → List Stack
stacks_seen bs es = map (stack_seen bs) es

-- ---- moves of a stack between the directory and a thread

-- a stack with other frames
abbrev pub with_frames : StoredChain → Option Bound → Option Bound
with_frames f None = None
with_frames f (Some b) = Some (record b { frames = f })

-- a stack is bound to its thread anew, with frames of which that is true
pub record IsShown (old new : Threads) (i number : ℕ) (asked : List Activation → Type 0) : Type 0 where
  pub frames : StoredChain
  pub threads : new ≡ with_stack (with_stack old i None) i (Some (record { number = number; thread = i; frames = frames; passed = None }))
  pub told : asked (frames_in frames)

abbrev pub frames_held : Option Bound → Option StoredChain
frames_held None = None
frames_held (Some b) = Some b.frames

-- what a thread holds once it has entered the stack with this entry
abbrev pub bound_from : ℕ → ℕ → Option Entry → Option Bound
bound_from n i None = None
bound_from n i (Some (entries.Ready c waits)) = Some (record { number = n; thread = i; frames = c; passed = None })
bound_from n i (Some (entries.Active j)) = None
bound_from n i (Some entries.Dead) = None

-- the entries, once what a thread held is ready, or is dead
abbrev pub ready_at : Option Bound → List ℕ → List Entry → List Entry
ready_at None waits es = es
ready_at (Some b) waits es = slice_set es b.number (entries.Ready b.frames waits)

abbrev pub dead_at : Option Bound → List Entry → List Entry
dead_at None es = es
dead_at (Some b) es = slice_set es b.number entries.Dead

-- a stack is held, and its entry knows its thread
abbrev pub IsTakenBy : Option Bound → List Entry → Type 0
IsTakenBy None es = ⊥
IsTakenBy (Some b) es = slice_get es b.number ≡ Some (entries.Active b.thread)

-- the numbers of the threads that hold a stack, where the first of these has number n
abbrev pub held_from : ℕ → List (Option Bound) → List ℕ
held_from n [] = []
held_from n (None ∷ bs) = held_from (suc n) bs
held_from n (Some b ∷ bs) = n ∷ held_from (suc n) bs

-- an entry is there and ready, waits for what its top frame waits for, and takes what comes
abbrev pub TakesThere : Option Entry → Entered → Type 0
TakesThere None e = ⊥
TakesThere (Some (entries.Ready c waits)) e = (waits ≡ c.top.waits) × Takes (frames_in c) e
TakesThere (Some (entries.Active j)) e = ⊥
TakesThere (Some entries.Dead) e = ⊥

-- ---- states: which threads are blocked decides them

abbrev pub state_seen : Bool → Option Bound → ThreadState
state_seen blocked None = Ended
state_seen blocked (Some b) = if blocked then Waits else Runs

-- the first of these threads has number n
abbrev pub states_seen : (ℕ → Bool) → ℕ → List (Option Bound) → List ThreadState
states_seen blocked n [] = []
states_seen blocked n (b ∷ bs) = state_seen (blocked n) b ∷ states_seen blocked (suc n) bs

-- ---- threads that wait, or run again

-- a thread waits from now on, where its wait has no limit
abbrev pub waiting_if : Bool → Threads → ℕ → Threads
waiting_if true t i = t
waiting_if false t i = with_state t i Waits

-- a thread runs from now on, where it is left
abbrev pub running : Threads → ℕ → Threads
running t i = if is_some (stack_of t i) then with_state t i Runs else t

abbrev pub all_running : List ℕ → Threads → Threads
all_running [] t = t
all_running (i ∷ is) t = all_running is (running t i)

-- the threads that hold a stack are left
abbrev pub HeldAreLeft : Threads → Type 0
HeldAreLeft t = (i : ℕ) → IsSome (stack_of t i) → IsLeft (slice_get t.states i)

abbrev pub AllBelow : ℕ → List ℕ → Type 0
AllBelow n [] = Unit {0}
AllBelow n (i ∷ is) = (i < n) × AllBelow n is

-- ---- agreement

-- the stack of a thread knows its thread, and its entry does
abbrev pub HasEntries : List (Option Bound) → List Entry → Type 0
HasEntries bs es = (i : ℕ) (b : Bound) → there (slice_get bs i) ≡ Some b → (b.thread ≡ i) × (slice_get es b.number ≡ Some (entries.Active i))

-- an entry that is active has its stack with a thread
abbrev pub HasThreads : List (Option Bound) → List Entry → Type 0
HasThreads bs es = (n i : ℕ) → slice_get es n ≡ Some (entries.Active i) → IsSomeAnd (there (slice_get bs i)) (λ b. b.number ≡ n)

-- a stack that is ready waits for what its top frame waits for
abbrev pub WaitAtTop : List Entry → Type 0
WaitAtTop es = (n : ℕ) (c : StoredChain) (waits : List ℕ) → slice_get es n ≡ Some (entries.Ready c waits) → waits ≡ c.top.waits

pub record Agree (bs : List (Option Bound)) (es : List Entry) : Type 0 where
  pub bound : HasEntries bs es
  pub active : HasThreads bs es
  pub ready : WaitAtTop es

abbrev pub AreBelow : ℕ → List Waiter → Type 0
AreBelow n [] = Unit {0}
AreBelow n (w ∷ ws) = (w.thread < n) × AreBelow n ws

pub record IsSound (states : List ThreadState) (bs : List (Option Bound)) (es : List Entry) (owns : List Scalar) (room : ℕ) (ws : List Waiter) : Type 0 where
  pub states_fit : states ≡ states_seen (is_blocked ws) 0 bs
  pub agree : Agree bs es
  pub even : length owns ≡ length bs
  pub few : length bs ≤ 64
  pub room_fits : 64 ≤ room
  pub below : AreBelow (length bs) ws

-- all that is seen
abbrev pub seats_seen : List (Option Bound) → List Scalar → List Entry → List Waiter → Seats
seats_seen bs owns es ws = record { threads = threads_seen bs owns; stacks = stacks_seen bs es; waiters = ws }
