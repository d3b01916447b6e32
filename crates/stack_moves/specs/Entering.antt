-- Nothing that a reader believes of a run rests on this. It is how a thread leaves its stack and enters another one, in parts.
use Rattle.std.specs.Prelude.{◌≡◌, ℕ, suc, ◌<◌, false, List, [], ◌∷◌, ◌++◌, Option, Some, None, Result, Ok, Err, length, reverse, option_map, slice_get, slice_set, take, drop}
use Rattle.ir_tree.specs.declared.items.Item.{Item}
use Rattle.mu_values.specs.declared.scalars.Scalar.{Scalar}
use Rattle.typed_heap.specs.Places.{with_some}
use Rattle.frames.specs.Activations.{Value, Activation}
use Rattle.frames.specs.Chains.{frames_of, stands}
use Rattle.stacks.specs.declared.entered.Entered.{Entered}
use Rattle.stacks.specs.declared.entered.Entered.TheVariants.{Values, Thrown}
use Rattle.mu_model.specs.declared.lines.Line.{Line}
use Rattle.mu_model.specs.declared.endings.Case.{Case}
use Rattle.mu_model.specs.Configuration.{Stack, Ready, Active, Dead}
use Rattle.mu_model.specs.Acts.{Entering, Passes, ThrowsInto, Doing}
use Rattle.mu_model.specs.Changes.{changed, stack_becomes, stack_dies}
use Rattle.mu_model.specs.Exceptions.{EnteredFrames}
use Rattle.mu_model.specs.EnteringStacks.{entered, on_stack, enters, leaving, started}
use Rattle.mu_model.specs.Outcomes.{Outcome, Next}
use Rattle.model_numbers.specs.Numbered.{numbered}
use Rattle.seats.specs.Seats.{Seats, IsOn}
use Rattle.run_state.specs.Held.{Held}
use Rattle.run_state.specs.Acting.{begun, turn, is_fault}
use Rattle.stack_moves.specs.declared.arriving.Arrival.{Arrival}
use Rattle.stack_moves.specs.declared.arriving.Found.{Found}
use Rattle.stack_moves.specs.declared.arriving.Found.TheVariants.{Lands, Refused}

-- ---- where a stack that is entered goes on

unfoldable pub entered_by : List Item → List Activation → Entering → Option (Result EnteredFrames Case)
entered_by bundle fs e = entered (numbered bundle) fs e

-- so many frames end above the one that goes on, which stands at a place with these values
abbrev pub landed : List Activation → ℕ → ℕ → ℕ → List Value → Option EnteredFrames
landed fs above block at vs = with_some (slice_get fs above) (λ f. Some (record { frames = stands f block at vs ∷ drop (suc above) fs; ended = take above fs }))

abbrev pub arrives : Arrival → List Activation → List Value → Option EnteredFrames
arrives a fs vs = landed fs a.above a.place.block a.place.at vs

-- what was found, in the words of the machine
abbrev pub found : Found → List Activation → List Value → Option (Result EnteredFrames Case)
found (Lands a) fs vs = option_map Ok (arrives a fs vs)
found (Refused k) fs vs = Some (Err k)

-- a case that is found is no fault
abbrev pub IsPlain : Found → Type 0
IsPlain (Lands a) = Unit {0}
IsPlain (Refused k) = is_fault k ≡ false

-- what is handed to the stack
abbrev pub handed : Entered → Entering
handed (Values v) = Passes v.types v.values
handed (Thrown e) = ThrowsInto e

-- the frames of a stack that is ready
unfoldable pub frames_at : Option Stack → List Activation
frames_at None = []
frames_at (Some (Ready fs)) = fs
frames_at (Some (Active i fs)) = []
frames_at (Some Dead) = []

-- ---- a thread that moves from its stack to another one

-- thread i is on stack k, which is not its former one n any more; that became this
pub record IsMoved (old new : Seats) (i n k : ℕ) (left : Stack) : Type 0 where
  pub threads : new.threads ≡ changed (option_map (on_stack k)) i old.threads
  pub stacks : (s : Stack) → slice_set new.stacks k s ≡ slice_set (slice_set old.stacks n left) k s
  pub waiters : new.waiters ≡ old.waiters
  pub on : IsOn new i k
  pub within : k < length new.stacks

-- the next thread is on stack k, with this own object, and the stack n of the thread that started it became this
pub record IsStarted (old new : Seats) (n k : ℕ) (own : Scalar) (left : Stack) : Type 0 where
  pub threads : new.threads ≡ old.threads ++ Some (record { stack = k; own = own }) ∷ []
  pub stacks : (s : Stack) → slice_set new.stacks k s ≡ slice_set (slice_set old.stacks n left) k s
  pub waiters : new.waiters ≡ old.waiters
  pub on : IsOn new (length old.threads) k
  pub within : k < length new.stacks

-- ---- what comes of it

abbrev pub nothing : Doing
nothing = record { act = None; exceptional = None; kept = None }

-- its stack is left, with this frame on top, and stack k is entered
unfoldable pub swapped : Held → Activation → ℕ → EnteredFrames → Outcome
swapped s f k r = Next (enters s.thread k r (leaving (turn s nothing) f (begun s)))

-- the same with these lines
unfoldable pub swapped_with : Held → Activation → ℕ → EnteredFrames → List Line → Outcome
swapped_with s f k r ls = Next (record (enters s.thread k r (leaving (turn s nothing) f (begun s))) { lines = reverse ls })

-- its stack dies with all of its frames, and stack k is entered
unfoldable pub left_dead : Held → ℕ → EnteredFrames → Outcome
left_dead s k r = Next (enters s.thread k r (stack_dies s.stack (frames_of s.frames) (begun s)))

-- the next thread is started on stack k, with this own object, and the thread goes on with this top frame
unfoldable pub begins : Held → Scalar → ℕ → EnteredFrames → Activation → Outcome
begins s own k r g = Next (stack_becomes s.stack (Active s.thread (g ∷ s.frames.below)) (started (begun s) (turn s nothing) own k r))
