-- What contracts see of a directory, which is a list of entries, one for each stack by its number.
use Rattle.std.specs.Prelude.{ℕ, List, Option, Some, None}
use Rattle.frames.specs.Chains.{StoredChain}
use Rattle.stacks.specs.declared.state.StackState.{StackState}
use Rattle.stacks.specs.declared.state.StackState.TheVariants as states

-- A stack is ready, with its frames and the classes of the values that it waits for; or it was taken for a thread, and stands
-- wherever that has brought it; or it is dead.
pub data Entry : Type 0 where
  Ready : StoredChain → List ℕ → Entry
  Active : ℕ → Entry
  Dead : Entry

-- the state that is told of an entry
abbrev pub state_of : Entry → StackState
state_of (Ready frames waits) = states.Ready
state_of (Active thread) = states.Active thread
state_of Dead = states.Dead

-- the frames of a stack that is there and ready
abbrev pub ready_frames : Option Entry → Option StoredChain
ready_frames None = None
ready_frames (Some (Ready frames waits)) = Some frames
ready_frames (Some (Active thread)) = None
ready_frames (Some Dead) = None

-- a stack is there and was taken
abbrev pub IsTaken : Option Entry → Type 0
IsTaken None = ⊥
IsTaken (Some (Ready frames waits)) = ⊥
IsTaken (Some (Active thread)) = Unit {0}
IsTaken (Some Dead) = ⊥
