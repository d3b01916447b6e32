-- The frames of a stack, and where one goes on.
use Rattle.std.specs.Prelude.{ℕ, false, List, [], ◌∷◌, None}
use Rattle.mu_values.specs.Slots.{TypedValues}
use Rattle.frames.specs.Activations.{Activation, Value}

-- the frames of a stack, of which there is always one: the top one, and those below it from the top down
pub record Chain : Type 0 where
  pub top : Activation
  pub below : List Activation

-- all of them, from the top down
abbrev pub frames_of : Chain → List Activation
frames_of c = c.top ∷ c.below

-- the frames of a stack as they are stored: the same two, and how many frames more may be put on top without a refusal
pub record StoredChain : Type 0 where
  pub top : Activation
  pub below : List Activation
  pub spare : ℕ

-- its frames without that number
abbrev pub chain_of : StoredChain → Chain
chain_of c = record { top = c.top; below = c.below }

-- all of its frames, from the top down
abbrev pub frames_in : StoredChain → List Activation
frames_in c = c.top ∷ c.below

abbrev pub nothing_kept : TypedValues
nothing_kept = record { types = []; values = [] }

-- a frame stands at an instruction of a block with these values of its variables, and waits for nothing; its objects stay
abbrev pub stands : Activation → ℕ → ℕ → List Value → Activation
stands f block at vars = record f { block = block; at = at; vars = vars; fresh = false; waits = []; handler = None; kept = nothing_kept }
