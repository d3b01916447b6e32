-- The client's entries, and its answers.
use Rattle.std.specs.Prelude.{ℕ, Bool, List, Option, None}
use Rattle.mu_values.specs.Slots.{TypedValues}
use Rattle.frames.specs.Activations.{Value}
use Rattle.mu_model.specs.declared.lines.Note.{Note}

-- a value with the class of its type
abbrev pub Classed : Type 0
Classed = ℕ × Value

-- what a stack is entered with, and how an answer ends: over what a script names, and over values with their classes
pub data With (Many One : Type 0) : Type 0 where
  Pass : Many → With Many One
  Throw : One → With Many One

pub data Reply (Many One : Type 0) : Type 0 where
  -- the trapped stack is entered
  Resume : With Many One → Reply Many One
  -- another stack is entered
  Rebind : One → With Many One → Reply Many One
  Exit Stop : Reply Many One

-- ---- scripts

-- a constant, a global or a function, by its value and its class (`global_told` in Answers); or a kept value, by the numbers of its frame and of itself
pub data Argument : Type 0 where
  Told : Classed → Argument
  KeptValue : ℕ → ℕ → Argument

pub data Action : Type 0 where
  -- records of all frames; of the kept values of one
  TellFrames : Action
  TellKept : ℕ → Action
  -- a watchpoint is enabled or not from here on
  Watch : ℕ → Bool → Action

-- a function with the class of its type
abbrev pub ClassedFunction : Type 0
ClassedFunction = ℕ × ℕ

-- actions; then the frames of the trapped stack end that are above the one with this number, where 0 is the top; then a frame of this
-- function is put on top, where there is one; then the reply
pub record ScriptEntry : Type 0 where
  pub actions : List Action
  pub pop : ℕ
  pub push : Option ClassedFunction
  pub reply : Reply (List Argument) Argument

-- the entries that are left, and whether zero and NULL are passed after them; else the answer after them is to stop
pub record Client : Type 0 where
  pub entries : List ScriptEntry
  pub auto : Bool

-- ---- answers

-- what an answer does to the frames of the trapped stack, as an entry says it
pub record Edit : Type 0 where
  pub pop : ℕ
  pub push : Option ℕ

abbrev pub no_edit : Edit
no_edit = record { pop = 0; push = None }

-- its records, which are of frames and of kept values alone; which watchpoints are enabled or not from then on; what it does to the frames
-- of the trapped stack; and how it ends
pub record Answer : Type 0 where
  pub notes : List Note
  pub watches : List (ℕ × Bool)
  pub edit : Edit
  pub reply : Reply TypedValues Classed
