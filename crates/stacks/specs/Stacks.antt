-- What contracts see of a stack that is owned.
use Rattle.std.specs.Prelude.{ℕ, List, Option}
use Rattle.frames.specs.Chains.{StoredChain}
use Rattle.stacks.specs.declared.entered.Entered.{Entered}

-- A stack that no thread runs on: its number, its frames, and the classes of the values that it waits for.
pub record Unbound : Type 0 where
  pub number : ℕ
  pub frames : StoredChain
  pub waits : List ℕ

-- A stack whose frames are edited: its number and its frames. It waits for nothing.
pub record Opened : Type 0 where
  pub number : ℕ
  pub frames : StoredChain

-- A stack that is bound to a thread, and what was passed to it then, until that is handed out.
pub record Bound : Type 0 where
  pub number : ℕ
  pub thread : ℕ
  pub frames : StoredChain
  pub passed : Option Entered
