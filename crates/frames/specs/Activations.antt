-- A frame of a stack, and where an exception goes in it.
use Rattle.std.specs.Prelude.{ℕ, Bool, List, Option}
use Rattle.mu_values.specs.declared.scalars.Scalar.{Scalar}
use Rattle.mu_values.specs.Slots.{TypedValues}

-- one scalar for each leaf of its type
abbrev pub Value : Type 0
Value = List Scalar

-- where a block goes on, and the values of its parameters
pub record Goal : Type 0 where
  pub block : ℕ
  pub values : List Value

-- A frame stands at an instruction of a block, with the values of the block's variables so far. While a frame stands above it, or its
-- stack is left, it waits for values of some classes; an exception that reaches it then goes to its handler, and the client sees the
-- values that it keeps. A fresh frame waits for its parameters. The objects of ALLOCA end with it.
pub record Activation : Type 0 where
  pub block : ℕ
  pub at : ℕ
  pub vars : List Value
  pub fresh : Bool
  pub waits : List ℕ
  pub handler : Option Goal
  pub kept : TypedValues
  pub objects : List ℕ
