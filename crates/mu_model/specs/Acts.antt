-- What an instruction does, once its operands are read, and what the machine asks of a bundle.
use Rattle.std.specs.Prelude.{ℕ, Bool, List, Option}
use Rattle.mu_base.specs.declared.order.Order.{Order}
use Rattle.mu_values.specs.declared.scalars.Scalar.{Scalar}
use Rattle.mu_base.specs.declared.operators.UpdateOp.{UpdateOp}
use Rattle.mu_values.specs.Slots.{TypedValues}
use Rattle.mu_values.specs.declared.cells.CellId.{CellId}
use Rattle.check_tables.specs.declared.tables.Tables.{Tables}
use Rattle.typed_heap.specs.Places.{Way}
use Rattle.frames.specs.Activations.{Value, Goal}
use Rattle.mu_model.specs.declared.endings.Case.{Case}

-- what a stack is entered with: values of some classes, or an exception; what is thrown of another type than ref<void> misfits every stack
pub data Entering : Type 0 where
  Passes : List ℕ → List Value → Entering
  ThrowsInto : Scalar → Entering
  Misfits : Entering

-- what is done with a cell; a comparison may be weak, and has its two orders, the expected scalar and the one that is written
pub data Access : Type 0 where
  Loads : Order → Access
  Stores : Order → Scalar → Access
  Compares : Bool → Order → Order → Scalar → Scalar → Access
  Updates : Order → UpdateOp → Scalar → Access

-- Types stand by class, functions and watchpoints by number.
pub data Act : Type 0 where
  -- it gives its results these values
  Gives : List Value → Act
  -- an undefined case, which may be a fault that goes to an exceptional destination
  Faults : Case → Act
  -- control: another block; another function, in a frame above or in place of this one; back; an exception
  Goes : Goal → Act
  Calls : ℕ → List Value → Act
  Replaces : ℕ → List Value → Act
  Returns : TypedValues → Act
  Throws : Scalar → Act
  -- a reference as one of the class; a place, found from another
  Casts : ℕ → Scalar → Act
  Finds : Way → Scalar → Act
  -- an object of a class; with so many elements; of the frame
  Makes : ℕ → Act
  MakesHybrid : ℕ → ℕ → Act
  MakesOwn : ℕ → Act
  -- memory
  Accesses : Access → CellId → Act
  Fences : Order → Act
  -- The client is asked for values of these classes; or, where this watchpoint is disabled, it goes on there. By a watchpoint it goes
  -- one way where that is disabled and the other where it is enabled: the client is not asked.
  Traps : List ℕ → Act
  Watches : ℕ → List ℕ → Goal → Act
  Chooses : ℕ → Goal → Goal → Act
  -- the stack is left for values of these classes, or ends, and another is entered; a thread is started on one, with its own object
  Swaps : Scalar → List ℕ → Entering → Act
  Leaves : Scalar → Entering → Act
  Starts : Scalar → Scalar → Entering → Act
  -- a stack is made of a function, or killed; the thread's stack is told; the thread ends; its own object is set or told
  MakesStack : ℕ → Act
  KillsStack : Scalar → Act
  Tells : Act
  Exits : Act
  SetsOwn : Scalar → Act
  TellsOwn : Act
  -- waiting at a cell while it holds this, with a limit or without; waking so many that wait there
  Waits : Bool → Scalar → CellId → Act
  Wakes : ℕ → CellId → Act

-- what an instruction does, where an exception goes, and the values that are kept; None stands where an operand has no value, or one of
-- another kind than is wanted
pub record Doing : Type 0 where
  pub act : Option Act
  pub exceptional : Option (Option Goal)
  pub kept : Option TypedValues

-- What the machine asks of a bundle. Blocks and functions stand by number, an instruction by how many stand before it in its block.
pub record Program : Type 0 where
  -- what an instruction does with the values of its block's variables
  pub doing : ℕ → ℕ → List Value → Option Doing
  -- where it goes on once its results stand among them: to a destination, or to the next place
  pub going_on : ℕ → ℕ → List Value → Option (Option Goal)
  -- whether a block has a handler, which stands behind its parameters
  pub has_handler : ℕ → Option Bool
  -- the first block of a function; a function that is only declared has none
  pub body : ℕ → Option (Option ℕ)
  -- its types, and the signatures of its functions
  pub tables : Tables
