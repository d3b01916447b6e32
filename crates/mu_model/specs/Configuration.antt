-- The configuration of a run: what there is between two steps.
use Rattle.std.specs.Prelude.{ℕ, List, Option}
use Rattle.mu_values.specs.declared.scalars.Scalar.{Scalar}
use Rattle.typed_heap.specs.Objects.{HeapObject}
use Rattle.frames.specs.Activations.{Activation}
use Rattle.futex.specs.declared.waiters.Waiter.{Waiter}
use Rattle.mem_axioms.specs.declared.types.Rule.{Rule}
use Rattle.mem_axioms.specs.declared.types.Event.{Event}
use Rattle.mu_model.specs.declared.lines.Line.{Line}
use Rattle.mu_model.specs.Clients.{Client}

-- A stack that is not dead has frames, the top one first. One that is ready is ready for what its top frame waits for.
pub data Stack : Type 0 where
  Ready : List Activation → Stack
  -- on a thread
  Active : ℕ → List Activation → Stack
  Dead : Stack

-- a thread that is left, with its stack and its own object
pub record Thread : Type 0 where
  pub stack : ℕ
  pub own : Scalar

pub record Configuration : Type 0 where
  -- by number; nothing stands where a thread ended
  pub threads : List (Option Thread)
  pub stacks : List Stack
  pub objects : List HeapObject
  -- newest first; what a cell holds is not kept, as it follows from the objects and the log
  pub log : List Event
  -- the watchpoints that are enabled
  pub watched : List ℕ
  -- oldest first
  pub waiters : List Waiter
  pub client : Client
  -- what is left of the schedule
  pub picks : List ℕ
  -- how many cells may still be made
  pub cells : ℕ
  -- how many steps were made, and how many may be
  pub steps : ℕ
  pub budget : ℕ
  -- which writes go on a release sequence
  pub rule : Rule
  -- what this step has written, newest first
  pub lines : List Line
