-- The machine of a run, in one page.
--
-- A configuration is the state between two steps: the heap's objects and the log; the threads, each on its stack, and the stacks with
-- their frames, of which a stack that no thread is on waits for values; the threads that wait at cells; the client's entries and the
-- watchpoints; and what is left of the schedule, of the cells and of the steps. What a cell holds is not kept: it follows from its first
-- scalar and the log (`Configuration`).
--
-- A step first asks whether the run is over: no thread is left; or each that is left waits without a limit; or as many steps were made as
-- the budget allows. Else it picks a thread, by the next number of the schedule where there is a choice. A thread that waits with a limit
-- ends its wait. Any other thread has its turn (`Step`).
--
-- A turn is what the thread's next instruction is to do: its act, with where the frame goes on and what it waits for meanwhile (`Turns`).
-- An act is an instruction whose operands were read, so it has scalars, type ids and numbers in place of names (`Acts`). How names become
-- these is said form by form (`Operands`, the files `..Forms`, `Programs`).
--
-- An act comes to one of three things (`Outcomes`). It goes on with the next configuration. Or the run ends: by an undefined case, a full
-- heap, a thread too many, or the client. Or it is stuck: there is no rule, as where a name stands for nothing. No step of the run of an
-- accepted bundle is stuck. A division by zero, or an access through NULL, goes to the instruction's destination for exceptions where it
-- has one.
--
-- An act tests before it logs: where it ends the run it has logged nothing, except that at a trap the thread has left its stack. An access
-- picks among the options that the memory model gives it; where its event would race, the race is the ending, and the event is not in the
-- log (`Accesses`). At a trap the stack is left, then the client's answer comes: records and watchpoints first, then what becomes of the
-- thread (`Traps`, `Answers`).
--
-- A run is the list of the steps' lines, from the first configuration to the ending (`Run`).
pub mod Types
pub mod Clients
pub mod Configuration
pub mod Acts
pub mod Operands
pub mod ComputationForms
pub mod ControlForms
pub mod ObjectForms
pub mod AccessForms
pub mod TrappingForms
pub mod StackForms
pub mod Programs
pub mod Frames
pub mod Changes
pub mod Turns
pub mod Outcomes
pub mod Exceptions
pub mod Edits
pub mod EnteringStacks
pub mod Objects
pub mod Accesses
pub mod Waiting
pub mod Traps
pub mod Step
pub mod Answers
pub mod Run
