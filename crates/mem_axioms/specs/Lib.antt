-- The memory model of a run, in one page.
--
-- A run has a log, the list of its events: accesses of cells, fences, and what its threads do with stacks, threads and
-- wakes. Nothing else of memory is kept: what a cell holds follows from the initial scalars and the log.
--
-- The writes of a cell have one order, that in which the run made them, which numbers their positions from 1; position 0
-- is the initial write. A write or update takes the next position. A load may take an old one: its options are the
-- positions for which the log with that read added still meets the axioms.
--
-- An event is sequenced before the later ones of its thread. A release synchronizes with an acquire that takes what it
-- released: a member of a release sequence, also by way of fences. Leaving or making a stack synchronizes with the next
-- entering of it, making a thread with each event of that thread, and a wake with the event of a thread that it woke.
-- Happens-before is the least transitive relation that holds both. A log has one of two rules for release sequences:
-- under C11 updates and atomic writes by the head's own thread go on a sequence (ISO/IEC 9899:2011, 5.1.2.4); under Rmw
-- updates alone do (ISO/IEC 14882:2020, 6.9.2).
--
-- The axioms are coherence, the atomicity of updates, and the order of SEQ_CST accesses and fences, which has the shape
-- of ISO/IEC 14882:2020, 31.4. CONSUME means ACQUIRE. A SEQ_CST order by itself gives no happens-before. Two accesses
-- of one cell by two threads, one of them a modification and one NOT_ATOMIC, race where the earlier does not happen
-- before the later.
--
-- What is left out. The order of the writes of a cell is that of the run, and the total order S of SEQ_CST events is the
-- order of the log. A read takes only a write that is in the log. So some outcomes that the standards allow do not occur:
-- load buffering; 2+2W, and whatever else needs a write that stands earlier in its cell's order than in the run; the weak
-- outcome of Z6.U, that of a chain from a write to a read through SEQ_CST fences that stand on its outside, and, most often,
-- the old data in message passing with SEQ_CST data and a RELAXED flag, as these need an S that is not the order of the
-- log. Their absence says nothing about an implementation.
--
-- A race is judged of an event as it stands, so of a read after its position was picked.
--
-- A log is best read from its newest event back: each rule speaks of one event and of its past.
-- The model, in reading order.
pub mod Events
pub mod Logs
pub mod Synchronizes
pub mod HappensBefore
pub mod Form
pub mod Axioms
pub mod Races
pub mod Choices
pub mod Floor
pub mod Objects
pub mod EventFits
pub mod Threads
-- The memory of a run: what it promises.
pub mod Rooms
pub mod Sound
pub mod Known
-- What the memory that judges whole logs keeps and tests, for its own functions alone.
pub mod Scalars
pub mod Flags
pub mod Blanks
pub mod PassedOver
pub mod Reads
-- Its laws.
pub mod Theorems
pub mod OptionTheorems
pub mod RunTheorems
-- Their lemmas, with the proofs.
pub mod Lemmas
-- Worked examples: litmus tests and logs of whole runs.
pub mod ExampleNames
pub mod StackExamples
pub mod StoreBufferingExamples
pub mod MessagePassingExamples
pub mod ReleaseSequenceExamples
pub mod SequenceRunExamples
pub mod IriwExamples
pub mod RaceExamples
pub mod FenceExamples
pub mod CoherenceExamples
pub mod ComparisonExamples
pub mod WakeExamples
pub mod EventFitsExamples
pub mod LeftOutExamples
