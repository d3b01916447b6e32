-- How many options the next step has to pick from, once the thread that makes it is picked.
use Rattle.std.specs.Prelude.{ℕ, ◌==◌, Option, Some, None, Result, Ok, Err, find, length, slice_get, if◌then◌else◌}
use Rattle.mu_values.specs.declared.cells.CellId.{CellId}
use Rattle.typed_heap.specs.declared.faults.PlaceFault.{PlaceFault}
use Rattle.typed_heap.specs.Places.{cell_in}
use Rattle.mem_axioms.specs.Choices.{choices}
use Rattle.futex.specs.declared.waiters.Waiter.{Waiter}
use Rattle.mu_model.specs.Configuration.{Configuration}
use Rattle.mu_model.specs.Acts.{Access, Accesses, Act, Program}
use Rattle.mu_model.specs.Accesses.{initial, wanted}
use Rattle.mu_model.specs.Turns.{Turn, turn_of}
use Rattle.futex.specs.Waiting.{is_of}
use Rattle.mu_model.specs.Step.{runnable}
use Rattle.mu_threads.specs.Picks.{pick}

-- an access and its cell, where the act is one; no other act has anything to pick from
abbrev pub access_in : Option Act → Option (Access × CellId)
access_in (Some (Accesses a cell)) = Some (a, cell)
access_in _ = None

-- the options of an access, where its cell is there
abbrev pub cell_options : Configuration → Turn → Access → Option (Result CellId PlaceFault) → ℕ
cell_options c u a (Some (Ok cell)) = length (choices c.rule (initial c) c.log u.thread cell (wanted a))
cell_options c u a (Some (Err fault)) = 1
cell_options c u a None = 1

abbrev pub access_options : Configuration → Turn → Option (Access × CellId) → ℕ
access_options c u (Some (a, cell)) = cell_options c u a (cell_in c.objects cell)
access_options c u None = 1

-- a thread that waits does no instruction
abbrev pub turn_options : Configuration → Option Waiter → Option Turn → ℕ
turn_options c None (Some u) = access_options c u (access_in u.doing.act)
turn_options c None None = 1
turn_options c (Some w) u = 1

abbrev pub thread_options : Program → Configuration → Option ℕ → ℕ
thread_options p c (Some i) = turn_options c (find (is_of i) c.waiters) (turn_of p c i)
thread_options p c None = 1

-- those of the next step: of the thread that the schedule picks, unless no step may be made any more
abbrev pub step_options : Program → Configuration → ℕ
step_options p c = if c.steps == c.budget then 1 else thread_options p c (slice_get (runnable c) (pick (length (runnable c)) c.picks).0)
