-- What the memory holds of its log and of the threads. No clause of a public call speaks of it.
use Rattle.std.specs.Prelude.{◌≡◌, ℕ, ◌<◌, true, List, [], length, Some}
use Rattle.mu_values.specs.declared.scalars.Scalar.{Scalar}
use Rattle.mem_axioms.specs.Logs.{event_at}
use Rattle.mem_axioms.specs.EventFits.{is_thread}
use Rattle.mem_axioms.specs.Known.{HasCells}
use Rattle.mem_axioms.specs.Sound.{IsSound}
use Rattle.mem_axioms.specs.declared.types.Rule.{Rule}
use Rattle.mem_axioms.specs.declared.types.Event.{Event}
use Rattle.mem_views.specs.Threads.{threads_of}

-- What holds of the log: it is sound, its cells are of added objects, the thread of each event was made, and
-- threads are below 64.
pub record LogHolds (rule : Rule) (objects : List (List Scalar)) (log : List Event) : Type 0 where
  pub sound : IsSound rule objects log
  pub cells : HasCells objects log
  pub threads : (i : ℕ) (e : Event) → event_at log i ≡ Some e → is_thread log e.thread ≡ true
  pub small : (t : ℕ) → is_thread log t ≡ true → t < 64

-- The threads on the list are those of the run. Before there was room for an event it may be empty.
pub record MadeHolds (made : List ℕ) (log : List Event) : Type 0 where
  pub all : 0 < length made → made ≡ threads_of log
  pub none : length made ≡ 0 → log ≡ []
