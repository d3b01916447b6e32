-- Logs whose threads are few: those that are read, and those that are judged.
use Rattle.std.specs.Prelude.{◌≡◌, ℕ, ◌<◌, true, List, Some}
use Rattle.mem_axioms.specs.Logs.{event_at}
use Rattle.mem_axioms.specs.Synchronizes.{makes_thread}
use Rattle.mem_axioms.specs.declared.types.Event.{Event}

-- the thread of an event, and one that the event makes, are below 64
pub record HasFewThreads (e : Event) : Type 0 where
  pub own : e.thread < 64
  pub made : (t : ℕ) → makes_thread t e ≡ true → t < 64

-- those of each event of a log are
abbrev pub HaveFewThreads : List Event → Type 0
HaveFewThreads log = (i : ℕ) (e : Event) → event_at log i ≡ Some e → HasFewThreads e
