-- Threads below 64.
use Rattle.std.proofs.Common.{◌≡◌, ◌<◌, ℕ, Bool, true, false, List, ◌∷◌, length, Option, Some, subst}
use Rattle.std.specs.Prelude.{◌==◌}
use Rattle.mem_axioms.specs.Logs.{event_at}
use Rattle.mem_axioms.specs.Synchronizes.{makes_thread}
use Rattle.mem_axioms.specs.Threads.{HasFewThreads, HaveFewThreads}
use Rattle.mem_axioms.specs.declared.types.Event.{Event}
use Rattle.mem_axioms.specs.declared.types.Kind.{Kind}

-- which thread an event makes does not hang on its own
pub few_of_event : (thread : ℕ) (kind : Kind) → thread < 64 → ((t : ℕ) → makes_thread t (record { thread = 0; kind = kind }) ≡ true → t < 64) → HasFewThreads (record { thread = thread; kind = kind })
few_of_event thread kind own made = record { own = own; made = made }

first_or_past : (b : Bool) (o : Option Event) (e found : Event) → HasFewThreads e → (o ≡ Some found → HasFewThreads found) → elim b [ true ↦ Some e | false ↦ o ] ≡ Some found → HasFewThreads found
first_or_past true o e found few past h = let is : e ≡ found = cc in subst HasFewThreads is few
first_or_past false o e found few past h = past h

pub few_more : (log : List Event) (e : Event) → HaveFewThreads log → HasFewThreads e → HaveFewThreads (e ∷ log)
few_more log e h few n found is = first_or_past (n == length log) (event_at log n) e found few (h n found) is
