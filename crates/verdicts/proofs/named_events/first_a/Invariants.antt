use Rattle.std.proofs.Common.{◌≡◌, ℕ, ◌<◌, ◌∷◌, Some, false}
use Rattle.mem_axioms.specs.Logs.{event_at}
use Rattle.mem_axioms.specs.declared.types.Event.{Event}
use Rattle.verdicts.specs.Searches.{comes_from}
use Rattle.verdicts.proofs.named_events.first_a.Given as goal

abbrev pub invariant-loop-a : goal.invariant-loop-a
invariant-loop-a g l = (k : ℕ) (ek : Event) → k < l.a → event_at (l.event ∷ g.K.Knows.log l.next) k ≡ Some ek → comes_from (g.K.Knows.rule l.next) (g.K.Knows.log l.next) l.event l.b k ek ≡ false
