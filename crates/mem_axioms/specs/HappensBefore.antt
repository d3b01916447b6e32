-- Happens-before (ISO/IEC 9899:2011, 5.1.2.4): the least transitive relation that holds sequenced-before and
-- synchronizes-with. The initial write of each cell happens before every event.
use Rattle.std.specs.Prelude.{◌≡◌, ℕ, ◌<◌, Bool, true, false, ◌&&◌, ◌||◌, ◌==◌, if◌then◌else◌, List, [], ◌∷◌, length, Some}
use Rattle.mem_axioms.specs.Logs.{event_at, past_of, any_event}
use Rattle.mem_axioms.specs.Synchronizes.{synchronizes}
use Rattle.mem_axioms.specs.declared.types.Rule.{Rule}
use Rattle.mem_axioms.specs.declared.types.Event.{Event}

-- Event i of the past, which is ei, is sequenced before the event e that comes next, both being of one thread, or
-- synchronizes with it.
abbrev pub precedes : Rule → List Event → ℕ → Event → Event → Bool
precedes rule past i ei e = (ei.thread == e.thread) || synchronizes rule past i ei e

-- Event i happens before event j, judged by the last step on the way: some k precedes j, and k is i or i happens before k.
unfoldable pub happens_before : Rule → List Event → ℕ → ℕ → Bool
happens_before rule [] i j = false
happens_before rule (e ∷ past) i j =
    if j == length past
    then any_event (λ k ek. precedes rule past k ek e && ((k == i) || happens_before rule past i k)) past
    else happens_before rule past i j

-- The same as a relation.
pub data Before (rule : Rule) (log : List Event) : ℕ → ℕ → Type 0 where
  sequenced : {i j : ℕ} {ei ej : Event} → event_at log i ≡ Some ei → event_at log j ≡ Some ej → i < j → ei.thread ≡ ej.thread → Before rule log i j
  synchronized : {i j : ℕ} {ei ej : Event} → event_at log i ≡ Some ei → event_at log j ≡ Some ej → i < j → synchronizes rule (past_of log j) i ei ej ≡ true → Before rule log i j
  through : {i k j : ℕ} → Before rule log i k → Before rule log k j → Before rule log i j
