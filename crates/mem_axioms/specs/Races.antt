-- Data races (ISO/IEC 9899:2011, 5.1.2.4).
--
-- Two events race where both access one cell, their threads differ, one of them is a write or update, one of them is
-- NOT_ATOMIC, and the earlier does not happen before the later. The later event counts with what it synchronizes with.
use Rattle.std.specs.Prelude.{◌≡◌, ℕ, ◌<◌, Bool, true, not, ◌&&◌, ◌||◌, ◌==◌, is_none, List, [], ◌∷◌, length, Option, Some}
use Rattle.mem_axioms.specs.Events.{is_atomic, order_of, is_modification, on_one_cell}
use Rattle.mem_axioms.specs.Logs.{event_at, least_event}
use Rattle.mem_axioms.specs.HappensBefore.{happens_before, Before}
use Rattle.mem_axioms.specs.declared.types.Rule.{Rule}
use Rattle.mem_axioms.specs.declared.types.Event.{Event}

-- they conflict, and not both are atomic
abbrev pub may_race : Event → Event → Bool
may_race ei e = on_one_cell ei e && not (ei.thread == e.thread) && (is_modification ei || is_modification e)
    && not (is_atomic (order_of ei) && is_atomic (order_of e))

-- Event i of the past, which is ei, races with the event e that comes next.
abbrev pub races : Rule → List Event → Event → ℕ → Event → Bool
races rule past e i ei = may_race ei e && not (happens_before rule (e ∷ past) i (length past))

-- The least event that races with the event that comes next.
unfoldable pub race : Rule → List Event → Event → Option ℕ
race rule past e = least_event (races rule past e) past

-- no event races with an earlier one
abbrev pub is_race_free : Rule → List Event → Bool
is_race_free rule [] = true
is_race_free rule (e ∷ past) = is_none (race rule past e) && is_race_free rule past

-- The same as a relation between two events of a log.
pub record Racing (rule : Rule) (log : List Event) (i j : ℕ) : Type 0 where
  pub ei : Event
  pub ej : Event
  pub there_i : event_at log i ≡ Some ei
  pub there_j : event_at log j ≡ Some ej
  pub order : i < j
  pub conflict : may_race ei ej ≡ true
  pub apart : Before rule log i j → ⊥
