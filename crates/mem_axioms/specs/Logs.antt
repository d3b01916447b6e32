-- Looking into a log, whose events stand newest first and are numbered from the oldest, which has number 0.
use Rattle.std.specs.Prelude.{ℕ, suc, Bool, true, false, not, ◌==◌, if◌then◌else◌, ◌||◌, ◌&&◌, max, List, [], ◌∷◌, length, Some, None, Option}
use Rattle.mu_values.specs.declared.cells.CellId.{CellId}
use Rattle.mem_axioms.specs.declared.types.Event.{Event}
use Rattle.mem_axioms.specs.Events.{modifies, position_of}

-- the event with that number
abbrev pub event_at : List Event → ℕ → Option Event
event_at [] n = None
event_at (e ∷ past) n = elim (n == length past) [ true ↦ Some e | false ↦ event_at past n ]

-- the events before that number
abbrev pub past_of : List Event → ℕ → List Event
past_of [] n = []
past_of (e ∷ past) n = elim (n == length past) [ true ↦ past | false ↦ past_of past n ]

-- some event, with its number, passes the test
abbrev pub any_event : (ℕ → Event → Bool) → List Event → Bool
any_event test [] = false
any_event test (e ∷ past) = test (length past) e || any_event test past

-- each event does
abbrev pub each_event : (ℕ → Event → Bool) → List Event → Bool
each_event test [] = true
each_event test (e ∷ past) = test (length past) e && each_event test past

-- each event that passes the first test passes the second, which is asked of no other
abbrev pub each_where : (ℕ → Event → Bool) → (ℕ → Event → Bool) → List Event → Bool
each_where which test log = each_event (λ i ei. not (which i ei) || test i ei) log

-- how many events pass the test
abbrev pub count_events : (Event → Bool) → List Event → ℕ
count_events test [] = 0
count_events test (e ∷ past) = if test e then suc (count_events test past) else count_events test past

-- the least number of an event that passes
abbrev pub least_event : (ℕ → Event → Bool) → List Event → Option ℕ
least_event test [] = None
least_event test (e ∷ past) = elim (least_event test past) [
  | Some i ↦ Some i
  | None ↦ if test (length past) e then Some (length past) else None
]

-- the greatest number of an event that passes, or 0
abbrev pub last_number : (ℕ → Event → Bool) → List Event → ℕ
last_number test [] = 0
last_number test (e ∷ past) = if test (length past) e then length past else last_number test past

-- the greatest position of the events that pass, or 0
abbrev pub greatest_position : (ℕ → Event → Bool) → List Event → ℕ
greatest_position test [] = 0
greatest_position test (e ∷ past) = if test (length past) e then max (position_of e) (greatest_position test past) else greatest_position test past

-- the newest position of a cell: how many writes and updates it has
abbrev pub newest : List Event → CellId → ℕ
newest log cell = count_events (modifies cell) log
