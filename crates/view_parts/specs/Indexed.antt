-- Indexes by thread, and what they hold of a log. A thread whose index was not made yet has an empty one.
use Rattle.std.specs.Prelude.{ℕ, suc, Bool, ◌&&◌, ◌==◌, if◌then◌else◌, slice_index_or, List, [], ◌∷◌, length}
use Rattle.mu_values.specs.declared.cells.CellId.{CellId}
use Rattle.mem_axioms.specs.Events.{accesses, position_of}
use Rattle.mem_axioms.specs.declared.types.Event.{Event}
use Rattle.write_history.specs.Rooms.{Accesses}
use Rattle.write_history.specs.declared.access_index.Entry.{Entry}

abbrev pub index_at : List Accesses → ℕ → Accesses
index_at indexes u = slice_index_or indexes u (record { accesses = []; spare = 0 })

abbrev pub accesses_at : List Accesses → ℕ → List Entry
accesses_at indexes u = (index_at indexes u).accesses

-- An index numbers an event one higher than the log does, as clocks do: those that a clock knows are then those whose
-- number is at most the clock's.
abbrev pub entries_by : (ℕ → Event → ℕ) → (Event → Bool) → List Event → List Entry
entries_by position test [] = []
entries_by position test (e ∷ past) =
    if test e then record { event = suc (length past); position = position (length past) e } ∷ entries_by position test past
    else entries_by position test past

-- accesses, by their positions
abbrev pub entries_of : (Event → Bool) → List Event → List Entry
entries_of test log = entries_by (λ n e. position_of e) test log

-- the accesses of a cell by a thread, of those that pass
abbrev pub by_thread : (Event → Bool) → CellId → ℕ → Event → Bool
by_thread family cell u e = (accesses cell e && family e) && (u == e.thread)
