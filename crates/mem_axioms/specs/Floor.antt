-- The floor of a load. Its options are all positions of the cell from the newest down to the floor (`laws` proves it).
--
-- What a thread knows is what happens before a plain next event of it, one that takes nothing. The floor is the greatest
-- of 0 and the positions of three kinds of accesses of the cell. The first kind are those that the thread knows. The
-- other two stand only where the load is SEQ_CST, or the thread knows a SEQ_CST fence: let a be the load where it is
-- SEQ_CST, else the last such fence. The second kind are the SEQ_CST accesses before a in the log. The third kind are the
-- accesses that happen before a SEQ_CST fence that stands before a in the log.
use Rattle.std.specs.Prelude.{ℕ, Bool, ◌&&◌, ◌||◌, if◌then◌else◌, nat_lt, List, ◌∷◌, length}
use Rattle.mu_base.specs.declared.order.Order.{Order}
use Rattle.mu_base.specs.declared.order.Order.TheVariants.{NotAtomic}
use Rattle.mu_values.specs.declared.cells.CellId.{CellId}
use Rattle.mem_axioms.specs.Events.{accesses, order_of, is_seq_cst, is_seq_cst_fence}
use Rattle.mem_axioms.specs.Logs.{any_event, last_number, greatest_position}
use Rattle.mem_axioms.specs.HappensBefore.{happens_before}
use Rattle.mem_axioms.specs.declared.types.Rule.{Rule}
use Rattle.mem_axioms.specs.declared.types.Kind.TheVariants.{Fence}
use Rattle.mem_axioms.specs.declared.types.Event.{Event}

-- an event that takes nothing
abbrev pub plain : ℕ → Event
plain thread = record { thread = thread; kind = Fence NotAtomic }

-- event i happens before whatever the thread does next
abbrev pub is_known : Rule → List Event → ℕ → ℕ → Bool
is_known rule log thread i = happens_before rule (plain thread ∷ log) i (length log)

-- the number of a, and 0 where there is none: no event is before number 0
abbrev pub seq_cst_limit : Rule → List Event → ℕ → Order → ℕ
seq_cst_limit rule log thread order =
    if is_seq_cst order then length log else last_number (λ a ea. is_seq_cst_fence ea && is_known rule log thread a) log

abbrev pub first_kind : Rule → List Event → ℕ → CellId → ℕ → Event → Bool
first_kind rule log thread cell y ey = accesses cell ey && is_known rule log thread y

abbrev pub second_kind : ℕ → CellId → ℕ → Event → Bool
second_kind limit cell y ey = accesses cell ey && is_seq_cst (order_of ey) && nat_lt y limit

abbrev pub third_kind : Rule → List Event → ℕ → CellId → ℕ → Event → Bool
third_kind rule log limit cell y ey = accesses cell ey && any_event (λ b eb. is_seq_cst_fence eb && nat_lt b limit && happens_before rule log y b) log

abbrev pub raises_floor : Rule → List Event → ℕ → ℕ → CellId → ℕ → Event → Bool
raises_floor rule log limit thread cell y ey = first_kind rule log thread cell y ey || (second_kind limit cell y ey || third_kind rule log limit cell y ey)

unfoldable pub floor : Rule → List Event → ℕ → CellId → Order → ℕ
floor rule log thread cell order = greatest_position (raises_floor rule log (seq_cst_limit rule log thread order) thread cell) log
