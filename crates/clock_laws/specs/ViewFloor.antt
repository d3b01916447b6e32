-- The floor of a load, by clocks. It says what `floor` of the memory model says, without happens-before (`laws` proves it).
use Rattle.std.specs.Prelude.{ℕ, Bool, ◌&&◌, ◌||◌, if◌then◌else◌, nat_lt, List, length}
use Rattle.mu_base.specs.declared.order.Order.{Order}
use Rattle.mu_values.specs.declared.cells.CellId.{CellId}
use Rattle.mem_axioms.specs.Events.{accesses, is_seq_cst, is_seq_cst_fence}
use Rattle.mem_axioms.specs.Logs.{last_number, greatest_position}
use Rattle.mem_axioms.specs.Floor.{second_kind}
use Rattle.mem_axioms.specs.declared.types.Rule.{Rule}
use Rattle.mem_axioms.specs.declared.types.Event.{Event}
use Rattle.clock_laws.specs.Clocks.{Clock, Views, views}

-- an access of the cell that the clock knows
abbrev pub known_access : Clock → CellId → ℕ → Event → Bool
known_access clock cell y ey = accesses cell ey && nat_lt y (clock ey.thread)

-- The number of a SEQ_CST load; of another, the number of the last SEQ_CST fence that its thread knows, and 0 where there
-- is none.
abbrev pub view_limit : Views → List Event → ℕ → Order → ℕ
view_limit v log thread order =
    if is_seq_cst order then length log else last_number (λ a ea. is_seq_cst_fence ea && nat_lt a (v.thread thread ea.thread)) log

-- what the SEQ_CST fences before that number knew
abbrev pub fences_knew : Views → ℕ → Order → Clock
fences_knew v limit order u = if is_seq_cst order then v.joined u else v.before limit u

abbrev pub raises_view_floor : Views → ℕ → ℕ → CellId → Order → ℕ → Event → Bool
raises_view_floor v limit thread cell order y ey =
    known_access (v.thread thread) cell y ey || (second_kind limit cell y ey || known_access (fences_knew v limit order) cell y ey)

unfoldable pub view_floor : Rule → List Event → ℕ → CellId → Order → ℕ
view_floor rule log thread cell order =
    let v = views rule log in greatest_position (raises_view_floor v (view_limit v log thread order) thread cell order) log
