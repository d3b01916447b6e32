-- What contracts see of the threads that wait at cells, and which of them are woken.
use Rattle.std.specs.Prelude.{ℕ, Bool, not, ◌==◌, List, Option, Some, None, filter, map, take, option_map, if◌then◌else◌}
use Rattle.std.specs.List.{list_any}
use Rattle.mu_values.specs.declared.cells.CellId.{CellId}
use Rattle.mu_values.specs.SameCell.{same_cell}
use Rattle.futex.specs.declared.waiters.Waiter.{Waiter}

-- the waiters, oldest first, and for how many more there is room
pub record Waiters : Type 0 where
  pub waiters : List Waiter
  pub spare : ℕ

abbrev pub is_at : CellId → Waiter → Bool
is_at cell w = same_cell w.cell cell

abbrev pub is_of : ℕ → Waiter → Bool
is_of i w = w.thread == i

-- the numbers of their threads
abbrev pub threads_of : List Waiter → List ℕ
threads_of ws = map (λ (w : Waiter). w.thread) ws

-- where a thread waits that is this waiter, or none
abbrev pub cell_of : Option Waiter → Option CellId
cell_of w = option_map (λ (one : Waiter). one.cell) w

-- where it waits with a limit
abbrev pub timed_cell_of : Option Waiter → Option CellId
timed_cell_of None = None
timed_cell_of (Some w) = if w.timed then Some w.cell else None

-- the oldest that wait at a cell, and so many at most
abbrev pub oldest_at : CellId → ℕ → List Waiter → List Waiter
oldest_at cell many ws = take many (filter (is_at cell) ws)

abbrev pub without : List Waiter → List Waiter → List Waiter
without gone ws = filter (λ w. not (list_any (is_of w.thread) gone)) ws
