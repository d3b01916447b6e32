-- Which waiters are woken, and which stay: computed.
use Rattle.std.specs.Prelude.{◌≡◌, ℕ, Bool, true, false, List, [], ◌∷◌, Some, None, refl}
use Rattle.std.specs.List.{find}
use Rattle.mu_values.specs.declared.cells.CellId.{CellId}
use Rattle.futex.specs.declared.waiters.Waiter.{Waiter}
use Rattle.futex.specs.Waiting.{is_of, cell_of, timed_cell_of, oldest_at, without}

abbrev cell : ℕ → CellId
cell at = record { object = 0; at = at }

abbrev waiter : ℕ → ℕ → Bool → Waiter
waiter thread at timed = record { thread = thread; cell = cell at; timed = timed }

-- threads 3 and 1 wait at one cell, thread 2 at another, with a limit
abbrev three : List Waiter
three = waiter 3 0 false ∷ waiter 2 7 true ∷ waiter 1 0 false ∷ []

oldest_is_first : oldest_at (cell 0) 1 three ≡ waiter 3 0 false ∷ []
oldest_is_first = refl

all_where_fewer_wait : oldest_at (cell 0) 9 three ≡ waiter 3 0 false ∷ waiter 1 0 false ∷ []
all_where_fewer_wait = refl

others_stay : without (waiter 3 0 false ∷ []) three ≡ waiter 2 7 true ∷ waiter 1 0 false ∷ []
others_stay = refl

waits_with_a_limit : (cell_of (find (is_of 2) three) ≡ Some (cell 7)) × (timed_cell_of (find (is_of 2) three) ≡ Some (cell 7))
waits_with_a_limit = (refl, refl)

waits_without : (cell_of (find (is_of 1) three) ≡ Some (cell 0)) × (timed_cell_of (find (is_of 1) three) ≡ None)
waits_without = (refl, refl)
