-- How the waiters are kept, beside what is seen of them.
use Rattle.std.specs.Prelude.{◌≡◌, ℕ, ◌<◌, ◌&&◌, ◌==◌, not, nat_lt, List, [], ◌∷◌, ◌++◌, None, filter, length, if◌then◌else◌}
use Rattle.std.specs.List.{list_any, find}
use Rattle.mu_values.specs.declared.cells.CellId.{CellId}
use Rattle.futex.specs.declared.waiters.Waiter.{Waiter}
use Rattle.futex.specs.Waiting.{is_at, is_of}

-- each thread waits once at most, and its number is below 64
abbrev pub AreApart : List Waiter → Type 0
AreApart [] = Unit {0}
AreApart (w ∷ ws) = (w.thread < 64) × (find (is_of w.thread) ws ≡ None) × AreApart ws

-- the waiters that are none of these threads
abbrev pub other_than : List ℕ → List Waiter → List Waiter
other_than gone ws = filter (λ w. not (list_any (λ t. t == w.thread) gone)) ws

-- the threads that are woken, when one waiter more is looked at
unfoldable pub with_next : CellId → ℕ → Waiter → List ℕ → List ℕ
with_next cell many w woken = if nat_lt (length woken) many && is_at cell w then woken ++ w.thread ∷ [] else woken
