-- The positions that a strong comparison may read, and how many values are looked at.
use Rattle.std.specs.Prelude.{ℕ, ◌+◌, ◌*◌, min, Bool, not, ◌&&◌, nat_le, List, Option, Some, None}
use Rattle.mu_values.specs.declared.scalars.Scalar.{Scalar}
use Rattle.mu_values.specs.declared.cells.CellId.{CellId}
use Rattle.mem_axioms.specs.Choices.{holds}
use Rattle.mem_axioms.specs.Reads.{below}
use Rattle.mem_axioms.specs.declared.types.Event.{Event}
use Rattle.mem_views.specs.Threads.{thread_count}

-- from the floor on, with another value
abbrev pub differs_from : (CellId → Scalar) → List Event → CellId → ℕ → Scalar → ℕ → Bool
differs_from initial log cell floor scalar position = nat_le floor position && not (holds initial log cell scalar position)

-- those up to the last, from the newest down
abbrev pub differing : (CellId → Scalar) → List Event → CellId → ℕ → Scalar → ℕ → List ℕ
differing initial log cell floor scalar last = below (differs_from initial log cell floor scalar) (last + 1)

-- a floor takes four searches for each thread
abbrev pub floor_bound : List Event → ℕ → ℕ
floor_bound log d = 4 * (thread_count log * (d + 1))

-- For every d with fewer than 2^d events in the log: to count the positions below one that have another value takes two
-- searches among the positions of that value, of d + 65 looks each, and a look at the initial scalar.
abbrev pub count_bound : ℕ → ℕ
count_bound d = 2 * d + 131

-- Where a value is excluded, each of the positions that may be read is looked at, or, of more than 128 of them, they are counted.
abbrev pub looks_bound : ℕ → ℕ → Option Scalar → ℕ
looks_bound d positions None = 0
looks_bound d positions (Some scalar) = min positions 128 + (2 * d + 3)
