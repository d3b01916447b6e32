-- How many entries of histories and indexes a call may look at.
use Rattle.std.specs.Prelude.{ℕ, ◌+◌, ◌*◌, List, length}
use Rattle.mu_values.specs.declared.scalars.Scalar.{Scalar}
use Rattle.mu_values.specs.declared.cells.CellId.{CellId}
use Rattle.mem_axioms.specs.Choices.{options}
use Rattle.mem_axioms.specs.declared.types.Rule.{Rule}
use Rattle.mem_axioms.specs.declared.types.Event.{Event}
use Rattle.mem_axioms.specs.declared.types.Wanted.{Wanted}
use Rattle.mem_axioms.specs.declared.types.Wanted.TheVariants.{Load, Swap, Compare}
use Rattle.mem_views.specs.Threads.{thread_count}

-- For every d with fewer than 2^d events in the log, of which the least is how many binary digits that number has: eight
-- searches and eight more for each thread, each of d + 1 entries.
abbrev pub search_bound : List Event → ℕ → ℕ
search_bound log d = (8 * thread_count log + 8) * (d + 1)

-- A comparison may look besides at each position that a load of its failure order may read.
abbrev pub failure_options : Rule → (CellId → Scalar) → List Event → ℕ → CellId → Wanted → ℕ
failure_options rule initial log thread cell (Load order) = 0
failure_options rule initial log thread cell Swap = 0
failure_options rule initial log thread cell (Compare success failure expected weak) = length (options rule initial log thread cell failure)
