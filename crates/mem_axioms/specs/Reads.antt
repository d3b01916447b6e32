-- The positions that a load, or a comparison that fails, may read: the options of a load, save those whose value is
-- excluded. A strong comparison excludes the expected value.
use Rattle.std.specs.Prelude.{ℕ, zero, suc, Bool, true, not, if◌then◌else◌, filter, List, [], ◌∷◌, Option, Some, None}
use Rattle.mu_base.specs.declared.order.Order.{Order}
use Rattle.mu_values.specs.declared.scalars.Scalar.{Scalar}
use Rattle.mu_values.specs.declared.cells.CellId.{CellId}
use Rattle.mem_axioms.specs.Choices.{options, holds}
use Rattle.mem_axioms.specs.declared.types.Rule.{Rule}
use Rattle.mem_axioms.specs.declared.types.Event.{Event}

abbrev pub is_kept : (CellId → Scalar) → List Event → CellId → Option Scalar → ℕ → Bool
is_kept initial log cell None position = true
is_kept initial log cell (Some excluded) position = not (holds initial log cell excluded position)

abbrev pub reads : Rule → (CellId → Scalar) → List Event → ℕ → CellId → Order → Option Scalar → List ℕ
reads rule initial log thread cell order excluded = filter (is_kept initial log cell excluded) (options rule initial log thread cell order)

-- what a comparison excludes
abbrev pub excluded_by : Bool → Scalar → Option Scalar
excluded_by weak expected = if weak then None else Some expected

-- the positions below a number that pass, from the greatest down
abbrev pub below : (ℕ → Bool) → ℕ → List ℕ
below test zero = []
below test (suc n) = if test n then n ∷ below test n else below test n
