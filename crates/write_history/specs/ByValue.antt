-- The positions of a cell in the order of their values, those of one value in rising order.
use Rattle.std.specs.Prelude.{◌≡◌, ◌⊎◌, ℕ, ◌<◌, ◌≤◌, ◌+◌, ◌-◌, Bool, true, false, not, ◌==◌, if◌then◌else◌, List, length, slice_index, slice_index_or}
use Rattle.mu_values.specs.declared.scalars.Scalar.{Scalar}
use Rattle.mu_values.specs.declared.scalars.Scalar.TheVariants.{Null}
use Rattle.write_history.specs.ScalarOrder.{is_lower}
use Rattle.write_history.specs.declared.runs.Starts.{Starts}

-- the value at a position
abbrev pub value_in : List Scalar → ℕ → Scalar
value_in values position = slice_index_or values position Null

-- Position p comes before position q: its value is lower, or it is the earlier of one value.
abbrev pub ComesBefore : List Scalar → ℕ → ℕ → Type 0
ComesBefore values p q = (is_lower (value_in values p) (value_in values q) ≡ true) ⊎ ((value_in values p ≡ value_in values q) × (p < q))

-- The list has the positions from start up to end at its places from start up to end, in their order.
pub record IsRun (values : List Scalar) (order : List ℕ) (start end : ℕ) : Type 0 where
  pub ordered : (i j : ℕ) → start ≤ i → i < j → j < end → ComesBefore values (slice_index order i) (slice_index order j)
  pub within : (i : ℕ) → start ≤ i → i < end → (start ≤ slice_index order i) × (slice_index order i < end)
  pub all : (position : ℕ) → start ≤ position → position < end → (i : ℕ) × (start ≤ i) × (i < end) × (slice_index order i ≡ position)

-- All positions stand in four runs, and only the first is long.
pub record AreRuns (values : List Scalar) (order : List ℕ) (starts : Starts) : Type 0 where
  pub second : starts.second ≤ starts.third
  pub third : starts.third ≤ starts.fourth
  pub fourth : starts.fourth ≤ length order
  pub first_run : IsRun values order 0 starts.second
  pub second_run : IsRun values order starts.second starts.third
  pub third_run : IsRun values order starts.third starts.fourth
  pub fourth_run : IsRun values order starts.fourth (length order)
  pub second_short : starts.third ≤ starts.second + 32768
  pub third_short : starts.fourth ≤ starts.third + 1024
  pub fourth_short : length order ≤ starts.fourth + 32

-- Of what is left of two runs, the next is of the older one.
abbrev pub next_is_older : List Scalar → List ℕ → ℕ → ℕ → ℕ → Bool
next_is_older values order left middle right =
    if left == middle then false else if right == length order then true
    else not (is_lower (value_in values (slice_index order right)) (value_in values (slice_index order left)))

-- The same with one more position, the newest, which stands behind the fourth run.
pub record BeforeSettling (values : List Scalar) (order : List ℕ) (starts : Starts) : Type 0 where
  pub second : starts.second ≤ starts.third
  pub third : starts.third ≤ starts.fourth
  pub fourth : starts.fourth < length order
  pub first_run : IsRun values order 0 starts.second
  pub second_run : IsRun values order starts.second starts.third
  pub third_run : IsRun values order starts.third starts.fourth
  pub fourth_run : IsRun values order starts.fourth (length order - 1)
  pub newest_run : IsRun values order (length order - 1) (length order)
  pub second_short : starts.third ≤ starts.second + 32768
  pub third_short : starts.fourth ≤ starts.third + 1024
