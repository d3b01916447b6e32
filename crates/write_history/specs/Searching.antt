-- What a search among the positions of one value finds.
use Rattle.std.specs.Prelude.{◌≡◌, ℕ, ◌-◌, ◌<◌, ◌≤◌, Bool, true, false, if◌then◌else◌, nat_lt, List, length, take, slice_index, Option, Some, None}
use Rattle.mu_values.specs.declared.scalars.Scalar.{Scalar}
use Rattle.mu_values.specs.SameScalar.{same_scalar}
use Rattle.write_history.specs.ScalarOrder.{is_lower}
use Rattle.write_history.specs.ByValue.{value_in}
use Rattle.write_history.specs.Occurrences.{occurrences}
use Rattle.write_history.specs.declared.finding.Sought.{Sought}

-- of each position, how many earlier ones have its value
pub record AreRanks (values : List Scalar) (ranks : List ℕ) : Type 0 where
  pub size : length ranks ≡ length values
  pub rank : (position : ℕ) → position < length values → slice_index ranks position ≡ occurrences (value_in values position) (take position values)

-- what is below its limit: a position, or how many positions below it have another value
abbrev pub measure : Bool → List Scalar → ℕ → ℕ
measure others values position = if others then position - occurrences (value_in values position) (take position values) else position

-- In the order of values a search passes the positions of lower values, and those of its value with a measure below its limit.
abbrev pub passes : List Scalar → Sought → ℕ → Bool
passes values sought position =
    if same_scalar (value_in values position) sought.value then nat_lt (measure sought.others values position) sought.limit
    else is_lower (value_in values position) sought.value

-- the last position of the value, from start up to end, whose measure is below the limit
abbrev pub LastIn : List Scalar → Sought → ℕ → ℕ → Option ℕ → Type 0
LastIn values sought start end None = (q : ℕ) → start ≤ q → q < end → value_in values q ≡ sought.value → sought.limit ≤ measure sought.others values q
LastIn values sought start end (Some p) =
    (start ≤ p) × (p < end) × (value_in values p ≡ sought.value) × (measure sought.others values p < sought.limit)
    × ((q : ℕ) → p < q → q < end → value_in values q ≡ sought.value → sought.limit ≤ measure sought.others values q)

-- from start up to the cut all places pass, and from there up to end none does
pub record IsCut (values : List Scalar) (order : List ℕ) (sought : Sought) (start end cut : ℕ) : Type 0 where
  pub from : start ≤ cut
  pub to : cut ≤ end
  pub below : (i : ℕ) → start ≤ i → i < cut → passes values sought (slice_index order i) ≡ true
  pub above : (i : ℕ) → cut ≤ i → i < end → passes values sought (slice_index order i) ≡ false
