-- The positions of a cell by the values that they hold.
use Rattle.std.specs.Prelude.{◌≡◌, ℕ, ◌+◌, ◌<◌, false, List, length, take, slice_index_or, count_by}
use Rattle.mu_values.specs.declared.scalars.Scalar.{Scalar}
use Rattle.mu_values.specs.declared.scalars.Scalar.TheVariants.{Null}
use Rattle.mu_values.specs.SameScalar.{same_scalar}

-- how many of the values are this one
abbrev pub occurrences : Scalar → List Scalar → ℕ
occurrences value values = count_by (λ x. same_scalar x value) values

-- The position has another value, and so many below it have another value.
pub record IsOther (value : Scalar) (values : List Scalar) (below position : ℕ) : Type 0 where
  pub there : position < length values
  pub differs : same_scalar (slice_index_or values position Null) value ≡ false
  pub counted : position ≡ below + occurrences value (take position values)
