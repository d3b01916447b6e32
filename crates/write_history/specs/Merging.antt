-- Two runs while they are merged.
use Rattle.std.specs.Prelude.{◌≡◌, ℕ, ◌+◌, ◌<◌, ◌≤◌, List, length, slice_index}
use Rattle.mu_values.specs.declared.scalars.Scalar.{Scalar}
use Rattle.write_history.specs.ByValue.{ComesBefore}

-- The older run stands from start up to middle, and the newer one from middle on. What was taken of both, up to left and up
-- to right, is merged.
pub record Interleaves (values : List Scalar) (order : List ℕ) (start middle left right : ℕ) (merged : List ℕ) : Type 0 where
  pub left_from : start ≤ left
  pub left_to : left ≤ middle
  pub right_from : middle ≤ right
  pub right_to : right ≤ length order
  pub count : length merged + (start + middle) ≡ left + right
  pub ordered : (i j : ℕ) → i < j → j < length merged → ComesBefore values (slice_index merged i) (slice_index merged j)
  pub ahead_left : (i k : ℕ) → i < length merged → left ≤ k → k < middle → ComesBefore values (slice_index merged i) (slice_index order k)
  pub ahead_right : (i k : ℕ) → i < length merged → right ≤ k → k < length order → ComesBefore values (slice_index merged i) (slice_index order k)
  pub within : (i : ℕ) → i < length merged → (start ≤ slice_index merged i) × (slice_index merged i < length order)
  pub all_left : (k : ℕ) → start ≤ k → k < left → (i : ℕ) × (i < length merged) × (slice_index merged i ≡ slice_index order k)
  pub all_right : (k : ℕ) → middle ≤ k → k < right → (i : ℕ) × (i < length merged) × (slice_index merged i ≡ slice_index order k)
