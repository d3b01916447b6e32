-- The slots of threads, which name places.
use Rattle.std.specs.Prelude.{◌≡◌, ℕ, ◌<◌, ◌≤◌, min, sum_by, List, length, slice_index}

-- Each slot that is not 0 names a place of its own, and there are no more places than those name.
pub record IsPlaced (slots : List ℕ) (places : ℕ) : Type 0 where
  pub short : length slots ≤ 64
  pub few : places ≤ sum_by (λ n. min n 1) slots
  pub within : (t : ℕ) → slice_index slots t ≤ places
  pub apart : (t u : ℕ) → 0 < slice_index slots t → slice_index slots t ≡ slice_index slots u → t ≡ u
