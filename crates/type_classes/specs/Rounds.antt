-- The least that is alike to a depth, and the first that agrees.
-- Contracts inside the crate cite this; no public one does, so no reader of those needs it.
use Rattle.std.specs.Prelude.{◌≡◌, ℕ, ◌<◌, ◌≤◌, true, false, List, length, slice_index, slice_get}
use Rattle.type_definitions.specs.declared.definition.TypeDef.{TypeDef}
use Rattle.type_definitions.specs.Same.{alike, agree_at}
use Rattle.type_definitions.specs.Partition.{alike_by}

abbrev pub IsLeastTo : List TypeDef → ℕ → List ℕ → Type 0
IsLeastTo g k p = (x : ℕ) → x < length g → (slice_index p x ≤ x) × (alike g k (slice_index p x) x ≡ true) × ((b : ℕ) → b < length g → alike g k b x ≡ true → slice_index p x ≤ b)

-- y is x or agrees with x, and none before y agrees with x
abbrev pub IsFirstTo : List TypeDef → List ℕ → ℕ → ℕ → Type 0
IsFirstTo g p x y = (y ≤ x) × ((y < x) → agree_at (alike_by p) (slice_get g y) (slice_get g x) ≡ true) × ((b : ℕ) → b < y → agree_at (alike_by p) (slice_get g b) (slice_get g x) ≡ false)
