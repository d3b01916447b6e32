-- For which values a list of values has room.
use Rattle.std.specs.Prelude.{ℕ, ◌+◌, ◌≤◌, List, [], ◌∷◌, length}
use Rattle.mu_values.specs.declared.scalars.Scalar.{Scalar}
use Rattle.mu_values.specs.Slots.{RoomyValues}

-- how many scalars these values have
abbrev pub scalars_in : List (List Scalar) → ℕ
scalars_in [] = 0
scalars_in (v ∷ vs) = length v + scalars_in vs

-- a list has room for these values
abbrev pub HasRoomFor : RoomyValues → List (List Scalar) → Type 0
HasRoomFor to vs = (length vs ≤ to.spare) × (scalars_in vs ≤ to.spare_scalars)
