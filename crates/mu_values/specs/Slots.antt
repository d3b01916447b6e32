-- Lists of values that stand in one row of scalars.
use Rattle.std.specs.Prelude.{◌≡◌, ℕ, zero, suc, ◌≤◌, List, [], ◌∷◌, slice_index, slice_range}
use Rattle.mu_values.specs.declared.scalars.Scalar.{Scalar}

-- the values in a row of scalars, where the first begins at `from` and each other one where the one before it ends
abbrev pub cut : ℕ → List ℕ → List Scalar → List (List Scalar)
cut from [] scalars = []
cut from (end ∷ ends) scalars = slice_range scalars from end ∷ cut end ends scalars

-- where value n begins
abbrev pub begin : ℕ → List ℕ → ℕ → ℕ
begin from ends zero = from
begin from ends (suc n) = slice_index ends n

-- no value ends before it begins, and the last one ends where the row does, which has so many scalars
abbrev pub IsCut : ℕ → List ℕ → ℕ → Type 0
IsCut from [] many = from ≡ many
IsCut from (end ∷ ends) many = (from ≤ end) × IsCut end ends many

-- values, and for how many more there is room, and for how many scalars
pub record RoomyValues : Type 0 where
  pub values : List (List Scalar)
  pub spare : ℕ
  pub spare_scalars : ℕ

-- values, and the class of the type of each
pub record TypedValues : Type 0 where
  pub types : List ℕ
  pub values : List (List Scalar)
