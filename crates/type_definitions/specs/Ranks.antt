-- Inner: ranks of the types, under which parts stand no higher than their wholes, or lower.
-- Inner contracts of the crate that finds the classes cite this; no public one does, so no reader of those needs it.
use Rattle.std.proofs.Common.{ℕ, ◌<◌, ◌≤◌, List, length, slice_get}
use Rattle.std.specs.Prelude.{slice_index}
use Rattle.std.specs.List.{All}
use Rattle.type_definitions.specs.declared.definition.TypeDef.{TypeDef}
use Rattle.type_definitions.specs.Parts.{parts_at}

-- no part stands higher than its whole
abbrev pub Descends : List TypeDef → List ℕ → Type 0
Descends g rank = (a : ℕ) → a < length g → All (λ p. slice_index rank p ≤ slice_index rank a) (parts_at (slice_get g a))

-- each part of it stands lower
abbrev pub IsFree : List TypeDef → List ℕ → ℕ → Type 0
IsFree g rank a = All (λ p. slice_index rank p < slice_index rank a) (parts_at (slice_get g a))

-- ranks below the number of types, each part lower than its whole
pub record AreRanked (g : List TypeDef) (rank : List ℕ) : Type 0 where
  pub within : (a : ℕ) → a < length g → slice_index rank a < length g
  pub free : (a : ℕ) → a < length g → IsFree g rank a
