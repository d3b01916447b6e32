-- What a finished graph keeps true of its private fields.
-- The contract of `Classes::held` cites this, and no other public one.
use Rattle.std.proofs.Common.{◌≡◌, ℕ, ◌+◌, ◌^◌, ◌<◌, List, [], length, map}
use Rattle.std.specs.Prelude.{slice_index, slice_index_or}
use Rattle.type_definitions.specs.declared.definition.TypeDef.{TypeDef}
use Rattle.type_definitions.specs.Same.{IsGraph}
use Rattle.type_definitions.specs.Class.{class_of}
use Rattle.type_definitions.specs.Leaves.{leaves}
use Rattle.type_definitions.specs.Partition.{IsLeast}
use Rattle.mu_types.specs.References.{Referred, IsHeaded}

-- the row with the number that the class of a type is has the classes of its leaves
abbrev pub RowsHold : List TypeDef → List ℕ → List (List ℕ) → Type 0
RowsHold g class rows = (t : ℕ) → t < length g → slice_index_or rows (slice_index class t) [] ≡ map (class_of g) (leaves g t)

pub record IsLawful (written : ℕ) (g : List TypeDef) (first class : List ℕ) (rows : List (List ℕ)) : Type 0 where
  pub few : length g < 2 ^ 32
  pub graph : IsGraph g
  pub classed : length class ≡ length g
  pub listed : length rows ≡ length g
  pub least : IsLeast g class
  pub held : RowsHold g class rows
  pub referred : Referred g first (written + 1)
  pub headed : IsHeaded g written
