-- Parts that stand behind each other, as runs of the same part.
-- Contracts inside the crate cite this; no public one does, so no reader of those needs it.
use Rattle.std.specs.Prelude.{ℕ, ◌+◌, List, [], ◌∷◌, ◌++◌, map, take, sum_by, slice_index}
use Rattle.type_definitions.specs.declared.definition.TypeDef.{TypeDef}
use Rattle.type_definitions.specs.Leaves.{times}
use Rattle.hail_load.specs.declared.parts.Part.{Part}
use Rattle.hail_load.specs.declared.parts.Part.TheVariants.{Value}
use Rattle.hail_load.specs.declared.parts.Spot.{Spot}
use Rattle.hail_load.specs.declared.pending.Run.{Run}
use Rattle.hail_load.specs.Parts.{size_of}

abbrev pub parts_in : Run → List Part
parts_in r = times r.many (r.part ∷ [])

-- the last run comes first
abbrev pub parts_left : List Run → List Part
parts_left [] = []
parts_left (r ∷ rs) = parts_left rs ++ parts_in r

-- where a field stands
abbrev pub field_spot : List TypeDef → Spot → List ℕ → ℕ → Spot
field_spot graph s fields n = record { object = s.object; at = s.at + sum_by (size_of graph) (map Value (take n fields)); part = Value (slice_index fields n) }
