-- Inner: how many leaves a definition has, told for its parts, up to a limit.
-- Inner contracts of the crate that finds the classes cite this; no public one does, so no reader of those needs it.
use Rattle.std.proofs.Common.{ℕ, ◌*◌}
use Rattle.std.specs.List.{sum_by}
use Rattle.type_definitions.specs.declared.definition.TypeDef.{TypeDef}
use Rattle.type_definitions.specs.declared.definition.TypeDef.TheVariants.{Struct, Array, Hybrid, Void, Sig}

-- the number of leaves of a definition, where that of each part is told
abbrev pub count_by : (ℕ → ℕ) → TypeDef → ℕ
count_by of (Struct fields) = sum_by of fields
count_by of (Array element size) = size * of element
count_by of (Hybrid fixed element) = sum_by of fixed
count_by of Void = 0
count_by of (Sig takes gives) = 0
count_by of _ = 1
