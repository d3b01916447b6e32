-- The parts of a type, and which types contain themselves. A reference has no part: what it leads to is elsewhere.
use Rattle.std.specs.Prelude.{ℕ, zero, suc, Bool, false, ◌||◌, ◌==◌, List, [], ◌∷◌, ◌++◌, length, Option, Some, None, slice_get}
use Rattle.std.specs.List.{list_any}
use Rattle.type_definitions.specs.declared.definition.TypeDef.{TypeDef}
use Rattle.type_definitions.specs.declared.definition.TypeDef.TheVariants.{Struct, Array, Hybrid}

-- the fields of a struct, the element of an array, the fixed fields of a hybrid and its element
abbrev pub parts : TypeDef → List ℕ
parts (Struct fields) = fields
parts (Array element size) = element ∷ []
parts (Hybrid fixed element) = fixed ++ element ∷ []
parts _ = []

abbrev pub parts_at : Option TypeDef → List ℕ
parts_at None = []
parts_at (Some d) = parts d

-- a walk of at least one and at most that many steps, each from a type to a part of it, leads from a to b
unfoldable pub leads : List TypeDef → ℕ → ℕ → ℕ → Bool
leads graph zero b a = false
leads graph (suc steps) b a = list_any (λ p. (p == b) || leads graph steps b p) (parts_at (slice_get graph a))

-- a walk leads from the type back to it; one of more steps than there are types passes a type twice, and can be cut short
abbrev pub contains_itself : List TypeDef → ℕ → Bool
contains_itself graph t = leads graph (length graph) t t
