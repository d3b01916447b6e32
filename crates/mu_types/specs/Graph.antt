-- The graph of written types and signatures, and the whole graph, as public contracts see them.
use Rattle.std.specs.Prelude.{ℕ, List}
use Rattle.type_definitions.specs.declared.definition.TypeDef.{TypeDef}

-- the definitions by id, and by id the places: that of the name, then that of each argument
pub record Written : Type 0 where
  pub definitions : List TypeDef
  pub places : List (List ℕ)

-- the whole graph: the definitions by id, and how many of them, the first ones, are written
pub record Table : Type 0 where
  pub definitions : List TypeDef
  pub written : ℕ
