-- The leaves of a type: the scalar types in it, from left to right.
use Rattle.std.specs.Prelude.{ℕ, zero, suc, List, [], ◌∷◌, ◌++◌, length, Option, Some, None, slice_get}
use Rattle.std.specs.List.{flat_map}
use Rattle.type_definitions.specs.declared.definition.TypeDef.{TypeDef}
use Rattle.type_definitions.specs.declared.definition.TypeDef.TheVariants.{Struct, Array, Hybrid, Void, Sig}

-- a list that many times over
abbrev pub times : {X : Type 0} → ℕ → List X → List X
times zero xs = []
times (suc n) xs = xs ++ times n xs

-- the leaves of t by its definition, where those of its parts are told: a scalar type is its own leaf; a struct has those of its
-- fields; an array those of its element as often as its length; a hybrid those of its fixed fields; void and signatures have none
abbrev pub leaves_by : (ℕ → List ℕ) → ℕ → TypeDef → List ℕ
leaves_by of t (Struct fields) = flat_map of fields
leaves_by of t (Array element size) = times size (of element)
leaves_by of t (Hybrid fixed element) = flat_map of fixed
leaves_by of t Void = []
leaves_by of t (Sig takes gives) = []
leaves_by of t _ = t ∷ []

abbrev pub leaves_at : (ℕ → List ℕ) → ℕ → Option TypeDef → List ℕ
leaves_at of t None = []
leaves_at of t (Some d) = leaves_by of t d

-- the leaves to a depth: to depth 0 none
unfoldable pub leaves_to : List TypeDef → ℕ → ℕ → List ℕ
leaves_to graph zero t = []
leaves_to graph (suc depth) t = leaves_at (leaves_to graph depth) t (slice_get graph t)

-- where no type contains itself, no part stands deeper than the number of types
abbrev pub leaves : List TypeDef → ℕ → List ℕ
leaves graph t = leaves_to graph (length graph) t
