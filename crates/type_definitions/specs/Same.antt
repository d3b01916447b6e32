-- The same type: two definitions unfold alike to every depth.
use Rattle.std.specs.Prelude.{ℕ, zero, suc, ◌==◌, Bool, true, false, ◌&&◌, List, [], ◌∷◌, length, Option, Some, None, slice_get, ◌<◌}
use Rattle.std.specs.List.{All}
use Rattle.type_definitions.specs.declared.definition.TypeDef.{TypeDef}
use Rattle.type_definitions.specs.Definition.{constructor, number, arguments}

-- the two lists are equally long, and each pair passes the test
abbrev pub pairs : (ℕ → ℕ → Bool) → List ℕ → List ℕ → Bool
pairs r [] [] = true
pairs r (x ∷ xs) (y ∷ ys) = r x y && pairs r xs ys
pairs r [] (y ∷ ys) = false
pairs r (x ∷ xs) [] = false

-- same constructor, same number, and arguments that pass the test in pairs
abbrev pub agree : (ℕ → ℕ → Bool) → TypeDef → TypeDef → Bool
agree r a b = (constructor a == constructor b) && (number a == number b) && pairs r (arguments a) (arguments b)

-- the same of what stands at two ids; false where nothing does
abbrev pub agree_at : (ℕ → ℕ → Bool) → Option TypeDef → Option TypeDef → Bool
agree_at r (Some a) (Some b) = agree r a b
agree_at r None o = false
agree_at r (Some a) None = false

-- alike to depth 0 are all; to one depth more those that agree, with arguments alike to that depth
unfoldable pub alike : List TypeDef → ℕ → ℕ → ℕ → Bool
alike graph zero a b = true
alike graph (suc depth) a b = agree_at (alike graph depth) (slice_get graph a) (slice_get graph b)

-- the same type or signature: alike to the depth that is the number of types and signatures of the graph
abbrev pub same : List TypeDef → ℕ → ℕ → Bool
same graph a b = alike graph (length graph) a b

-- each argument is the id of a definition of the graph
abbrev pub IsGraph : List TypeDef → Type 0
IsGraph graph = All (λ d. All (λ y. y < length graph) (arguments d)) graph
