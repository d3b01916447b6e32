-- What holds of the same type, of classes, of leaves and of walks in every graph; all but the laws of walks ask that its arguments are ids of it.
use Rattle.std.specs.Prelude.{◌≡◌, ◌↔◌, ℕ, true, false, ◌<◌, ◌≤◌, List, length, map, slice_get}
use Rattle.std.specs.List.{All}
use Rattle.type_definitions.specs.declared.definition.TypeDef.{TypeDef}
use Rattle.type_definitions.specs.Same.{alike, same, agree_at}
use Rattle.type_definitions.specs.Class.{class_of}
use Rattle.type_definitions.specs.Scalars.{is_scalar}
use Rattle.type_definitions.specs.Leaves.{leaves, leaves_at}
use Rattle.type_definitions.specs.Parts.{leads, contains_itself}

-- the same type is an equivalence
pub record IsEquivalence (graph : List TypeDef) : Type 0 where
  pub reflexive : (a : ℕ) → a < length graph → same graph a a ≡ true
  pub symmetric : (a b : ℕ) → same graph a b ≡ true → same graph b a ≡ true
  pub transitive : (a b c : ℕ) → same graph a b ≡ true → same graph b c ≡ true → same graph a c ≡ true

-- two are the same exactly where their definitions agree, with arguments that are the same
abbrev pub IsCongruence : List TypeDef → Type 0
IsCongruence graph = (a b : ℕ) → a < length graph → b < length graph →
    (same graph a b ≡ true) ↔ (agree_at (same graph) (slice_get graph a) (slice_get graph b) ≡ true)

-- two that are the same are alike to each depth
abbrev pub IsSteady : List TypeDef → Type 0
IsSteady graph = (depth a b : ℕ) → a < length graph → b < length graph → same graph a b ≡ true → alike graph depth a b ≡ true

-- a class is no later than its types, and two classes are equal exactly for the same type
pub record ClassesDecide (graph : List TypeDef) : Type 0 where
  pub no_later : (a : ℕ) → a < length graph → class_of graph a ≤ a
  pub of_it : (a : ℕ) → a < length graph → same graph (class_of graph a) a ≡ true
  pub equal : (a b : ℕ) → a < length graph → b < length graph → (class_of graph a ≡ class_of graph b) ↔ (same graph a b ≡ true)

-- the leaves of two that are the same type are the same types, one by one
abbrev pub LeavesRespect : List TypeDef → Type 0
LeavesRespect graph = (a b : ℕ) → a < length graph → b < length graph → same graph a b ≡ true →
    map (class_of graph) (leaves graph a) ≡ map (class_of graph) (leaves graph b)

-- no type contains itself
abbrev pub IsFinite : List TypeDef → Type 0
IsFinite graph = (t : ℕ) → t < length graph → contains_itself graph t ≡ false

-- the leaves of a type are by its definition those of its parts
abbrev pub LeavesUnfold : List TypeDef → Type 0
LeavesUnfold graph = (t : ℕ) → t < length graph → leaves graph t ≡ leaves_at (leaves graph) t (slice_get graph t)

-- each leaf is a scalar type
abbrev pub LeavesAreScalar : List TypeDef → Type 0
LeavesAreScalar graph = (t : ℕ) → All (λ leaf. is_scalar (slice_get graph leaf) ≡ true) (leaves graph t)

-- types of one class have leaves of the same classes
abbrev pub ClassesDecideLeaves : List TypeDef → Type 0
ClassesDecideLeaves graph = (a b : ℕ) → a < length graph → b < length graph → class_of graph a ≡ class_of graph b →
    map (class_of graph) (leaves graph a) ≡ map (class_of graph) (leaves graph b)

-- where a walk of any number of steps leads from a to b, one of at most as many steps as there are types and signatures does
abbrev pub WalksAreCut : List TypeDef → Type 0
WalksAreCut graph = (steps a b : ℕ) → leads graph steps b a ≡ true → leads graph (length graph) b a ≡ true

-- a type from which a walk of any number of steps leads back to it contains itself
abbrev pub ReturnsAreFound : List TypeDef → Type 0
ReturnsAreFound graph = (steps t : ℕ) → leads graph steps t t ≡ true → contains_itself graph t ≡ true
