-- Which values fit a type, among the objects, functions, stacks and threads that there are.
use Rattle.std.specs.Prelude.{◌≡◌, ℕ, ◌/◌, ◌<◌, ◌^◌, Bool, true, false, ◌&&◌, ◌||◌, ◌==◌, nat_lt, List, [], ◌∷◌, Option, Some, None, IsSomeAnd, length, drop, map, slice_get, bytes_eq}
use Rattle.type_definitions.specs.declared.definition.TypeDef.{TypeDef}
use Rattle.type_definitions.specs.declared.definition.TypeDef.TheVariants as types
use Rattle.type_definitions.specs.Leaves.{times}
use Rattle.type_definitions.specs.Class.{class_of}
use Rattle.mu_values.specs.declared.scalars.Scalar.{Scalar}
use Rattle.mu_values.specs.declared.scalars.Scalar.TheVariants.{Int, Null, Object, Place, Func, Stack, Thread}
use Rattle.check_tables.specs.declared.tables.Tables.{Tables}
use Rattle.check_tables.specs.Lookups.{noted_signature}
use Rattle.check_tables.specs.TypeTests.{repeated_of}
use Rattle.typed_heap.specs.Objects.{HeapObject, leaf_classes}

-- ---- by leaves

-- the wanted leaves are the first of those that are found
abbrev pub begins : List ℕ → List ℕ → Bool
begins [] found = true
begins (c ∷ cs) [] = false
begins (c ∷ cs) (d ∷ ds) = (c == d) && begins cs ds

-- whole runs of these leaves and no more
abbrev pub are_runs : List ℕ → List ℕ → Bool
are_runs run found = bytes_eq found (times (length found / length run) run)

abbrev pub rest_fits : List TypeDef → Option ℕ → List ℕ → Bool
rest_fits graph None found = true
rest_fits graph (Some element) found = are_runs (leaf_classes graph element) found

-- the leaves that are found begin with those of the type; where it is a hybrid, the rest are whole runs of its element's
abbrev pub fits : List TypeDef → ℕ → List ℕ → Bool
fits graph t found = begins (leaf_classes graph t) found && rest_fits graph (repeated_of (slice_get graph t)) (drop (length (leaf_classes graph t)) found)

-- a place of an object: the wanted type is found there, or it is the object's end
abbrev pub place_fits : List TypeDef → ℕ → HeapObject → ℕ → Bool
place_fits graph t o at = (at == length o.leaves) || (nat_lt at (length o.leaves) && fits graph t (drop at o.leaves))

-- ---- values

-- what there is: the objects, the class of the signature of each function, and how many stacks and threads were made
pub record World : Type 0 where
  pub objects : List HeapObject
  pub signatures : List ℕ
  pub stacks : ℕ
  pub threads : ℕ

-- the class of the signature of each function of a bundle
abbrev pub signature_classes : Tables → List ℕ
signature_classes p = map (λ s. noted_signature (slice_get p.signatures s)) p.functions

-- A scalar of a type that is its own leaf: an integer below 2^width; NULL, or an object, a place or a function that fits what the type
-- refers to; a stack or a thread that was made.
abbrev pub DefinitionFits : List TypeDef → World → TypeDef → Scalar → Type 0
DefinitionFits graph w (types.Int width) (Int v n) = (v ≡ width) × (n < 2 ^ width)
DefinitionFits graph w (types.Ref t) Null = Unit {0}
DefinitionFits graph w (types.Ref t) (Object n) = IsSomeAnd (slice_get w.objects n) (λ o. fits graph t o.leaves ≡ true)
DefinitionFits graph w (types.Iref t) Null = Unit {0}
DefinitionFits graph w (types.Iref t) (Place n at) = IsSomeAnd (slice_get w.objects n) (λ o. place_fits graph t o at ≡ true)
DefinitionFits graph w (types.FuncRef s) Null = Unit {0}
DefinitionFits graph w (types.FuncRef s) (Func f) = IsSomeAnd (slice_get w.signatures f) (λ g. g ≡ class_of graph s)
DefinitionFits graph w types.StackRef Null = Unit {0}
DefinitionFits graph w types.StackRef (Stack k) = k < w.stacks
DefinitionFits graph w types.ThreadRef Null = Unit {0}
DefinitionFits graph w types.ThreadRef (Thread i) = i < w.threads
DefinitionFits graph w _ _ = ⊥

-- a scalar of a leaf's class
abbrev pub ScalarFits : List TypeDef → World → ℕ → Scalar → Type 0
ScalarFits graph w c s = IsSomeAnd (slice_get graph c) (λ d. DefinitionFits graph w d s)

-- scalars of some leaves, one each
abbrev pub ScalarsFit : List TypeDef → World → List ℕ → List Scalar → Type 0
ScalarsFit graph w [] [] = Unit {0}
ScalarsFit graph w [] (s ∷ ss) = ⊥
ScalarsFit graph w (c ∷ cs) [] = ⊥
ScalarsFit graph w (c ∷ cs) (s ∷ ss) = ScalarFits graph w c s × ScalarsFit graph w cs ss

-- a value of a class: one scalar for each leaf, each fitting it
abbrev pub ValueFits : List TypeDef → World → ℕ → List Scalar → Type 0
ValueFits graph w c v = ScalarsFit graph w (leaf_classes graph c) v
