-- What scalars the value of a constant has at the leaves of its type.
use Rattle.std.specs.Prelude.{◌≡◌, ℕ, ◌<◌, ◌^◌, List, [], ◌∷◌, Option, Some, slice_get}
use Rattle.type_definitions.specs.declared.definition.TypeDef.{TypeDef}
use Rattle.type_definitions.specs.declared.definition.TypeDef.TheVariants.{Ref, Iref, FuncRef, StackRef, ThreadRef}
use Rattle.type_definitions.specs.declared.definition.TypeDef.TheVariants as types
use Rattle.mu_values.specs.declared.scalars.Scalar.{Scalar}
use Rattle.mu_values.specs.declared.scalars.Scalar.TheVariants.{Int, Null}

-- an integer of that width
abbrev pub IsOfWidth : ℕ → Scalar → Type 0
IsOfWidth width (Int w bits) = (w ≡ width) × (bits < 2 ^ width)
IsOfWidth width _ = ⊥

abbrev pub IsNull : Scalar → Type 0
IsNull Null = Unit {0}
IsNull _ = ⊥

-- at a leaf with this definition: an int has an integer of its width, a reference has NULL; nothing else is a leaf
abbrev pub FitsLeaf : Option TypeDef → Scalar → Type 0
FitsLeaf (Some (types.Int width)) s = IsOfWidth width s
FitsLeaf (Some (Ref t)) s = IsNull s
FitsLeaf (Some (Iref t)) s = IsNull s
FitsLeaf (Some (FuncRef r)) s = IsNull s
FitsLeaf (Some StackRef) s = IsNull s
FitsLeaf (Some ThreadRef) s = IsNull s
FitsLeaf _ s = ⊥

-- as many scalars as leaves, each of which fits its leaf
abbrev pub FitsLeaves : List TypeDef → List ℕ → List Scalar → Type 0
FitsLeaves graph [] [] = Unit {0}
FitsLeaves graph (leaf ∷ leaves) (s ∷ ss) = FitsLeaf (slice_get graph leaf) s × FitsLeaves graph leaves ss
FitsLeaves graph [] (s ∷ ss) = ⊥
FitsLeaves graph (leaf ∷ leaves) [] = ⊥
