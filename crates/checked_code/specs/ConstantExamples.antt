-- Worked examples, to read beside the definitions.
use Rattle.std.specs.Prelude.{◌≡◌, refl, ℕ, ◌<◌, ◌^◌, true, false, List, [], ◌∷◌, Some}
use Rattle.type_definitions.specs.declared.definition.TypeDef.{TypeDef}
use Rattle.type_definitions.specs.declared.definition.TypeDef.TheVariants.{Struct, Array, Ref}
use Rattle.type_definitions.specs.declared.definition.TypeDef.TheVariants as types
use Rattle.type_definitions.specs.Leaves.{leaves, leaves_to}
use Rattle.mu_values.specs.declared.scalars.Scalar.TheVariants.{Int, Null}
use Rattle.mu_values.specs.declared.literals.LiteralKind.{LiteralKind}
use Rattle.mu_values.specs.declared.literals.LiteralKind.TheVariants.{Number, Null as NullLiteral, Members}
use Rattle.checked_code.specs.declared.constants.Constant.{Constant}
use Rattle.checked_code.specs.ConstantValues.{told, values_to}
use Rattle.checked_code.specs.ConstantFits.{FitsLeaf, FitsLeaves}

-- int<8>; a reference to it; a struct of an int<8> and a reference; an array of two such structs
abbrev graph : List TypeDef
graph = types.Int 8 ∷ Ref 0 ∷ Struct (0 ∷ 1 ∷ []) ∷ Array 2 2 ∷ []

abbrev constant : ℕ → LiteralKind → Constant
constant t kind = record { of_type = t; literal = record { place = 0; kind = kind } }

-- an array of constants 1 and 4; a struct of constants 2 and 3; 7; NULL; a struct of constants 5 and 3; -1
abbrev constants : List Constant
constants =
    constant 3 (Members (1 ∷ 4 ∷ []) (0 ∷ 0 ∷ []))
    ∷ constant 2 (Members (2 ∷ 3 ∷ []) (0 ∷ 0 ∷ []))
    ∷ constant 0 (Number false 7)
    ∷ constant 1 NullLiteral
    ∷ constant 2 (Members (5 ∷ 3 ∷ []) (0 ∷ 0 ∷ []))
    ∷ constant 0 (Number true 1)
    ∷ []

pub numbers_and_null : (told (values_to graph constants 4) 2 ≡ Int 8 7 ∷ []) × (told (values_to graph constants 4) 5 ≡ Int 8 255 ∷ []) × (told (values_to graph constants 4) 3 ≡ Null ∷ [])
unfolding values_to
numbers_and_null = (refl, refl, refl)

-- members come later
pub a_struct : told (values_to graph constants 4) 1 ≡ Int 8 7 ∷ Null ∷ []
unfolding values_to
a_struct = refl

pub an_array_of_structs : told (values_to graph constants 4) 0 ≡ Int 8 7 ∷ Null ∷ Int 8 255 ∷ Null ∷ []
unfolding values_to
an_array_of_structs = refl

-- to depth 2 the structs have their scalars, and the array has those that they have to depth 1
pub not_deep_enough : (told (values_to graph constants 2) 1 ≡ Int 8 7 ∷ Null ∷ []) × (told (values_to graph constants 2) 0 ≡ [])
unfolding values_to
not_deep_enough = (refl, refl)

pub array_fits : 7 < 2 ^ 8 → 255 < 2 ^ 8 → FitsLeaves graph (leaves graph 3) (told (values_to graph constants 4) 0)
unfolding values_to leaves_to
array_fits seven all = ((refl, seven), (tt, ((refl, all), (tt, tt))))

pub width_is_that_of_the_leaf : (width : ℕ) → FitsLeaf (Some (types.Int 8)) (Int width 3) → width ≡ 8
width_is_that_of_the_leaf width h = h.0

pub bits_are_less : FitsLeaf (Some (types.Int 8)) (Int 8 256) → 256 < 2 ^ 8
bits_are_less h = h.1

pub no_null_for_an_int : FitsLeaves graph (0 ∷ []) (Null ∷ []) → ⊥
no_null_for_an_int h = h.0

pub no_scalar_is_left_out : FitsLeaves graph (1 ∷ 1 ∷ []) (Null ∷ []) → ⊥
no_scalar_is_left_out h = h.1
