-- Worked examples. Constants by their types.
use Rattle.std.specs.Prelude.{◌≡◌, refl, ℕ, zero, suc, true, false, List, [], ◌∷◌, Option, Some, None}
use Rattle.demands.specs.declared.fault.Fault.{Fault}
use Rattle.demands.specs.declared.fault.Fault.TheVariants.{At}
use Rattle.demands.specs.Demands.{first_unmet}
use Rattle.type_definitions.specs.declared.definition.TypeDef.{TypeDef}
use Rattle.type_definitions.specs.declared.definition.TypeDef.TheVariants.{Struct, Array, Hybrid, Void, Ref}
use Rattle.type_definitions.specs.declared.definition.TypeDef.TheVariants as types
use Rattle.type_definitions.specs.Same.{alike}
use Rattle.mu_values.specs.declared.scalars.Scalar.{Scalar}
use Rattle.mu_values.specs.declared.scalars.Scalar.TheVariants.{Int, Null}
use Rattle.mu_values.specs.declared.literals.LiteralKind.{LiteralKind}
use Rattle.mu_values.specs.declared.literals.LiteralKind.TheVariants.{Number, Null as NullLiteral, Members}
use Rattle.mu_values.specs.declared.literals.ConstKind.{ConstKind}
use Rattle.mu_values.specs.declared.literals.ConstKind.TheVariants.{OutOfWidth, WrongShape, NotNullable}
use Rattle.mu_values.specs.Constants.{constant_demands, constant_value}

-- int<8>; a struct of two of them; an array of three; a reference to the struct; void; int<8> under another name; a hybrid
abbrev graph : List TypeDef
graph = types.Int 8 ∷ Struct (0 ∷ 0 ∷ []) ∷ Array 0 3 ∷ Ref 1 ∷ Void ∷ types.Int 8 ∷ Hybrid (0 ∷ []) 0 ∷ []

-- constants 0 to 2 have these types
abbrev constants : List ℕ
constants = 0 ∷ 3 ∷ 5 ∷ []

-- the first fault of a literal at place 40
abbrev fault_of : ℕ → LiteralKind → Option (Fault ConstKind)
fault_of t kind = first_unmet (constant_demands graph constants t (record { place = 40; kind = kind }))

numbers_are_judged :
    (fault_of 0 (Number false 255) ≡ None)
    × (fault_of 0 (Number false 256) ≡ Some (At OutOfWidth 40))
    × (fault_of 0 (Number true 128) ≡ None)
    × (fault_of 0 (Number true 129) ≡ Some (At OutOfWidth 40))
    × (fault_of 3 (Number false 0) ≡ Some (At WrongShape 40))
    × (fault_of 1 (Number false 0) ≡ Some (At WrongShape 40))
numbers_are_judged = (refl, refl, refl, refl, refl, refl)

null_is_judged :
    (fault_of 3 NullLiteral ≡ None)
    × (fault_of 0 NullLiteral ≡ Some (At NotNullable 40))
    × (fault_of 1 NullLiteral ≡ Some (At NotNullable 40))
    × (fault_of 4 NullLiteral ≡ Some (At NotNullable 40))
null_is_judged = (refl, refl, refl, refl)

-- members are compared by type and not by name; the first that does not fit is named
lists_are_judged :
    (fault_of 1 (Members (0 ∷ 2 ∷ []) (42 ∷ 45 ∷ [])) ≡ None)
    × (fault_of 1 (Members (0 ∷ 1 ∷ []) (42 ∷ 45 ∷ [])) ≡ Some (At WrongShape 45))
    × (fault_of 1 (Members (1 ∷ 1 ∷ []) (42 ∷ 45 ∷ [])) ≡ Some (At WrongShape 42))
    × (fault_of 1 (Members (1 ∷ []) (42 ∷ [])) ≡ Some (At WrongShape 40))
    × (fault_of 2 (Members (2 ∷ 0 ∷ 0 ∷ []) (42 ∷ 45 ∷ 48 ∷ [])) ≡ None)
    × (fault_of 2 (Members (0 ∷ 0 ∷ []) (42 ∷ 45 ∷ [])) ≡ Some (At WrongShape 40))
    × (fault_of 0 (Members [] []) ≡ Some (At WrongShape 40))
    × (fault_of 6 (Members (0 ∷ 0 ∷ []) (42 ∷ 45 ∷ [])) ≡ Some (At WrongShape 40))
unfolding alike
lists_are_judged = (refl, refl, refl, refl, refl, refl, refl, refl)

-- what constants 0 to 2 are
abbrev values : ℕ → List Scalar
values zero = Int 8 7 ∷ []
values (suc zero) = Null ∷ []
values (suc (suc n)) = Int 8 9 ∷ []

abbrev value_of : ℕ → LiteralKind → List Scalar
value_of t kind = constant_value graph values t (record { place = 40; kind = kind })

values_are_made :
    (value_of 0 (Number false 255) ≡ Int 8 255 ∷ [])
    × (value_of 0 (Number true 1) ≡ Int 8 255 ∷ [])
    × (value_of 0 (Number true 128) ≡ Int 8 128 ∷ [])
    × (value_of 0 (Number true 0) ≡ Int 8 0 ∷ [])
    × (value_of 3 NullLiteral ≡ Null ∷ [])
    × (value_of 2 (Members (2 ∷ 0 ∷ 2 ∷ []) []) ≡ Int 8 9 ∷ Int 8 7 ∷ Int 8 9 ∷ [])
values_are_made = (refl, refl, refl, refl, refl, refl)
