-- Worked examples, to read beside the definitions: first faults, and the implied types of a small graph.
use Rattle.std.specs.Prelude.{◌≡◌, [], ◌∷◌, Some, None, length, slice_get, refl}
use Rattle.demands.specs.declared.fault.Fault.TheVariants.{At}
use Rattle.demands.specs.Demands.{first_unmet}
use Rattle.type_definitions.specs.declared.definition.TypeDef.TheVariants.{Int, Struct, Void, Ref, FuncRef, Sig}
use Rattle.type_definitions.specs.Parts.{leads}
use Rattle.type_definitions.specs.Leaves.{leaves_to}
use Rattle.mu_types.specs.declared.faults.TypeKind.TheVariants.{EndlessType, WrongArgument}
use Rattle.mu_types.specs.Implied.{complete}
use Rattle.mu_types.specs.TypeDemands.{written_demands}

-- struct<itself> whose name stands at byte 9
pub endless_at_its_name : first_unmet (written_demands (record { definitions = Struct (0 ∷ []) ∷ []; places = (9 ∷ 21 ∷ []) ∷ [] })) ≡ Some (At EndlessType 9)
unfolding leads leaves_to
endless_at_its_name = refl

-- a struct of a reference to it
pub through_a_reference : first_unmet (written_demands (record { definitions = Struct (1 ∷ []) ∷ Ref 0 ∷ []; places = (9 ∷ 21 ∷ []) ∷ (34 ∷ 43 ∷ []) ∷ [] })) ≡ None
unfolding leads leaves_to
through_a_reference = refl

-- a width of 12, at the width
pub width_of_12 : first_unmet (written_demands (record { definitions = Int 12 ∷ []; places = (9 ∷ 18 ∷ []) ∷ [] })) ≡ Some (At WrongArgument 18)
unfolding leads leaves_to
width_of_12 = refl

-- all arguments come before all types that contain themselves: the second type's field is void
pub arguments_come_first : first_unmet (written_demands (record { definitions = Struct (0 ∷ []) ∷ Struct (2 ∷ []) ∷ Void ∷ []; places = (9 ∷ 21 ∷ []) ∷ (34 ∷ 46 ∷ []) ∷ (59 ∷ []) ∷ [] }))
    ≡ Some (At WrongArgument 46)
unfolding leads leaves_to
arguments_come_first = refl

-- one type and one signature bring five types without arguments, a ref and an iref to the type and to void, and a funcref
pub implied_of_two : slice_get (complete (Int 64 ∷ Sig [] (0 ∷ []) ∷ [])) 9 ≡ Some (FuncRef 1)
implied_of_two = refl

pub twelve_in_all : length (complete (Int 64 ∷ Sig [] (0 ∷ []) ∷ [])) ≡ 12
twelve_in_all = refl
