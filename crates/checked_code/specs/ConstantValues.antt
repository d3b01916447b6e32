-- The values of constants, whose members are constants too.
use Rattle.std.specs.Prelude.{ℕ, zero, suc, List, [], map, slice_index_or}
use Rattle.type_definitions.specs.declared.definition.TypeDef.{TypeDef}
use Rattle.mu_values.specs.declared.scalars.Scalar.{Scalar}
use Rattle.mu_values.specs.Constants.{constant_value}
use Rattle.checked_code.specs.declared.constants.Constant.{Constant}

-- the value of constant n in a list of values; one that is not there has no scalars
abbrev pub told : List (List Scalar) → ℕ → List Scalar
told values n = slice_index_or values n []

-- the value of each constant by its literal, where those of its members are told
abbrev pub values_by : List TypeDef → List Constant → (ℕ → List Scalar) → List (List Scalar)
values_by graph constants of = map (λ (c : Constant). constant_value graph of c.of_type c.literal) constants

-- the values to a depth: to depth 0 there are none, and to one more each is made of those that its members have to that depth
unfoldable pub values_to : List TypeDef → List Constant → ℕ → List (List Scalar)
values_to graph constants zero = []
values_to graph constants (suc depth) = values_by graph constants (told (values_to graph constants depth))
