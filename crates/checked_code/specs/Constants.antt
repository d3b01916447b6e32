-- The constants of a bundle and their values. Members may come later in the text than what they are members of.
use Rattle.std.specs.Prelude.{List, [], ◌∷◌, length}
use Rattle.ir_tree.specs.declared.items.Item.{Item}
use Rattle.ir_tree.specs.declared.items.Item.TheVariants as items
use Rattle.mu_values.specs.declared.scalars.Scalar.{Scalar}
use Rattle.bundle_names.specs.declared.globals.Globals.{Globals}
use Rattle.check_tables.specs.declared.tables.Tables.{Tables}
use Rattle.checked_code.specs.Graph.{type_id}
use Rattle.checked_code.specs.Rules.{literal_of}
use Rattle.checked_code.specs.declared.constants.Constant.{Constant}
use Rattle.checked_code.specs.ConstantValues.{values_to}

-- the constants in text order, each by the number of its type and by what it is written as
abbrev pub constants_of : Globals → List Item → List Constant
constants_of g [] = []
constants_of g (items.Const d ∷ is) = record { of_type = type_id g d.of_type; literal = literal_of g d.literal } ∷ constants_of g is
constants_of g (_ ∷ is) = constants_of g is

-- the values of all constants in text order. Where no type contains itself, no member stands deeper than the number of types
abbrev pub constant_values : Tables → List Item → List (List Scalar)
constant_values p bundle = values_to p.types.definitions (constants_of p.globals bundle) (length p.types.definitions)
