-- What holds of the values of constants in every bundle whose items meet their demands.
use Rattle.std.specs.Prelude.{◌≡◌, ℕ, List, Some, None, slice_get}
use Rattle.demands.specs.Demands.{first_unmet}
use Rattle.ir_tree.specs.declared.items.Item.{Item}
use Rattle.type_definitions.specs.Leaves.{leaves}
use Rattle.bundle_names.specs.Globals.{globals_of}
use Rattle.check_tables.specs.declared.tables.Tables.{Tables}
use Rattle.checked_code.specs.Entries.{tables_of}
use Rattle.checked_code.specs.Rules.{item_demands}
use Rattle.checked_code.specs.declared.constants.Constant.{Constant}
use Rattle.checked_code.specs.ConstantValues.{told, values_by}
use Rattle.checked_code.specs.Constants.{constants_of, constant_values}
use Rattle.checked_code.specs.ConstantFits.{FitsLeaves}

-- the value of each constant is that of its literal, where its members have their own values
abbrev pub AreThoseOfTheirLiterals : Tables → List Item → Type 0
AreThoseOfTheirLiterals p bundle = constant_values p bundle ≡ values_by p.types.definitions (constants_of p.globals bundle) (told (constant_values p bundle))

abbrev pub ValuesAreThoseOfTheirLiterals : Type 0
ValuesAreThoseOfTheirLiterals = (bundle : List Item) → first_unmet (item_demands (globals_of bundle) bundle) ≡ None → AreThoseOfTheirLiterals (tables_of (globals_of bundle) bundle) bundle

-- the value of each constant has one scalar for each leaf of its type, which fits it
abbrev pub FitTheirTypes : Tables → List Item → Type 0
FitTheirTypes p bundle = (n : ℕ) (c : Constant) → slice_get (constants_of p.globals bundle) n ≡ Some c → FitsLeaves p.types.definitions (leaves p.types.definitions c.of_type) (told (constant_values p bundle) n)

abbrev pub ValuesFitTheirTypes : Type 0
ValuesFitTheirTypes = (bundle : List Item) → first_unmet (item_demands (globals_of bundle) bundle) ≡ None → FitTheirTypes (tables_of (globals_of bundle) bundle) bundle
