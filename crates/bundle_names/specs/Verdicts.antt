-- What is said of the names of a text.
use Rattle.std.specs.Prelude.{ℕ, List, [], ◌∷◌, Option, Some, None, Result, Ok, Err, codes}
use Rattle.text_forms.specs.declared.fault.Fault as texts
use Rattle.demands.specs.declared.fault.Fault.{Fault}
use Rattle.demands.specs.declared.fault.Fault.TheVariants.{At}
use Rattle.demands.specs.Demands.{first_unmet}
use Rattle.name_scopes.specs.Names.{Names}
use Rattle.ir_tree.specs.declared.items.Item.{Item}
use Rattle.ir_tree.specs.declared.code.Op.{Op}
use Rattle.bundle_names.specs.declared.fault.NameKind.{NameKind}
use Rattle.bundle_names.specs.declared.fault.NameKind.TheVariants.{Duplicate, Unknown, WrongKind}
use Rattle.bundle_names.specs.declared.globals.Sort.{Sort}
use Rattle.bundle_names.specs.declared.globals.Sort.TheVariants as sorts
use Rattle.bundle_names.specs.declared.function_names.FunctionNames.{FunctionNames}
use Rattle.bundle_names.specs.BodyUses.{op_use}
use Rattle.bundle_names.specs.Naming.{name_demands}

-- of a bundle that was read
abbrev pub verdict : Result (List Item) texts.Fault → Result (Option (Fault NameKind)) texts.Fault
verdict (Ok bundle) = Ok (first_unmet (name_demands bundle))
verdict (Err fault) = Err fault

-- no name is at fault, and the first that is
abbrev pub good : Result (Option (Fault NameKind)) texts.Fault
good = Ok None

abbrev pub duplicate : ℕ → Result (Option (Fault NameKind)) texts.Fault
duplicate place = Ok (Some (At Duplicate place))

abbrev pub unknown : ℕ → Result (Option (Fault NameKind)) texts.Fault
unknown place = Ok (Some (At Unknown place))

abbrev pub wrong_kind : ℕ → Result (Option (Fault NameKind)) texts.Fault
wrong_kind place = Ok (Some (At WrongKind place))

-- the names of the samples: a type @t, a signature @s, a constant @k, a global @g and a function @f; a block %n and a variable %a
abbrev pub sample_globals : Names Sort
sample_globals =
    (codes "@t", sorts.Written 0) ∷ (codes "@s", sorts.Signature 0) ∷ (codes "@k", sorts.Constant 0) ∷ (codes "@g", sorts.GlobalCell 0) ∷ (codes "@f", sorts.Function 0) ∷ []

abbrev pub sample_function : FunctionNames
sample_function = record { blocks = (codes "%n", tt) ∷ []; variables = (codes "%a", tt) ∷ [] }

-- of an instruction among these names
abbrev pub op_verdict : Result (ℕ × Op) texts.Fault → Result (Option (Fault NameKind)) texts.Fault
op_verdict (Ok x) = Ok (first_unmet (op_use sample_globals sample_function x.1))
op_verdict (Err fault) = Err fault
