-- What the global names of a script stand for.
use Rattle.std.specs.Prelude.{ℕ, List, [], Option, Some, None, option_map}
use Rattle.name_scopes.specs.Names.{found}
use Rattle.ir_lex.specs.declared.name.Name.{Name}
use Rattle.ir_tree.specs.declared.items.Item.{Item}
use Rattle.bundle_names.specs.declared.globals.Sort.{Sort}
use Rattle.bundle_names.specs.declared.globals.Sort.TheVariants as sorts
use Rattle.bundle_names.specs.Globals.{globals_of}
use Rattle.check_tables.specs.Lookups.{class_of_global}
use Rattle.checked_code.specs.Checking.{bundle_tables}
use Rattle.typed_heap.specs.Places.{with_some}
use Rattle.mu_model.specs.Clients.{Classed, ClassedFunction}
use Rattle.mu_model.specs.Answers.{global_told}
use Rattle.client_script.specs.declared.tree.Argument.{Argument}
use Rattle.client_script.specs.declared.tree.Argument.TheVariants as arguments
use Rattle.client_script.specs.declared.tree.Pushed.{Pushed}

-- a value with its class. A name that stands for none is refused, and no scalars stand for it
abbrev pub told_as : Option Classed → Argument
told_as (Some v) = arguments.Told v.0 v.1
told_as None = arguments.Told 0 []

abbrev pub told : List Item → Name → Argument
told bundle n = told_as (global_told bundle n)

-- the function that a name stands for, with the class that it has as an operand; a name of no function is refused, and no function stands
-- for it
abbrev pub function_named : Option Sort → Option ℕ
function_named (Some (sorts.Function n)) = Some n
function_named _ = None

abbrev pub function_told : List Item → Name → Option ClassedFunction
function_told bundle n = with_some (class_of_global (bundle_tables bundle) n) (λ c. with_some (function_named (found (globals_of bundle).names n.text)) (λ f. Some (c, f)))

abbrev pub pushed_told : List Item → Name → Option Pushed
pushed_told bundle n = option_map (λ (f : ClassedFunction). record { class = f.0; function = f.1 }) (function_told bundle n)
