-- What contracts inside the crate cite; no public one does, so no reader of those needs it.
use Rattle.std.specs.List.{All}
use Rattle.std.specs.Prelude.{ℕ, suc, ◌<◌, List, ◌∷◌, Option, Some, None}
use Rattle.ir_tree.specs.declared.items.Item.{Item}
use Rattle.bundle_names.specs.declared.globals.Globals.{Globals}
use Rattle.type_definitions.specs.declared.definition.TypeDef.{TypeDef}
use Rattle.type_definitions.specs.Definition.{arguments}
use Rattle.demands.specs.declared.fault.Fault.{Fault}
use Rattle.demands.specs.declared.fault.Fault.TheVariants as faults
use Rattle.mu_types.specs.declared.faults.TypeKind.{TypeKind}
use Rattle.check_tables.specs.declared.fault.CheckKind.{CheckKind}
use Rattle.check_tables.specs.declared.fault.CheckKind.TheVariants.{Types}
use Rattle.checked_code.specs.Entries.{function_entries}

-- the signatures of the functions, where that of the first is told if there is one
abbrev pub entered : Option ℕ → Globals → List ℕ → ℕ → List Item → List ℕ
entered None g defined k is = function_entries g defined k is
entered (Some s) g defined k is = s ∷ function_entries g defined (suc k) is

-- each argument of each definition is below that number
abbrev pub AllBelow : ℕ → List TypeDef → Type 0
AllBelow many ds = All (λ d. All (λ n. n < many) (arguments d)) ds

-- the fault of a graph as the fault of a bundle
abbrev pub fault_of : Fault TypeKind → Fault CheckKind
fault_of faults.Memory = faults.Memory
fault_of (faults.At kind place) = faults.At (Types kind) place
