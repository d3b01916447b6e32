-- Uses: each name that is used has a definition, and one of the sort that its place asks.
use Rattle.std.specs.Prelude.{Bool, true, false, List, [], ◌∷◌, Option, Some, is_some}
use Rattle.std.specs.Option.{option_map_or}
use Rattle.demands.specs.Demands.{Demands, none, demand, ◌⨾◌}
use Rattle.name_scopes.specs.Names.{Names, found}
use Rattle.ir_lex.specs.declared.name.Name.{Name}
use Rattle.ir_tree.specs.declared.operands.Operand.{Operand}
use Rattle.ir_tree.specs.declared.operands.Operand.TheVariants as operands
use Rattle.ir_tree.specs.declared.operands.Destination.{Destination}
use Rattle.ir_tree.specs.declared.operands.ExceptionClause.{ExceptionClause}
use Rattle.ir_tree.specs.declared.operands.NewStackClause.{NewStackClause}
use Rattle.ir_tree.specs.declared.operands.NewStackClause.TheVariants as clauses
use Rattle.bundle_names.specs.declared.fault.NameKind.{NameKind}
use Rattle.bundle_names.specs.declared.fault.NameKind.TheVariants.{Unknown, WrongKind}
use Rattle.bundle_names.specs.declared.globals.Sort.{Sort}
use Rattle.bundle_names.specs.declared.globals.Sort.TheVariants as sorts
use Rattle.bundle_names.specs.declared.function_names.FunctionNames.{FunctionNames}
use Rattle.bundle_names.specs.Definitions.{Plain}

-- what each of a list asks, from the first to the last
abbrev pub each : {A : Type 0} → (A → Demands NameKind) → List A → Demands NameKind
each asks [] = none
each asks (x ∷ xs) = asks x ⨾ each asks xs

-- ---- global names: some item defines the name, and it is the sort of item that the place asks

abbrev pub is_type : Option Sort → Bool
is_type (Some (sorts.Written n)) = true
is_type _ = false

abbrev pub is_signature : Option Sort → Bool
is_signature (Some (sorts.Signature n)) = true
is_signature _ = false

abbrev pub is_constant : Option Sort → Bool
is_constant (Some (sorts.Constant n)) = true
is_constant _ = false

-- an operand may be a constant, a global or a function
abbrev pub is_operand : Option Sort → Bool
is_operand (Some (sorts.Constant n)) = true
is_operand (Some (sorts.GlobalCell n)) = true
is_operand (Some (sorts.Function n)) = true
is_operand _ = false

abbrev pub global_use : (Option Sort → Bool) → Names Sort → Name → Demands NameKind
global_use asks g n = demand n.place Unknown (is_some (found g n.text)) ⨾ demand n.place WrongKind (asks (found g n.text))

abbrev pub type_use : Names Sort → Name → Demands NameKind
type_use g n = global_use is_type g n

abbrev pub signature_use : Names Sort → Name → Demands NameKind
signature_use g n = global_use is_signature g n

abbrev pub constant_use : Names Sort → Name → Demands NameKind
constant_use g n = global_use is_constant g n

-- < T* >
abbrev pub type_uses : Names Sort → List Name → Demands NameKind
type_uses g [] = none
type_uses g (n ∷ ns) = type_use g n ⨾ type_uses g ns

-- ---- local names: a block of the function, or a parameter, handler or result of any of its blocks

abbrev pub local_use : Plain → Name → Demands NameKind
local_use es n = demand n.place Unknown (is_some (found es n.text))

-- ---- what instructions are made of

abbrev pub operand_use : Names Sort → FunctionNames → Operand → Demands NameKind
operand_use g f (operands.Local n) = local_use f.variables n
operand_use g f (operands.Global n) = global_use is_operand g n

-- ( value* )
abbrev pub operand_uses : Names Sort → FunctionNames → List Operand → Demands NameKind
operand_uses g f os = each (operand_use g f) os

-- L ( value* )
abbrev pub destination_use : Names Sort → FunctionNames → Destination → Demands NameKind
destination_use g f d = local_use f.blocks d.block ⨾ operand_uses g f d.arguments.values

-- EXC ( dest dest ), which may be left out
abbrev pub exception_use : Names Sort → FunctionNames → Option ExceptionClause → Demands NameKind
exception_use g f e = option_map_or (λ e. destination_use g f e.normal ⨾ destination_use g f e.exceptional) e none

-- KEEPALIVE ( L* ), which may be left out
abbrev pub keepalive_use : FunctionNames → Option (List Name) → Demands NameKind
keepalive_use f ns = option_map_or (each (local_use f.variables)) ns none

-- PASS_VALUES < T* > ( value* ) | THROW_EXC value
abbrev pub entered_use : Names Sort → FunctionNames → NewStackClause → Demands NameKind
entered_use g f (clauses.PassValues ts a) = type_uses g ts ⨾ operand_uses g f a.values
entered_use g f (clauses.ThrowExc e) = operand_use g f e
