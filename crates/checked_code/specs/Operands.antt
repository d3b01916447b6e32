-- Operands, lists of arguments, types, and variables that are kept: their demands, and where values come from.
use Rattle.std.specs.Prelude.{ℕ, Bool, true, false, List, [], ◌∷◌, Option, Some, None, is_some, option_map, unwrap_or, map, nat_eq, length}
use Rattle.demands.specs.Demands.{Demands, none, demand, ◌⨾◌}
use Rattle.name_scopes.specs.Names.{found}
use Rattle.ir_lex.specs.declared.name.Name.{Name}
use Rattle.ir_tree.specs.declared.operands.Operand.{Operand}
use Rattle.ir_tree.specs.declared.operands.Operand.TheVariants as operands
use Rattle.ir_tree.specs.declared.operands.Arguments.{Arguments}
use Rattle.bundle_names.specs.declared.globals.Sort.{Sort}
use Rattle.bundle_names.specs.declared.globals.Sort.TheVariants as sorts
use Rattle.check_tables.specs.declared.fault.CheckKind.{CheckKind}
use Rattle.check_tables.specs.declared.fault.CheckKind.TheVariants.{NotLocal, OperandType, ArgumentCount, ArgumentType}
use Rattle.check_tables.specs.declared.tables.Tables.{Tables}
use Rattle.check_tables.specs.Types.{definition_in}
use Rattle.check_tables.specs.Lookups.{class_of_global, class_named, noted_class, noted_classes, definition_named, leaves_named}
use Rattle.check_tables.specs.TypeTests.{is_int64, is_value_type}
use Rattle.checked_code.specs.declared.code.Source.{Source}
use Rattle.checked_code.specs.declared.code.Source.TheVariants as sources
use Rattle.checked_code.specs.declared.scopes.Variable.{Variable}
use Rattle.checked_code.specs.declared.scopes.Locals.{Locals}

-- ---- operands

abbrev pub place_of : Operand → ℕ
place_of (operands.Local n) = n.place
place_of (operands.Global n) = n.place

-- a local name is a variable of the block so far: a parameter, the handler or the result of an earlier instruction
abbrev pub is_there : Locals → Operand → Bool
is_there ls (operands.Local n) = is_some (found ls.names n.text)
is_there ls (operands.Global n) = true

abbrev pub variable_class : Option Variable → Option ℕ
variable_class v = option_map (λ v. v.class) v

-- the class of the operand's type
abbrev pub operand_class : Tables → Locals → Operand → Option ℕ
operand_class p ls (operands.Local n) = variable_class (found ls.names n.text)
operand_class p ls (operands.Global n) = class_of_global p n

-- whether there are both, and they are the same
abbrev pub is_class : Option ℕ → Option ℕ → Bool
is_class (Some c) (Some d) = nat_eq c d
is_class _ _ = false

-- an operand of the type that is wanted; another type is a fault of this kind
abbrev pub operand_demands : Tables → Locals → CheckKind → Operand → Option ℕ → Demands CheckKind
operand_demands p ls kind o wanted = demand (place_of o) NotLocal (is_there ls o) ⨾ demand (place_of o) kind (is_class (operand_class p ls o) wanted)

-- an operand of the type with this name
abbrev pub of_type : Tables → Locals → Operand → Name → Demands CheckKind
of_type p ls o t = operand_demands p ls OperandType o (class_named p t)

-- an operand of type int<64>. No bundle has that type unless it writes it, so the type is asked by what its class is defined as
abbrev pub int64_demands : Tables → Locals → Operand → Demands CheckKind
int64_demands p ls o =
    demand (place_of o) NotLocal (is_there ls o) ⨾ demand (place_of o) OperandType (is_int64 (definition_in p.types (operand_class p ls o)))

-- ---- lists of arguments

abbrev pub member_demands : Tables → Locals → List Operand → List ℕ → Demands CheckKind
member_demands p ls [] ts = none
member_demands p ls (o ∷ os) [] = none
member_demands p ls (o ∷ os) (t ∷ ts) = operand_demands p ls ArgumentType o (Some t) ⨾ member_demands p ls os ts

abbrev pub counts : Option (List ℕ) → ℕ → Bool
counts None n = false
counts (Some ts) n = nat_eq n (length ts)

-- as many as there are types, and each of its type
unfoldable pub argument_demands : Tables → Locals → Arguments → Option (List ℕ) → Demands CheckKind
argument_demands p ls a wanted = demand a.place ArgumentCount (counts wanted (length a.values)) ⨾ member_demands p ls a.values (noted_classes wanted)

-- ---- types

-- a type that passes a test
abbrev pub type_demand : Name → Bool → Demands CheckKind
type_demand n met = demand n.place OperandType met

-- each is a type that variables may have
abbrev pub value_type_demand : Tables → Name → Demands CheckKind
value_type_demand p n = type_demand n (is_value_type (definition_named p n) (leaves_named p n))

abbrev pub value_type_demands : Tables → List Name → Demands CheckKind
value_type_demands p [] = none
value_type_demands p (n ∷ ns) = value_type_demand p n ⨾ value_type_demands p ns

abbrev pub noted_list : Tables → List Name → List ℕ
noted_list p ns = map (noted_class p) ns

-- ---- variables that are kept

-- KEEPALIVE ( L* ): variables of any type
abbrev pub variable_demands : Locals → List Name → Demands CheckKind
variable_demands ls [] = none
variable_demands ls (n ∷ ns) = demand n.place NotLocal (is_some (found ls.names n.text)) ⨾ variable_demands ls ns

-- ---- where values come from; where nothing is, number 0 is noted down

abbrev pub variable_number : Option Variable → ℕ
variable_number v = unwrap_or (option_map (λ v. v.number) v) 0

abbrev pub global_source : Option Sort → Source
global_source (Some (sorts.Constant n)) = sources.Constant n
global_source (Some (sorts.GlobalCell n)) = sources.GlobalCell n
global_source (Some (sorts.Function n)) = sources.Function n
global_source _ = sources.Constant 0

abbrev pub source_of : Tables → Locals → Operand → Source
source_of p ls (operands.Local n) = sources.Variable (variable_number (found ls.names n.text))
source_of p ls (operands.Global n) = global_source (found p.globals.names n.text)

abbrev pub sources_of : Tables → Locals → List Operand → List Source
sources_of p ls os = map (source_of p ls) os

abbrev pub number_in : Locals → Name → ℕ
number_in ls n = variable_number (found ls.names n.text)

abbrev pub numbers_in : Locals → List Name → List ℕ
numbers_in ls ns = map (number_in ls) ns
