-- What names stand for in a bundle: types with their classes, signatures, and operands with the classes of their types.
-- Each is an option: there is nothing where the name is not defined, or defined as something else.
use Rattle.std.specs.Prelude.{ℕ, List, [], Option, Some, None, slice_get, unwrap_or, option_map, option_and_then}
use Rattle.name_scopes.specs.Names.{found}
use Rattle.ir_lex.specs.declared.name.Name.{Name}
use Rattle.type_definitions.specs.declared.definition.TypeDef.{TypeDef}
use Rattle.bundle_names.specs.declared.globals.Sort.{Sort}
use Rattle.bundle_names.specs.declared.globals.Sort.TheVariants as sorts
use Rattle.check_tables.specs.declared.tables.Signature.{Signature}
use Rattle.check_tables.specs.declared.tables.Tables.{Tables}
use Rattle.check_tables.specs.Types.{definition_in, class_in, leaves_in, ref_in, iref_in}

-- ---- types

abbrev pub written_number : Option Sort → Option ℕ
written_number (Some (sorts.Written n)) = Some n
written_number _ = None

-- the number of a type in the graph: types stand there before signatures, in text order
abbrev pub type_named : Tables → Name → Option ℕ
type_named p n = written_number (found p.globals.names n.text)

abbrev pub definition_named : Tables → Name → Option TypeDef
definition_named p n = definition_in p.types (type_named p n)

abbrev pub class_named : Tables → Name → Option ℕ
class_named p n = class_in p.types (type_named p n)

abbrev pub leaves_named : Tables → Name → List ℕ
leaves_named p n = leaves_in p.types (type_named p n)

-- the classes of the references to objects and to places of a type
abbrev pub ref_named : Tables → Name → Option ℕ
ref_named p n = ref_in p.types (type_named p n)

abbrev pub iref_named : Tables → Name → Option ℕ
iref_named p n = iref_in p.types (type_named p n)

-- where a class is only noted down, a type that is not there has the number 0
abbrev pub or_zero : Option ℕ → ℕ
or_zero n = unwrap_or n 0

abbrev pub noted_class : Tables → Name → ℕ
noted_class p n = or_zero (class_named p n)

-- ---- signatures

abbrev pub signature_number : Option Sort → Option ℕ
signature_number (Some (sorts.Signature n)) = Some n
signature_number _ = None

abbrev pub signature_in : Tables → Option ℕ → Option Signature
signature_in p n = option_and_then (slice_get p.signatures) n

abbrev pub signature_named : Tables → Name → Option Signature
signature_named p n = signature_in p (signature_number (found p.globals.names n.text))

-- the class of the references to functions of a signature; what it takes and gives
abbrev pub funcref_of : Option Signature → Option ℕ
funcref_of s = option_map (λ s. s.funcref) s

abbrev pub takes_of : Option Signature → Option (List ℕ)
takes_of s = option_map (λ s. s.takes) s

abbrev pub gives_of : Option Signature → Option (List ℕ)
gives_of s = option_map (λ s. s.gives) s

abbrev pub noted_classes : Option (List ℕ) → List ℕ
noted_classes ts = unwrap_or ts []

abbrev pub noted_signature : Option Signature → ℕ
noted_signature s = unwrap_or (option_map (λ s. s.class) s) 0

-- ---- operands

-- a constant has its type, a global is a reference to a place of its type, a function one to a function of its signature
abbrev pub global_class : Tables → Option Sort → Option ℕ
global_class p (Some (sorts.Constant n)) = slice_get p.constants n
global_class p (Some (sorts.GlobalCell n)) = slice_get p.global_cells n
global_class p (Some (sorts.Function n)) = funcref_of (signature_in p (slice_get p.functions n))
global_class p _ = None

abbrev pub class_of_global : Tables → Name → Option ℕ
class_of_global p n = global_class p (found p.globals.names n.text)
