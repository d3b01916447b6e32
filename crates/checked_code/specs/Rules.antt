-- What the items of a bundle that are no functions must meet: types, then constants, signatures and globals, each in text order.
use Rattle.std.specs.Prelude.{ℕ, ◌+◌, List, [], ◌∷◌, Option, Some, None, map, length, nat_le}
use Rattle.demands.specs.Demands.{Demands, none, demand, ◌⨾◌, as_kind}
use Rattle.name_scopes.specs.Names.{found}
use Rattle.ir_lex.specs.declared.name.Name.{Name}
use Rattle.ir_tree.specs.declared.definitions.Literal.{Literal as WrittenLiteral}
use Rattle.ir_tree.specs.declared.definitions.Literal.TheVariants as written
use Rattle.ir_tree.specs.declared.items.Item.{Item}
use Rattle.ir_tree.specs.declared.items.Item.TheVariants as items
use Rattle.mu_types.specs.declared.faults.TypeKind.TheVariants.{TooManyLeaves}
use Rattle.mu_values.specs.declared.literals.Literal.{Literal}
use Rattle.mu_values.specs.declared.literals.LiteralKind.TheVariants as literals
use Rattle.mu_values.specs.Constants.{constant_demands}
use Rattle.bundle_names.specs.declared.globals.Sort.{Sort}
use Rattle.bundle_names.specs.declared.globals.Sort.TheVariants as sorts
use Rattle.bundle_names.specs.declared.globals.Globals.{Globals}
use Rattle.check_tables.specs.declared.fault.CheckKind.{CheckKind}
use Rattle.check_tables.specs.declared.fault.CheckKind.TheVariants.{Types, Const, OperandType, BadSignature}
use Rattle.check_tables.specs.declared.tables.Tables.{Tables}
use Rattle.check_tables.specs.Lookups.{definition_named, leaves_named}
use Rattle.check_tables.specs.TypeTests.{is_sized, is_value_type}
use Rattle.checked_code.specs.Graph.{within, type_id, places_of_names, type_demands}
use Rattle.checked_code.specs.Entries.{tables_of}

-- ---- constants

abbrev pub constant_number : Option Sort → Option ℕ
constant_number (Some (sorts.Constant n)) = Some n
constant_number _ = None

abbrev pub constant_id : Globals → Name → ℕ
constant_id g n = within g.counts.constants (constant_number (found g.names n.text))

abbrev pub literal_of : Globals → WrittenLiteral → Literal
literal_of g (written.Number n) = record { place = n.place; kind = literals.Number n.number.negative n.number.magnitude }
literal_of g (written.Null place) = record { place = place; kind = literals.Null }
literal_of g (written.Members place cs) = record { place = place; kind = literals.Members (map (constant_id g) cs) (places_of_names cs) }

-- the types of all constants
abbrev pub constant_types : Globals → List Item → List ℕ
constant_types g [] = []
constant_types g (items.Const d ∷ is) = type_id g d.of_type ∷ constant_types g is
constant_types g (_ ∷ is) = constant_types g is

-- each literal is one of its type, where the constants have these types
abbrev pub constants_demands : Tables → List ℕ → List Item → Demands CheckKind
constants_demands p types [] = none
constants_demands p types (items.Const d ∷ is) =
    as_kind Const (constant_demands p.types.definitions types (type_id p.globals d.of_type) (literal_of p.globals d.literal)) ⨾ constants_demands p types is
constants_demands p types (_ ∷ is) = constants_demands p types is

-- ---- signatures

-- each is a type that variables may have
abbrev pub signature_type_demands : Tables → List Name → Demands CheckKind
signature_type_demands p [] = none
signature_type_demands p (n ∷ ns) = demand n.place BadSignature (is_value_type (definition_named p n) (leaves_named p n)) ⨾ signature_type_demands p ns

abbrev pub signatures_demands : Tables → List Item → Demands CheckKind
signatures_demands p [] = none
signatures_demands p (items.Funcsig d ∷ is) = (signature_type_demands p d.takes ⨾ signature_type_demands p d.gives) ⨾ signatures_demands p is
signatures_demands p (_ ∷ is) = signatures_demands p is

-- ---- globals

abbrev pub most_leaves_of_globals : ℕ
most_leaves_of_globals = 65536

-- behind globals with so many leaves: neither void nor a hybrid, and not too many leaves together
abbrev pub globals_demands : Tables → ℕ → List Item → Demands CheckKind
globals_demands p leaves [] = none
globals_demands p leaves (items.GlobalCell d ∷ is) =
    (demand d.of_type.place OperandType (is_sized (definition_named p d.of_type))
    ⨾ demand d.of_type.place (Types TooManyLeaves) (nat_le (leaves + length (leaves_named p d.of_type)) most_leaves_of_globals))
    ⨾ globals_demands p (leaves + length (leaves_named p d.of_type)) is
globals_demands p leaves (_ ∷ is) = globals_demands p leaves is

-- ---- all of them

abbrev pub item_demands : Globals → List Item → Demands CheckKind
item_demands g bundle =
    type_demands g bundle
    ⨾ constants_demands (tables_of g bundle) (constant_types g bundle) bundle
    ⨾ signatures_demands (tables_of g bundle) bundle
    ⨾ globals_demands (tables_of g bundle) 0 bundle
