-- What the items of a bundle say, each sort of item by number.
use Rattle.std.specs.Prelude.{ℕ, suc, Bool, false, List, [], ◌∷◌, Option, Some, map, slice_get, nat_eq, unwrap_or, option_and_then, if◌then◌else◌}
use Rattle.name_scopes.specs.Names.{found}
use Rattle.ir_lex.specs.declared.name.Name.{Name}
use Rattle.ir_tree.specs.declared.definitions.Funcsig.{Funcsig}
use Rattle.ir_tree.specs.declared.definitions.Funcdecl.{Funcdecl}
use Rattle.ir_tree.specs.declared.items.Item.{Item}
use Rattle.ir_tree.specs.declared.items.Item.TheVariants as items
use Rattle.mu_types.specs.Graph.{Table}
use Rattle.bundle_names.specs.declared.globals.Sort.{Sort}
use Rattle.bundle_names.specs.declared.globals.Sort.TheVariants as sorts
use Rattle.bundle_names.specs.declared.globals.Globals.{Globals}
use Rattle.check_tables.specs.declared.tables.Signature.{Signature}
use Rattle.check_tables.specs.declared.tables.Tables.{Tables}
use Rattle.check_tables.specs.Types.{class_at, class_in, iref_in, funcref_at}
use Rattle.check_tables.specs.Lookups.{written_number, signature_number, or_zero}
use Rattle.checked_code.specs.Graph.{signature_id, table_of}

-- ---- signatures

-- the class of the type with this name
abbrev pub noted_type : Table → Globals → Name → ℕ
noted_type t g n = or_zero (class_in t (written_number (found g.names n.text)))

abbrev pub noted_types : Table → Globals → List Name → List ℕ
noted_types t g ns = map (noted_type t g) ns

abbrev pub signature_entry : Table → Globals → Funcsig → Signature
signature_entry t g d =
    record {
      class = or_zero (class_at t (signature_id g d.name));
      funcref = or_zero (funcref_at t (signature_id g d.name));
      takes = noted_types t g d.takes;
      gives = noted_types t g d.gives;
    }

abbrev pub signature_entries : Table → Globals → List Item → List Signature
signature_entries t g [] = []
signature_entries t g (items.Funcsig d ∷ is) = signature_entry t g d ∷ signature_entries t g is
signature_entries t g (_ ∷ is) = signature_entries t g is

-- ---- constants and globals

abbrev pub constant_entries : Table → Globals → List Item → List ℕ
constant_entries t g [] = []
constant_entries t g (items.Const d ∷ is) = noted_type t g d.of_type ∷ constant_entries t g is
constant_entries t g (_ ∷ is) = constant_entries t g is

-- a global is a reference to a place of its type
abbrev pub global_entries : Table → Globals → List Item → List ℕ
global_entries t g [] = []
global_entries t g (items.GlobalCell d ∷ is) = or_zero (iref_in t (written_number (found g.names d.of_type.text))) ∷ global_entries t g is
global_entries t g (_ ∷ is) = global_entries t g is

-- ---- functions

-- the number of the signature with this name
abbrev pub noted_signature : Globals → Name → ℕ
noted_signature g n = or_zero (signature_number (found g.names n.text))

-- the signatures of the declarations, and of the definitions
abbrev pub declared_signatures : Globals → List Item → List ℕ
declared_signatures g [] = []
declared_signatures g (items.Funcdecl d ∷ is) = noted_signature g d.signature ∷ declared_signatures g is
declared_signatures g (_ ∷ is) = declared_signatures g is

abbrev pub defined_signatures : Globals → List Item → List ℕ
defined_signatures g [] = []
defined_signatures g (items.Funcdef d ∷ is) = noted_signature g d.signature ∷ defined_signatures g is
defined_signatures g (_ ∷ is) = defined_signatures g is

-- whether the name is that of the function with this number
abbrev pub is_function : Option Sort → ℕ → Bool
is_function (Some (sorts.Function n)) k = nat_eq n k
is_function _ k = false

-- a function that is declared has the signature of its definition, where it has one
abbrev pub declared_entry : Globals → List ℕ → Funcdecl → ℕ
declared_entry g defined d = unwrap_or (option_and_then (slice_get defined) (found g.defined d.name.text)) (noted_signature g d.signature)

-- the signatures of the functions behind so many, each where its name comes first
abbrev pub function_entries : Globals → List ℕ → ℕ → List Item → List ℕ
function_entries g defined k [] = []
function_entries g defined k (items.Funcdecl d ∷ is) =
    if is_function (found g.names d.name.text) k then declared_entry g defined d ∷ function_entries g defined (suc k) is else function_entries g defined k is
function_entries g defined k (items.Funcdef d ∷ is) =
    if is_function (found g.names d.name.text) k then noted_signature g d.signature ∷ function_entries g defined (suc k) is else function_entries g defined k is
function_entries g defined k (_ ∷ is) = function_entries g defined k is

-- ---- all of them

unfoldable pub tables_of : Globals → List Item → Tables
tables_of g bundle =
    record {
      types = table_of g bundle;
      globals = g;
      signatures = signature_entries (table_of g bundle) g bundle;
      constants = constant_entries (table_of g bundle) g bundle;
      global_cells = global_entries (table_of g bundle) g bundle;
      functions = function_entries g (defined_signatures g bundle) 0 bundle;
      declarations = declared_signatures g bundle;
    }
