-- The texts of names, values and events of a run: those of a log, with the names of the bundle's functions.
use Rattle.std.specs.Prelude.{ℕ, List, [], ◌∷◌, ◌++◌, Option, Some, None, drop, slice_get, is_some, codes, decimal, zip, if◌then◌else◌}
use Rattle.name_scopes.specs.Names.{found}
use Rattle.ir_tree.specs.declared.items.Item.{Item}
use Rattle.ir_tree.specs.declared.items.Item.TheVariants as items
use Rattle.mu_values.specs.declared.scalars.Scalar.{Scalar}
use Rattle.mu_values.specs.Constants.{member_count}
use Rattle.mu_values.specs.Slots.{TypedValues}
use Rattle.mem_axioms.specs.declared.types.Kind.{Kind}
pub use Rattle.log_lines.specs.EventTexts.{Text, cell_text, thread_text, order_text, mode_text}
use Rattle.log_lines.specs.EventTexts.{scalar_text as named_scalar, kind_text as named_kind}
use Rattle.bundle_names.specs.Globals.{globals_of}
use Rattle.checked_code.specs.Entries.{is_function}
use Rattle.checked_code.specs.Checking.{bundle_tables}
use Rattle.mu_model.specs.Types.{class_definition}
use Rattle.mu_model.specs.Clients.{Classed}
use Rattle.mu_model.specs.Operands.{Scope}
use Rattle.mu_model.specs.Programs.{scopes_of}

-- ---- names

abbrev pub function_text : List Item → List Item → ℕ → Text
function_text bundle [] n = []
function_text bundle (items.Funcdecl d ∷ is) n = if is_function (found (globals_of bundle).names d.name.text) n then d.name.text else function_text bundle is n
function_text bundle (items.Funcdef d ∷ is) n = if is_function (found (globals_of bundle).names d.name.text) n then d.name.text else function_text bundle is n
function_text bundle (i ∷ is) n = function_text bundle is n

-- @f.v.b
abbrev pub full_name : Option Scope → Text
full_name None = []
full_name (Some s) = s.function.name.text ++ codes "." ++ drop 1 s.function.version.text ++ codes "." ++ drop 1 s.block.head.name.text

abbrev pub place_text : List Item → ℕ → ℕ → Text
place_text bundle block at = full_name (slice_get (scopes_of bundle) block) ++ codes " " ++ decimal at

-- ---- values

abbrev pub scalar_text : List Item → Scalar → Text
scalar_text bundle v = named_scalar (function_text bundle bundle) v

-- with a space before each
abbrev pub spaced : {A : Type 0} → (A → Text) → List A → Text
spaced text [] = []
spaced text (x ∷ xs) = codes " " ++ text x ++ spaced text xs

-- a struct or an array stands in braces
abbrev pub value_text : List Item → Classed → Text
value_text bundle v =
    if is_some (member_count (class_definition (bundle_tables bundle) v.0)) then codes "{" ++ drop 1 (spaced (scalar_text bundle) v.1) ++ codes "}"
    else drop 1 (spaced (scalar_text bundle) v.1)

abbrev pub values_text : List Item → TypedValues → Text
values_text bundle vs = spaced (value_text bundle) (zip vs.types vs.values)

-- ---- events

abbrev pub kind_text : List Item → Kind → Text
kind_text bundle k = named_kind (function_text bundle bundle) k
