-- What a checked bundle answers by names and by numbers.
use Rattle.std.specs.Prelude.{ℕ, Bool, true, false, is_some, if◌then◌else◌, List, [], ◌∷◌, ◌++◌, Option, Some, None, Result, Ok, Err, codes, drop, slice_get, option_map, option_and_then, unwrap_or}
use Rattle.name_scopes.specs.Names.{found}
use Rattle.ir_lex.specs.declared.name.Name.{Name}
use Rattle.ir_tree.specs.declared.code.Block.{Block}
use Rattle.ir_tree.specs.declared.items.Funcdef.{Funcdef}
use Rattle.ir_tree.specs.declared.items.Item.{Item}
use Rattle.ir_tree.specs.declared.items.Item.TheVariants as items
use Rattle.bundle_names.specs.declared.globals.Sort.{Sort}
use Rattle.bundle_names.specs.declared.globals.Sort.TheVariants as sorts
use Rattle.bundle_names.specs.Globals.{globals_of}
use Rattle.check_tables.specs.declared.tables.Tables.{Tables}
use Rattle.check_tables.specs.Lookups.{signature_in, takes_of, noted_class}
use Rattle.checked_code.specs.declared.code.Code.{Code}
use Rattle.checked_code.specs.declared.blocks.Function.{Function}
use Rattle.checked_code.specs.declared.blocks.BlockCode.{BlockCode}
use Rattle.checked_code.specs.declared.fault.EntryFault.{EntryFault}
use Rattle.checked_code.specs.declared.fault.EntryFault.TheVariants.{Unknown, BadSignature, NoBody}
use Rattle.checked_code.specs.Functions.{name_of_function}
use Rattle.checked_code.specs.Checking.{bundle_tables, bundle_functions, bundle_blocks}

-- ---- by name

-- what the bundle defines under a name, with its number
abbrev pub find : List Item → List ℕ → Option Sort
find bundle name = found (globals_of bundle).names name

abbrev pub function_number : Option Sort → Option ℕ
function_number (Some (sorts.Function n)) = Some n
function_number _ = None

abbrev pub takes_nothing : Option (List ℕ) → Bool
takes_nothing None = false
takes_nothing (Some []) = true
takes_nothing (Some (c ∷ cs)) = false

abbrev pub first_in : Option Function → Option ℕ
first_in f = option_and_then (λ (f : Function). f.first) f

-- a function that takes nothing and has a body may be entered
abbrev pub entry_of : List Item → Option ℕ → Result ℕ EntryFault
entry_of bundle None = Err Unknown
entry_of bundle (Some n) =
    if takes_nothing (takes_of (signature_in (bundle_tables bundle) (slice_get (bundle_tables bundle).functions n)))
    then (if is_some (first_in (slice_get (bundle_functions bundle) n)) then Ok n else Err NoBody)
    else Err BadSignature

-- the number of the function with this name, or why it is no entry: there is none, it takes something, or it has no body
abbrev pub entry : List Item → List ℕ → Result ℕ EntryFault
entry bundle name = entry_of bundle (function_number (find bundle name))

-- ---- by number

-- the class of a variable of a block: the parameters, the handler and the results are counted from 0 in text order
abbrev pub local_class : List Item → ℕ → ℕ → Option ℕ
local_class bundle block variable = option_and_then (λ (b : BlockCode). slice_get b.classes variable) (slice_get (bundle_blocks bundle) block)

-- the instruction of a block with so many before it
abbrev pub code_at : List Item → ℕ → ℕ → Option Code
code_at bundle block at = option_and_then (λ (b : BlockCode). slice_get b.code at) (slice_get (bundle_blocks bundle) block)

abbrev pub handler_of : Option BlockCode → Option ℕ
handler_of b = option_and_then (λ (b : BlockCode). b.handler) b

-- the types of the globals
abbrev pub global_classes : Tables → List Item → List ℕ
global_classes p [] = []
global_classes p (items.GlobalCell d ∷ is) = noted_class p d.of_type ∷ global_classes p is
global_classes p (_ ∷ is) = global_classes p is

-- ---- names by number

-- a dot and a name without its sigil
abbrev pub part : Name → List ℕ
part n = codes "." ++ drop 1 n.text

-- @f.v.b
abbrev pub full_name : Funcdef → Block → List ℕ
full_name d b = d.name.text ++ part d.version ++ part b.head.name

abbrev pub full_name_at : Funcdef → Option Block → List ℕ
full_name_at d b = unwrap_or (option_map (full_name d) b) []

abbrev pub name_in : Option Item → ℕ → List ℕ
name_in (Some (items.Funcdef d)) at = full_name_at d (slice_get d.blocks at)
name_in _ at = []

abbrev pub name_of_block : List Item → Option BlockCode → List ℕ
name_of_block bundle b = unwrap_or (option_map (λ (b : BlockCode). name_in (slice_get bundle b.item) b.at) b) []

-- the full name of a block by its number
abbrev pub block_name : List Item → ℕ → List ℕ
block_name bundle n = name_of_block bundle (slice_get (bundle_blocks bundle) n)

abbrev pub text_of : Option Name → List ℕ
text_of n = unwrap_or (option_map (λ (n : Name). n.text) n) []

abbrev pub item_name : Option Item → List ℕ
item_name i = text_of (option_and_then name_of_function i)

abbrev pub name_of_function_at : List Item → Option Function → List ℕ
name_of_function_at bundle f = unwrap_or (option_map (λ (f : Function). item_name (slice_get bundle f.item)) f) []

-- the name of a function by its number
abbrev pub function_name : List Item → ℕ → List ℕ
function_name bundle n = name_of_function_at bundle (slice_get (bundle_functions bundle) n)
