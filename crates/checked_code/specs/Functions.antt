-- The functions of a bundle: their demands, in text order, and what they are when names are numbers. Blocks are counted from
-- 0 over the whole bundle, in text order.
use Rattle.std.specs.Prelude.{ℕ, suc, ◌+◌, Bool, true, List, [], ◌∷◌, ◌++◌, Option, Some, None, is_some, not, ◌&&◌, length, slice_get, option_map, option_and_then, if◌then◌else◌}
use Rattle.demands.specs.Demands.{Demands, none, demand, ◌⨾◌}
use Rattle.name_scopes.specs.Names.{Names, found, added}
use Rattle.ir_lex.specs.declared.name.Name.{Name}
use Rattle.ir_tree.specs.declared.code.Block.{Block}
use Rattle.ir_tree.specs.declared.items.Funcdef.{Funcdef}
use Rattle.ir_tree.specs.declared.items.Item.{Item}
use Rattle.ir_tree.specs.declared.items.Item.TheVariants as items
use Rattle.check_tables.specs.declared.fault.CheckKind.{CheckKind}
use Rattle.check_tables.specs.declared.fault.CheckKind.TheVariants.{BadSignature, EntryParameters}
use Rattle.check_tables.specs.declared.tables.Signature.{Signature}
use Rattle.check_tables.specs.declared.tables.Tables.{Tables}
use Rattle.check_tables.specs.Lookups.{signature_in, signature_named, takes_of, gives_of, noted_classes, noted_signature}
use Rattle.checked_code.specs.declared.scopes.BlockEntry.{BlockEntry}
use Rattle.checked_code.specs.declared.scopes.Body.{Body}
use Rattle.checked_code.specs.Operands.{is_class}
use Rattle.checked_code.specs.Control.{gives_these}
use Rattle.checked_code.specs.Entries.{is_function}
use Rattle.checked_code.specs.declared.blocks.Function.{Function}
use Rattle.checked_code.specs.declared.blocks.BlockCode.{BlockCode}
use Rattle.checked_code.specs.Blocks.{parameter_classes, blocks_demands, blocks_code}

-- ---- what the instructions of a function may use

abbrev pub entry_of : Tables → ℕ → Block → BlockEntry
entry_of p k b = record { number = k; takes = parameter_classes p b.head.parameters; has_handler = is_some b.head.handler }

-- the blocks of a function, of which the first has this number
abbrev pub entries_from : Tables → Names BlockEntry → ℕ → List Block → Names BlockEntry
entries_from p es k [] = es
entries_from p es k (b ∷ bs) = entries_from p (added es b.head.name.text (entry_of p k b)) (suc k) bs

unfoldable pub body_of : Tables → ℕ → Funcdef → Body
body_of p first d = record { blocks = entries_from p [] first d.blocks; gives = noted_classes (gives_of (signature_named p d.signature)) }

-- ---- demands

abbrev pub class_of_signature : Option Signature → Option ℕ
class_of_signature s = option_map (λ (s : Signature). s.class) s

-- a declaration of the function, where there is one, has the same signature
abbrev pub is_as_declared : Tables → Option ℕ → Name → Bool
is_as_declared p None n = true
is_as_declared p (Some k) n = is_class (class_of_signature (signature_in p (slice_get p.declarations k))) (class_of_signature (signature_named p n))

-- the first block has no handler, and the signature's parameters
abbrev pub first_block_demands : Tables → Name → List Block → Demands CheckKind
first_block_demands p s [] = none
first_block_demands p s (b ∷ bs) =
    demand b.head.name.place EntryParameters (not (is_some b.head.handler) && gives_these (takes_of (signature_named p s)) (parameter_classes p b.head.parameters))

abbrev pub function_demands : Tables → ℕ → Funcdef → Demands CheckKind
function_demands p first d =
    demand d.signature.place BadSignature (is_as_declared p (found p.globals.declared d.name.text) d.signature)
    ⨾ first_block_demands p d.signature d.blocks
    ⨾ blocks_demands p (body_of p first d) d.blocks

-- of the functions behind so many blocks
abbrev pub functions_demands : Tables → ℕ → List Item → Demands CheckKind
functions_demands p first [] = none
functions_demands p first (items.Funcdef d ∷ is) = function_demands p first d ⨾ functions_demands p (first + length d.blocks) is
functions_demands p first (_ ∷ is) = functions_demands p first is

-- ---- code

-- the blocks of the functions among these items, which stand behind so many items with so many blocks
abbrev pub all_blocks : Tables → ℕ → ℕ → List Item → List BlockCode
all_blocks p item first [] = []
all_blocks p item first (items.Funcdef d ∷ is) = blocks_code p (body_of p first d) item 0 d.blocks ++ all_blocks p (suc item) (first + length d.blocks) is
all_blocks p item first (_ ∷ is) = all_blocks p (suc item) first is

-- the first block of each definition
abbrev pub first_blocks : ℕ → List Item → List ℕ
first_blocks first [] = []
first_blocks first (items.Funcdef d ∷ is) = first ∷ first_blocks (first + length d.blocks) is
first_blocks first (_ ∷ is) = first_blocks first is

abbrev pub first_of : List ℕ → Option ℕ → Option ℕ
first_of firsts n = option_and_then (slice_get firsts) n

-- function k: its signature, and its first block, where it is defined; its name stands first in that item
abbrev pub function_named : Tables → List ℕ → ℕ → ℕ → Name → Function
function_named p firsts k item n =
    record { signature = noted_signature (signature_in p (slice_get p.functions k)); first = first_of firsts (found p.globals.defined n.text); item = item }

-- the name of a function that is declared or defined
abbrev pub name_of_function : Item → Option Name
name_of_function (items.Funcdecl d) = Some d.name
name_of_function (items.Funcdef d) = Some d.name
name_of_function _ = None

-- function k, where the name is its own
abbrev pub function_in : Tables → List ℕ → ℕ → ℕ → Option Name → Option Function
function_in p firsts k item None = None
function_in p firsts k item (Some n) = if is_function (found p.globals.names n.text) k then Some (function_named p firsts k item n) else None

-- the functions behind so many: each is counted where its name comes first
abbrev pub functions_behind : (ℕ → List Function) → ℕ → Option Function → List Function
functions_behind more k None = more k
functions_behind more k (Some f) = f ∷ more (suc k)

-- the functions among these items, which stand behind so many items and so many functions
abbrev pub functions_from : Tables → List ℕ → ℕ → ℕ → List Item → List Function
functions_from p firsts k item [] = []
functions_from p firsts k item (i ∷ is) = functions_behind (λ n. functions_from p firsts n (suc item) is) k (function_in p firsts k item (name_of_function i))
