-- Bundles whose code is well typed, item by item.
use Rattle.std.specs.Prelude.{◌≡◌, ℕ, suc, ◌+◌, nat_eq, if◌then◌else◌, List, [], ◌∷◌, ◌++◌, Option, Some, None, is_some, length, take, slice_get}
use Rattle.ir_lex.specs.declared.name.Name.{Name}
use Rattle.ir_tree.specs.declared.code.BlockHead.{BlockHead}
use Rattle.ir_tree.specs.declared.code.Block.{Block}
use Rattle.ir_tree.specs.declared.items.Funcdef.{Funcdef}
use Rattle.ir_tree.specs.declared.items.Item.{Item}
use Rattle.ir_tree.specs.declared.items.Item.TheVariants as items
use Rattle.check_tables.specs.declared.tables.Tables.{Tables}
use Rattle.check_tables.specs.Types.{ref_void}
use Rattle.checked_code.specs.declared.scopes.BlockEntry.{BlockEntry}
use Rattle.checked_code.specs.declared.scopes.Body.{Body}
use Rattle.checked_code.specs.Instructions.{insts_code, after_all}
use Rattle.bundle_laws.specs.Typed.{Blocks, BlockFits, joined}
use Rattle.checked_code.specs.declared.blocks.BlockCode.{BlockCode}
use Rattle.checked_code.specs.Blocks.{head_locals, parameter_classes, handler_number}
use Rattle.checked_code.specs.Functions.{entry_of, body_of}

-- by number, what each block of a function takes, of which the first has the number k; nothing under other numbers
abbrev pub blocks_from : Tables → ℕ → List Block → ℕ → Option BlockEntry
blocks_from p k [] n = None
blocks_from p k (b ∷ bs) n = if nat_eq n k then Some (entry_of p k b) else blocks_from p (suc k) bs n

-- the classes of the variables at the first instruction of a block: those of its parameters, and that of its handler, where it has one
abbrev pub handler_classes : Tables → Option Name → List ℕ
handler_classes p None = []
handler_classes p (Some n) = ref_void p.types ∷ []

abbrev pub head_classes : Tables → BlockHead → List ℕ
head_classes p h = parameter_classes p h.parameters ++ handler_classes p h.handler

-- the code of a block fits the variables at its head, and the classes of all its variables are those and what the instructions give
pub record BlockIsFit (p : Tables) (blocks : Blocks) (f : Body) (b : Block) : Type 0 where
  pub code : BlockFits p blocks f.gives (head_classes p b.head) (insts_code p f (head_locals p b.head) b.insts)
  pub classes : (after_all p (head_locals p b.head) b.insts).classes ≡ head_classes p b.head ++ joined code.given

-- each block
abbrev pub EachFits : Tables → Blocks → Body → List Block → Type 0
EachFits p blocks f [] = Unit {0}
EachFits p blocks f (b ∷ bs) = BlockIsFit p blocks f b × EachFits p blocks f bs

-- the blocks of a function, of which the first has this number
abbrev pub FunctionFits : Tables → ℕ → Funcdef → Type 0
FunctionFits p first d = EachFits p (blocks_from p first d.blocks) (body_of p first d) d.blocks

-- the functions behind so many blocks
abbrev pub FunctionsFit : Tables → ℕ → List Item → Type 0
FunctionsFit p first [] = Unit {0}
FunctionsFit p first (items.Typedef d ∷ is) = FunctionsFit p first is
FunctionsFit p first (items.Funcsig d ∷ is) = FunctionsFit p first is
FunctionsFit p first (items.Const d ∷ is) = FunctionsFit p first is
FunctionsFit p first (items.GlobalCell d ∷ is) = FunctionsFit p first is
FunctionsFit p first (items.Funcdecl d ∷ is) = FunctionsFit p first is
FunctionsFit p first (items.Funcdef d ∷ is) = FunctionFits p first d × FunctionsFit p (first + length d.blocks) is

-- ---- by number

-- block number m is one of the function that is that item, whose first block has this number, and it takes what the entry says
pub record Reached (all : List BlockCode) (item first : ℕ) (m : ℕ) (e : BlockEntry) : Type 0 where
  pub code : BlockCode
  pub there : slice_get all m ≡ Some code
  pub same : code.item ≡ item
  pub number : m ≡ first + code.at
  pub takes : take code.parameters code.classes ≡ e.takes
  pub handler : is_some code.handler ≡ e.has_handler

-- block number n of a bundle whose blocks are these: it is a block of a function, and well typed code there
pub record CodeOf (p : Tables) (bundle : List Item) (all : List BlockCode) (n : ℕ) (c : BlockCode) : Type 0 where
  -- the definition of the function, the number of its first block, and the block
  pub definition : Funcdef
  pub first : ℕ
  pub block : Block
  pub item : slice_get bundle c.item ≡ Some (items.Funcdef definition)
  pub there : slice_get definition.blocks c.at ≡ Some block
  pub number : n ≡ first + c.at
  -- its parameters, and its handler
  pub parameters : c.parameters ≡ length block.head.parameters
  pub handler : c.handler ≡ handler_number block.head block.head.handler
  -- its code, and the classes of its variables
  pub code : BlockFits p (blocks_from p first definition.blocks) (body_of p first definition).gives (head_classes p block.head) c.code
  pub classes : c.classes ≡ head_classes p block.head ++ joined code.given
  -- the blocks to which the code may go, which are those of the same function
  pub reached : (m : ℕ) (e : BlockEntry) → blocks_from p first definition.blocks m ≡ Some e → Reached all c.item first m e
