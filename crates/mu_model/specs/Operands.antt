-- What the names and operands of an instruction stand for, in its block, with the values of the block's variables.
use Rattle.std.specs.Prelude.{ℕ, ◌^◌, Bool, List, [], ◌∷◌, Option, Some, None, map, option_map, slice_get, nat_eq, nat_le, nat_lt, if◌then◌else◌, ◌&&◌}
use Rattle.name_scopes.specs.Names.{found}
use Rattle.ir_lex.specs.declared.name.Name.{Name}
use Rattle.ir_tree.specs.declared.operands.Operand.{Operand}
use Rattle.ir_tree.specs.declared.operands.Operand.TheVariants as operands
use Rattle.ir_tree.specs.declared.operands.Destination.{Destination}
use Rattle.ir_tree.specs.declared.code.Block.{Block}
use Rattle.ir_tree.specs.declared.items.Funcdef.{Funcdef}
use Rattle.ir_tree.specs.declared.items.Item.{Item}
use Rattle.mu_values.specs.declared.scalars.Scalar.{Scalar}
use Rattle.mu_values.specs.declared.scalars.Scalar.TheVariants.{Int, Place, Func}
use Rattle.bundle_names.specs.declared.globals.Sort.{Sort}
use Rattle.bundle_names.specs.declared.globals.Sort.TheVariants as sorts
use Rattle.bundle_names.specs.Globals.{globals_of}
use Rattle.check_tables.specs.declared.tables.Tables.{Tables}
use Rattle.check_tables.specs.Lookups.{noted_class}
use Rattle.checked_code.specs.Constants.{constant_values}
use Rattle.checked_code.specs.Blocks.{head_locals}
use Rattle.checked_code.specs.Functions.{entries_from}
use Rattle.checked_code.specs.Checking.{bundle_tables}
use Rattle.checked_code.specs.declared.scopes.BlockEntry.{BlockEntry}
use Rattle.checked_code.specs.declared.scopes.Locals.{Locals}
use Rattle.checked_code.specs.declared.scopes.Variable.{Variable}
use Rattle.checked_code.specs.Instructions.{after_all}
use Rattle.checked_code.specs.Operands.{noted_list}
use Rattle.typed_heap.specs.Places.{with_some}
use Rattle.frames.specs.Activations.{Value, Goal}

-- ---- names

-- a block with its bundle and its function; blocks are counted over the whole bundle in text order, and `first` is that of the function
pub record Scope : Type 0 where
  pub bundle : List Item
  pub function : Funcdef
  pub first : ℕ
  pub block : Block

abbrev pub tables_in : Scope → Tables
tables_in s = bundle_tables s.bundle

-- the class of a type, and of each type of a list
abbrev pub class : Scope → Name → ℕ
class s t = noted_class (tables_in s) t

abbrev pub classes : Scope → List Name → List ℕ
classes s ts = noted_list (tables_in s) ts

-- the variables of a block, as they are behind its last instruction: its parameters, then the handler if it has one, then what its
-- instructions give, in text order
abbrev pub variables : Scope → Locals
variables s = after_all (tables_in s) (head_locals (tables_in s) s.block.head) s.block.insts

-- the number of the function's block with a name
abbrev pub target_block : Scope → Name → Option ℕ
target_block s n = option_map (λ (b : BlockEntry). b.number) (found (entries_from (tables_in s) [] s.first s.function.blocks) n.text)

-- ---- operands: a local name is a variable of the block, a global one a constant, a global's place or a function

abbrev pub global_value : List Item → Option Sort → Option Value
global_value bundle (Some (sorts.Constant n)) = slice_get (constant_values (bundle_tables bundle) bundle) n
global_value bundle (Some (sorts.GlobalCell n)) = Some (Place n 0 ∷ [])
global_value bundle (Some (sorts.Function n)) = Some (Func n ∷ [])
global_value bundle (Some (sorts.Written n)) = None
global_value bundle (Some (sorts.Signature n)) = None
global_value bundle None = None

abbrev pub global_operand : List Item → Name → Option Value
global_operand bundle n = global_value bundle (found (globals_of bundle).names n.text)

-- a variable has a value once it stands among those of the frame
abbrev pub local_value : Scope → List Value → Name → Option Value
local_value s vars n = with_some (found (variables s).names n.text) (λ (v : Variable). slice_get vars v.number)

abbrev pub value_named : Scope → List Value → Operand → Option Value
value_named s vars (operands.Local n) = local_value s vars n
value_named s vars (operands.Global n) = global_operand s.bundle n

-- all of them, where each is there
abbrev pub all_some : {A : Type 0} → List (Option A) → Option (List A)
all_some [] = Some []
all_some (x ∷ xs) = with_some x (λ a. with_some (all_some xs) (λ more. Some (a ∷ more)))

abbrev pub values_named : Scope → List Value → List Operand → Option (List Value)
values_named s vars os = all_some (map (value_named s vars) os)

-- ---- destinations

abbrev pub goal_to : Option ℕ → Option (List Value) → Option Goal
goal_to block values = with_some block (λ k. with_some values (λ vs. Some (record { block = k; values = vs })))

abbrev pub goal_named : Scope → List Value → Destination → Option Goal
goal_named s vars d = goal_to (target_block s d.block) (values_named s vars d.arguments.values)

-- ---- what a value is

-- the one scalar of a value
abbrev pub scalar_in : Option Value → Option Scalar
scalar_in (Some (s ∷ [])) = Some s
scalar_in _ = None

-- integers have 1 to 128 bits
abbrev pub is_width : ℕ → Bool
is_width w = nat_le 1 w && nat_le w 128

-- the number is an integer of that many bits
abbrev pub is_integer : ℕ → ℕ → Bool
is_integer w n = is_width w && nat_lt n (2 ^ w)

-- the bits of an integer of that width
abbrev pub bits_of_width : Option ℕ → Option Scalar → Option ℕ
bits_of_width (Some w) (Some (Int v n)) = if nat_eq w v && is_integer w n then Some n else None
bits_of_width _ _ = None

abbrev pub bits_in : Option ℕ → Option Value → Option ℕ
bits_in w v = bits_of_width w (scalar_in v)
