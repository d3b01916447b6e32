-- Names, operands and the lists that instructions and items are made of.
--
-- One list has at most 256 members: the parameters or results of a signature, the fields of a type, the members of a constant,
-- the parameters of a block, the results of an instruction, and each list of types or values in brackets.
use Rattle.std.specs.Prelude.{List, [], ◌∷◌, Option, Some, None}
use Rattle.text_forms.specs.declared.symbol.Symbol.{Symbol}
use Rattle.text_forms.specs.declared.symbol.Symbol.TheVariants as symbols
use Rattle.text_forms.specs.Forms.{Form, nothing, both, on, made, up_to, ◌▸◌, ◌◂◌}
use Rattle.ir_lex.specs.declared.name.Name.{Name}
use Rattle.ir_lex.specs.TokenForms.{mark, name}
use Rattle.ir_tree.specs.declared.operands.Operand.{Operand}
use Rattle.ir_tree.specs.declared.operands.Operand.TheVariants as operands
use Rattle.ir_tree.specs.declared.operands.Arguments.{Arguments}
use Rattle.ir_tree.specs.declared.operands.Destination.{Destination}
use Rattle.ir_tree.specs.declared.operands.ExceptionClause.{ExceptionClause}
use Rattle.ir_tree.specs.declared.operands.NewStackClause.{NewStackClause}
use Rattle.ir_tree.specs.declared.operands.NewStackClause.TheVariants as stacks

-- x?, where x begins with this word
abbrev pub optional : {A : Type 0} → Symbol → Form A → Form (Option A)
optional s f = on (s ∷ []) (made Some f) (nothing None)

-- G: the names of common instructions are global names like any others
abbrev pub globals : List Symbol
globals =
    symbols.Global ∷ symbols.UvmNewStack ∷ symbols.UvmKillStack ∷ symbols.UvmThreadExit ∷ symbols.UvmCurrentStack ∷ symbols.UvmSetThreadlocal
    ∷ symbols.UvmGetThreadlocal ∷ symbols.UvmFutexWait ∷ symbols.UvmFutexWake ∷ symbols.UvmFutexWaitTimeout ∷ []

unfoldable pub global : Form Name
global = name globals

-- L
unfoldable pub local : Form Name
local = name (symbols.Local ∷ [])

-- < G >
unfoldable pub bracketed : Form Name
bracketed = mark symbols.Less ▸ global ◂ mark symbols.Greater

-- < G G >
unfoldable pub bracketed_pair : Form (Name × Name)
bracketed_pair = mark symbols.Less ▸ both global global ◂ mark symbols.Greater

-- ( G* )
unfoldable pub global_list : Form (List Name)
global_list = mark symbols.Open ▸ up_to 256 (symbols.Close ∷ []) global

-- ( L* )
unfoldable pub local_list : Form (List Name)
local_list = mark symbols.Open ▸ up_to 256 (symbols.Close ∷ []) local

-- < G* >
unfoldable pub type_list : Form (List Name)
type_list = mark symbols.Less ▸ up_to 256 (symbols.Greater ∷ []) global

-- value = L | G
unfoldable pub value : Form Operand
value = on (symbols.Local ∷ []) (made operands.Local local) (made operands.Global global)

-- ( value* )
unfoldable pub values : Form Arguments
values = made (λ x. record { place = x.0; values = x.1 }) (both (mark symbols.Open) (up_to 256 (symbols.Close ∷ []) value))

-- dest = L ( value* )
unfoldable pub dest : Form Destination
dest = made (λ x. record { block = x.0; arguments = x.1 }) (both local values)

-- exc = EXC ( dest dest )
unfoldable pub exc : Form ExceptionClause
exc = made (λ x. record { normal = x.0; exceptional = x.1 }) (mark symbols.Exc ▸ mark symbols.Open ▸ both dest dest ◂ mark symbols.Close)

-- keep = KEEPALIVE ( L* )
unfoldable pub keep : Form (List Name)
keep = mark symbols.Keepalive ▸ local_list

-- new = PASS_VALUES < G* > ( value* ) | THROW_EXC value | THROW_EXC ( value )
unfoldable pub pass_values : Form NewStackClause
pass_values = made (λ x. stacks.PassValues x.0 x.1) (mark symbols.PassValues ▸ both type_list values)

unfoldable pub throw_exc : Form NewStackClause
throw_exc = made stacks.ThrowExc (mark symbols.ThrowExc ▸ on (symbols.Open ∷ []) (mark symbols.Open ▸ value ◂ mark symbols.Close) value)

unfoldable pub new_stack_clause : Form NewStackClause
new_stack_clause = on (symbols.PassValues ∷ []) pass_values throw_exc
