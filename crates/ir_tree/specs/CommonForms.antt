-- Common instructions: those that stand under names.
use Rattle.std.specs.Prelude.{List, [], ◌∷◌}
use Rattle.text_forms.specs.declared.symbol.Symbol.{Symbol}
use Rattle.text_forms.specs.declared.symbol.Symbol.TheVariants as symbols
use Rattle.text_forms.specs.Forms.{Form, both, on, made, left_out, ◌▸◌, ◌◂◌}
use Rattle.ir_lex.specs.TokenForms.{mark}
use Rattle.ir_tree.specs.declared.operands.Operand.{Operand}
use Rattle.ir_tree.specs.declared.common.CommonInst.{CommonInst}
use Rattle.ir_tree.specs.declared.common.CommonInst.TheVariants as commons
use Rattle.ir_tree.specs.Lists.{global, bracketed, value}

-- ( value )
unfoldable pub one_value : Form Operand
one_value = mark symbols.Open ▸ value ◂ mark symbols.Close

-- ( value value )
unfoldable pub two_values : Form (Operand × Operand)
two_values = mark symbols.Open ▸ both value value ◂ mark symbols.Close

-- ( value value value )
unfoldable pub three_values : Form (Operand × Operand × Operand)
three_values = made (λ x. (x.0, x.1.0, x.1.1)) (mark symbols.Open ▸ both value (both value value) ◂ mark symbols.Close)

-- @uvm.new_stack < [ S ] > ( f )
unfoldable pub new_stack : Form CommonInst
new_stack =
    made (λ x. commons.NewStack x.0 x.1)
    (mark symbols.UvmNewStack ▸ both (mark symbols.Less ▸ mark symbols.SquareOpen ▸ global ◂ mark symbols.SquareClose ◂ mark symbols.Greater) one_value)

-- @uvm.kill_stack ( s )
unfoldable pub kill_stack : Form CommonInst
kill_stack = made commons.KillStack (mark symbols.UvmKillStack ▸ one_value)

-- @uvm.thread_exit, behind which ( ) may stand
unfoldable pub thread_exit : Form CommonInst
thread_exit = made (λ _. commons.ThreadExit) (mark symbols.UvmThreadExit)

-- @uvm.current_stack, behind which ( ) may stand
unfoldable pub current_stack : Form CommonInst
current_stack = made (λ _. commons.CurrentStack) (mark symbols.UvmCurrentStack)

-- @uvm.set_threadlocal ( r )
unfoldable pub set_threadlocal : Form CommonInst
set_threadlocal = made commons.SetThreadlocal (mark symbols.UvmSetThreadlocal ▸ one_value)

-- @uvm.get_threadlocal, behind which ( ) may stand
unfoldable pub get_threadlocal : Form CommonInst
get_threadlocal = made (λ _. commons.GetThreadlocal) (mark symbols.UvmGetThreadlocal)

-- @uvm.futex.wait < T > ( p v )
unfoldable pub futex_wait : Form CommonInst
futex_wait = made (λ x. commons.FutexWait x.0 x.1.0 x.1.1) (mark symbols.UvmFutexWait ▸ both bracketed two_values)

-- @uvm.futex.wake < T > ( p n )
unfoldable pub futex_wake : Form CommonInst
futex_wake = made (λ x. commons.FutexWake x.0 x.1.0 x.1.1) (mark symbols.UvmFutexWake ▸ both bracketed two_values)

-- @uvm.futex.wait_timeout < T > ( p v n )
unfoldable pub futex_wait_timeout : Form CommonInst
futex_wait_timeout = made (λ x. commons.FutexWaitTimeout x.0 x.1.0 x.1.1 x.1.2) (mark symbols.UvmFutexWaitTimeout ▸ both bracketed three_values)

-- every other name is of an instruction that the profile leaves out
abbrev pub left_out_names : List Symbol
left_out_names = symbols.Global ∷ []

unfoldable pub common_inst : Form CommonInst
common_inst =
    on (symbols.UvmNewStack ∷ []) new_stack
    (on (symbols.UvmKillStack ∷ []) kill_stack
    (on (symbols.UvmThreadExit ∷ []) thread_exit
    (on (symbols.UvmCurrentStack ∷ []) current_stack
    (on (symbols.UvmSetThreadlocal ∷ []) set_threadlocal
    (on (symbols.UvmGetThreadlocal ∷ []) get_threadlocal
    (on (symbols.UvmFutexWait ∷ []) futex_wait
    (on (symbols.UvmFutexWake ∷ []) futex_wake
    (on (symbols.UvmFutexWaitTimeout ∷ []) futex_wait_timeout
    (left_out left_out_names commons.ThreadExit)))))))))
