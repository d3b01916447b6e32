-- The body of a function as the rules are written, without regard to how it is read: a name or a bracket alone does not tell
-- whether an instruction, a block or a list of values begins there. It has no limits on instructions and blocks.
--
--   block   = L params? handler? : inst*
--   inst    = results? label? op
--   results = L = | ( L* ) =
use Rattle.std.specs.Prelude.{ℕ, List, [], ◌∷◌, Option}
use Rattle.text_forms.specs.declared.symbol.Symbol.TheVariants as symbols
use Rattle.text_forms.specs.Forms.{Form, both, on, made, many, ◌▸◌, ◌◂◌}
use Rattle.ir_lex.specs.declared.name.Name.{Name}
use Rattle.ir_lex.specs.TokenForms.{mark}
use Rattle.ir_tree.specs.declared.common.CommonInst.{CommonInst}
use Rattle.ir_tree.specs.declared.code.Inst.{Inst}
use Rattle.ir_tree.specs.declared.code.Block.{Block}
use Rattle.ir_tree.specs.Lists.{optional, local}
use Rattle.ir_tree.specs.CommonForms.{new_stack, kill_stack, thread_exit, current_stack, set_threadlocal, get_threadlocal, futex_wait, futex_wake, futex_wait_timeout}
use Rattle.ir_tree.specs.Instructions.{op_with, labelled_with, with_results}
use Rattle.ir_tree.specs.Blocks.{head}

-- a list of values that is ( ), and that may be left out
unfoldable pub no_values : Form (Option ℕ)
no_values = optional symbols.Open (mark symbols.Open ▸ mark symbols.Close)

unfoldable pub written_common : Form CommonInst
written_common =
    on (symbols.UvmNewStack ∷ []) new_stack
    (on (symbols.UvmKillStack ∷ []) kill_stack
    (on (symbols.UvmThreadExit ∷ []) (thread_exit ◂ no_values)
    (on (symbols.UvmCurrentStack ∷ []) (current_stack ◂ no_values)
    (on (symbols.UvmSetThreadlocal ∷ []) set_threadlocal
    (on (symbols.UvmGetThreadlocal ∷ []) (get_threadlocal ◂ no_values)
    (on (symbols.UvmFutexWait ∷ []) futex_wait
    (on (symbols.UvmFutexWake ∷ []) futex_wake
    futex_wait_timeout)))))))

unfoldable pub written_labelled : Form Inst
written_labelled = labelled_with (op_with written_common)

-- results? with the place where they begin
abbrev pub results_of : Name → ℕ × List Name
results_of n = (n.place, n ∷ [])

unfoldable pub written_results : Form (ℕ × List Name)
written_results =
    on (symbols.Local ∷ []) (made results_of (local ◂ mark symbols.Equals))
    (made (λ x. (x.0, x.1)) (both (mark symbols.Open) (many local ◂ mark symbols.Close ◂ mark symbols.Equals)))

-- inst = results? label? op
unfoldable pub written_inst : Form Inst
written_inst =
    on (symbols.Local ∷ symbols.Open ∷ []) (made (λ x. with_results x.0.0 x.0.1 x.1) (both written_results written_labelled))
    written_labelled

-- block = L params? handler? : inst*
unfoldable pub written_block : Form Block
written_block = made (λ x. record { head = x.0; insts = x.1 }) (both head (many written_inst))

-- { block block* }
unfoldable pub written_body : Form (List Block)
written_body = made (λ x. x.0 ∷ x.1) (mark symbols.BraceOpen ▸ both written_block (many written_block) ◂ mark symbols.BraceClose)
