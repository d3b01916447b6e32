-- All instructions.
use Rattle.std.specs.Prelude.{ℕ, Bool, true, false, List, [], ◌∷◌, Some, None}
use Rattle.text_forms.specs.declared.symbol.Symbol.{Symbol}
use Rattle.text_forms.specs.declared.symbol.Symbol.TheVariants as symbols
use Rattle.text_forms.specs.Forms.{Form, both, on, made, left_out, ◌◂◌}
use Rattle.ir_lex.specs.declared.name.Name.{Name}
use Rattle.ir_lex.specs.TokenForms.{mark}
use Rattle.ir_tree.specs.declared.common.CommonInst.{CommonInst}
use Rattle.ir_tree.specs.declared.common.CommonInst.TheVariants as commons
use Rattle.ir_tree.specs.declared.code.Op.{Op}
use Rattle.ir_tree.specs.declared.code.Op.TheVariants as ops
use Rattle.ir_tree.specs.declared.code.Inst.{Inst}
use Rattle.ir_tree.specs.Lists.{local}
use Rattle.ir_tree.specs.Computations.{computation_words, computation}
use Rattle.ir_tree.specs.Control.{control_words, control}
use Rattle.ir_tree.specs.Objects.{allocation_words, allocation, addressing_words, addressing_form}
use Rattle.ir_tree.specs.Accesses.{access_words, access}
use Rattle.ir_tree.specs.Stacks.{trapping_words, trapping_form, stack_words, stack_switch}
use Rattle.ir_tree.specs.CommonForms.{common_inst}

-- words of instructions that the profile leaves out
abbrev pub left_out_insts : List Symbol
left_out_insts =
    symbols.Ccall ∷ symbols.Allocahybrid ∷ symbols.Extractelement ∷ symbols.Insertelement ∷ symbols.Shufflevector ∷ symbols.Fadd ∷ symbols.Fsub ∷ symbols.Fmul ∷ symbols.Fdiv
    ∷ symbols.Frem ∷ symbols.Fptrunc ∷ symbols.Fpext ∷ symbols.Fptoui ∷ symbols.Fptosi ∷ symbols.Uitofp ∷ symbols.Sitofp ∷ symbols.Bitcast ∷ symbols.Ptrcast ∷ symbols.Ftrue
    ∷ symbols.Ffalse ∷ symbols.Funo ∷ symbols.Fueq ∷ symbols.Fune ∷ symbols.Fult ∷ symbols.Fule ∷ symbols.Fugt ∷ symbols.Fuge ∷ symbols.Ford ∷ symbols.Foeq ∷ symbols.Fone
    ∷ symbols.Folt ∷ symbols.Fole ∷ symbols.Fogt ∷ symbols.Foge ∷ []

-- op, with the place of its word; the common instructions are given by a form
abbrev pub op_with : Form CommonInst → Form (ℕ × Op)
op_with common_inst =
    on computation_words (made (λ x. (x.0, ops.Computation x.1)) computation)
    (on control_words (made (λ x. (x.0, ops.ControlFlow x.1)) control)
    (on allocation_words (made (λ x. (x.0, ops.Allocation x.1)) allocation)
    (on addressing_words (made (λ x. (x.0, ops.Addressing x.1)) addressing_form)
    (on access_words (made (λ x. (x.0, ops.Access x.1)) access)
    (on trapping_words (made (λ x. (x.0, ops.Trapping x.1)) trapping_form)
    (on stack_words (made (λ x. (x.0, ops.StackSwitch x.1)) stack_switch)
    (on (symbols.Comminst ∷ []) (made (λ x. (x.0, ops.Common x.1)) (both (mark symbols.Comminst) common_inst))
    (left_out left_out_insts (0, ops.Common commons.ThreadExit)))))))))

unfoldable pub op : Form (ℕ × Op)
op = op_with common_inst

-- label = [ L ], with the place where it begins
unfoldable pub label : Form (ℕ × Name)
label = both (mark symbols.SquareOpen) (local ◂ mark symbols.SquareClose)

-- label? op, as an instruction without results
abbrev pub labelled_with : Form (ℕ × Op) → Form Inst
labelled_with op =
    on (symbols.SquareOpen ∷ []) (made (λ x. record { place = x.0.0; results = []; label = Some x.0.1; op = x.1.1 }) (both label op))
    (made (λ x. record { place = x.0; results = []; label = None; op = x.1 }) op)

unfoldable pub labelled : Form Inst
labelled = labelled_with op

-- the same instruction with results, which begin at this place
abbrev pub with_results : ℕ → List Name → Inst → Inst
with_results place results inst = record inst { place = place; results = results }

-- behind the instruction its list of values may still stand, which is ( ) and may be left out
abbrev pub common_leaves_out : CommonInst → Bool
common_leaves_out commons.ThreadExit = true
common_leaves_out commons.CurrentStack = true
common_leaves_out commons.GetThreadlocal = true
common_leaves_out _ = false

abbrev pub leaves_out : Op → Bool
leaves_out (ops.Common c) = common_leaves_out c
leaves_out _ = false
