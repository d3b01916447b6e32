-- The kind of an instruction, which its word tells.
use Rattle.std.specs.Prelude.{ℕ, List, [], ◌∷◌, Option, Some, None, if◌then◌else◌}
use Rattle.text_forms.specs.declared.symbol.Symbol.{Symbol}
use Rattle.text_forms.specs.declared.symbol.Symbol.TheVariants as symbols
use Rattle.text_forms.specs.Tokens.{has}
use Rattle.text_forms.specs.Forms.{Form, both, made}
use Rattle.ir_lex.specs.TokenForms.{mark}
use Rattle.ir_tree.specs.declared.code.Op.{Op}
use Rattle.ir_tree.specs.declared.code.Op.TheVariants as ops
use Rattle.ir_tree.specs.Computations.{computation_words, computation}
use Rattle.ir_tree.specs.Control.{control_words, control}
use Rattle.ir_tree.specs.Objects.{allocation_words, allocation, addressing_words, addressing_form}
use Rattle.ir_tree.specs.Accesses.{access_words, access}
use Rattle.ir_tree.specs.Stacks.{trapping_words, trapping_form, stack_words, stack_switch}
use Rattle.ir_tree.specs.CommonForms.{common_inst}
use Rattle.ir_text.specs.declared.kinds.OpKind.{OpKind}
use Rattle.ir_text.specs.declared.kinds.OpKind.TheVariants as kinds

-- the words of each kind
abbrev pub op_kinds : List (List Symbol × OpKind)
op_kinds =
    (computation_words, kinds.Computation) ∷ (control_words, kinds.ControlFlow) ∷ (allocation_words, kinds.Allocation) ∷ (addressing_words, kinds.Addressing)
    ∷ (access_words, kinds.Access) ∷ (trapping_words, kinds.Trapping) ∷ (stack_words, kinds.StackSwitch) ∷ (symbols.Comminst ∷ [], kinds.Common) ∷ []

-- the first of these kinds that has the word
abbrev pub kind_among : List (List Symbol × OpKind) → Symbol → Option OpKind
kind_among [] s = None
kind_among (x ∷ xs) s = if has x.0 s then Some x.1 else kind_among xs s

-- the kind of the instructions that this word begins
unfoldable pub op_kind : Symbol → Option OpKind
op_kind s = kind_among op_kinds s

-- the instructions of one kind, each with the place of its word
abbrev pub of_kind : OpKind → Form (ℕ × Op)
of_kind kinds.Computation = made (λ x. (x.0, ops.Computation x.1)) computation
of_kind kinds.ControlFlow = made (λ x. (x.0, ops.ControlFlow x.1)) control
of_kind kinds.Allocation = made (λ x. (x.0, ops.Allocation x.1)) allocation
of_kind kinds.Addressing = made (λ x. (x.0, ops.Addressing x.1)) addressing_form
of_kind kinds.Access = made (λ x. (x.0, ops.Access x.1)) access
of_kind kinds.Trapping = made (λ x. (x.0, ops.Trapping x.1)) trapping_form
of_kind kinds.StackSwitch = made (λ x. (x.0, ops.StackSwitch x.1)) stack_switch
of_kind kinds.Common = made (λ x. (x.0, ops.Common x.1)) (both (mark symbols.Comminst) common_inst)
