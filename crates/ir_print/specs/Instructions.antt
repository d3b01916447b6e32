-- The words of instructions.
use Rattle.std.specs.Prelude.{ℕ, List, [], ◌∷◌, ◌++◌, Option, Some, None}
use Rattle.text_forms.specs.declared.symbol.Symbol.TheVariants as symbols
use Rattle.ir_lex.specs.declared.token.Mark.TheVariants as marks
use Rattle.ir_lex.specs.declared.name.Name.{Name}
use Rattle.ir_lex.specs.Printed.{Piece}
use Rattle.ir_tree.specs.declared.code.Op.{Op}
use Rattle.ir_tree.specs.declared.code.Op.TheVariants as ops
use Rattle.ir_tree.specs.declared.code.Inst.{Inst}
use Rattle.ir_print.specs.Spellings.{spelling}
use Rattle.ir_print.specs.Words.{tight, spaced, mark, word, local}
use Rattle.ir_print.specs.Lists.{local_list_words}
use Rattle.ir_print.specs.Computations.{computation_words}
use Rattle.ir_print.specs.Control.{control_words}
use Rattle.ir_print.specs.Objects.{allocation_words, addressing_words}
use Rattle.ir_print.specs.Accesses.{access_words}
use Rattle.ir_print.specs.Stacks.{trapping_words, stack_switch_words}
use Rattle.ir_print.specs.CommonForms.{common_inst_words}

unfoldable pub op_words : List ℕ → Op → List Piece
op_words space (ops.Computation x) = computation_words space x
op_words space (ops.ControlFlow x) = control_words space x
op_words space (ops.Allocation x) = allocation_words space x
op_words space (ops.Addressing x) = addressing_words space x
op_words space (ops.Access x) = access_words space x
op_words space (ops.Trapping x) = trapping_words space x
op_words space (ops.StackSwitch x) = stack_switch_words space x
op_words space (ops.Common x) = word space (spelling symbols.Comminst) ∷ common_inst_words x

-- label? op
unfoldable pub labelled_words : List ℕ → Option Name → Op → List Piece
labelled_words space None op = op_words space op
labelled_words space (Some label) op = mark space marks.OpenBracket ∷ local tight label ∷ mark tight marks.CloseBracket ∷ op_words spaced op

-- results? label? op: one result has no brackets, and no result is nothing
unfoldable pub results_words : List ℕ → List Name → Option Name → Op → List Piece
results_words space [] label op = labelled_words space label op
results_words space (n ∷ []) label op = local space n ∷ mark spaced marks.Equals ∷ labelled_words spaced label op
results_words space (m ∷ n ∷ ns) label op = local_list_words space (m ∷ n ∷ ns) ++ mark spaced marks.Equals ∷ labelled_words spaced label op

abbrev pub inst_words : List ℕ → Inst → List Piece
inst_words space i = results_words space i.results i.label i.op
