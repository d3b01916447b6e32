-- The words of common instructions: those that stand under names. Each has its list of values, `()` too.
use Rattle.std.specs.Prelude.{ℕ, List, [], ◌∷◌, ◌++◌}
use Rattle.text_forms.specs.declared.symbol.Symbol.TheVariants as symbols
use Rattle.ir_lex.specs.declared.token.TokenKind.TheVariants as kinds
use Rattle.ir_lex.specs.declared.token.Mark.TheVariants as marks
use Rattle.ir_lex.specs.Printed.{Piece}
use Rattle.ir_tree.specs.declared.operands.Operand.{Operand}
use Rattle.ir_tree.specs.declared.common.CommonInst.{CommonInst}
use Rattle.ir_tree.specs.declared.common.CommonInst.TheVariants as commons
use Rattle.ir_print.specs.Spellings.{spelling}
use Rattle.ir_print.specs.Words.{tight, spaced, mark, global}
use Rattle.ir_print.specs.Lists.{bracketed_words, value_words}

-- a global name that is a word of the grammar
abbrev pub common_name : List ℕ → Piece
common_name spelling = record { space = spaced; kind = kinds.Global; spelling = spelling }

-- ( )
abbrev pub no_values : List Piece
no_values = mark spaced marks.Open ∷ mark tight marks.Close ∷ []

-- ( value )
unfoldable pub one_value_words : List ℕ → Operand → List Piece
one_value_words space v = mark space marks.Open ∷ (value_words tight v ++ mark tight marks.Close ∷ [])

-- ( value value )
unfoldable pub two_values_words : List ℕ → Operand → Operand → List Piece
two_values_words space v w = mark space marks.Open ∷ (value_words tight v ++ (value_words spaced w ++ mark tight marks.Close ∷ []))

-- ( value value value )
unfoldable pub three_values_words : List ℕ → Operand → Operand → Operand → List Piece
three_values_words space v w x = mark space marks.Open ∷ (value_words tight v ++ (value_words spaced w ++ (value_words spaced x ++ mark tight marks.Close ∷ [])))

-- what stands behind COMMINST
unfoldable pub common_inst_words : CommonInst → List Piece
common_inst_words (commons.NewStack signature function) =
    common_name (spelling symbols.UvmNewStack) ∷ mark spaced marks.Less ∷ mark tight marks.OpenBracket ∷ global tight signature ∷ mark tight marks.CloseBracket ∷ mark tight marks.Greater ∷ one_value_words spaced function
common_inst_words (commons.KillStack stack) = common_name (spelling symbols.UvmKillStack) ∷ one_value_words spaced stack
common_inst_words commons.ThreadExit = common_name (spelling symbols.UvmThreadExit) ∷ no_values
common_inst_words commons.CurrentStack = common_name (spelling symbols.UvmCurrentStack) ∷ no_values
common_inst_words (commons.SetThreadlocal reference) = common_name (spelling symbols.UvmSetThreadlocal) ∷ one_value_words spaced reference
common_inst_words commons.GetThreadlocal = common_name (spelling symbols.UvmGetThreadlocal) ∷ no_values
common_inst_words (commons.FutexWait of_type location value) = common_name (spelling symbols.UvmFutexWait) ∷ (bracketed_words spaced of_type ++ two_values_words spaced location value)
common_inst_words (commons.FutexWake of_type location count) = common_name (spelling symbols.UvmFutexWake) ∷ (bracketed_words spaced of_type ++ two_values_words spaced location count)
common_inst_words (commons.FutexWaitTimeout of_type location value limit) =
    common_name (spelling symbols.UvmFutexWaitTimeout) ∷ (bracketed_words spaced of_type ++ three_values_words spaced location value limit)
