-- The words of instructions that say where the function goes on, or that enter or leave one.
use Rattle.std.specs.Prelude.{ℕ, List, [], ◌∷◌, ◌++◌}
use Rattle.std.specs.List.{flat_map}
use Rattle.text_forms.specs.declared.symbol.Symbol.TheVariants as symbols
use Rattle.ir_lex.specs.declared.token.Mark.TheVariants as marks
use Rattle.ir_lex.specs.Printed.{Piece}
use Rattle.ir_tree.specs.declared.flow.Case.{Case}
use Rattle.ir_tree.specs.declared.flow.ControlFlow.{ControlFlow}
use Rattle.ir_tree.specs.declared.flow.ControlFlow.TheVariants as flows
use Rattle.ir_print.specs.Spellings.{spelling}
use Rattle.ir_print.specs.Words.{spaced, mark, word, global}
use Rattle.ir_print.specs.Lists.{bracketed_words, value_words, values_words, dest_words, exc_keep_words}

-- G dest
unfoldable pub switch_case_words : List ℕ → Case → List Piece
switch_case_words space c = global space c.constant ∷ dest_words spaced c.destination

-- { case* }
unfoldable pub case_list_words : List ℕ → List Case → List Piece
case_list_words space cases = mark space marks.OpenBrace ∷ (flat_map (switch_case_words spaced) cases ++ mark spaced marks.CloseBrace ∷ [])

unfoldable pub control_words : List ℕ → ControlFlow → List Piece
-- BRANCH dest
control_words space (flows.Branch destination) = word space (spelling symbols.Branch) ∷ dest_words spaced destination
-- BRANCH2 c dest dest
control_words space (flows.Branch2 condition if_one if_zero) =
    word space (spelling symbols.Branch2) ∷ (value_words spaced condition ++ (dest_words spaced if_one ++ dest_words spaced if_zero))
-- SWITCH <T> a dest { case* }
control_words space (flows.Switch of_type operand default cases) =
    word space (spelling symbols.Switch) ∷ (bracketed_words spaced of_type ++ (value_words spaced operand ++ (dest_words spaced default ++ case_list_words spaced cases)))
-- CALL <S> f ( value* ) exc? keep?
control_words space (flows.Call signature callee arguments exception keepalive) =
    word space (spelling symbols.Call) ∷ (bracketed_words spaced signature ++ (value_words spaced callee ++ (values_words spaced arguments ++ exc_keep_words exception keepalive)))
-- TAILCALL <S> f ( value* )
control_words space (flows.Tailcall signature callee arguments) =
    word space (spelling symbols.Tailcall) ∷ (bracketed_words spaced signature ++ (value_words spaced callee ++ values_words spaced arguments))
-- RET ( value* )
control_words space (flows.Ret values) = word space (spelling symbols.Ret) ∷ values_words spaced values
-- THROW e
control_words space (flows.Throw exception) = word space (spelling symbols.Throw) ∷ value_words spaced exception
