-- The words of instructions that compute a value from values.
use Rattle.std.specs.Prelude.{ℕ, List, ◌∷◌, ◌++◌}
use Rattle.text_forms.specs.declared.symbol.Symbol.TheVariants as symbols
use Rattle.ir_lex.specs.Printed.{Piece}
use Rattle.ir_tree.specs.declared.computing.Computation.{Computation}
use Rattle.ir_tree.specs.declared.computing.Computation.TheVariants as computations
use Rattle.ir_print.specs.Spellings.{spelling}
use Rattle.ir_print.specs.Words.{spaced, word, optional_words}
use Rattle.ir_print.specs.Operators.{binary_text, compare_text, convert_text}
use Rattle.ir_print.specs.Lists.{bracketed_words, bracketed_pair_words, bracketed_field_words, value_words, exc_words}

unfoldable pub computation_words : List ℕ → Computation → List Piece
-- BIN <T> a b exc?
computation_words space (computations.Binary op of_type left right exception) =
    word space (binary_text op) ∷ (bracketed_words spaced of_type ++ (value_words spaced left ++ (value_words spaced right ++ optional_words exc_words exception)))
-- CMP <T> a b
computation_words space (computations.Compare op of_type left right) =
    word space (compare_text op) ∷ (bracketed_words spaced of_type ++ (value_words spaced left ++ value_words spaced right))
-- TRUNC <A B> a | ZEXT <A B> a | SEXT <A B> a
computation_words space (computations.Convert op from to operand) =
    word space (convert_text op) ∷ (bracketed_pair_words spaced from to ++ value_words spaced operand)
-- REFCAST <A B> a
computation_words space (computations.Refcast from to operand) =
    word space (spelling symbols.Refcast) ∷ (bracketed_pair_words spaced from to ++ value_words spaced operand)
-- SELECT <C T> c a b
computation_words space (computations.Select condition_type of_type condition if_one if_zero) =
    word space (spelling symbols.Select) ∷ (bracketed_pair_words spaced condition_type of_type ++ (value_words spaced condition ++ (value_words spaced if_one ++ value_words spaced if_zero)))
-- EXTRACTVALUE <T n> a
computation_words space (computations.Extractvalue of_type field operand) =
    word space (spelling symbols.Extractvalue) ∷ (bracketed_field_words spaced of_type field ++ value_words spaced operand)
-- INSERTVALUE <T n> a b
computation_words space (computations.Insertvalue of_type field operand value) =
    word space (spelling symbols.Insertvalue) ∷ (bracketed_field_words spaced of_type field ++ (value_words spaced operand ++ value_words spaced value))
