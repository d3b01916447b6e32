-- The words of instructions that read and write memory. LOAD and STORE have their order, NOT_ATOMIC too.
use Rattle.std.specs.Prelude.{ℕ, Bool, List, [], ◌∷◌, ◌++◌, Option, if◌then◌else◌}
use Rattle.text_forms.specs.declared.symbol.Symbol.TheVariants as symbols
use Rattle.ir_lex.specs.declared.name.Name.{Name}
use Rattle.ir_lex.specs.Printed.{Piece}
use Rattle.ir_tree.specs.declared.operands.Operand.{Operand}
use Rattle.ir_tree.specs.declared.operands.ExceptionClause.{ExceptionClause}
use Rattle.ir_tree.specs.declared.order.WrittenOrder.{WrittenOrder}
use Rattle.ir_tree.specs.declared.accessing.Access.{Access}
use Rattle.ir_tree.specs.declared.accessing.Access.TheVariants as accesses
use Rattle.ir_print.specs.Spellings.{spelling}
use Rattle.ir_print.specs.Words.{spaced, word, optional_words}
use Rattle.ir_print.specs.Operators.{update_text, order_text}
use Rattle.ir_print.specs.Lists.{bracketed_words, value_words, exc_words}

unfoldable pub order_words : List ℕ → WrittenOrder → List Piece
order_words space o = word space (order_text o.order) ∷ []

-- WEAK?
unfoldable pub weak_words : List ℕ → Bool → List Piece
weak_words space weak = if weak then word space (spelling symbols.Weak) ∷ [] else []

-- <T> p a exc?
unfoldable pub stored_words : Name → Operand → Operand → Option ExceptionClause → List Piece
stored_words of_type location value exception = bracketed_words spaced of_type ++ (value_words spaced location ++ (value_words spaced value ++ optional_words exc_words exception))

-- <T> p e d exc?
unfoldable pub exchanged_words : Name → Operand → Operand → Operand → Option ExceptionClause → List Piece
exchanged_words of_type location expected desired exception =
    bracketed_words spaced of_type ++ (value_words spaced location ++ (value_words spaced expected ++ (value_words spaced desired ++ optional_words exc_words exception)))

unfoldable pub access_words : List ℕ → Access → List Piece
-- LOAD ord <T> p exc?
access_words space (accesses.Load order of_type location exception) =
    word space (spelling symbols.Load) ∷ (order_words spaced order ++ (bracketed_words spaced of_type ++ (value_words spaced location ++ optional_words exc_words exception)))
-- STORE ord <T> p a exc?
access_words space (accesses.Store order of_type location value exception) =
    word space (spelling symbols.Store) ∷ (order_words spaced order ++ stored_words of_type location value exception)
-- CMPXCHG WEAK? s f <T> p e d exc?
access_words space (accesses.Cmpxchg weak success failure of_type location expected desired exception) =
    word space (spelling symbols.Cmpxchg) ∷ (weak_words spaced weak ++ (order_words spaced success ++ (order_words spaced failure ++ exchanged_words of_type location expected desired exception)))
-- ATOMICRMW ord RMW <T> p a exc?
access_words space (accesses.Atomicrmw order op of_type location operand exception) =
    word space (spelling symbols.Atomicrmw) ∷ (order_words spaced order ++ word spaced (update_text op) ∷ stored_words of_type location operand exception)
-- FENCE ord
access_words space (accesses.Fence order) = word space (spelling symbols.Fence) ∷ order_words spaced order
