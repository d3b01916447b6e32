-- The words of names in brackets, of operands and of the lists that instructions and items are made of.
use Rattle.std.specs.Prelude.{ℕ, List, [], ◌∷◌, ◌++◌, Option}
use Rattle.text_forms.specs.declared.symbol.Symbol.TheVariants as symbols
use Rattle.ir_lex.specs.declared.token.Mark.TheVariants as marks
use Rattle.ir_lex.specs.declared.name.Name.{Name}
use Rattle.ir_lex.specs.declared.name.Numeral.{Numeral}
use Rattle.ir_lex.specs.Printed.{Piece}
use Rattle.ir_tree.specs.declared.operands.Operand.{Operand}
use Rattle.ir_tree.specs.declared.operands.Operand.TheVariants as operands
use Rattle.ir_tree.specs.declared.operands.Arguments.{Arguments}
use Rattle.ir_tree.specs.declared.operands.Destination.{Destination}
use Rattle.ir_tree.specs.declared.operands.ExceptionClause.{ExceptionClause}
use Rattle.ir_tree.specs.declared.operands.NewStackClause.{NewStackClause}
use Rattle.ir_tree.specs.declared.operands.NewStackClause.TheVariants as stacks
use Rattle.ir_print.specs.Spellings.{spelling}
use Rattle.ir_print.specs.Words.{tight, spaced, mark, word, global, local, number, global_words, local_words, listed, optional_words}

-- < G >
unfoldable pub bracketed_words : List ℕ → Name → List Piece
bracketed_words space n = mark space marks.Less ∷ global tight n ∷ mark tight marks.Greater ∷ []

-- < G G >
unfoldable pub bracketed_pair_words : List ℕ → Name → Name → List Piece
bracketed_pair_words space a b = mark space marks.Less ∷ global tight a ∷ global spaced b ∷ mark tight marks.Greater ∷ []

-- < G N >
unfoldable pub bracketed_field_words : List ℕ → Name → Numeral → List Piece
bracketed_field_words space a n = mark space marks.Less ∷ global tight a ∷ number spaced n ∷ mark tight marks.Greater ∷ []

-- ( G* )
unfoldable pub global_list_words : List ℕ → List Name → List Piece
global_list_words space ns = mark space marks.Open ∷ (listed global_words ns ++ mark tight marks.Close ∷ [])

-- ( L* )
unfoldable pub local_list_words : List ℕ → List Name → List Piece
local_list_words space ns = mark space marks.Open ∷ (listed local_words ns ++ mark tight marks.Close ∷ [])

-- < G* >
unfoldable pub type_list_words : List ℕ → List Name → List Piece
type_list_words space ns = mark space marks.Less ∷ (listed global_words ns ++ mark tight marks.Greater ∷ [])

-- L | G
unfoldable pub value_words : List ℕ → Operand → List Piece
value_words space (operands.Local n) = local space n ∷ []
value_words space (operands.Global n) = global space n ∷ []

-- ( value* )
unfoldable pub values_words : List ℕ → Arguments → List Piece
values_words space a = mark space marks.Open ∷ (listed value_words a.values ++ mark tight marks.Close ∷ [])

-- L( value* )
unfoldable pub dest_words : List ℕ → Destination → List Piece
dest_words space d = local space d.block ∷ values_words tight d.arguments

-- EXC( dest dest )
unfoldable pub exc_words : List ℕ → ExceptionClause → List Piece
exc_words space e = word space (spelling symbols.Exc) ∷ mark tight marks.Open ∷ (dest_words tight e.normal ++ (dest_words spaced e.exceptional ++ mark tight marks.Close ∷ []))

-- KEEPALIVE( L* )
unfoldable pub keep_words : List ℕ → List Name → List Piece
keep_words space ns = word space (spelling symbols.Keepalive) ∷ local_list_words tight ns

-- exc? keep?
unfoldable pub exc_keep_words : Option ExceptionClause → Option (List Name) → List Piece
exc_keep_words exception keepalive = optional_words exc_words exception ++ optional_words keep_words keepalive

-- PASS_VALUES< G* > ( value* ) | THROW_EXC value
unfoldable pub new_stack_clause_words : List ℕ → NewStackClause → List Piece
new_stack_clause_words space (stacks.PassValues types values) = word space (spelling symbols.PassValues) ∷ (type_list_words tight types ++ values_words spaced values)
new_stack_clause_words space (stacks.ThrowExc exception) = word space (spelling symbols.ThrowExc) ∷ value_words spaced exception
