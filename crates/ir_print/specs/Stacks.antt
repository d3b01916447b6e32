-- The words of instructions that ask the client, or that go from one stack to another.
use Rattle.std.specs.Prelude.{ℕ, List, [], ◌∷◌, ◌++◌, Option}
use Rattle.text_forms.specs.declared.symbol.Symbol.TheVariants as symbols
use Rattle.ir_lex.specs.declared.token.Mark.TheVariants as marks
use Rattle.ir_lex.specs.declared.name.Name.{Name}
use Rattle.ir_lex.specs.Printed.{Piece}
use Rattle.ir_tree.specs.declared.operands.Operand.{Operand}
use Rattle.ir_tree.specs.declared.operands.Destination.{Destination}
use Rattle.ir_tree.specs.declared.operands.ExceptionClause.{ExceptionClause}
use Rattle.ir_tree.specs.declared.operands.NewStackClause.{NewStackClause}
use Rattle.ir_tree.specs.declared.trapping.Trapping.{Trapping}
use Rattle.ir_tree.specs.declared.trapping.Trapping.TheVariants as trappings
use Rattle.ir_tree.specs.declared.switching.StackSwitch.{StackSwitch}
use Rattle.ir_tree.specs.declared.switching.StackSwitch.TheVariants as switches
use Rattle.ir_print.specs.Spellings.{spelling}
use Rattle.ir_print.specs.Words.{tight, spaced, mark, word, number, optional_words}
use Rattle.ir_print.specs.Lists.{type_list_words, value_words, dest_words, exc_words, keep_words, exc_keep_words, new_stack_clause_words}

-- WPEXC( dest )
unfoldable pub wpexc_words : List ℕ → Destination → List Piece
wpexc_words space d = word space (spelling symbols.Wpexc) ∷ mark tight marks.Open ∷ (dest_words tight d ++ mark tight marks.Close ∷ [])

-- dest dest wpexc? keep?
unfoldable pub watched_words : Destination → Destination → Option Destination → Option (List Name) → List Piece
watched_words disabled enabled exceptional keepalive =
    dest_words spaced disabled ++ (dest_words spaced enabled ++ (optional_words wpexc_words exceptional ++ optional_words keep_words keepalive))

unfoldable pub trapping_words : List ℕ → Trapping → List Piece
-- TRAP <T*> exc? keep?
trapping_words space (trappings.Trap types exception keepalive) =
    word space (spelling symbols.Trap) ∷ (type_list_words spaced types ++ exc_keep_words exception keepalive)
-- WATCHPOINT n <T*> dest dest wpexc? keep?
trapping_words space (trappings.Watchpoint n types disabled enabled exceptional keepalive) =
    word space (spelling symbols.Watchpoint) ∷ number spaced n ∷ (type_list_words spaced types ++ watched_words disabled enabled exceptional keepalive)
-- WPBRANCH n dest dest
trapping_words space (trappings.Wpbranch n disabled enabled) =
    word space (spelling symbols.Wpbranch) ∷ number spaced n ∷ (dest_words spaced disabled ++ dest_words spaced enabled)

-- THREADLOCAL( value )
unfoldable pub threadlocal_words : List ℕ → Operand → List Piece
threadlocal_words space v = word space (spelling symbols.Threadlocal) ∷ mark tight marks.Open ∷ (value_words tight v ++ mark tight marks.Close ∷ [])

-- RET_WITH<T*> new exc? keep?
unfoldable pub ret_with_words : List ℕ → List Name → NewStackClause → Option ExceptionClause → Option (List Name) → List Piece
ret_with_words space types entered exception keepalive =
    word space (spelling symbols.RetWith) ∷ (type_list_words tight types ++ (new_stack_clause_words spaced entered ++ exc_keep_words exception keepalive))

unfoldable pub stack_switch_words : List ℕ → StackSwitch → List Piece
-- SWAPSTACK s RET_WITH<T*> new exc? keep?
stack_switch_words space (switches.SwapReturning stack types entered exception keepalive) =
    word space (spelling symbols.Swapstack) ∷ (value_words spaced stack ++ ret_with_words spaced types entered exception keepalive)
-- SWAPSTACK s KILL_OLD new
stack_switch_words space (switches.SwapKilling stack entered) =
    word space (spelling symbols.Swapstack) ∷ (value_words spaced stack ++ word spaced (spelling symbols.KillOld) ∷ new_stack_clause_words spaced entered)
-- NEWTHREAD s tl? new exc?
stack_switch_words space (switches.Newthread stack threadlocal entered exception) =
    word space (spelling symbols.Newthread) ∷ (value_words spaced stack ++ (optional_words threadlocal_words threadlocal ++ (new_stack_clause_words spaced entered ++ optional_words exc_words exception)))
