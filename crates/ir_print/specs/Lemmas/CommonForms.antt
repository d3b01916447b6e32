-- The words of common instructions. Where the list of values is `()` it is no part of the form: it is a line of its own to the
-- reader of a body.
use Rattle.std.proofs.Common.{◌≡◌, ℕ, Bool, true, false, List, [], ◌∷◌, ◌++◌, refl, sym, ap, ◌∙◌, append_assoc}
use Rattle.std.specs.Prelude.{codes}
use Rattle.std.proofs.lemmas.List.{append-nil}
use Rattle.text_forms.specs.declared.symbol.Symbol.TheVariants as symbols
use Rattle.ir_lex.specs.declared.token.Mark.TheVariants as marks
use Rattle.ir_lex.specs.declared.token.TokenKind.TheVariants as kinds
use Rattle.ir_lex.specs.Printed.{Piece}
use Rattle.ir_lex.specs.WordTable.{words, directives, common_names}
use Rattle.ir_lex.specs.TokenForms.{mark}
use Rattle.ir_tree.specs.declared.common.CommonInst.{CommonInst}
use Rattle.ir_tree.specs.declared.common.CommonInst.TheVariants as commons
use Rattle.ir_tree.specs.CommonForms.{one_value, two_values, three_values, new_stack, kill_stack, thread_exit, current_stack, set_threadlocal, get_threadlocal, futex_wait, futex_wake, futex_wait_timeout, common_inst}
use Rattle.ir_tree.specs.Instructions.{common_leaves_out}
use Rattle.ir_print.specs.Spellings.{spelling}
use Rattle.ir_print.specs.Words.{tight, spaced, mark as mark_piece, global as global_piece}
use Rattle.ir_print.specs.Lists.{bracketed_words, value_words}
use Rattle.ir_print.specs.CommonForms.{no_values, one_value_words, two_values_words, three_values_words, common_inst_words}
use Rattle.ir_print.specs.Placeless.{bare_value, bare_common_inst}
use Rattle.ir_print.specs.Lemmas.Prints.{Prints, both_prints, made_prints, on_prints, after_prints, before_prints, worded_prints, left_out_prints}
use Rattle.ir_print.specs.Lemmas.Tokens.{global_prints, mark_at, common_at}
use Rattle.ir_print.specs.Lemmas.ListForms.{open_prints, close_prints, less_prints, greater_prints, bracketed_prints, value_prints}

abbrev common_at_space : List ℕ → List ℕ → Piece
common_at_space space spelling = record { space = space; kind = kinds.Global; spelling = spelling }

-- the words without a list of values that is ()
unfoldable pub core_words : List ℕ → CommonInst → List Piece
core_words space (commons.NewStack signature function) =
    common_at_space space (codes "@uvm.new_stack")
    ∷ mark_piece spaced marks.Less ∷ mark_piece tight marks.OpenBracket ∷ global_piece tight signature ∷ mark_piece tight marks.CloseBracket ∷ mark_piece tight marks.Greater ∷ one_value_words spaced function
core_words space (commons.KillStack stack) = common_at_space space (codes "@uvm.kill_stack") ∷ one_value_words spaced stack
core_words space commons.ThreadExit = common_at_space space (codes "@uvm.thread_exit") ∷ []
core_words space commons.CurrentStack = common_at_space space (codes "@uvm.current_stack") ∷ []
core_words space (commons.SetThreadlocal reference) = common_at_space space (codes "@uvm.set_threadlocal") ∷ one_value_words spaced reference
core_words space commons.GetThreadlocal = common_at_space space (codes "@uvm.get_threadlocal") ∷ []
core_words space (commons.FutexWait of_type location value) = common_at_space space (codes "@uvm.futex.wait") ∷ (bracketed_words spaced of_type ++ two_values_words spaced location value)
core_words space (commons.FutexWake of_type location count) = common_at_space space (codes "@uvm.futex.wake") ∷ (bracketed_words spaced of_type ++ two_values_words spaced location count)
core_words space (commons.FutexWaitTimeout of_type location value limit) = common_at_space space (codes "@uvm.futex.wait_timeout") ∷ (bracketed_words spaced of_type ++ three_values_words spaced location value limit)

-- the list of values that is left out
abbrev pub tail_of : Bool → List Piece
tail_of true = no_values
tail_of false = []

pub common_parts : (x : CommonInst) → common_inst_words x ≡ core_words spaced x ++ tail_of (common_leaves_out x)
unfolding common_inst_words core_words words directives common_names spelling
common_parts (commons.NewStack signature function) = sym (append-nil (common_inst_words (commons.NewStack signature function)))
common_parts (commons.KillStack stack) = sym (append-nil (common_inst_words (commons.KillStack stack)))
common_parts commons.ThreadExit = refl
common_parts commons.CurrentStack = refl
common_parts (commons.SetThreadlocal reference) = sym (append-nil (common_inst_words (commons.SetThreadlocal reference)))
common_parts commons.GetThreadlocal = refl
common_parts (commons.FutexWait of_type location value) = sym (append-nil (common_inst_words (commons.FutexWait of_type location value)))
common_parts (commons.FutexWake of_type location count) = sym (append-nil (common_inst_words (commons.FutexWake of_type location count)))
common_parts (commons.FutexWaitTimeout of_type location value limit) = sym (append-nil (common_inst_words (commons.FutexWaitTimeout of_type location value limit)))

pub square_open_prints : Prints true true (mark symbols.SquareOpen) (λ _. 0) (λ _. 0) (λ space _. mark_piece space marks.OpenBracket ∷ [])
square_open_prints = mark_at symbols.SquareOpen marks.OpenBracket refl refl

pub square_close_prints : Prints true true (mark symbols.SquareClose) (λ _. 0) (λ _. 0) (λ space _. mark_piece space marks.CloseBracket ∷ [])
square_close_prints = mark_at symbols.SquareClose marks.CloseBracket refl refl

one_value_prints : Prints true true one_value bare_value bare_value one_value_words
unfolding one_value one_value_words
one_value_prints = after_prints tight refl refl open_prints (before_prints tight refl refl value_prints close_prints)

three_in_brackets : (u v w : List Piece) → u ++ (v ++ (w ++ mark_piece tight marks.Close ∷ [])) ≡ (u ++ (v ++ w)) ++ mark_piece tight marks.Close ∷ []
three_in_brackets u v w =
    ap (λ (l : List Piece). u ++ l) (sym (append_assoc v w (mark_piece tight marks.Close ∷ []))) ∙ sym (append_assoc u (v ++ w) (mark_piece tight marks.Close ∷ []))

two_values_prints : Prints true true two_values (λ x. (bare_value x.0, bare_value x.1)) (λ x. (bare_value x.0, bare_value x.1)) (λ space x. two_values_words space x.0 x.1)
unfolding two_values two_values_words
two_values_prints = worded_prints _
    (λ s x. ap (λ (l : List Piece). mark_piece s marks.Open ∷ l) (sym (append_assoc (value_words tight x.0) (value_words spaced x.1) (mark_piece tight marks.Close ∷ []))))
    (after_prints tight refl refl open_prints (before_prints tight refl refl (both_prints spaced refl refl value_prints value_prints) close_prints))

three_values_prints : Prints true true three_values (λ x. (bare_value x.0, bare_value x.1, bare_value x.2)) (λ x. (bare_value x.0, bare_value x.1, bare_value x.2)) (λ space x. three_values_words space x.0 x.1 x.2)
unfolding three_values three_values_words
three_values_prints = made_prints
    (after_prints tight refl refl open_prints (before_prints tight refl refl (both_prints spaced refl refl value_prints (both_prints spaced refl refl value_prints value_prints)) close_prints))
    (λ _. refl)
    (λ s x. ap (λ (l : List Piece). mark_piece s marks.Open ∷ l) (three_in_brackets (value_words tight x.0) (value_words spaced x.1.0) (value_words spaced x.1.1)))

new_stack_prints : Prints false true new_stack bare_common_inst bare_common_inst core_words
unfolding new_stack core_words words directives common_names spelling
new_stack_prints = made_prints
    (after_prints spaced refl refl (common_at symbols.UvmNewStack (codes "uvm.new_stack") refl)
    (both_prints spaced refl refl
    (after_prints tight refl refl less_prints (after_prints tight refl refl square_open_prints (before_prints tight refl refl (before_prints tight refl refl global_prints square_close_prints) greater_prints)))
    one_value_prints))
    (λ _. refl) (λ _ _. refl)

kill_stack_prints : Prints false true kill_stack bare_common_inst bare_common_inst core_words
unfolding kill_stack core_words words directives common_names spelling
kill_stack_prints = made_prints (after_prints spaced refl refl (common_at symbols.UvmKillStack (codes "uvm.kill_stack") refl) one_value_prints) (λ _. refl) (λ _ _. refl)

thread_exit_prints : Prints false false thread_exit bare_common_inst bare_common_inst core_words
unfolding thread_exit core_words words directives common_names spelling
thread_exit_prints = made_prints (common_at symbols.UvmThreadExit (codes "uvm.thread_exit") refl) (λ _. refl) (λ _ _. refl)

current_stack_prints : Prints false false current_stack bare_common_inst bare_common_inst core_words
unfolding current_stack core_words words directives common_names spelling
current_stack_prints = made_prints (common_at symbols.UvmCurrentStack (codes "uvm.current_stack") refl) (λ _. refl) (λ _ _. refl)

set_threadlocal_prints : Prints false true set_threadlocal bare_common_inst bare_common_inst core_words
unfolding set_threadlocal core_words words directives common_names spelling
set_threadlocal_prints = made_prints (after_prints spaced refl refl (common_at symbols.UvmSetThreadlocal (codes "uvm.set_threadlocal") refl) one_value_prints) (λ _. refl) (λ _ _. refl)

get_threadlocal_prints : Prints false false get_threadlocal bare_common_inst bare_common_inst core_words
unfolding get_threadlocal core_words words directives common_names spelling
get_threadlocal_prints = made_prints (common_at symbols.UvmGetThreadlocal (codes "uvm.get_threadlocal") refl) (λ _. refl) (λ _ _. refl)

futex_wait_prints : Prints false true futex_wait bare_common_inst bare_common_inst core_words
unfolding futex_wait core_words words directives common_names spelling
futex_wait_prints = made_prints (after_prints spaced refl refl (common_at symbols.UvmFutexWait (codes "uvm.futex.wait") refl) (both_prints spaced refl refl bracketed_prints two_values_prints)) (λ _. refl) (λ _ _. refl)

futex_wake_prints : Prints false true futex_wake bare_common_inst bare_common_inst core_words
unfolding futex_wake core_words words directives common_names spelling
futex_wake_prints = made_prints (after_prints spaced refl refl (common_at symbols.UvmFutexWake (codes "uvm.futex.wake") refl) (both_prints spaced refl refl bracketed_prints two_values_prints)) (λ _. refl) (λ _ _. refl)

futex_wait_timeout_prints : Prints false true futex_wait_timeout bare_common_inst bare_common_inst core_words
unfolding futex_wait_timeout core_words words directives common_names spelling
futex_wait_timeout_prints = made_prints (after_prints spaced refl refl (common_at symbols.UvmFutexWaitTimeout (codes "uvm.futex.wait_timeout") refl) (both_prints spaced refl refl bracketed_prints three_values_prints)) (λ _. refl) (λ _ _. refl)

pub common_inst_prints : Prints false false common_inst bare_common_inst bare_common_inst core_words
unfolding common_inst
common_inst_prints =
    on_prints new_stack_prints
    (on_prints kill_stack_prints
    (on_prints thread_exit_prints
    (on_prints current_stack_prints
    (on_prints set_threadlocal_prints
    (on_prints get_threadlocal_prints
    (on_prints futex_wait_prints
    (on_prints futex_wake_prints
    (on_prints futex_wait_timeout_prints
    left_out_prints))))))))
