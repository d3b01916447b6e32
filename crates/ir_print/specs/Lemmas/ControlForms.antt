-- The words of instructions that say where the function goes on, or that enter or leave one.
use Rattle.std.proofs.Common.{◌≡◌, ℕ, true, false, List, [], ◌∷◌, ◌++◌, refl, sym, ap, ◌∙◌, append_assoc}
use Rattle.std.specs.Prelude.{codes}
use Rattle.std.proofs.lemmas.Bool.{leb-true}
use Rattle.text_forms.specs.declared.symbol.Symbol.TheVariants as symbols
use Rattle.text_forms.specs.Tokens.{Tok}
use Rattle.text_forms.specs.Forms.{made}
use Rattle.ir_lex.specs.declared.token.TokenKind.TheVariants as kinds
use Rattle.ir_lex.specs.declared.token.Mark.TheVariants as marks
use Rattle.ir_lex.specs.Spellings.{mark as mark_spells}
use Rattle.ir_lex.specs.Printed.{Piece}
use Rattle.ir_lex.specs.WordTable.{words}
use Rattle.ir_lex.specs.TokenForms.{mark}
use Rattle.ir_tree.specs.declared.operands.Operand.{Operand}
use Rattle.ir_tree.specs.declared.operands.Operand.TheVariants as operands
use Rattle.ir_tree.specs.declared.flow.ControlFlow.{ControlFlow}
use Rattle.ir_tree.specs.Lists.{value, values}
use Rattle.ir_tree.specs.Control.{branch, branch2, switch_case, switch, call, tailcall, place_of, alone, ret, throw, control}
use Rattle.ir_print.specs.Spellings.{spelling}
use Rattle.ir_print.specs.Words.{spaced, mark as mark_piece, word as word_piece}
use Rattle.ir_print.specs.Lists.{bracketed_words, value_words, dest_words, exc_keep_words}
use Rattle.ir_print.specs.Control.{switch_case_words, case_list_words, control_words}
use Rattle.ir_print.specs.Placeless.{bare_value, bare_values, bare_case, bare_control}
use Rattle.ir_print.specs.Lemmas.Prints.{IsGood, AllGood, Prints, both_prints, made_prints, on_prints, before_prints, optional_prints}
use Rattle.ir_print.specs.Lemmas.Choices.{Turns, Unplaces, first_alone}
use Rattle.ir_print.specs.Lemmas.Members.{listed_from, spaced_is, up_to_prints}
use Rattle.ir_print.specs.Lemmas.Tokens.{global_prints, mark_at, word_at, close_is}
use Rattle.ir_print.specs.Lemmas.ListForms.{bracketed_prints, value_prints, values_prints, dest_prints, exc_prints, keep_prints}

abbrev bare : ℕ × ControlFlow → ℕ × ControlFlow
bare x = (0, bare_control x.1)

branch_prints : Prints false true branch bare bare (λ s x. control_words s x.1)
unfolding branch control_words words spelling
branch_prints = made_prints (both_prints spaced refl refl (word_at symbols.Branch (codes "BRANCH") refl) dest_prints) (λ _. refl) (λ _ _. refl)

branch2_prints : Prints false true branch2 bare bare (λ s x. control_words s x.1)
unfolding branch2 control_words words spelling
branch2_prints = made_prints
    (both_prints spaced refl refl (word_at symbols.Branch2 (codes "BRANCH2") refl) (both_prints spaced refl refl value_prints (both_prints spaced refl refl dest_prints dest_prints)))
    (λ _. refl) (λ _ _. refl)

switch_case_prints : Prints false true switch_case bare_case bare_case switch_case_words
unfolding switch_case switch_case_words
switch_case_prints = made_prints (both_prints spaced refl refl global_prints dest_prints) (λ _. refl) (λ _ _. refl)

switch_prints : Prints false true switch bare bare (λ s x. control_words s x.1)
unfolding switch control_words words spelling case_list_words
switch_prints = made_prints
    (both_prints spaced refl refl (word_at symbols.Switch (codes "SWITCH") refl)
    (both_prints spaced refl refl bracketed_prints
    (both_prints spaced refl refl value_prints
    (both_prints spaced refl refl (before_prints spaced refl refl dest_prints (mark_at symbols.BraceOpen marks.OpenBrace refl refl))
    (up_to_prints 1024 (mark_piece spaced marks.CloseBrace) (close_is symbols.BraceClose marks.CloseBrace spaced refl refl refl refl) switch_case_prints)))))
    (λ _. refl)
    (λ s x. ap (λ (l : List Piece). word_piece s (codes "SWITCH") ∷ (bracketed_words spaced x.1.0 ++ (value_words spaced x.1.1.0 ++ l)))
    (ap (λ (l : List Piece). dest_words spaced x.1.1.1.0 ++ mark_piece spaced marks.OpenBrace ∷ (l ++ mark_piece spaced marks.CloseBrace ∷ [])) (spaced_is switch_case_words x.1.1.1.1)
    ∙ sym (append_assoc (dest_words spaced x.1.1.1.0) (mark_piece spaced marks.OpenBrace ∷ []) (listed_from switch_case_words spaced x.1.1.1.1 ++ mark_piece spaced marks.CloseBrace ∷ []))))

call_prints : Prints false false call bare bare (λ s x. control_words s x.1)
unfolding call control_words words spelling exc_keep_words
call_prints = made_prints
    (both_prints spaced refl refl (word_at symbols.Call (codes "CALL") refl)
    (both_prints spaced refl refl bracketed_prints
    (both_prints spaced refl refl value_prints
    (both_prints spaced refl refl values_prints
    (both_prints spaced refl refl (optional_prints exc_prints) (optional_prints keep_prints))))))
    (λ _. refl) (λ _ _. refl)

tailcall_prints : Prints false true tailcall bare bare (λ s x. control_words s x.1)
unfolding tailcall control_words words spelling
tailcall_prints = made_prints
    (both_prints spaced refl refl (word_at symbols.Tailcall (codes "TAILCALL") refl) (both_prints spaced refl refl bracketed_prints (both_prints spaced refl refl value_prints values_prints)))
    (λ _. refl) (λ _ _. refl)

-- ---- one value alone behind RET is a list of one

abbrev pub bracket : ℕ → Tok
bracket place = record { symbol = symbols.Open; place = place; spelling = codes "(" }

abbrev pub closing : Tok
closing = record { symbol = symbols.Close; place = 0; spelling = codes ")" }

pub bracket_good : (place : ℕ) → IsGood (bracket place)
bracket_good place = record { kind = kinds.Mark marks.Open; spells = mark_spells marks.Open; is_token = record { short = leb-true 1 65536 refl; number = λ e. absurd (cc) }; symbol = refl }

pub closing_good : IsGood closing
closing_good = record { kind = kinds.Mark marks.Close; spells = mark_spells marks.Close; is_token = record { short = leb-true 1 65536 refl; number = λ e. absurd (cc) }; symbol = refl }

pub append_good : (u v : List Tok) → AllGood u → AllGood v → AllGood (u ++ v)
append_good [] v gu gv = gv
append_good (t ∷ u) v (g, gu) gv = (g, append_good u v gu gv)

alone_turns : Turns (made alone value) values
unfolding values mark
alone_turns ts a good (v, d, q) = record {
  tokens = bracket (place_of v) ∷ (ts ++ closing ∷ []);
  good = (bracket_good (place_of v), append_good ts (closing ∷ []) good (closing_good, tt));
  derived = ((place_of v, v ∷ []), (bracket (place_of v) ∷ [], ts ++ closing ∷ [], refl, (bracket (place_of v), (refl, refl), refl), ((v ∷ [], closing), (ts, closing ∷ [], refl, d, (refl, refl)), refl)), q);
}

bare_alone : (v : Operand) → bare_values (alone v) ≡ alone (bare_value v)
bare_alone (operands.Local n) = refl
bare_alone (operands.Global n) = refl

alone_unplaces : Unplaces (made alone value) bare_values
alone_unplaces ts b (v, d, q) =
    let (a, da, ea) = value_prints.placed ts v d in
    (alone a, (a, da, refl), bare_alone a ∙ ap alone ea ∙ sym q)

ret_prints : Prints false false ret bare bare (λ s x. control_words s x.1)
unfolding ret control_words words spelling
ret_prints = made_prints (both_prints spaced refl refl (word_at symbols.Ret (codes "RET") refl) (first_alone alone_turns alone_unplaces values_prints)) (λ _. refl) (λ _ _. refl)

throw_prints : Prints false false throw bare bare (λ s x. control_words s x.1)
unfolding throw control_words words spelling
throw_prints = made_prints (both_prints spaced refl refl (word_at symbols.Throw (codes "THROW") refl) value_prints) (λ _. refl) (λ _ _. refl)

pub control_prints : Prints false false control (λ x. (0, bare_control x.1)) (λ x. (0, bare_control x.1)) (λ s x. control_words s x.1)
unfolding control
control_prints = on_prints branch_prints (on_prints branch2_prints (on_prints switch_prints (on_prints call_prints (on_prints tailcall_prints (on_prints ret_prints throw_prints)))))
