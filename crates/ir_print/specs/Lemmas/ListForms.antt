-- The words of names in brackets, of operands and of the lists that instructions and items are made of.
use Rattle.std.proofs.Common.{true, false, List, [], ◌∷◌, ◌++◌, map, refl, sym, ap, subst, ◌∙◌, append_assoc}
use Rattle.std.specs.Prelude.{codes}
use Rattle.text_forms.specs.declared.symbol.Symbol.TheVariants as symbols
use Rattle.text_forms.specs.Derives.{Derives}
use Rattle.text_forms.specs.Forms.{◌▸◌, ◌◂◌}
use Rattle.ir_lex.specs.declared.token.Mark.TheVariants as marks
use Rattle.ir_lex.specs.Printed.{Piece}
use Rattle.ir_lex.specs.WordTable.{words}
use Rattle.ir_lex.specs.TokenForms.{mark}
use Rattle.ir_tree.specs.declared.operands.Operand.{Operand}
use Rattle.ir_tree.specs.Lists.{bracketed, bracketed_pair, global_list, local_list, type_list, value, values, dest, exc, keep, pass_values, throw_exc, new_stack_clause}
use Rattle.ir_tree.specs.Computations.{bracketed_field}
use Rattle.ir_print.specs.Spellings.{spelling}
use Rattle.ir_print.specs.Words.{tight, spaced, mark as mark_piece, word as word_piece, global_words, local_words}
use Rattle.ir_print.specs.Lists.{bracketed_words, bracketed_pair_words, bracketed_field_words, global_list_words, local_list_words, type_list_words, value_words, values_words, dest_words, exc_words, keep_words, new_stack_clause_words}
use Rattle.ir_print.specs.Placeless.{bare_name, bare_number, bare_value, bare_values, bare_dest, bare_exc, bare_new_stack_clause}
use Rattle.ir_print.specs.Lemmas.Prints.{good_split, Prints, both_prints, made_prints, on_prints, after_prints, before_prints, worded_prints}
use Rattle.ir_print.specs.Lemmas.Choices.{Turns, second_alone}
use Rattle.ir_print.specs.Lemmas.Members.{listed_is, up_to_prints}
use Rattle.ir_print.specs.Lemmas.Tokens.{global_prints, local_prints, numeral_prints, mark_at, word_at, close_is}

pub open_prints : Prints true true (mark symbols.Open) (λ _. 0) (λ _. 0) (λ space _. mark_piece space marks.Open ∷ [])
open_prints = mark_at symbols.Open marks.Open refl refl

pub close_prints : Prints true true (mark symbols.Close) (λ _. 0) (λ _. 0) (λ space _. mark_piece space marks.Close ∷ [])
close_prints = mark_at symbols.Close marks.Close refl refl

pub less_prints : Prints true true (mark symbols.Less) (λ _. 0) (λ _. 0) (λ space _. mark_piece space marks.Less ∷ [])
less_prints = mark_at symbols.Less marks.Less refl refl

pub greater_prints : Prints true true (mark symbols.Greater) (λ _. 0) (λ _. 0) (λ space _. mark_piece space marks.Greater ∷ [])
greater_prints = mark_at symbols.Greater marks.Greater refl refl

pub bracketed_prints : Prints true true bracketed bare_name bare_name bracketed_words
unfolding bracketed bracketed_words
bracketed_prints = after_prints tight refl refl less_prints (before_prints tight refl refl global_prints greater_prints)

pub bracketed_pair_prints : Prints true true bracketed_pair (λ x. (bare_name x.0, bare_name x.1)) (λ x. (bare_name x.0, bare_name x.1)) (λ space x. bracketed_pair_words space x.0 x.1)
unfolding bracketed_pair bracketed_pair_words
bracketed_pair_prints = after_prints tight refl refl less_prints (before_prints tight refl refl (both_prints spaced refl refl global_prints global_prints) greater_prints)

pub bracketed_field_prints : Prints true true bracketed_field (λ x. (bare_name x.0, bare_number x.1)) (λ x. (bare_name x.0, bare_number x.1)) (λ space x. bracketed_field_words space x.0 x.1)
unfolding bracketed_field bracketed_field_words
bracketed_field_prints = after_prints tight refl refl less_prints (before_prints tight refl refl (both_prints spaced refl refl global_prints numeral_prints) greater_prints)

pub global_list_prints : Prints true true global_list (map bare_name) (map bare_name) global_list_words
unfolding global_list global_list_words
global_list_prints = worded_prints _ (λ s xs. ap (λ (l : List Piece). mark_piece s marks.Open ∷ (l ++ mark_piece tight marks.Close ∷ [])) (listed_is global_words xs))
    (after_prints tight refl refl open_prints (up_to_prints 256 (mark_piece tight marks.Close) (close_is symbols.Close marks.Close tight refl refl refl refl) global_prints))

pub local_list_prints : Prints true true local_list (map bare_name) (map bare_name) local_list_words
unfolding local_list local_list_words
local_list_prints = worded_prints _ (λ s xs. ap (λ (l : List Piece). mark_piece s marks.Open ∷ (l ++ mark_piece tight marks.Close ∷ [])) (listed_is local_words xs))
    (after_prints tight refl refl open_prints (up_to_prints 256 (mark_piece tight marks.Close) (close_is symbols.Close marks.Close tight refl refl refl refl) local_prints))

pub type_list_prints : Prints true true type_list (map bare_name) (map bare_name) type_list_words
unfolding type_list type_list_words
type_list_prints = worded_prints _ (λ s xs. ap (λ (l : List Piece). mark_piece s marks.Less ∷ (l ++ mark_piece tight marks.Greater ∷ [])) (listed_is global_words xs))
    (after_prints tight refl refl less_prints (up_to_prints 256 (mark_piece tight marks.Greater) (close_is symbols.Greater marks.Greater tight refl refl refl refl) global_prints))

pub value_prints : Prints false false value bare_value bare_value value_words
unfolding value value_words
value_prints = on_prints (made_prints local_prints (λ _. refl) (λ _ _. refl)) (made_prints global_prints (λ _. refl) (λ _ _. refl))

pub values_prints : Prints true true values bare_values bare_values values_words
unfolding values values_words
values_prints = made_prints
    (both_prints tight refl refl open_prints (up_to_prints 256 (mark_piece tight marks.Close) (close_is symbols.Close marks.Close tight refl refl refl refl) value_prints))
    (λ _. refl) (λ s x. ap (λ (l : List Piece). mark_piece s marks.Open ∷ (l ++ mark_piece tight marks.Close ∷ [])) (listed_is value_words x.1))

pub dest_prints : Prints false true dest bare_dest bare_dest dest_words
unfolding dest dest_words
dest_prints = made_prints (both_prints tight refl refl local_prints values_prints) (λ _. refl) (λ _ _. refl)

pub exc_prints : Prints false true exc bare_exc bare_exc exc_words
unfolding exc exc_words words spelling
exc_prints = made_prints
    (after_prints tight refl refl (word_at symbols.Exc (codes "EXC") refl) (after_prints tight refl refl open_prints (before_prints tight refl refl (both_prints spaced refl refl dest_prints dest_prints) close_prints)))
    (λ _. refl) (λ s x. ap (λ (l : List Piece). word_piece s (codes "EXC") ∷ mark_piece tight marks.Open ∷ l) (sym (append_assoc (dest_words tight x.0) (dest_words spaced x.1) (mark_piece tight marks.Close ∷ []))))

pub keep_prints : Prints false true keep (map bare_name) (map bare_name) keep_words
unfolding keep keep_words words spelling
keep_prints = after_prints tight refl refl (word_at symbols.Keepalive (codes "KEEPALIVE") refl) local_list_prints

pass_values_prints : Prints false true pass_values bare_new_stack_clause bare_new_stack_clause new_stack_clause_words
unfolding pass_values new_stack_clause_words words spelling
pass_values_prints = made_prints (after_prints tight refl refl (word_at symbols.PassValues (codes "PASS_VALUES") refl) (both_prints spaced refl refl type_list_prints values_prints)) (λ _. refl) (λ _ _. refl)

-- ---- what a stack is entered with

-- behind THROW_EXC a value may stand in brackets, and is printed without them
enclosed_turns : Turns (mark symbols.Open ▸ value ◂ mark symbols.Close) value
enclosed_turns ts a good (x, (u, v, q, d, (y, (w, z, q2, d2, d3), e2)), e) =
    let (gu, gv) = good_split ts u v q good in
    let (gw, gz) = good_split v w z q2 gv in
    record { tokens = w; good = gw; derived = subst (λ (o : Operand). Derives value w o) (sym (e ∙ e2)) d2 }

-- ( value )
enclosed_prints : Prints true true (mark symbols.Open ▸ value ◂ mark symbols.Close) bare_value bare_value (λ space v. mark_piece space marks.Open ∷ (value_words tight v ++ mark_piece tight marks.Close ∷ []))
enclosed_prints = after_prints tight refl refl open_prints (before_prints tight refl refl value_prints close_prints)

throw_exc_prints : Prints false false throw_exc bare_new_stack_clause bare_new_stack_clause new_stack_clause_words
unfolding throw_exc new_stack_clause_words words spelling
throw_exc_prints = made_prints (after_prints spaced refl refl (word_at symbols.ThrowExc (codes "THROW_EXC") refl) (second_alone enclosed_turns enclosed_prints.placed value_prints)) (λ _. refl) (λ _ _. refl)

pub new_stack_clause_prints : Prints false false new_stack_clause bare_new_stack_clause bare_new_stack_clause new_stack_clause_words
unfolding new_stack_clause
new_stack_clause_prints = on_prints pass_values_prints throw_exc_prints
