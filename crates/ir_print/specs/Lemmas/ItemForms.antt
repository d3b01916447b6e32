-- The words of items.
use Rattle.std.proofs.Common.{true, false, List, [], ◌∷◌, refl, sym, ap, append_assoc}
use Rattle.std.specs.Prelude.{codes}
use Rattle.text_forms.specs.declared.symbol.Symbol.TheVariants as symbols
use Rattle.ir_lex.specs.declared.token.Mark.TheVariants as marks
use Rattle.ir_lex.specs.Printed.{Piece}
use Rattle.ir_lex.specs.WordTable.{words, directives}
use Rattle.ir_tree.specs.Items.{typedef, funcsig, constant, global_cell, funcdecl, funcdef, item}
use Rattle.ir_print.specs.Spellings.{spelling}
use Rattle.ir_print.specs.Words.{spaced, mark as mark_piece, directive as directive_piece, global as global_piece}
use Rattle.ir_print.specs.Lists.{bracketed_words, global_list_words}
use Rattle.ir_print.specs.Types.{literal_words}
use Rattle.ir_print.specs.Items.{typedef_words, funcsig_words, constant_words, global_cell_words, funcdecl_words, funcdef_words, item_words}
use Rattle.ir_print.specs.Placeless.{bare_typedef, bare_funcsig, bare_constant, bare_global_cell, bare_funcdecl, bare_funcdef, bare_item}
use Rattle.ir_print.specs.Lemmas.Prints.{Prints, both_prints, made_prints, on_prints, before_prints, left_out_prints}
use Rattle.ir_print.specs.Lemmas.Tokens.{global_prints, local_prints, mark_at, word_at, directive_at}
use Rattle.ir_print.specs.Lemmas.ListForms.{bracketed_prints, global_list_prints}
use Rattle.ir_print.specs.Lemmas.TypeForms.{type_form_prints, literal_prints}
use Rattle.ir_print.specs.Lemmas.InstructionForms.{equals_prints}
use Rattle.ir_print.specs.Lemmas.LineForms.{body_prints}

typedef_prints : Prints false false typedef bare_typedef bare_typedef typedef_words
unfolding typedef typedef_words words directives spelling
typedef_prints = made_prints
    (both_prints spaced refl refl (directive_at symbols.DotTypedef (codes "typedef") refl) (both_prints spaced refl refl (before_prints spaced refl refl global_prints equals_prints) type_form_prints))
    (λ _. refl) (λ _ _. refl)

funcsig_prints : Prints false true funcsig bare_funcsig bare_funcsig funcsig_words
unfolding funcsig funcsig_words words directives spelling
funcsig_prints = made_prints
    (both_prints spaced refl refl (directive_at symbols.DotFuncsig (codes "funcsig") refl)
    (both_prints spaced refl refl (before_prints spaced refl refl global_prints equals_prints)
    (both_prints spaced refl refl (before_prints spaced refl refl global_list_prints (mark_at symbols.Arrow marks.Arrow refl refl)) global_list_prints)))
    (λ _. refl)
    (λ s x. ap (λ (l : List Piece). directive_piece s (codes ".funcsig") ∷ global_piece spaced x.1.0 ∷ mark_piece spaced marks.Equals ∷ l)
    (sym (append_assoc (global_list_words spaced x.1.1.0) (mark_piece spaced marks.Arrow ∷ []) (global_list_words spaced x.1.1.1))))

constant_prints : Prints false false constant bare_constant bare_constant constant_words
unfolding constant constant_words words directives spelling
constant_prints = made_prints
    (both_prints spaced refl refl (directive_at symbols.DotConst (codes "const") refl)
    (both_prints spaced refl refl global_prints (both_prints spaced refl refl (before_prints spaced refl refl bracketed_prints equals_prints) literal_prints)))
    (λ _. refl)
    (λ s x. ap (λ (l : List Piece). directive_piece s (codes ".const") ∷ global_piece spaced x.1.0 ∷ l)
    (sym (append_assoc (bracketed_words spaced x.1.1.0) (mark_piece spaced marks.Equals ∷ []) (literal_words spaced x.1.1.1))))

global_cell_prints : Prints false true global_cell bare_global_cell bare_global_cell global_cell_words
unfolding global_cell global_cell_words words directives spelling
global_cell_prints = made_prints
    (both_prints spaced refl refl (directive_at symbols.DotGlobal (codes "global") refl) (both_prints spaced refl refl global_prints bracketed_prints))
    (λ _. refl) (λ _ _. refl)

funcdecl_prints : Prints false true funcdecl bare_funcdecl bare_funcdecl funcdecl_words
unfolding funcdecl funcdecl_words words directives spelling
funcdecl_prints = made_prints
    (both_prints spaced refl refl (directive_at symbols.DotFuncdecl (codes "funcdecl") refl) (both_prints spaced refl refl global_prints bracketed_prints))
    (λ _. refl) (λ _ _. refl)

funcdef_prints : Prints false true funcdef bare_funcdef bare_funcdef funcdef_words
unfolding funcdef funcdef_words directives words spelling
funcdef_prints = made_prints
    (both_prints spaced refl refl (directive_at symbols.DotFuncdef (codes "funcdef") refl)
    (both_prints spaced refl refl (before_prints spaced refl refl global_prints (word_at symbols.Version (codes "VERSION") refl))
    (both_prints spaced refl refl local_prints (both_prints spaced refl refl bracketed_prints body_prints))))
    (λ _. refl) (λ _ _. refl)

pub item_prints : Prints false false item bare_item bare_item item_words
unfolding item item_words
item_prints =
    on_prints (made_prints typedef_prints (λ _. refl) (λ _ _. refl))
    (on_prints (made_prints funcsig_prints (λ _. refl) (λ _ _. refl))
    (on_prints (made_prints constant_prints (λ _. refl) (λ _ _. refl))
    (on_prints (made_prints global_cell_prints (λ _. refl) (λ _ _. refl))
    (on_prints (made_prints funcdecl_prints (λ _. refl) (λ _ _. refl))
    (on_prints (made_prints funcdef_prints (λ _. refl) (λ _ _. refl))
    left_out_prints)))))
