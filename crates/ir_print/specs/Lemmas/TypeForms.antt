-- The words of types and constants.
use Rattle.std.proofs.Common.{◌≡◌, ℕ, true, false, List, [], ◌∷◌, ◌++◌, map, refl, ap, ◌∙◌}
use Rattle.std.specs.Prelude.{codes}
use Rattle.text_forms.specs.declared.symbol.Symbol.TheVariants as symbols
use Rattle.text_forms.specs.Forms.{made}
use Rattle.ir_lex.specs.declared.token.Mark.TheVariants as marks
use Rattle.ir_lex.specs.declared.name.Name.{Name}
use Rattle.ir_lex.specs.Printed.{Piece}
use Rattle.ir_lex.specs.WordTable.{words}
use Rattle.ir_lex.specs.TokenForms.{mark}
use Rattle.ir_tree.specs.declared.definitions.TypeForm.TheVariants as types
use Rattle.ir_tree.specs.Types.{int_type, some_types, struct_type, array_type, all_but_last, last_of, hybrid_type, type_form, literal}
use Rattle.ir_print.specs.Spellings.{spelling}
use Rattle.ir_print.specs.Words.{tight, spaced, mark as mark_piece, word as word_piece, global as global_piece, global_words, listed}
use Rattle.ir_print.specs.Lists.{type_list_words}
use Rattle.ir_print.specs.Types.{type_form_words, literal_words}
use Rattle.ir_print.specs.Placeless.{bare_name, bare_type_form, bare_literal}
use Rattle.ir_print.specs.Lemmas.Prints.{Prints, both_prints, made_prints, on_prints, after_prints, before_prints, left_out_prints}
use Rattle.ir_print.specs.Lemmas.Members.{listed_from, spaced_is, up_to_prints}
use Rattle.ir_print.specs.Lemmas.Tokens.{global_prints, numeral_prints, mark_at, word_at, close_is}
use Rattle.ir_print.specs.Lemmas.ListForms.{less_prints, greater_prints, bracketed_prints}

int_type_prints : Prints false true int_type bare_type_form bare_type_form type_form_words
unfolding int_type type_form_words words spelling
int_type_prints = made_prints (after_prints tight refl refl (word_at symbols.Int (codes "int") refl) (after_prints tight refl refl less_prints (before_prints tight refl refl numeral_prints greater_prints))) (λ _. refl) (λ _ _. refl)

-- at least one name
some_words : List ℕ → Name × List Name → List Piece
some_words space x = mark_piece space marks.Less ∷ global_piece tight x.0 ∷ (listed_from global_words spaced x.1 ++ mark_piece tight marks.Greater ∷ [])

bare_some : Name × List Name → Name × List Name
bare_some x = (bare_name x.0, map bare_name x.1)

some_types_prints : Prints true true some_types bare_some bare_some some_words
unfolding some_types some_words bare_some
some_types_prints =
    after_prints tight refl refl less_prints
    (both_prints spaced refl refl global_prints (up_to_prints 256 (mark_piece tight marks.Greater) (close_is symbols.Greater marks.Greater tight refl refl refl refl) global_prints))

-- the words of a list that has a first name
first_words : (space : List ℕ) (g : Name) (hs : List Name) → type_list_words space (g ∷ hs) ≡ some_words space (g, hs)
unfolding type_list_words some_words listed
first_words space g hs = ap (λ (l : List Piece). mark_piece space marks.Less ∷ global_piece tight g ∷ (l ++ mark_piece tight marks.Greater ∷ [])) (spaced_is global_words hs)

struct_type_prints : Prints false true struct_type bare_type_form bare_type_form type_form_words
unfolding struct_type type_form_words words bare_some spelling some_words
struct_type_prints = made_prints (after_prints tight refl refl (word_at symbols.Struct (codes "struct") refl) some_types_prints) (λ _. refl) (λ s x. ap (λ (l : List Piece). word_piece s (codes "struct") ∷ l) (first_words tight x.0 x.1))

array_type_prints : Prints false true array_type bare_type_form bare_type_form type_form_words
unfolding array_type type_form_words words spelling
array_type_prints = made_prints
    (after_prints tight refl refl (word_at symbols.Array (codes "array") refl) (after_prints tight refl refl less_prints (before_prints tight refl refl (both_prints spaced refl refl global_prints numeral_prints) greater_prints)))
    (λ _. refl) (λ _ _. refl)

-- of a name and more names, all but the last and the last are all
all_again : (g : Name) (hs : List Name) → all_but_last g hs ++ last_of g hs ∷ [] ≡ g ∷ hs
all_again g [] = refl
all_again g (h ∷ hs) = ap (λ (l : List Name). g ∷ l) (all_again h hs)

bare_front : (g : Name) (hs : List Name) → map bare_name (all_but_last g hs) ≡ all_but_last (bare_name g) (map bare_name hs)
bare_front g [] = refl
bare_front g (h ∷ hs) = ap (λ (l : List Name). bare_name g ∷ l) (bare_front h hs)

bare_last : (g : Name) (hs : List Name) → bare_name (last_of g hs) ≡ last_of (bare_name g) (map bare_name hs)
bare_last g [] = refl
bare_last g (h ∷ hs) = bare_last h hs

hybrid_type_prints : Prints false true hybrid_type bare_type_form bare_type_form type_form_words
unfolding hybrid_type type_form_words words bare_some spelling some_words
hybrid_type_prints = made_prints
    (after_prints tight refl refl (word_at symbols.Hybrid (codes "hybrid") refl) some_types_prints)
    (λ x. ap (λ (l : List Name). types.Hybrid l (bare_name (last_of x.0 x.1))) (bare_front x.0 x.1) ∙ ap (types.Hybrid (all_but_last (bare_name x.0) (map bare_name x.1))) (bare_last x.0 x.1))
    (λ s x. ap (λ (l : List Piece). word_piece s (codes "hybrid") ∷ l) (ap (type_list_words tight) (all_again x.0 x.1) ∙ first_words tight x.0 x.1))

void_prints : Prints false false (made (λ _. types.Void) (mark symbols.Void)) bare_type_form bare_type_form type_form_words
unfolding type_form_words words spelling
void_prints = made_prints (word_at symbols.Void (codes "void") refl) (λ _. refl) (λ _ _. refl)

stackref_prints : Prints false false (made (λ _. types.Stackref) (mark symbols.Stackref)) bare_type_form bare_type_form type_form_words
unfolding type_form_words words spelling
stackref_prints = made_prints (word_at symbols.Stackref (codes "stackref") refl) (λ _. refl) (λ _ _. refl)

threadref_prints : Prints false false (made (λ _. types.Threadref) (mark symbols.Threadref)) bare_type_form bare_type_form type_form_words
unfolding type_form_words words spelling
threadref_prints = made_prints (word_at symbols.Threadref (codes "threadref") refl) (λ _. refl) (λ _ _. refl)

pub type_form_prints : Prints false false type_form bare_type_form bare_type_form type_form_words
unfolding type_form type_form_words words spelling
type_form_prints =
    on_prints int_type_prints
    (on_prints struct_type_prints
    (on_prints array_type_prints
    (on_prints hybrid_type_prints
    (on_prints void_prints
    (on_prints (made_prints (after_prints tight refl refl (word_at symbols.Ref (codes "ref") refl) bracketed_prints) (λ _. refl) (λ _ _. refl))
    (on_prints (made_prints (after_prints tight refl refl (word_at symbols.Iref (codes "iref") refl) bracketed_prints) (λ _. refl) (λ _ _. refl))
    (on_prints (made_prints (after_prints tight refl refl (word_at symbols.Funcref (codes "funcref") refl) bracketed_prints) (λ _. refl) (λ _ _. refl))
    (on_prints stackref_prints
    (on_prints threadref_prints
    left_out_prints)))))))))

pub literal_prints : Prints false false literal bare_literal bare_literal literal_words
unfolding literal literal_words words spelling
literal_prints =
    on_prints (made_prints numeral_prints (λ _. refl) (λ _ _. refl))
    (on_prints (made_prints (word_at symbols.Null (codes "NULL") refl) (λ _. refl) (λ _ _. refl))
    (made_prints
    (both_prints spaced refl refl (mark_at symbols.BraceOpen marks.OpenBrace refl refl) (up_to_prints 256 (mark_piece spaced marks.CloseBrace) (close_is symbols.BraceClose marks.CloseBrace spaced refl refl refl refl) global_prints))
    (λ _. refl)
    (λ s x. ap (λ (l : List Piece). mark_piece s marks.OpenBrace ∷ (l ++ mark_piece spaced marks.CloseBrace ∷ [])) (spaced_is global_words x.1))))
