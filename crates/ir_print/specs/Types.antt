-- The words of types and constants.
use Rattle.std.specs.Prelude.{ℕ, List, [], ◌∷◌, ◌++◌}
use Rattle.std.specs.List.{flat_map}
use Rattle.text_forms.specs.declared.symbol.Symbol.TheVariants as symbols
use Rattle.ir_lex.specs.declared.token.Mark.TheVariants as marks
use Rattle.ir_lex.specs.declared.name.Name.{Name}
use Rattle.ir_lex.specs.Printed.{Piece}
use Rattle.ir_tree.specs.declared.definitions.TypeForm.{TypeForm}
use Rattle.ir_tree.specs.declared.definitions.TypeForm.TheVariants as types
use Rattle.ir_tree.specs.declared.definitions.Literal.{Literal}
use Rattle.ir_tree.specs.declared.definitions.Literal.TheVariants as literals
use Rattle.ir_print.specs.Spellings.{spelling}
use Rattle.ir_print.specs.Words.{tight, spaced, mark, word, global, number, global_words}
use Rattle.ir_print.specs.Lists.{bracketed_words, type_list_words}

-- what stands before the element of a hybrid with these fixed fields
abbrev pub gap_before_element : List Name → List ℕ
gap_before_element [] = tight
gap_before_element (f ∷ fs) = spaced

-- int<N> | struct<G G*> | array<G N> | hybrid<G* G> | void | ref<G> | iref<G> | funcref<G> | stackref | threadref
unfoldable pub type_form_words : List ℕ → TypeForm → List Piece
type_form_words space (types.Int width) = word space (spelling symbols.Int) ∷ mark tight marks.Less ∷ number tight width ∷ mark tight marks.Greater ∷ []
type_form_words space (types.Struct fields) = word space (spelling symbols.Struct) ∷ type_list_words tight fields
type_form_words space (types.Array element length) = word space (spelling symbols.Array) ∷ mark tight marks.Less ∷ global tight element ∷ number spaced length ∷ mark tight marks.Greater ∷ []
type_form_words space (types.Hybrid fixed element) = word space (spelling symbols.Hybrid) ∷ type_list_words tight (fixed ++ element ∷ [])
type_form_words space types.Void = word space (spelling symbols.Void) ∷ []
type_form_words space (types.Ref of_type) = word space (spelling symbols.Ref) ∷ bracketed_words tight of_type
type_form_words space (types.Iref of_type) = word space (spelling symbols.Iref) ∷ bracketed_words tight of_type
type_form_words space (types.Funcref signature) = word space (spelling symbols.Funcref) ∷ bracketed_words tight signature
type_form_words space types.Stackref = word space (spelling symbols.Stackref) ∷ []
type_form_words space types.Threadref = word space (spelling symbols.Threadref) ∷ []

-- N | NULL | { G* }
unfoldable pub literal_words : List ℕ → Literal → List Piece
literal_words space (literals.Number n) = number space n ∷ []
literal_words space (literals.Null place) = word space (spelling symbols.Null) ∷ []
literal_words space (literals.Members place constants) = mark space marks.OpenBrace ∷ (flat_map (global_words spaced) constants ++ mark spaced marks.CloseBrace ∷ [])
