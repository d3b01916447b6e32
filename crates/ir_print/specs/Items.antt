-- The canonical text of a bundle.
use Rattle.std.specs.Prelude.{ℕ, List, [], ◌∷◌, ◌++◌, codes}
use Rattle.std.specs.List.{flat_map}
use Rattle.text_forms.specs.declared.symbol.Symbol.TheVariants as symbols
use Rattle.ir_lex.specs.declared.token.Mark.TheVariants as marks
use Rattle.ir_lex.specs.Printed.{Piece}
use Rattle.ir_tree.specs.declared.definitions.Typedef.{Typedef}
use Rattle.ir_tree.specs.declared.definitions.Funcsig.{Funcsig}
use Rattle.ir_tree.specs.declared.definitions.Const.{Const}
use Rattle.ir_tree.specs.declared.definitions.GlobalCell.{GlobalCell}
use Rattle.ir_tree.specs.declared.definitions.Funcdecl.{Funcdecl}
use Rattle.ir_tree.specs.declared.items.Funcdef.{Funcdef}
use Rattle.ir_tree.specs.declared.items.Item.{Item}
use Rattle.ir_tree.specs.declared.items.Item.TheVariants as items
use Rattle.ir_print.specs.Spellings.{spelling}
use Rattle.ir_print.specs.Words.{text, spaced, mark, word, directive, global, local}
use Rattle.ir_print.specs.Lists.{bracketed_words, global_list_words}
use Rattle.ir_print.specs.Types.{type_form_words, literal_words}
use Rattle.ir_print.specs.Bodies.{body_words}

-- .typedef G = type
unfoldable pub typedef_words : List ℕ → Typedef → List Piece
typedef_words space x = directive space (spelling symbols.DotTypedef) ∷ global spaced x.name ∷ mark spaced marks.Equals ∷ type_form_words spaced x.form

-- .funcsig G = ( G* ) -> ( G* )
unfoldable pub funcsig_words : List ℕ → Funcsig → List Piece
funcsig_words space x =
    directive space (spelling symbols.DotFuncsig) ∷ global spaced x.name ∷ mark spaced marks.Equals ∷ (global_list_words spaced x.takes ++ mark spaced marks.Arrow ∷ global_list_words spaced x.gives)

-- .const G <G> = literal
unfoldable pub constant_words : List ℕ → Const → List Piece
constant_words space x = directive space (spelling symbols.DotConst) ∷ global spaced x.name ∷ (bracketed_words spaced x.of_type ++ mark spaced marks.Equals ∷ literal_words spaced x.literal)

-- .global G <G>
unfoldable pub global_cell_words : List ℕ → GlobalCell → List Piece
global_cell_words space x = directive space (spelling symbols.DotGlobal) ∷ global spaced x.name ∷ bracketed_words spaced x.of_type

-- .funcdecl G <G>
unfoldable pub funcdecl_words : List ℕ → Funcdecl → List Piece
funcdecl_words space x = directive space (spelling symbols.DotFuncdecl) ∷ global spaced x.name ∷ bracketed_words spaced x.signature

-- .funcdef G VERSION L <G> { block block* }
unfoldable pub funcdef_words : List ℕ → Funcdef → List Piece
funcdef_words space x =
    directive space (spelling symbols.DotFuncdef) ∷ global spaced x.name ∷ word spaced (spelling symbols.Version) ∷ local spaced x.version ∷ (bracketed_words spaced x.signature ++ body_words x.blocks)

unfoldable pub item_words : List ℕ → Item → List Piece
item_words space (items.Typedef x) = typedef_words space x
item_words space (items.Funcsig x) = funcsig_words space x
item_words space (items.Const x) = constant_words space x
item_words space (items.GlobalCell x) = global_cell_words space x
item_words space (items.Funcdecl x) = funcdecl_words space x
item_words space (items.Funcdef x) = funcdef_words space x

-- an item begins a line, and ends one
abbrev pub item_text : Item → List ℕ
item_text x = text (item_words [] x) ++ codes "\n"

-- the items in order
abbrev pub bundle_text : List Item → List ℕ
bundle_text xs = flat_map item_text xs
