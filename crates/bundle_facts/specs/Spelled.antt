-- In a bundle that is read from a text the names of functions, of their versions and of their blocks are spelled as names.
use Rattle.std.specs.Prelude.{ℕ, List, [], ◌∷◌, Ok}
use Rattle.ir_lex.specs.declared.token.TokenKind.TheVariants as kinds
use Rattle.ir_lex.specs.Spellings.{Spells}
use Rattle.ir_tree.specs.declared.code.Block.{Block}
use Rattle.ir_tree.specs.declared.items.Item.{Item}
use Rattle.ir_tree.specs.declared.items.Item.TheVariants as items
use Rattle.ir_text.specs.TextAnswers.{IsAnswer}

-- A block has a local name.
abbrev pub BlocksAreSpelled : List Block → Type 0
BlocksAreSpelled [] = Unit {0}
BlocksAreSpelled (b ∷ bs) = Spells kinds.Local b.head.name.text × BlocksAreSpelled bs

-- A function has a global name, and its version a local one.
abbrev pub ItemIsSpelled : Item → Type 0
ItemIsSpelled (items.Funcdecl d) = Spells kinds.Global d.name.text
ItemIsSpelled (items.Funcdef d) = Spells kinds.Global d.name.text × Spells kinds.Local d.version.text × BlocksAreSpelled d.blocks
ItemIsSpelled _ = Unit {0}

abbrev pub NamesAreSpelled : List Item → Type 0
NamesAreSpelled [] = Unit {0}
NamesAreSpelled (i ∷ is) = ItemIsSpelled i × NamesAreSpelled is

abbrev pub NamesOfTextsAreSpelled : Type 0
NamesOfTextsAreSpelled = (bytes : List ℕ) (bundle : List Item) → IsAnswer bytes (Ok bundle) → NamesAreSpelled bundle
