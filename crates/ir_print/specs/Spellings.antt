-- How the grammar's words, its directives and the global names of common instructions are spelled: its table, read from the symbol to the
-- spelling.
use Rattle.std.specs.Prelude.{ℕ, List, [], ◌∷◌, ◌++◌, if◌then◌else◌}
use Rattle.text_forms.specs.declared.symbol.Symbol.{Symbol}
use Rattle.text_forms.specs.Tokens.{same}
use Rattle.ir_lex.specs.WordTable.{Row, words, directives, common_names}

-- the spelling of the first row with that symbol, and none where there is no such row
abbrev pub spelling_in : List Row → Symbol → List ℕ
spelling_in [] s = []
spelling_in (r ∷ rs) s = if same r.1 s then r.0 else spelling_in rs s

unfoldable pub spelling : Symbol → List ℕ
spelling s = spelling_in (words ++ directives ++ common_names) s
