-- Forms of one token.
use Rattle.std.specs.Prelude.{ℕ, List, [], ◌∷◌}
use Rattle.text_forms.specs.declared.symbol.Symbol.{Symbol}
use Rattle.text_forms.specs.declared.symbol.Symbol.TheVariants as symbols
use Rattle.text_forms.specs.Tokens.{Tok}
use Rattle.text_forms.specs.Forms.{Form, token, made}
use Rattle.ir_lex.specs.declared.name.Name.{Name}
use Rattle.ir_lex.specs.declared.name.Numeral.{Numeral}
use Rattle.ir_lex.specs.Scanner.{number_of}

-- a mark, a word or a directive, which means its place
unfoldable pub mark : Symbol → Form ℕ
mark s = made (λ (t : Tok). t.place) (token (s ∷ []))

-- one of several, which means that one
unfoldable pub choice : List Symbol → Form Symbol
choice xs = made (λ (t : Tok). t.symbol) (token xs)

-- a name, with its sigil
unfoldable pub name : List Symbol → Form Name
name xs = made (λ (t : Tok). record { place = t.place; text = t.spelling }) (token xs)

-- a number
unfoldable pub numeral : Form Numeral
numeral = made (λ (t : Tok). record { place = t.place; number = number_of t.spelling }) (token (symbols.Number ∷ []))
