-- The tokens of a text as the grammars see them: what each is to a grammar, its place and its bytes, and one last token, which
-- is the end of the text or its first lexical fault.
use Rattle.std.specs.Prelude.{ℕ, List, [], ◌∷◌, length, Option, Some, None}
use Rattle.text_forms.specs.declared.symbol.Symbol.{Symbol}
use Rattle.text_forms.specs.declared.symbol.Symbol.TheVariants as symbols
use Rattle.text_forms.specs.Tokens.{Tok}
use Rattle.ir_lex.specs.declared.token.TokenKind.{TokenKind}
use Rattle.ir_lex.specs.declared.token.TokenKind.TheVariants as kinds
use Rattle.ir_lex.specs.declared.token.Mark.{Mark}
use Rattle.ir_lex.specs.declared.token.Mark.TheVariants as marks
use Rattle.ir_lex.specs.declared.token.LexKind.{LexKind}
use Rattle.ir_lex.specs.declared.token.LexKind.TheVariants as faults
use Rattle.ir_lex.specs.declared.token.Token.{Token}
use Rattle.ir_lex.specs.declared.token.LexFault.{LexFault}
use Rattle.ir_lex.specs.Texts.{spelling_of}
use Rattle.ir_lex.specs.WordTable.{look_up, words, directives, common_names}

abbrev pub mark_symbol : Mark → Symbol
mark_symbol marks.Open = symbols.Open
mark_symbol marks.Close = symbols.Close
mark_symbol marks.OpenBrace = symbols.BraceOpen
mark_symbol marks.CloseBrace = symbols.BraceClose
mark_symbol marks.Less = symbols.Less
mark_symbol marks.Greater = symbols.Greater
mark_symbol marks.OpenBracket = symbols.SquareOpen
mark_symbol marks.CloseBracket = symbols.SquareClose
mark_symbol marks.Equals = symbols.Equals
mark_symbol marks.Colon = symbols.Colon
mark_symbol marks.Ampersand = symbols.Ampersand
mark_symbol marks.Arrow = symbols.Arrow

-- what a token is to the grammars, by its kind and its spelling. A word or a directive that none of them has is `Other`
abbrev pub symbol_of : TokenKind → List ℕ → Symbol
symbol_of kinds.Global spelling = look_up symbols.Global common_names spelling
symbol_of kinds.Local spelling = symbols.Local
symbol_of kinds.Object spelling = symbols.Object
symbol_of kinds.Directive spelling = look_up symbols.Other directives spelling
symbol_of kinds.Word spelling = look_up symbols.Other words spelling
symbol_of kinds.Number spelling = symbols.Number
symbol_of (kinds.Mark m) spelling = mark_symbol m

abbrev pub fault_symbol : LexKind → Symbol
fault_symbol faults.BadByte = symbols.BadByte
fault_symbol faults.BadName = symbols.BadName
fault_symbol faults.NumberTooLarge = symbols.NumberTooLarge
fault_symbol faults.TooLong = symbols.TooLong

abbrev pub tok_of : List ℕ → Token → Tok
tok_of text t = record { symbol = symbol_of t.kind (spelling_of text t); place = t.from; spelling = spelling_of text t }

-- the last token, where the tokens go to the end of the text or to a fault
abbrev pub last_of : List ℕ → Option LexFault → Tok
last_of text None = record { symbol = symbols.End; place = length text; spelling = [] }
last_of text (Some fault) = record { symbol = fault_symbol fault.kind; place = fault.place; spelling = [] }

-- tokens of a text, and what they go to, as the grammars see them
abbrev pub seen : List ℕ → List Token → Option LexFault → List Tok
seen text [] end = last_of text end ∷ []
seen text (t ∷ ts) end = tok_of text t ∷ seen text ts end
