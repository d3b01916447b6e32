-- Laws of the tokens of a text as the grammars see them.
use Rattle.std.specs.Prelude.{◌≡◌, ◌<◌, ◌^◌, ℕ, Bool, true, List, Option}
use Rattle.std.specs.List.{list_all}
use Rattle.text_forms.specs.declared.symbol.Symbol.{Symbol}
use Rattle.text_forms.specs.declared.symbol.Symbol.TheVariants as symbols
use Rattle.text_forms.specs.Tokens.{IsText, same}
use Rattle.ir_lex.specs.declared.token.Token.{Token}
use Rattle.ir_lex.specs.declared.token.LexFault.{LexFault}
use Rattle.ir_lex.specs.declared.token.Number.{Number}
use Rattle.ir_lex.specs.Numerals.{Means}
use Rattle.ir_lex.specs.Texts.{Lexes}
use Rattle.ir_lex.specs.WordTable.{Row, look_up, words, directives, common_names}
use Rattle.ir_lex.specs.Seen.{seen}
use Rattle.ir_lex.specs.Scanner.{number_of}
use Rattle.ir_lex.specs.Walk.{tokens_from}

-- `tokens_from` is the one list of the tokens of a text from a place on
abbrev pub TokensAreSeen : Type 0
TokensAreSeen = (text : List ℕ) (at : ℕ) (tokens : List Token) (end : Option LexFault) → Lexes text at tokens end → tokens_from text at ≡ seen text tokens end

-- it has one last token, at its end, and its places rise
abbrev pub TextsEnd : Type 0
TextsEnd = (text : List ℕ) → IsText (tokens_from text 0)

-- `number_of` is the number that a spelling stands for
abbrev pub NumbersAreMeant : Type 0
NumbersAreMeant = (spelling : List ℕ) (n : Number) → Means spelling n → n.magnitude < 2 ^ 128 → number_of spelling ≡ n

-- no spelling stands twice in a table, so each row is found
abbrev pub is_found : Symbol → List Row → List Row → Bool
is_found absent table rows = list_all (λ (r : Row). same (look_up absent table r.0) r.1) rows

abbrev pub EachWordIsFound : Type 0
EachWordIsFound =
    (is_found symbols.Other words words ≡ true)
    × (is_found symbols.Other directives directives ≡ true)
    × (is_found symbols.Global common_names common_names ≡ true)
