-- Texts, with their tokens written out.
use Rattle.std.specs.Prelude.{◌^◌, ◌-◌, ℕ, Bool, true, false, List, [], ◌∷◌, Some, None, codes}
use Rattle.ir_lex.specs.declared.token.TokenKind.{TokenKind}
use Rattle.ir_lex.specs.declared.token.TokenKind.TheVariants as kinds
use Rattle.ir_lex.specs.declared.token.Mark.TheVariants as marks
use Rattle.ir_lex.specs.declared.token.LexKind.{LexKind}
use Rattle.ir_lex.specs.declared.token.LexKind.TheVariants as faults
use Rattle.ir_lex.specs.declared.token.Token.{Token}
use Rattle.ir_lex.specs.declared.token.Number.{Number}
use Rattle.ir_lex.specs.Numerals.{Means}
use Rattle.ir_lex.specs.Texts.{Lexes}

abbrev pub token : TokenKind → ℕ → ℕ → Token
token kind from to = record { kind = kind; from = from; to = to }

-- a text of these tokens alone
abbrev pub Has : List ℕ → List Token → Type 0
Has text tokens = Lexes text 0 tokens None

-- a text of these tokens, and then a fault
abbrev pub Faults : List ℕ → List Token → LexKind → ℕ → Type 0
Faults text tokens kind place = Lexes text 0 tokens (Some (record { kind = kind; place = place }))

-- each kind of token
abbrev pub Kinds : Type 0
Kinds =
    Has (codes "@a-1.b %c_ $.") (token kinds.Global 0 6 ∷ token kinds.Local 7 10 ∷ token kinds.Object 11 13 ∷ [])
    × Has (codes ".new_a9") (token kinds.Directive 0 6 ∷ token kinds.Number 6 7 ∷ [])
    × Has (codes "SEQ_CST int<8>") (token kinds.Word 0 7 ∷ token kinds.Word 8 11 ∷ token (kinds.Mark marks.Less) 11 12 ∷ token kinds.Number 12 13 ∷ token (kinds.Mark marks.Greater) 13 14 ∷ [])
    × Has (codes "(){}[]") (token (kinds.Mark marks.Open) 0 1 ∷ token (kinds.Mark marks.Close) 1 2 ∷ token (kinds.Mark marks.OpenBrace) 2 3 ∷ token (kinds.Mark marks.CloseBrace) 3 4 ∷ token (kinds.Mark marks.OpenBracket) 4 5 ∷ token (kinds.Mark marks.CloseBracket) 5 6 ∷ [])
    × Has (codes "=:&->") (token (kinds.Mark marks.Equals) 0 1 ∷ token (kinds.Mark marks.Colon) 1 2 ∷ token (kinds.Mark marks.Ampersand) 2 3 ∷ token (kinds.Mark marks.Arrow) 3 5 ∷ [])

-- gaps, and tokens that are as long as they can be
abbrev pub Gaps : Type 0
Gaps =
    Has [] []
    × Has (codes "12//x") (token kinds.Number 0 2 ∷ [])
    × Has (codes " // a \r b\n\t7") (token kinds.Number 11 12 ∷ [])
    × Has (codes "@a->") (token kinds.Global 0 3 ∷ token (kinds.Mark marks.Greater) 3 4 ∷ [])
    × Has (codes "->-1") (token (kinds.Mark marks.Arrow) 0 2 ∷ token kinds.Number 2 4 ∷ [])

-- what is no token
abbrev pub Refused : Type 0
Refused =
    Faults (codes "@") [] faults.BadName 0
    × Faults (codes " .9") [] faults.BadName 1
    × Faults (codes "0x") [] faults.BadByte 0
    × Faults (codes "a 09") (token kinds.Word 0 1 ∷ []) faults.BadByte 2
    × Faults (codes "1/2") (token kinds.Number 0 1 ∷ []) faults.BadByte 1
    × Faults (128 ∷ []) [] faults.BadByte 0
    × Faults (codes "+") [] faults.BadByte 0
    × Faults (codes "- 1") [] faults.BadByte 0
    × Faults (codes "-340282366920938463463374607431768211456") [] faults.NumberTooLarge 0

abbrev pub number : Bool → ℕ → Number
number negative magnitude = record { negative = negative; magnitude = magnitude }

-- each spelling of a number
abbrev pub Numbers : Type 0
Numbers =
    Means (codes "0") (number false 0)
    × Means (codes "-0") (number false 0)
    × Means (codes "00") (number false 0)
    × Means (codes "-1") (number true 1)
    × Means (codes "+5") (number false 5)
    × Means (codes "120") (number false 120)
    × Means (codes "012") (number false 10)
    × Means (codes "-0x1f") (number true 31)
    × Means (codes "0xA0") (number false 160)
    × Means (codes "340282366920938463463374607431768211455") (number false (2 ^ 128 - 1))
    × Means (codes "340282366920938463463374607431768211456") (number false (2 ^ 128))
