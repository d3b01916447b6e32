-- Laws of the tokens of a text.
use Rattle.std.specs.Prelude.{◌≡◌, ℕ, true, List, ◌++◌, Option, None, map}
use Rattle.std.specs.List.{list_all}
use Rattle.ir_lex.specs.declared.token.TokenKind.{TokenKind}
use Rattle.ir_lex.specs.declared.token.Token.{Token}
use Rattle.ir_lex.specs.declared.token.LexFault.{LexFault}
use Rattle.ir_lex.specs.Bytes.{is_blank, goes_on, stops_at}
use Rattle.ir_lex.specs.Spellings.{Spells}
use Rattle.ir_lex.specs.Lexemes.{IsLongest}
use Rattle.ir_lex.specs.Texts.{Lexes, spelling_of}
use Rattle.ir_lex.specs.Printed.{Piece, text_of, tokens_of, StandApart, AreSpaced}

-- each text has one list of tokens, which goes to its end or to one lexical fault
abbrev pub TokensAreOneList : Type 0
TokensAreOneList = (text : List ℕ) → (tokens : List Token) × (end : Option LexFault) × Lexes text 0 tokens end
    × ((others : List Token) (other : Option LexFault) → Lexes text 0 others other → (others ≡ tokens) × (other ≡ end))

-- a spelling is the longest, and is of that kind, where what stands behind it does not go on with it
abbrev pub SpellingsReadBack : Type 0
SpellingsReadBack = (kind : TokenKind) (spelling after : List ℕ) → Spells kind spelling → stops_at (goes_on kind) after → IsLongest (spelling ++ after) kind spelling after

-- pieces that stand apart read back as their tokens: the same kinds, in order, with the same spellings
abbrev pub PiecesReadBack : Type 0
PiecesReadBack = (pieces : List Piece) (last : List ℕ) → StandApart pieces last →
    Lexes (text_of pieces last) 0 (tokens_of 0 pieces) None
    × (map (spelling_of (text_of pieces last)) (tokens_of 0 pieces) ≡ map (λ (p : Piece). p.spelling) pieces)

-- pieces with a blank at least between them stand apart
abbrev pub SpacedStandApart : Type 0
SpacedStandApart = (pieces : List Piece) (last : List ℕ) → AreSpaced pieces → list_all is_blank last ≡ true → StandApart pieces last
