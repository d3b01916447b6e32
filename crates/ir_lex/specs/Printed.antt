-- Tokens that are printed one after the other.
use Rattle.std.specs.Prelude.{◌≡◌, ◌+◌, ◌<◌, ℕ, true, List, [], ◌∷◌, ◌++◌, length}
use Rattle.std.specs.List.{list_all}
use Rattle.ir_lex.specs.declared.token.TokenKind.{TokenKind}
use Rattle.ir_lex.specs.declared.token.Token.{Token}
use Rattle.ir_lex.specs.Bytes.{is_blank, goes_on, stops_at}
use Rattle.ir_lex.specs.Spellings.{Spells}
use Rattle.ir_lex.specs.Lexemes.{IsToken}

-- blanks, and then the spelling of a token
pub record Piece : Type 0 where
  pub space : List ℕ
  pub kind : TokenKind
  pub spelling : List ℕ

-- the pieces in order, and what stands behind them
abbrev pub text_of : List Piece → List ℕ → List ℕ
text_of [] last = last
text_of (p ∷ ps) last = p.space ++ (p.spelling ++ text_of ps last)

-- the tokens of the pieces, the first piece beginning at that place
abbrev pub tokens_of : ℕ → List Piece → List Token
tokens_of at [] = []
tokens_of at (p ∷ ps) =
    let from = at + length p.space in
    record { kind = p.kind; from = from; to = from + length p.spelling } ∷ tokens_of (from + length p.spelling) ps

-- the piece is blanks and the spelling of a token
pub record IsPiece (p : Piece) : Type 0 where
  pub blanks : list_all is_blank p.space ≡ true
  pub spells : Spells p.kind p.spelling
  pub is_token : IsToken p.kind p.spelling

-- what stands behind each piece does not go on with its token, and blanks stand at the end
abbrev pub StandApart : List Piece → List ℕ → Type 0
StandApart [] last = list_all is_blank last ≡ true
StandApart (p ∷ ps) last = IsPiece p × stops_at (goes_on p.kind) (text_of ps last) × StandApart ps last

-- each piece has a blank at least
abbrev pub AreSpaced : List Piece → Type 0
AreSpaced [] = Unit {0}
AreSpaced (p ∷ ps) = IsPiece p × (0 < length p.space) × AreSpaced ps
