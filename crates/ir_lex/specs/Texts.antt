-- The tokens of a text, with their places.
use Rattle.std.specs.Prelude.{◌≡◌, ◌+◌, ◌-◌, ℕ, false, List, [], ◌∷◌, ◌++◌, length, take, drop, Option, Some, None}
use Rattle.ir_lex.specs.declared.token.Token.{Token}
use Rattle.ir_lex.specs.declared.token.LexFault.{LexFault}
use Rattle.ir_lex.specs.Lexemes.{IsLongest, IsToken, IsFault}
use Rattle.ir_lex.specs.Gaps.{IsGap, begins_gap}

-- from a place on, nothing but a gap is left
abbrev pub OnlyGap : List ℕ → ℕ → Type 0
OnlyGap text at = IsGap [] (drop at text)

-- from a place on, the token comes next, behind a gap
pub record IsNext (text : List ℕ) (at : ℕ) (token : Token) : Type 0 where
  pub gap : List ℕ
  pub spelling : List ℕ
  pub after : List ℕ
  pub parts : drop at text ≡ gap ++ (spelling ++ after)
  pub is_gap : IsGap (spelling ++ after) gap
  pub longest : IsLongest (spelling ++ after) token.kind spelling after
  pub is_token : IsToken token.kind spelling
  pub from : token.from ≡ at + length gap
  pub to : token.to ≡ token.from + length spelling

-- from a place on, the lexical fault comes next, behind a gap that is as long as it can be
pub record IsNextFault (text : List ℕ) (at : ℕ) (fault : LexFault) : Type 0 where
  pub gap : List ℕ
  pub after : List ℕ
  pub parts : drop at text ≡ gap ++ after
  pub is_gap : IsGap after gap
  pub whole : begins_gap after ≡ false
  pub is_fault : IsFault after fault.kind
  pub place : fault.place ≡ at + length gap

-- the tokens of a text from a place on, in order, up to its end or to the first lexical fault
pub data Lexes (text : List ℕ) : ℕ → List Token → Option LexFault → Type 0 where
  ends : (at : ℕ) → OnlyGap text at → Lexes text at [] None
  stops : (at : ℕ) (fault : LexFault) → IsNextFault text at fault → Lexes text at [] (Some fault)
  reads : (at : ℕ) (next : Token) (more : List Token) (end : Option LexFault) → IsNext text at next → Lexes text next.to more end → Lexes text at (next ∷ more) end

-- the bytes of a token
abbrev pub spelling_of : List ℕ → Token → List ℕ
spelling_of text token = take (token.to - token.from) (drop token.from text)
