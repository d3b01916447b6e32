-- How each kind of token is spelled. Of a number this tells the run alone; what a run stands for is told by Numerals.
use Rattle.std.specs.Prelude.{◌≡◌, ◌<◌, ℕ, true, List, ◌∷◌, length, codes}
use Rattle.std.specs.List.{list_all}
use Rattle.std.specs.Char.{is_ascii_digit, is_ascii_alphabetic, is_ascii_alphanumeric}
use Rattle.ir_lex.specs.declared.token.TokenKind.{TokenKind}
use Rattle.ir_lex.specs.declared.token.TokenKind.TheVariants as kinds
use Rattle.ir_lex.specs.declared.token.Mark.{Mark}
use Rattle.ir_lex.specs.declared.token.Mark.TheVariants as marks
use Rattle.ir_lex.specs.Bytes.{is_name_byte, is_directive_byte, is_word_byte, is_sign}

abbrev pub mark_bytes : Mark → List ℕ
mark_bytes marks.Open = codes "("
mark_bytes marks.Close = codes ")"
mark_bytes marks.OpenBrace = codes "{"
mark_bytes marks.CloseBrace = codes "}"
mark_bytes marks.Less = codes "<"
mark_bytes marks.Greater = codes ">"
mark_bytes marks.OpenBracket = codes "["
mark_bytes marks.CloseBracket = codes "]"
mark_bytes marks.Equals = codes "="
mark_bytes marks.Colon = codes ":"
mark_bytes marks.Ampersand = codes "&"
mark_bytes marks.Arrow = codes "->"

-- the bytes are a spelling of a token of the kind
pub data Spells : TokenKind → List ℕ → Type 0 where
  -- `@` and one or more bytes of a name
  global : (body : List ℕ) → 0 < length body → list_all is_name_byte body ≡ true → Spells kinds.Global (64 ∷ body)
  -- `%` and the same
  local : (body : List ℕ) → 0 < length body → list_all is_name_byte body ≡ true → Spells kinds.Local (37 ∷ body)
  -- `$` and the same
  object : (body : List ℕ) → 0 < length body → list_all is_name_byte body ≡ true → Spells kinds.Object (36 ∷ body)
  -- `.` and one or more letters or `_`
  directive : (body : List ℕ) → 0 < length body → list_all is_directive_byte body ≡ true → Spells kinds.Directive (46 ∷ body)
  -- a letter, then letters, digits or `_`
  word : (first : ℕ) (body : List ℕ) → is_ascii_alphabetic first ≡ true → list_all is_word_byte body ≡ true → Spells kinds.Word (first ∷ body)
  -- a run of letters and digits that begins with a digit
  plain : (first : ℕ) (body : List ℕ) → is_ascii_digit first ≡ true → list_all is_ascii_alphanumeric body ≡ true → Spells kinds.Number (first ∷ body)
  -- `+` or `-`, and such a run
  signed : (sign first : ℕ) (body : List ℕ) → is_sign sign ≡ true → is_ascii_digit first ≡ true → list_all is_ascii_alphanumeric body ≡ true → Spells kinds.Number (sign ∷ first ∷ body)
  -- a mark
  mark : (m : Mark) → Spells (kinds.Mark m) (mark_bytes m)
