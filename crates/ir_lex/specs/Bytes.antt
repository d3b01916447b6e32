-- Bytes, by what they may stand in. Letters are ASCII.
use Rattle.std.specs.Prelude.{◌≡◌, ℕ, Bool, false, List, [], ◌∷◌, ◌||◌, ◌==◌}
use Rattle.std.specs.Char.{is_ascii_alphabetic, is_ascii_alphanumeric}
use Rattle.ir_lex.specs.declared.token.TokenKind.{TokenKind}
use Rattle.ir_lex.specs.declared.token.TokenKind.TheVariants as kinds

-- space, tab, carriage return and line feed
abbrev pub is_blank : ℕ → Bool
is_blank b = b == 32 || (b == 9 || (b == 13 || b == 10))

abbrev pub is_line_feed : ℕ → Bool
is_line_feed b = b == 10

-- what goes on with a name behind a sigil: letters, digits, `_`, `-` and `.`
abbrev pub is_name_byte : ℕ → Bool
is_name_byte b = is_ascii_alphanumeric b || (b == 95 || (b == 45 || b == 46))

-- what goes on with a directive: letters and `_`
abbrev pub is_directive_byte : ℕ → Bool
is_directive_byte b = is_ascii_alphabetic b || b == 95

-- what goes on with a word: letters, digits and `_`
abbrev pub is_word_byte : ℕ → Bool
is_word_byte b = is_ascii_alphanumeric b || b == 95

-- `+` or `-`
abbrev pub is_sign : ℕ → Bool
is_sign b = b == 43 || b == 45

-- `@`, `%`, `$` or `.`
abbrev pub is_sigil : ℕ → Bool
is_sigil b = b == 64 || (b == 37 || (b == 36 || b == 46))

-- the bytes that go on with a token of the kind: what stands behind such a token, and is none of them, is not of it
abbrev pub goes_on : TokenKind → ℕ → Bool
goes_on kinds.Directive = is_directive_byte
goes_on kinds.Word = is_word_byte
goes_on kinds.Number = is_ascii_alphanumeric
goes_on (kinds.Mark m) = λ _. false
goes_on _ = is_name_byte

-- none of them comes next: the bytes are empty, or begin with one that fails the test
abbrev pub stops_at : (ℕ → Bool) → List ℕ → Type 0
stops_at test [] = Unit {0}
stops_at test (b ∷ bs) = test b ≡ false
