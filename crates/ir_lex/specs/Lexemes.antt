-- What begins at the front of some bytes: a token, or a lexical fault.
use Rattle.std.specs.Prelude.{◌≡◌, ◌≤◌, ◌<◌, ◌^◌, ℕ, true, false, List, ◌∷◌, ◌++◌, length}
use Rattle.ir_lex.specs.declared.token.TokenKind.{TokenKind}
use Rattle.ir_lex.specs.declared.token.TokenKind.TheVariants as kinds
use Rattle.ir_lex.specs.declared.token.LexKind.{LexKind}
use Rattle.ir_lex.specs.declared.token.LexKind.TheVariants as faults
use Rattle.ir_lex.specs.declared.token.Number.{Number}
use Rattle.ir_lex.specs.Bytes.{is_sigil}
use Rattle.ir_lex.specs.Spellings.{Spells}
use Rattle.ir_lex.specs.Numerals.{Means, IsNumber}

-- a spelling of the kind stands at the front, and no longer front of the bytes is a spelling of any kind
pub record IsLongest (bytes : List ℕ) (kind : TokenKind) (spelling after : List ℕ) : Type 0 where
  pub parts : bytes ≡ spelling ++ after
  pub spells : Spells kind spelling
  pub longest : (other : TokenKind) (front rest : List ℕ) → bytes ≡ front ++ rest → Spells other front → length front ≤ length spelling

-- no front of the bytes is a spelling
abbrev pub NoneBegins : List ℕ → Type 0
NoneBegins bytes = (kind : TokenKind) (front rest : List ℕ) → bytes ≡ front ++ rest → Spells kind front → ⊥

-- a token has at most this many bytes
abbrev pub longest_token : ℕ
longest_token = 65536

-- the spelling is that of a token: it is not too long, and a number stands for a number below 2^128
pub record IsToken (kind : TokenKind) (spelling : List ℕ) : Type 0 where
  pub short : length spelling ≤ longest_token
  pub number : kind ≡ kinds.Number → IsNumber spelling

-- a lexical fault stands at the front of the bytes
pub data IsFault : List ℕ → LexKind → Type 0 where
  -- the longest spelling there has too many bytes, whatever else is wrong with it
  too_long : (bytes spelling after : List ℕ) (kind : TokenKind) → IsLongest bytes kind spelling after → longest_token < length spelling → IsFault bytes faults.TooLong
  -- the byte begins no token
  bad_byte : (byte : ℕ) (bytes : List ℕ) → NoneBegins (byte ∷ bytes) → is_sigil byte ≡ false → IsFault (byte ∷ bytes) faults.BadByte
  -- the run of a number is in none of the spellings
  bad_run : (bytes spelling after : List ℕ) → IsLongest bytes kinds.Number spelling after → length spelling ≤ longest_token → ((n : Number) → Means spelling n → ⊥) → IsFault bytes faults.BadByte
  -- a sigil or a dot begins no name
  bad_name : (byte : ℕ) (bytes : List ℕ) → NoneBegins (byte ∷ bytes) → is_sigil byte ≡ true → IsFault (byte ∷ bytes) faults.BadName
  -- the number is 2^128 or more
  too_large : (bytes spelling after : List ℕ) (n : Number) → IsLongest bytes kinds.Number spelling after → length spelling ≤ longest_token → Means spelling n → 2 ^ 128 ≤ n.magnitude → IsFault bytes faults.NumberTooLarge
