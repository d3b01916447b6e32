-- What the run of a number stands for.
use Rattle.std.specs.Prelude.{◌≡◌, ℕ, Bool, true, false, ◌<◌, ◌^◌, List, [], ◌∷◌, length, ◌&&◌, ◌==◌, not}
use Rattle.std.specs.List.{list_all}
use Rattle.std.specs.Char.{is_digit}
use Rattle.std.specs.Str.Parse.{digits_value}
use Rattle.ir_lex.specs.declared.token.Number.{Number}

-- one digit of the base or more, and nothing else; hexadecimal digits are of either case
abbrev pub are_digits : ℕ → List ℕ → Bool
are_digits base ds = not (length ds == 0) && list_all (λ d. is_digit d base) ds

-- the run spells the number
pub data Denotes : List ℕ → ℕ → Type 0 where
  -- `0`
  nought : Denotes (48 ∷ []) 0
  -- decimal digits of which the first is not `0`
  decimal : (first : ℕ) (rest : List ℕ) → (first == 48) ≡ false → are_digits 10 (first ∷ rest) ≡ true → Denotes (first ∷ rest) (digits_value 10 (first ∷ rest))
  -- `0` and octal digits
  octal : (digits : List ℕ) → are_digits 8 digits ≡ true → Denotes (48 ∷ digits) (digits_value 8 digits)
  -- `0x` and hexadecimal digits
  hexadecimal : (digits : List ℕ) → are_digits 16 digits ≡ true → Denotes (48 ∷ 120 ∷ digits) (digits_value 16 digits)

-- the bytes, a run behind a sign or none, spell the number
pub data Means : List ℕ → Number → Type 0 where
  plain : (run : List ℕ) (n : ℕ) → Denotes run n → Means run (record { negative = false; magnitude = n })
  plus : (run : List ℕ) (n : ℕ) → Denotes run n → Means (43 ∷ run) (record { negative = false; magnitude = n })
  -- a number that is 0 is not negative
  minus : (run : List ℕ) (n : ℕ) → Denotes run n → Means (45 ∷ run) (record { negative = not (n == 0); magnitude = n })

-- the bytes are the spelling of a number below 2^128
abbrev pub IsNumber : List ℕ → Type 0
IsNumber spelling = (n : Number) × Means spelling n × (n.magnitude < 2 ^ 128)
