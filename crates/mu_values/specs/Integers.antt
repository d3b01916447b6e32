-- Integers of w bits. They stand as the numbers from 0 to 2^w - 1 that their bits write; w is at least 1.
use Rattle.std.specs.Prelude.{ℕ, ◌+◌, ◌-◌, ◌*◌, ◌/◌, ◌%◌, ◌^◌, ◌<◌, ◌≤◌, Bool, ℤ, pos, ◌-ℤ◌, Option, Some, None, nat_lt, nat_le, nat_eq, int_div, int_rem, unsigned_abs, bit_and, bit_or, bit_xor, if◌then◌else◌}
use Rattle.std.specs.Int.{int_rem_euclid}
use Rattle.std.specs.Int.Signed.{shr_z}
use Rattle.mu_base.specs.declared.operators.BinaryOp.{BinaryOp}
use Rattle.mu_base.specs.declared.operators.BinaryOp.TheVariants as binaries
use Rattle.mu_base.specs.declared.operators.ConvertOp.{ConvertOp}
use Rattle.mu_base.specs.declared.operators.ConvertOp.TheVariants as conversions

-- n is an integer of w bits, of which there are at most 128
abbrev pub IsInteger : ℕ → ℕ → Type 0
IsInteger w n = (1 ≤ w) × (w ≤ 128) × (n < 2 ^ w)

-- the whole number that the bits write in two's complement: from 2^(w-1) on it is negative
abbrev pub signed : ℕ → ℕ → ℤ
signed w n = if nat_lt n (2 ^ (w - 1)) then pos n else pos n -ℤ pos (2 ^ w)

-- the bits of a whole number: what is left of it modulo 2^w
abbrev pub bits_of : ℕ → ℤ → ℕ
bits_of w z = unsigned_abs (int_rem_euclid z (pos (2 ^ w)))

-- None where the divisor is 0
abbrev pub divided : ℕ → ℕ → Option ℕ
divided divisor n = if nat_eq divisor 0 then None else Some n

-- a shift is by b modulo the width
abbrev pub shift : ℕ → ℕ → ℕ
shift w b = 2 ^ (b % w)

-- Results wrap. SDIV rounds toward zero, SREM has the sign of a; ASHR rounds down, so that it copies the sign.
abbrev pub binary_value : BinaryOp → ℕ → ℕ → ℕ → Option ℕ
binary_value binaries.Add w a b = Some ((a + b) % 2 ^ w)
binary_value binaries.Sub w a b = Some (bits_of w (pos a -ℤ pos b))
binary_value binaries.Mul w a b = Some ((a * b) % 2 ^ w)
binary_value binaries.Sdiv w a b = divided b (bits_of w (int_div (signed w a) (signed w b)))
binary_value binaries.Srem w a b = divided b (bits_of w (int_rem (signed w a) (signed w b)))
binary_value binaries.Udiv w a b = divided b (a / b)
binary_value binaries.Urem w a b = divided b (a % b)
binary_value binaries.Shl w a b = Some ((a * shift w b) % 2 ^ w)
binary_value binaries.Lshr w a b = Some (a / shift w b)
binary_value binaries.Ashr w a b = Some (bits_of w (shr_z (signed w a) (shift w b)))
binary_value binaries.And w a b = Some (bit_and a b)
binary_value binaries.Or w a b = Some (bit_or a b)
binary_value binaries.Xor w a b = Some (bit_xor a b)

-- TRUNC keeps the low bits, ZEXT the number, SEXT the signed number
abbrev pub converted : ConvertOp → ℕ → ℕ → ℕ → ℕ
converted conversions.Trunc from to n = n % 2 ^ to
converted conversions.Zext from to n = n
converted conversions.Sext from to n = bits_of to (signed from n)

-- The widths that a conversion goes between, first the one that must not be greater: TRUNC makes no integer wider, ZEXT and SEXT none
-- narrower.
abbrev pub lesser_first : ConvertOp → ℕ → ℕ → ℕ × ℕ
lesser_first conversions.Trunc from to = (to, from)
lesser_first conversions.Zext from to = (from, to)
lesser_first conversions.Sext from to = (from, to)

abbrev pub IsConversion : ConvertOp → ℕ → ℕ → Type 0
IsConversion op from to = (lesser_first op from to).0 ≤ (lesser_first op from to).1

abbrev pub is_conversion : ConvertOp → ℕ → ℕ → Bool
is_conversion op from to = nat_le (lesser_first op from to).0 (lesser_first op from to).1
