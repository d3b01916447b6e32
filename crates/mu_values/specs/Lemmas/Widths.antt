-- What is computed with integers stays within their width.
use Rattle.std.proofs.Common.{◌≡◌, ℕ, ◌/◌, ◌%◌, ◌^◌, ◌<◌, Bool, true, false, Some, None, if◌then◌else◌, arith}
use Rattle.std.specs.Prelude.{ℤ, pos, negsuc, nat_eq, nat_lt, int_lt, bit_and}
use Rattle.std.proofs.lemmas.Nat.{pow_pos, mod_below, and_le_l, or_lt, xor_lt}
use Rattle.std.proofs.Math.Nat.{mod-le, div-le_self}
use Rattle.mu_base.specs.declared.operators.BinaryOp.{BinaryOp}
use Rattle.mu_base.specs.declared.operators.BinaryOp.TheVariants as binaries
use Rattle.mu_base.specs.declared.operators.ConvertOp.{ConvertOp}
use Rattle.mu_base.specs.declared.operators.ConvertOp.TheVariants as conversions
use Rattle.mu_base.specs.declared.operators.UpdateOp.{UpdateOp}
use Rattle.mu_base.specs.declared.operators.UpdateOp.TheVariants as updates
use Rattle.mu_values.specs.Integers.{signed, bits_of, shift, binary_value, converted, IsConversion}
use Rattle.mu_values.specs.Updates.{updated_bits}
use Rattle.mu_values.specs.Lemmas.Signed.{pow_up}

pub bits_below : (w : ℕ) (z : ℤ) → bits_of w z < 2 ^ w
bits_below w (pos n) = mod_below n (2 ^ w) (pow_pos w)
bits_below w (negsuc n) = let some = pow_pos w in omega (arith, some)

-- what is told is what is there
told : (m n k : ℕ) → m < k → Some m ≡ Some n → n < k
told m n k l e = let same : m ≡ n = cc in omega (arith, same, l)

divided_told : (zero_divisor : Bool) (m n k : ℕ) → m < k → (if zero_divisor then None else Some m) ≡ Some n → n < k
divided_told true m n k l e = cc
divided_told false m n k l e = told m n k l e

pub binary_below : (op : BinaryOp) (w a b n : ℕ) → a < 2 ^ w → b < 2 ^ w → binary_value op w a b ≡ Some n → n < 2 ^ w
binary_below binaries.Add w a b n la lb e = told _ n (2 ^ w) (mod_below _ (2 ^ w) (pow_pos w)) e
binary_below binaries.Sub w a b n la lb e = told _ n (2 ^ w) (bits_below w _) e
binary_below binaries.Mul w a b n la lb e = told _ n (2 ^ w) (mod_below _ (2 ^ w) (pow_pos w)) e
binary_below binaries.Sdiv w a b n la lb e = divided_told (nat_eq b 0) _ n (2 ^ w) (bits_below w _) e
binary_below binaries.Srem w a b n la lb e = divided_told (nat_eq b 0) _ n (2 ^ w) (bits_below w _) e
binary_below binaries.Udiv w a b n la lb e = divided_told (nat_eq b 0) (a / b) n (2 ^ w) (let low = div-le_self a b in omega (arith, low, la)) e
binary_below binaries.Urem w a b n la lb e = divided_told (nat_eq b 0) (a % b) n (2 ^ w) (let low = mod-le a b in omega (arith, low, la)) e
binary_below binaries.Shl w a b n la lb e = told _ n (2 ^ w) (mod_below _ (2 ^ w) (pow_pos w)) e
binary_below binaries.Lshr w a b n la lb e = told (a / shift w b) n (2 ^ w) (let low = div-le_self a (shift w b) in omega (arith, low, la)) e
binary_below binaries.Ashr w a b n la lb e = told _ n (2 ^ w) (bits_below w _) e
binary_below binaries.And w a b n la lb e = told (bit_and a b) n (2 ^ w) (let low = and_le_l a b in omega (arith, low, la)) e
binary_below binaries.Or w a b n la lb e = told _ n (2 ^ w) (or_lt w a b la lb) e
binary_below binaries.Xor w a b n la lb e = told _ n (2 ^ w) (xor_lt w a b la lb) e

pub converted_below : (op : ConvertOp) (from to n : ℕ) → IsConversion op from to → n < 2 ^ from → converted op from to n < 2 ^ to
converted_below conversions.Trunc from to n fits l = mod_below n (2 ^ to) (pow_pos to)
converted_below conversions.Zext from to n fits l = let more = pow_up from to fits in omega (arith, more, l)
converted_below conversions.Sext from to n fits l = bits_below to (signed from n)

either : (test : Bool) (m n k : ℕ) → m < k → n < k → (if test then m else n) < k
either true m n k l h = l
either false m n k l h = h

pub updated_below : (op : UpdateOp) (w a b : ℕ) → a < 2 ^ w → b < 2 ^ w → updated_bits op w a b < 2 ^ w
updated_below updates.Xchg w a b la lb = lb
updated_below updates.Add w a b la lb = mod_below _ (2 ^ w) (pow_pos w)
updated_below updates.Sub w a b la lb = bits_below w _
updated_below updates.And w a b la lb = let low = and_le_l a b in omega (arith, low, la)
updated_below updates.Nand w a b la lb = let some = pow_pos w in omega (arith, some)
updated_below updates.Or w a b la lb = or_lt w a b la lb
updated_below updates.Xor w a b la lb = xor_lt w a b la lb
updated_below updates.Max w a b la lb = either (int_lt (signed w a) (signed w b)) b a (2 ^ w) lb la
updated_below updates.Min w a b la lb = either (int_lt (signed w a) (signed w b)) a b (2 ^ w) la lb
updated_below updates.Umax w a b la lb = either (nat_lt a b) b a (2 ^ w) lb la
updated_below updates.Umin w a b la lb = either (nat_lt a b) a b (2 ^ w) la lb
