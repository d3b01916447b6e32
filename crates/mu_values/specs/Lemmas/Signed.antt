-- Signed integers and their bits.
use Rattle.std.proofs.Common.{◌≡◌, ℕ, zero, suc, ◌+◌, ◌-◌, ◌*◌, ◌/◌, ◌%◌, ◌^◌, ◌<◌, ◌≤◌, Bool, true, false, not, if◌then◌else◌, refl, sym, ap, ◌∙◌, suc-mul, arith, inl, inr}
use Rattle.std.specs.Prelude.{ℤ, pos, negsuc, neg_ℤ, ◌-ℤ◌, nat_lt, int_div, int_rem, unsigned_abs}
use Rattle.std.specs.Int.Signed.{shr_z}
use Rattle.std.proofs.lemmas.Bool.{lt-ltb, le-ltb, ltb-true, ltb-false, cases_lt}
use Rattle.std.proofs.lemmas.Int.{ints}
use Rattle.std.proofs.lemmas.Nat.{pow_pos, pow_below, shr_split, mod_low, mod_below}
use Rattle.std.proofs.Math.Nat.{mod-eq_of_lt, zero-mod, mod-le, div-le_self}
use mathlib.Core.Bool.{beq}
use Rattle.mu_values.specs.Integers.{signed, bits_of}

not_less : (a b : ℕ) → b ≤ a → nat_lt a b ≡ false
not_less a b l = le-ltb a b l

pub minus : (n m : ℕ) → n < m → pos n -ℤ pos m ≡ negsuc (m - 1 - n)
minus n m l = omega (arith, ints)

pub signed_low : (w n : ℕ) → n < 2 ^ (w - 1) → signed w n ≡ pos n
signed_low w n l = ap (λ b. if b then pos n else (pos n -ℤ pos (2 ^ w))) (lt-ltb n (2 ^ (w - 1)) l)

pub signed_high : (w n : ℕ) → 2 ^ (w - 1) ≤ n → n < 2 ^ w → signed w n ≡ negsuc (2 ^ w - 1 - n)
signed_high w n l m = ap (λ b. if b then pos n else (pos n -ℤ pos (2 ^ w))) (not_less n (2 ^ (w - 1)) l) ∙ minus n (2 ^ w) m

-- ---- bits of a number that fits

pub bits_pos : (w m : ℕ) → m < 2 ^ w → bits_of w (pos m) ≡ m
bits_pos w m l = mod-eq_of_lt l

pub bits_negsuc : (w m : ℕ) → m < 2 ^ w → bits_of w (negsuc m) ≡ 2 ^ w - 1 - m
bits_negsuc w m l = ap (λ r. 2 ^ w - 1 - r) (mod-eq_of_lt l)

pub bits_neg_zero : (w : ℕ) → bits_of w (neg_ℤ (pos 0)) ≡ 0
bits_neg_zero w = zero-mod (2 ^ w)

pub bits_neg : (w m : ℕ) → 0 < m → m < 2 ^ w → bits_of w (neg_ℤ (pos m)) ≡ 2 ^ w - m
bits_neg w zero p l = absurd (omega (arith, p))
bits_neg w (suc m) p l = bits_negsuc w m (omega (arith, l)) ∙ omega arith

-- of a number only the low bits count
pub bits_neg_low : (w m : ℕ) → bits_of w (neg_ℤ (pos (m % 2 ^ w))) ≡ bits_of w (neg_ℤ (pos m))
bits_neg_low w zero = ap (λ (n : ℕ). bits_of w (neg_ℤ (pos n))) (zero-mod (2 ^ w))
bits_neg_low w (suc m) = elim (cases_lt 0 (suc m % 2 ^ w)) [ inl some ↦ partly some | inr none ↦ evenly (omega (arith, none)) ]
  where
    partly : 0 < suc m % 2 ^ w → bits_of w (neg_ℤ (pos (suc m % 2 ^ w))) ≡ bits_of w (negsuc m)
    partly some =
        let split = shr_split (suc m) w in
        let few = mod_below (suc m) (2 ^ w) (pow_pos w) in
        let one_less : m ≡ suc m / 2 ^ w * 2 ^ w + (suc m % 2 ^ w - 1) = omega (arith, split, some) in
        let left : m % 2 ^ w ≡ suc m % 2 ^ w - 1 = ap (λ n. n % 2 ^ w) one_less ∙ mod_low (suc m / 2 ^ w) w (suc m % 2 ^ w - 1) (omega (arith, few, some)) in
        let rest : 2 ^ w - suc m % 2 ^ w ≡ 2 ^ w - 1 - m % 2 ^ w = omega (arith, left, some, few) in
        bits_neg w (suc m % 2 ^ w) some few ∙ rest

    evenly : suc m % 2 ^ w ≡ 0 → bits_of w (neg_ℤ (pos (suc m % 2 ^ w))) ≡ bits_of w (negsuc m)
    evenly none =
        let split = shr_split (suc m) w in
        let one = pow_pos w in
        let left : m % 2 ^ w ≡ 2 ^ w - 1 = below (suc m / 2 ^ w) (omega (arith, split, none)) in
        let gone : 0 ≡ 2 ^ w - 1 - m % 2 ^ w = omega (arith, left) in
        ap (λ (n : ℕ). bits_of w (neg_ℤ (pos n))) none ∙ bits_neg_zero w ∙ gone
      where
        below : (q : ℕ) → q * 2 ^ w ≡ suc m → m % 2 ^ w ≡ 2 ^ w - 1
        below zero e = absurd (omega (arith, e))
        below (suc q) e =
            let one = pow_pos w in
            let one_less : m ≡ q * 2 ^ w + (2 ^ w - 1) = omega (arith, suc-mul q (2 ^ w), e, one) in
            ap (λ n. n % 2 ^ w) one_less ∙ mod_low q w (2 ^ w - 1) (omega (arith, one))

-- ---- quotients and remainders by the absolute values

abbrev pub is_negative : ℤ → Bool
is_negative (pos n) = false
is_negative (negsuc n) = true

pub div_alike : (x y : ℤ) → is_negative x ≡ is_negative y → int_div x y ≡ pos (unsigned_abs x / unsigned_abs y)
div_alike (pos a) (pos b) e = refl
div_alike (negsuc a) (negsuc b) e = refl
div_alike (pos a) (negsuc b) e = cc
div_alike (negsuc a) (pos b) e = cc

pub rem_positive : (x y : ℤ) → is_negative x ≡ false → int_rem x y ≡ pos (unsigned_abs x % unsigned_abs y)
rem_positive (pos a) y e = refl
rem_positive (negsuc a) y e = cc

pub sign_is : (w n : ℕ) → n < 2 ^ w → is_negative (signed w n) ≡ not (nat_lt n (2 ^ (w - 1)))
sign_is w n l = elim (cases_lt n (2 ^ (w - 1))) [
  | inl m ↦ ap is_negative (signed_low w n m) ∙ ap not (sym (lt-ltb n (2 ^ (w - 1)) m))
  | inr m ↦ ap is_negative (signed_high w n m l) ∙ ap not (sym (not_less n (2 ^ (w - 1)) m))
]

-- ---- what the functions need

pub pow_up : (i j : ℕ) → i ≤ j → 2 ^ i ≤ 2 ^ j
pow_up i j l = elim (cases_lt i j) [
  | inl m ↦ let below = pow_below i j m in omega (arith, below)
  | inr m ↦ let same : i ≡ j = omega (arith, l, m) in rw same (omega arith)
]

-- what the test of the sign says
pub is_high : (w n : ℕ) → not (nat_lt n (2 ^ (w - 1))) ≡ true → 2 ^ (w - 1) ≤ n
is_high w n h = ltb-false n (2 ^ (w - 1)) (not_true (nat_lt n (2 ^ (w - 1))) h)
  where
    not_true : (b : Bool) → not b ≡ true → b ≡ false
    not_true true e = cc
    not_true false e = refl

pub is_low : (w n : ℕ) → not (nat_lt n (2 ^ (w - 1))) ≡ false → n < 2 ^ (w - 1)
is_low w n h = ltb-true n (2 ^ (w - 1)) (not_false (nat_lt n (2 ^ (w - 1))) h)
  where
    not_false : (b : Bool) → not b ≡ false → b ≡ true
    not_false true e = refl
    not_false false e = cc

pub abs_below : (w n : ℕ) → n < 2 ^ w → unsigned_abs (signed w n) < 2 ^ w
abs_below w n l = elim (cases_lt n (2 ^ (w - 1))) [
  | inl m ↦ rw (signed_low w n m) l
  | inr m ↦ let p = pow_pos (w - 1) in rw (signed_high w n m l) (omega (arith, p, m, l))
]

beq_same : (x y : Bool) → beq x y ≡ true → x ≡ y
beq_same true true h = refl
beq_same false false h = refl
beq_same true false h = cc
beq_same false true h = cc

pub quotient_alike : (w a b : ℕ) → a < 2 ^ w → b < 2 ^ w → beq (not (nat_lt a (2 ^ (w - 1)))) (not (nat_lt b (2 ^ (w - 1)))) ≡ true →
    bits_of w (int_div (signed w a) (signed w b)) ≡ unsigned_abs (signed w a) / unsigned_abs (signed w b)
quotient_alike w a b la lb e =
    let same = sign_is w a la ∙ beq_same _ _ e ∙ sym (sign_is w b lb) in
    let low = div-le_self (unsigned_abs (signed w a)) (unsigned_abs (signed w b)) in
    let few = abs_below w a la in
    ap (bits_of w) (div_alike (signed w a) (signed w b) same) ∙ bits_pos w (unsigned_abs (signed w a) / unsigned_abs (signed w b)) (omega (arith, low, few))

pub remainder_positive : (w a b : ℕ) → a < 2 ^ w → not (nat_lt a (2 ^ (w - 1))) ≡ false →
    bits_of w (int_rem (signed w a) (signed w b)) ≡ unsigned_abs (signed w a) % unsigned_abs (signed w b)
remainder_positive w a b la e =
    let low = mod-le (unsigned_abs (signed w a)) (unsigned_abs (signed w b)) in
    let few = abs_below w a la in
    ap (bits_of w) (rem_positive (signed w a) (signed w b) (sign_is w a la ∙ e)) ∙ bits_pos w (unsigned_abs (signed w a) % unsigned_abs (signed w b)) (omega (arith, low, few))

pub shifted_high : (w a m : ℕ) → 2 ^ (w - 1) ≤ a → a < 2 ^ w → bits_of w (shr_z (signed w a) m) ≡ 2 ^ w - 1 - (2 ^ w - 1 - a) / m
shifted_high w a m l h =
    let low = div-le_self (2 ^ w - 1 - a) m in
    ap (λ z. bits_of w (shr_z z m)) (signed_high w a l h) ∙ bits_negsuc w ((2 ^ w - 1 - a) / m) (omega (arith, low, h))

pub extended_high : (from to n : ℕ) → 2 ^ (from - 1) ≤ n → n < 2 ^ from → from ≤ to → bits_of to (signed from n) ≡ 2 ^ to - 1 - (2 ^ from - 1 - n)
extended_high from to n l h up =
    let more = pow_up from to up in
    ap (bits_of to) (signed_high from n l h) ∙ bits_negsuc to (2 ^ from - 1 - n) (omega (arith, more, h))

pub extended_low : (from to n : ℕ) → n < 2 ^ (from - 1) → n < 2 ^ from → from ≤ to → bits_of to (signed from n) ≡ n
extended_low from to n l h up =
    let more = pow_up from to up in
    ap (bits_of to) (signed_low from n l) ∙ bits_pos to n (omega (arith, more, h))
