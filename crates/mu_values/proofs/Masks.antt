-- Masks of low bits, and what is left of a number in 128 bits.
use Rattle.std.proofs.Common.{◌≡◌, ℕ, zero, suc, ◌+◌, ◌-◌, ◌*◌, ◌/◌, ◌%◌, ◌^◌, ◌<◌, ◌≤◌, sym, ap, ◌∙◌, suc-mul, arith}
use Rattle.std.proofs.lemmas.Nat.{pow_pos, pow-add, shr_high, mod_low, mod-pow-add, mod_below}

-- 2^(w+k) - 1 without its k low bits
ones_shifted : (w k : ℕ) → (2 ^ (w + k) - 1) / 2 ^ k ≡ 2 ^ w - 1
ones_shifted w k =
    let one = pow_pos k in
    let many = pow_pos w in
    let parts : (2 ^ w - 1) * 2 ^ k + (2 ^ k - 1) ≡ 2 ^ w * 2 ^ k - 1 = split (2 ^ w) (2 ^ k) many one in
    ap (λ n. (n - 1) / 2 ^ k) (pow-add 2 w k) ∙ ap (λ n. n / 2 ^ k) (sym parts) ∙ shr_high (2 ^ w - 1) k (2 ^ k - 1) (omega (arith, one))
  where
    split : (a b : ℕ) → 0 < a → 0 < b → (a - 1) * b + (b - 1) ≡ a * b - 1
    split zero b p q = absurd (omega (arith, p))
    split (suc a) b p q =
        let less : suc a - 1 ≡ a = omega arith in
        rw (less, suc-mul a b) (omega (arith, q))

pub all_ones : (w : ℕ) → w ≤ 128 → (2 ^ 128 - 1) / 2 ^ (128 - w) ≡ 2 ^ w - 1
all_ones w l =
    let whole : w + (128 - w) ≡ 128 = omega (arith, l) in
    ap (λ n. (2 ^ n - 1) / 2 ^ (128 - w)) (sym whole) ∙ ones_shifted w (128 - w)

-- the low bits of a number are those of what is left of it in 128 bits
pub low_of_wrapped : (w n : ℕ) → w ≤ 128 → n % 2 ^ 128 % 2 ^ w ≡ n % 2 ^ w
low_of_wrapped w n l =
    let whole : 128 - w + w ≡ 128 = omega (arith, l) in
    ap (λ (m : ℕ). n % 2 ^ m % 2 ^ w) (sym whole) ∙ ap (λ r. r % 2 ^ w) (mod-pow-add n (128 - w) w)
    ∙ mod_low (n / 2 ^ w % 2 ^ (128 - w)) w (n % 2 ^ w) (mod_below n (2 ^ w) (pow_pos w))
