-- Signed integers.
use Rattle.std.proofs.Common.{◌≡◌, ℕ, zero, suc, ◌-◌, ◌*◌, ◌^◌, ◌≤◌, arith}
use Rattle.std.proofs.Math.Nat.{pow-succ'}
use Rattle.std.proofs.Math.Pow.{pow_mono}

-- the integers of some bits are twice those of one fewer
pub two_halves : (w : ℕ) → 1 ≤ w → 2 ^ w ≡ 2 * 2 ^ (w - 1)
two_halves zero h = absurd (omega arith)
two_halves (suc w) h = let e : suc w - 1 ≡ w = omega arith in rw e (pow-succ' 2 w)

pub half_within : (w : ℕ) → w ≤ 128 → 2 ^ (w - 1) ≤ 2 ^ 127
half_within w h = pow_mono {i = w - 1} {j = 127} (omega arith)

pub ruleset halves = (two_halves, half_within)
