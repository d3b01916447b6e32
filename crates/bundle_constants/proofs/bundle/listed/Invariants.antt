use Rattle.std.proofs.Common.{◌≡◌, ℕ, ◌<◌, ◌≤◌, length, map}
use Rattle.mu_values.specs.Constants.{value_at}
use Rattle.checked_code.specs.ConstantValues.{told}
use Rattle.bundle_constants.proofs.bundle.listed.Given as goal

abbrev pub invariant-loop-n : goal.invariant-loop-n
invariant-loop-n l = record {
  count : length l.all ≡ l.n;
  values : (k : ℕ) → k < l.n → told (map (λ v. v.members) l.all) k ≡ value_at l.fn.made k;
  left : (k : ℕ) → l.n ≤ k → value_at l.made k ≡ value_at l.fn.made k;
}
