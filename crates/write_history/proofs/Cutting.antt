-- A run is cut by halves.
use Rattle.std.proofs.Common.{◌≡◌, ℕ, suc, ◌+◌, ◌-◌, ◌/◌, ◌^◌, ◌<◌, ◌≤◌, true, false, List, length, slice_index, refl, arith}
use Rattle.mu_values.specs.declared.scalars.Scalar.{Scalar}
use Rattle.write_history.specs.ByValue.{IsRun}
use Rattle.write_history.specs.Searching.{passes, IsCut}
use Rattle.write_history.specs.declared.finding.Sought.{Sought}
use Rattle.write_history.proofs.Search.{Halves, halves-more}
use Rattle.write_history.proofs.LastFound.{passed-down, not-passed-up}

-- where the search stands: the places below low are passed, and those from high on are not
pub record Cutting (values : List Scalar) (order : List ℕ) (sought : Sought) (start end low high begun now : ℕ) : Type 0 where
  pub from : start ≤ low
  pub ahead : low ≤ high
  pub to : high ≤ end
  pub below : (i : ℕ) → start ≤ i → i < low → passes values sought (slice_index order i) ≡ true
  pub above : (i : ℕ) → high ≤ i → i < end → passes values sought (slice_index order i) ≡ false
  pub halves : Halves (suc (end - start)) (high - low) begun now

pub cutting-begun : (values : List Scalar) (order : List ℕ) (sought : Sought) (start end now : ℕ) → start ≤ end → Cutting values order sought start end start end now now
cutting-begun values order sought start end now l = record {
  from = omega arith;
  ahead = l;
  to = omega arith;
  below = λ i a b. absurd (omega arith);
  above = λ i a b. absurd (omega arith);
  halves = λ d s. (d, omega arith, refl);
}

module _ (values : List Scalar) (order : List ℕ) (sought : Sought) (start end low high begun now now' : ℕ) (run : IsRun values order start end) (few : end ≤ length values)
    (h : Cutting values order sought start end low high begun now) (l : low < high) (s : now' ≡ now + 1) where
  middle : ℕ
  middle = low + (high - low) / 2

  pub cutting-up : passes values sought (slice_index order (low + (high - low) / 2)) ≡ true → Cutting values order sought start end (low + (high - low) / 2 + 1) high begun now'
  cutting-up p = let a = h.from in let b = h.to in record {
    from = omega arith;
    ahead = omega arith;
    to = b;
    below = λ i m n. passed-down values sought order start end run few i (low + (high - low) / 2) m (omega arith) (omega arith) p;
    above = h.above;
    halves = halves-more (suc (end - start)) (high - low) (high - (low + (high - low) / 2 + 1)) begun now now' h.halves (omega arith) (omega arith) s;
  }

  pub cutting-down : passes values sought (slice_index order (low + (high - low) / 2)) ≡ false → Cutting values order sought start end low (low + (high - low) / 2) begun now'
  cutting-down p = let a = h.from in let b = h.to in record {
    from = a;
    ahead = omega arith;
    to = omega arith;
    below = h.below;
    above = λ i m n. not-passed-up values sought order start end run few (low + (high - low) / 2) i (omega arith) m n p;
    halves = halves-more (suc (end - start)) (high - low) (low + (high - low) / 2 - low) begun now now' h.halves (omega arith) (omega arith) s;
  }

pub cutting-done : (values : List Scalar) (order : List ℕ) (sought : Sought) (start end low high begun now : ℕ) → Cutting values order sought start end low high begun now → high ≤ low → IsCut values order sought start end low
cutting-done values order sought start end low high begun now h l = let b = h.to in let c = h.ahead in record { from = h.from; to = omega arith; below = h.below; above = λ i m n. h.above i (omega arith) n }

pub cutting-cost : (values : List Scalar) (order : List ℕ) (sought : Sought) (start end low high begun now d : ℕ) → Cutting values order sought start end low high begun now → end - start < 2 ^ d → now ≤ begun + d
cutting-cost values order sought start end low high begun now d h l = let k = h.halves d (omega arith) in let e = k.2 in omega (arith, e)
