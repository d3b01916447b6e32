-- The runs after the newest position was merged into them.
use Rattle.std.proofs.Common.{◌≡◌, ℕ, ◌+◌, ◌≤◌, List, length, take, sym, subst, arith}
use Rattle.mu_values.specs.declared.scalars.Scalar.{Scalar}
use Rattle.write_history.specs.ByValue.{IsRun, AreRuns, BeforeSettling}
use Rattle.write_history.specs.declared.runs.Starts.{Starts}
use Rattle.write_history.proofs.Merging.{run-kept, run-none}

-- the positions from n on were merged into one run
pub record Merged (values : List Scalar) (old new : List ℕ) (n : ℕ) : Type 0 where
  pub run : IsRun values new n (length new)
  pub kept : take n new ≡ take n old
  pub size : length new ≡ length old

below : (values : List Scalar) (old new : List ℕ) (n start end : ℕ) → Merged values old new n → end ≤ n → IsRun values old start end → IsRun values new start end
below values old new n start end m l h = run-kept values old new n start end m.kept l h

module _ (values : List Scalar) (starts : Starts) (a b : List ℕ) (h : BeforeSettling values a starts) (m : Merged values a b starts.fourth) where
  pub settled-fourth : length b ≤ starts.fourth + 32 → AreRuns values b starts
  settled-fourth l = let x = h.second in let y = h.third in let z = h.fourth in let s = m.size in record {
    second = x;
    third = y;
    fourth = omega (arith, z, s);
    first_run = below values a b starts.fourth 0 starts.second m (omega arith) h.first_run;
    second_run = below values a b starts.fourth starts.second starts.third m y h.second_run;
    third_run = below values a b starts.fourth starts.third starts.fourth m (omega arith) h.third_run;
    fourth_run = m.run;
    second_short = h.second_short;
    third_short = h.third_short;
    fourth_short = l;
  }

  -- the third run and the fourth, before they are merged
  pub third-before : IsRun values b starts.third starts.fourth
  third-before = below values a b starts.fourth starts.third starts.fourth m (omega arith) h.third_run

  module _ (c : List ℕ) (k : Merged values b c starts.third) (n : ℕ) (e : n ≡ length c) where
    pub settled-third : n ≤ starts.third + 1024 → AreRuns values c (record { second = starts.second; third = starts.third; fourth = n })
    settled-third l = let x = h.second in let y = h.third in let z = h.fourth in let s = m.size in let t = k.size in record {
      second = x;
      third = omega (arith, y, z, s, t, e);
      fourth = omega (arith, e);
      first_run = below values b c starts.third 0 starts.second k x (below values a b starts.fourth 0 starts.second m (omega arith) h.first_run);
      second_run = below values b c starts.third starts.second starts.third k (omega arith) (below values a b starts.fourth starts.second starts.third m y h.second_run);
      third_run = subst (λ i. IsRun values c starts.third i) (sym e) k.run;
      fourth_run = subst (λ i. IsRun values c i (length c)) (sym e) (run-none values c (length c));
      second_short = h.second_short;
      third_short = l;
      fourth_short = omega (arith, e);
    }

    pub second-before : IsRun values c starts.second starts.third
    second-before = let y = h.third in below values b c starts.third starts.second starts.third k (omega arith) (below values a b starts.fourth starts.second starts.third m y h.second_run)

    module _ (d : List ℕ) (j : Merged values c d starts.second) (f : n ≡ length d) where
      pub first-before : IsRun values d 0 starts.second
      first-before = let x = h.second in let y = h.third in below values c d starts.second 0 starts.second j (omega arith) (below values b c starts.third 0 starts.second k x (below values a b starts.fourth 0 starts.second m (omega (arith, x, y)) h.first_run))

      pub settled-second : n ≤ starts.second + 32768 → AreRuns values d (record { second = starts.second; third = n; fourth = n })
      settled-second l = let x = h.second in let y = h.third in let z = h.fourth in let s = m.size in let t = k.size in record {
        second = omega (arith, x, y, z, s, t, e);
        third = omega arith;
        fourth = omega (arith, f);
        first_run = first-before;
        second_run = subst (λ i. IsRun values d starts.second i) (sym f) j.run;
        third_run = run-none values d n;
        fourth_run = subst (λ i. IsRun values d i (length d)) (sym f) (run-none values d (length d));
        second_short = l;
        third_short = omega arith;
        fourth_short = omega (arith, f);
      }

      pub settled-first : (g : List ℕ) → Merged values d g 0 → n ≡ length g → AreRuns values g (record { second = n; third = n; fourth = n })
      settled-first g i w = record {
        second = omega arith;
        third = omega arith;
        fourth = omega (arith, w);
        first_run = subst (λ q. IsRun values g 0 q) (sym w) i.run;
        second_run = run-none values g n;
        third_run = run-none values g n;
        fourth_run = subst (λ q. IsRun values g q (length g)) (sym w) (run-none values g (length g));
        second_short = omega arith;
        third_short = omega arith;
        fourth_short = omega (arith, w);
      }
