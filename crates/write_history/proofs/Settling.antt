-- Runs with one more position, and runs that are merged.
use Rattle.std.proofs.Common.{◌≡◌, ℕ, ◌+◌, ◌-◌, ◌<◌, ◌≤◌, List, [], ◌∷◌, ◌++◌, length, length-append, slice_index, refl, sym, ap, subst, ◌∙◌, inl, inr, arith}
use Rattle.std.proofs.lemmas.Bool.{cases_lt}
use Rattle.std.proofs.lemmas.List.{get_or_append_left, get_or_at, take-append-le, take_at}
use Rattle.mu_values.specs.declared.scalars.Scalar.{Scalar}
use Rattle.mu_values.specs.declared.scalars.Scalar.TheVariants.{Null}
use Rattle.write_history.specs.ByValue.{value_in, ComesBefore, IsRun, AreRuns, BeforeSettling}
use Rattle.write_history.specs.Occurrences.{occurrences}
use Rattle.write_history.specs.Searching.{AreRanks}
use Rattle.write_history.specs.declared.runs.Starts.{Starts}
use Rattle.write_history.proofs.Merging.{run-kept, pushed-old, pushed-new}

value-kept : (values : List Scalar) (y : Scalar) (p : ℕ) → p < length values → value_in (values ++ y ∷ []) p ≡ value_in values p
value-kept values y p l = get_or_append_left values (y ∷ []) Null p l

-- a run does not read later values
run-later : (values : List Scalar) (y : Scalar) (order : List ℕ) (start end : ℕ) → end ≤ length values → IsRun values order start end → IsRun (values ++ y ∷ []) order start end
run-later values y order start end l h = record {
  ordered = λ i j a b c. by (slice_index order i) (slice_index order j) (let w = (h.within i a (omega (arith, b, c))).1 in omega (arith, w, l)) (let w = (h.within j (omega (arith, a, b)) c).1 in omega (arith, w, l)) (h.ordered i j a b c);
  within = h.within;
  all = h.all;
}
  where
    by : (p q : ℕ) → p < length values → q < length values → ComesBefore values p q → ComesBefore (values ++ y ∷ []) p q
    by p q m n c = rw (value-kept values y p m, value-kept values y q n) c

run-more : (values : List Scalar) (y : Scalar) (order : List ℕ) (x start end : ℕ) → end ≤ length values → end ≤ length order → IsRun values order start end → IsRun (values ++ y ∷ []) (order ++ x ∷ []) start end
run-more values y order x start end l m h = run-later values y (order ++ x ∷ []) start end l (run-kept values order (order ++ x ∷ []) (length order) start end (take-append-le (length order) order (x ∷ []) (omega arith)) m h)

-- the newest position by itself
run-newest : (values : List Scalar) (order : List ℕ) (x n : ℕ) → n ≡ length order → x ≡ n → IsRun values (order ++ x ∷ []) n (n + 1)
run-newest values order x n e f = record {
  ordered = λ i j a b c. absurd (omega arith);
  within = λ i a b. (let s : i ≡ n = omega arith in let v = pushed-new order x i (s ∙ e) in (omega (arith, v, f), omega (arith, v, f)));
  all = λ q a b. (n, omega arith, omega arith, pushed-new order x n e ∙ (let s : x ≡ q = omega (arith, a, b, f) in s));
}

-- the runs with one more position
pub runs-pushed : (values : List Scalar) (y : Scalar) (order : List ℕ) (starts : Starts) (x : ℕ) → AreRuns values order starts → length order ≡ length values → x ≡ length order → BeforeSettling (values ++ y ∷ []) (order ++ x ∷ []) starts
runs-pushed values y order starts x h s e =
    let a = h.second in let b = h.third in let c = h.fourth in
    let n : length (order ++ x ∷ []) ≡ length order + 1 = length-append order (x ∷ []) in
    let last : length (order ++ x ∷ []) - 1 ≡ length order = omega (arith, n) in
    record {
      second = a;
      third = b;
      fourth = omega (arith, n, c);
      first_run = run-more values y order x 0 starts.second (omega (arith, s)) (omega arith) h.first_run;
      second_run = run-more values y order x starts.second starts.third (omega (arith, s)) (omega arith) h.second_run;
      third_run = run-more values y order x starts.third starts.fourth (omega (arith, s)) (omega arith) h.third_run;
      fourth_run = subst (λ k. IsRun (values ++ y ∷ []) (order ++ x ∷ []) starts.fourth k) (sym last) (run-more values y order x starts.fourth (length order) (omega (arith, s)) (omega arith) h.fourth_run);
      newest_run = subst (λ k. IsRun (values ++ y ∷ []) (order ++ x ∷ []) k (length (order ++ x ∷ []))) (sym last) (subst (λ k. IsRun (values ++ y ∷ []) (order ++ x ∷ []) (length order) k) (sym n) (run-newest (values ++ y ∷ []) order x (length order) refl e));
      second_short = h.second_short;
      third_short = h.third_short;
    }

-- the ranks with one more
pub ranks-pushed : (values : List Scalar) (y : Scalar) (ranks : List ℕ) (rank : ℕ) → AreRanks values ranks → rank ≡ occurrences y values → AreRanks (values ++ y ∷ []) (ranks ++ rank ∷ [])
ranks-pushed values y ranks rank h e = record {
  size = length-append ranks (rank ∷ []) ∙ (ap (λ (k : ℕ). k + 1) h.size ∙ sym (length-append values (y ∷ [])));
  rank = λ p l. elim (cases_lt p (length values)) [
    | inl o ↦ (let s = h.size in pushed-old ranks rank p (omega (arith, s, o)) ∙ (h.rank p o ∙ sym (both (value-kept values y p o) (take-append-le p values (y ∷ []) (omega (arith, o))))))
    | inr o ↦ (let n = length-append values (y ∷ []) in let s = h.size in let w : p ≡ length values = omega (arith, l, o, n) in
        pushed-new ranks rank p (w ∙ sym s) ∙ (e ∙ sym (both (newest p w) (take_at values (y ∷ []) p (sym w)))))
  ];
}
  where
    both : {v w : Scalar} {xs ys : List Scalar} → v ≡ w → xs ≡ ys → occurrences v xs ≡ occurrences w ys
    both {v} {w} {xs} {ys} p q = ap (λ (u : Scalar). occurrences u xs) p ∙ ap (occurrences w) q

    newest : (p : ℕ) → p ≡ length values → value_in (values ++ y ∷ []) p ≡ y
    newest p w = get_or_at values y [] Null p (sym w)
