-- The list of the threads that run, one thread longer.
use Rattle.std.specs.Prelude.{◌≡◌, ℕ, ◌+◌, ◌<◌, ◌≤◌, true, false, List, [], ◌∷◌, ◌++◌, Option, Some, None, length, slice_get, refl}
use Rattle.std.proofs.Common.{◌∙◌, ap, arith, take, get_or}
use Rattle.std.proofs.lemmas.List.{take_more, length-take-le}
use Rattle.std.proofs.lemmas.Option.{slice_get_within, get_or_from_slice_get, slice_get-get_or}
use Rattle.mu_threads.specs.declared.state.ThreadState.{ThreadState}
use Rattle.mu_threads.specs.declared.state.ThreadState.TheVariants.{Runs, Waits, Ended}
use Rattle.mu_threads.specs.Threads.{runnable_from}
use Rattle.mu_threads.specs.Kept.{is_running}

-- one more state
more_runs : (k : ℕ) (ss : List ThreadState) → runnable_from k (ss ++ Runs ∷ []) ≡ runnable_from k ss ++ (k + length ss) ∷ []
more_runs k [] = let e : k + 0 ≡ k = omega arith in rw e refl
more_runs k (Runs ∷ ss) = let e : k + 1 + length ss ≡ k + length (Runs ∷ ss) = omega arith in ap (λ l. k ∷ l) (more_runs (k + 1) ss ∙ ap (λ n. runnable_from (k + 1) ss ++ n ∷ []) e)
more_runs k (Waits ∷ ss) = let e : k + 1 + length ss ≡ k + length (Waits ∷ ss) = omega arith in more_runs (k + 1) ss ∙ ap (λ n. runnable_from (k + 1) ss ++ n ∷ []) e
more_runs k (Ended ∷ ss) = let e : k + 1 + length ss ≡ k + length (Ended ∷ ss) = omega arith in more_runs (k + 1) ss ∙ ap (λ n. runnable_from (k + 1) ss ++ n ∷ []) e

more_not : (k : ℕ) (ss : List ThreadState) (s : ThreadState) → is_running (Some s) ≡ false → runnable_from k (ss ++ s ∷ []) ≡ runnable_from k ss
more_not k [] Runs h = cc
more_not k [] Waits h = refl
more_not k [] Ended h = refl
more_not k (Runs ∷ ss) s h = ap (λ l. k ∷ l) (more_not (k + 1) ss s h)
more_not k (Waits ∷ ss) s h = more_not (k + 1) ss s h
more_not k (Ended ∷ ss) s h = more_not (k + 1) ss s h

taken : (ss : List ThreadState) (n : ℕ) (s : ThreadState) → slice_get ss n ≡ Some s → take (n + 1) ss ≡ take n ss ++ s ∷ []
taken ss n s at =
    let one : take (n + 1) ss ≡ take n ss ++ get_or ss n s ∷ [] = take_more ss n s (slice_get_within ss n s at) in
    one ∙ ap (λ x. take n ss ++ x ∷ []) (get_or_from_slice_get ss n s s at)

at_end : (ss : List ThreadState) (n : ℕ) (o : Option ThreadState) → n < length ss → slice_get ss n ≡ o → is_running o ≡ true → runnable_from 0 (take (n + 1) ss) ≡ runnable_from 0 (take n ss) ++ n ∷ []
at_end ss n None h e r = cc
at_end ss n (Some Waits) h e r = cc
at_end ss n (Some Ended) h e r = cc
at_end ss n (Some Runs) h e r =
    let many : 0 + length (take n ss) ≡ n = omega (arith, length-take-le n ss (omega (arith, h)), h) in
    rw (taken ss n Runs e) (more_runs 0 (take n ss) ∙ ap (λ k. runnable_from 0 (take n ss) ++ k ∷ []) many)

not_at_end : (ss : List ThreadState) (n : ℕ) (o : Option ThreadState) → n < length ss → slice_get ss n ≡ o → is_running o ≡ false → runnable_from 0 (take (n + 1) ss) ≡ runnable_from 0 (take n ss)
not_at_end ss n None h e r = let there : slice_get ss n ≡ Some (get_or ss n Runs) = slice_get-get_or ss n Runs h in cc
not_at_end ss n (Some s) h e r = rw (taken ss n s e) (more_not 0 (take n ss) s r)

pub runs_next : (ss : List ThreadState) (n : ℕ) → n < length ss → is_running (slice_get ss n) ≡ true → runnable_from 0 (take (n + 1) ss) ≡ runnable_from 0 (take n ss) ++ n ∷ []
runs_next ss n h r = at_end ss n (slice_get ss n) h refl r

pub waits_next : (ss : List ThreadState) (n : ℕ) → n < length ss → is_running (slice_get ss n) ≡ false → runnable_from 0 (take (n + 1) ss) ≡ runnable_from 0 (take n ss)
waits_next ss n h r = not_at_end ss n (slice_get ss n) h refl r

pub few : (k : ℕ) (ss : List ThreadState) → length (runnable_from k ss) ≤ length ss
few k [] = omega arith
few k (Runs ∷ ss) = omega (arith, few (k + 1) ss)
few k (Waits ∷ ss) = omega (arith, few (k + 1) ss)
few k (Ended ∷ ss) = omega (arith, few (k + 1) ss)

pub few_taken : (ss : List ThreadState) (n : ℕ) → n < length ss → length (runnable_from 0 (take n ss)) ≤ n
few_taken ss n h = omega (arith, few 0 (take n ss), length-take-le n ss (omega (arith, h)), h)

pub ruleset runnable = (runs_next, waits_next, few_taken)
