-- The list of the threads that hold a stack, one thread longer.
use Rattle.std.specs.Prelude.{◌≡◌, ℕ, suc, ◌+◌, ◌<◌, true, false, List, [], ◌∷◌, ◌++◌, Option, Some, None, is_some, length, slice_get, refl}
use Rattle.std.proofs.Common.{◌∙◌, ap, arith, take, get_or}
use Rattle.std.proofs.lemmas.List.{take_more, length-take-le}
use Rattle.std.proofs.lemmas.Option.{slice_get_within, get_or_from_slice_get, slice_get-get_or}
use Rattle.mu_values.specs.declared.scalars.Scalar.{Scalar}
use Rattle.stacks.specs.Stacks.{Bound}
use Rattle.mu_threads.specs.Threads.{there}
use Rattle.mu_model.specs.Step.{threads_from}
use Rattle.seats.specs.Kept.{held_from, threads_seen}

more : (k : ℕ) (bs : List (Option Bound)) (b : Bound) → held_from k (bs ++ Some b ∷ []) ≡ held_from k bs ++ (k + length bs) ∷ []
more k [] b = let e : k + 0 ≡ k = omega arith in rw e refl
more k (None ∷ bs) b = let e : suc k + length bs ≡ k + length (None ∷ bs) = omega arith in more (suc k) bs b ∙ ap (λ n. held_from (suc k) bs ++ n ∷ []) e
more k (Some x ∷ bs) b = let e : suc k + length bs ≡ k + length (Some x ∷ bs) = omega arith in ap (λ l. k ∷ l) (more (suc k) bs b ∙ ap (λ n. held_from (suc k) bs ++ n ∷ []) e)

more_none : (k : ℕ) (bs : List (Option Bound)) → held_from k (bs ++ None ∷ []) ≡ held_from k bs
more_none k [] = refl
more_none k (None ∷ bs) = more_none (suc k) bs
more_none k (Some x ∷ bs) = ap (λ l. k ∷ l) (more_none (suc k) bs)

taken : (bs : List (Option Bound)) (n : ℕ) (b : Option Bound) → slice_get bs n ≡ Some b → take (n + 1) bs ≡ take n bs ++ b ∷ []
taken bs n b at =
    let one : take (n + 1) bs ≡ take n bs ++ get_or bs n b ∷ [] = take_more bs n b (slice_get_within bs n b at) in
    one ∙ ap (λ x. take n bs ++ x ∷ []) (get_or_from_slice_get bs n b b at)

at_end : (bs : List (Option Bound)) (n : ℕ) (o : Option (Option Bound)) → n < length bs → slice_get bs n ≡ o → is_some (there o) ≡ true → held_from 0 (take (n + 1) bs) ≡ held_from 0 (take n bs) ++ n ∷ []
at_end bs n None h e r = cc
at_end bs n (Some None) h e r = cc
at_end bs n (Some (Some b)) h e r =
    let many : 0 + length (take n bs) ≡ n = omega (arith, length-take-le n bs (omega (arith, h)), h) in
    rw (taken bs n (Some b) e) (more 0 (take n bs) b ∙ ap (λ k. held_from 0 (take n bs) ++ k ∷ []) many)

not_at_end : (bs : List (Option Bound)) (n : ℕ) (o : Option (Option Bound)) → n < length bs → slice_get bs n ≡ o → is_some (there o) ≡ false → held_from 0 (take (n + 1) bs) ≡ held_from 0 (take n bs)
not_at_end bs n None h e r = let there : slice_get bs n ≡ Some (get_or bs n None) = slice_get-get_or bs n None h in cc
not_at_end bs n (Some None) h e r = rw (taken bs n None e) (more_none 0 (take n bs))
not_at_end bs n (Some (Some b)) h e r = cc

pub held_next : (bs : List (Option Bound)) (n : ℕ) → n < length bs → is_some (there (slice_get bs n)) ≡ true → held_from 0 (take (n + 1) bs) ≡ held_from 0 (take n bs) ++ n ∷ []
held_next bs n h r = at_end bs n (slice_get bs n) h refl r

pub free_next : (bs : List (Option Bound)) (n : ℕ) → n < length bs → is_some (there (slice_get bs n)) ≡ false → held_from 0 (take (n + 1) bs) ≡ held_from 0 (take n bs)
free_next bs n h r = not_at_end bs n (slice_get bs n) h refl r

pub ruleset listing = (held_next, free_next)

pub held_is_left : (k : ℕ) (bs : List (Option Bound)) (owns : List Scalar) → length owns ≡ length bs → held_from k bs ≡ threads_from k (threads_seen bs owns)
held_is_left k [] owns e = refl
held_is_left k (b ∷ bs) [] e = absurd (omega (arith, e))
held_is_left k (None ∷ bs) (o ∷ owns) e = held_is_left (suc k) bs owns (omega (arith, e))
held_is_left k (Some b ∷ bs) (o ∷ owns) e = ap (λ is. k ∷ is) (held_is_left (suc k) bs owns (omega (arith, e)))
