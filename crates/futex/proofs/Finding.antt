-- The waiter that is a thread, looked for from the oldest on.
use Rattle.std.specs.Prelude.{◌≡◌, ◌≢◌, ℕ, ◌+◌, ◌<◌, ◌≤◌, true, false, ◌==◌, List, ◌∷◌, Some, None, length, refl}
use Rattle.std.proofs.Common.{◌∙◌, sym, ap, arith, get_or, drop}
use Rattle.std.proofs.Math.ListN.{drop_of_length-le}
use Rattle.std.proofs.lemmas.List.{drop_more}
use Rattle.std.specs.List.{find}
use Rattle.futex.specs.declared.waiters.Waiter.{Waiter}
use Rattle.futex.specs.Waiting.{is_of}

from_place : (ws : List Waiter) (k : ℕ) (w : Waiter) → k < length ws → w ≡ get_or ws k w → drop k ws ≡ w ∷ drop (k + 1) ws
from_place ws k w h e = drop_more ws k w h ∙ sym (ap (λ x. x ∷ drop (k + 1) ws) e)

pub is_here : (i : ℕ) (ws : List Waiter) (k : ℕ) (w : Waiter) → k < length ws → w ≡ get_or ws k w → w.thread ≡ i → find (is_of i) (drop k ws) ≡ Some w
is_here i ws k w h e same =
    let t : (w.thread == i) ≡ true = grind arith in
    rw (from_place ws k w h e, t) refl

pub is_behind : (i : ℕ) (ws : List Waiter) (k : ℕ) (w : Waiter) → k < length ws → w ≡ get_or ws k w → w.thread ≢ i → find (is_of i) (drop k ws) ≡ find (is_of i) (drop (k + 1) ws)
is_behind i ws k w h e other =
    let t : (w.thread == i) ≡ false = grind arith in
    rw (from_place ws k w h e, t) refl

pub is_nowhere : (i : ℕ) (ws : List Waiter) (k : ℕ) → length ws ≤ k → find (is_of i) (drop k ws) ≡ None
is_nowhere i ws k h = rw (drop_of_length-le ws h) refl

pub ruleset finding = (is_here, is_behind, is_nowhere)
