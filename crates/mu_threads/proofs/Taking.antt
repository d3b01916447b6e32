-- Taking a number of a schedule.
use Rattle.std.specs.Prelude.{◌≡◌, ℕ, ◌+◌, ◌<◌, false, nat_le, List, length, refl}
use Rattle.std.proofs.Common.{arith, drop}
use Rattle.std.proofs.lemmas.List.{drop_more}
use Rattle.mu_threads.specs.Picks.{pick}

-- a pick among two options or more leaves what stands behind the next number
pub one_taken : (ns : List ℕ) (i n : ℕ) → 1 < n → i < length ns → drop (i + 1) ns ≡ (pick n (drop i ns)).1
one_taken ns i n many there =
    let several : nat_le n 1 ≡ false = grind arith in
    rw (drop_more ns i 0 there, several) refl
