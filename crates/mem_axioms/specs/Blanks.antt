-- Blank rows of flags, kept for events to come. No clause of a public call speaks of them.
use Rattle.std.specs.Prelude.{◌≡◌, ℕ, ◌+◌, ◌<◌, ◌≤◌, Bool, false, List, [], length, slice_index_or}
use Rattle.mem_axioms.specs.Flags.{flag}

-- there are as many as events to come, each with a flag for each event before the last of those
pub record AreBlanks (blanks : List (List Bool)) (events room : ℕ) : Type 0 where
  pub enough : room ≤ length blanks
  pub long : (k : ℕ) → k < length blanks → events + room ≤ length (slice_index_or blanks k [])
  pub blank : (k i : ℕ) → flag (slice_index_or blanks k []) i ≡ false
