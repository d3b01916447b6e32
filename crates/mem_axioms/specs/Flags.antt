-- Flags that say which earlier events happen before each event of a log: for each event, oldest first, one flag for each
-- number. A number that has no flag has the flag false. No clause of a public call speaks of them.
use Rattle.std.specs.Prelude.{◌≡◌, ℕ, ◌<◌, Bool, false, List, [], length, slice_index_or}
use Rattle.mem_axioms.specs.HappensBefore.{happens_before}
use Rattle.mem_axioms.specs.declared.types.Rule.{Rule}
use Rattle.mem_axioms.specs.declared.types.Event.{Event}

-- the flag of number i in one row
abbrev pub flag : List Bool → ℕ → Bool
flag row i = slice_index_or row i false

pub record AreRowsOf (rule : Rule) (log : List Event) (rows : List (List Bool)) : Type 0 where
  pub size : length rows ≡ length log
  pub right : (k i : ℕ) → k < length log → flag (slice_index_or rows k []) i ≡ happens_before rule log i k
