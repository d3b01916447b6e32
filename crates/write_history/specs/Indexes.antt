-- What an index of accesses answers. It lists them newest first, each with its number and its position.
use Rattle.std.specs.Prelude.{ℕ, ◌<◌, if◌then◌else◌, nat_lt, nat_le, All, List, [], ◌∷◌, Option, Some, None}
use Rattle.write_history.specs.declared.access_index.Entry.{Entry}

-- what stands for an entry past the end
abbrev pub no_entry : Entry
no_entry = record { event = 0; position = 0 }

-- Each access has a number above those of all older ones.
abbrev pub Rising : List Entry → Type 0
Rising [] = Unit
Rising (entry ∷ older) = All (λ other. other.event < entry.event) older × Rising older

-- the position of the last access whose number is at most `upto`
abbrev pub last_position : ℕ → List Entry → Option ℕ
last_position upto [] = None
last_position upto (entry ∷ older) = if nat_le entry.event upto then Some entry.position else last_position upto older

-- the number of the first access whose number is greater than `upto`
abbrev pub first_after : ℕ → List Entry → Option ℕ
first_after upto [] = None
first_after upto (entry ∷ older) = elim (first_after upto older) [
  | Some event ↦ Some event
  | None ↦ if nat_lt upto entry.event then Some entry.event else None
]
