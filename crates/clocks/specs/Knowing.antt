-- What a clock knows, where there may be none.
use Rattle.std.specs.Prelude.{ℕ, List, slice_index, Option, Some, None}

-- What is known by a clock, if there is one. Without one nothing is.
abbrev pub known_by : Option (List ℕ) → ℕ → ℕ
known_by None u = 0
known_by (Some clock) u = slice_index clock u
