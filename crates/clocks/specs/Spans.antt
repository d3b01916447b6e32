-- Clocks in a list, each by its numbers for the first threads; those of the other threads are 0.
use Rattle.std.specs.Prelude.{ℕ, ◌≡◌, ◌+◌, ◌-◌, ◌<◌, ◌≤◌, nat_lt, if◌then◌else◌, List, ◌∷◌, length, slice_index, take, drop}

-- The numbers of a place are those from the end of the place before up to its own end. `spare` is how many more
-- clocks have room.
pub record Spans : Type 0 where
  pub ends : List ℕ
  pub numbers : List ℕ
  pub spare : ℕ

-- where the numbers of a place begin, by the ends: at 0 for place 0
abbrev pub begin_in : List ℕ → ℕ → ℕ
begin_in ends p = slice_index (0 ∷ ends) p

-- the number of a thread at a place, by the ends and the numbers; a place that is not there ends at 0
abbrev pub number_in : List ℕ → List ℕ → ℕ → ℕ → ℕ
number_in ends numbers p u = if nat_lt (begin_in ends p + u) (slice_index ends p) then slice_index numbers (begin_in ends p + u) else 0

-- where the numbers of a place begin
abbrev pub start_of : Spans → ℕ → ℕ
start_of s p = begin_in s.ends p

-- the number of a thread at a place; nothing is known at a place that is not there
abbrev pub span_at : Spans → ℕ → ℕ → ℕ
span_at s p u = number_in s.ends s.numbers p u

-- the numbers that are kept of a place
abbrev pub span_of : Spans → ℕ → List ℕ
span_of s p = take (slice_index s.ends p - begin_in s.ends p) (drop (begin_in s.ends p) s.numbers)

-- The ends rise, by at most 64 at each place, up to the number of the numbers.
pub record Laid (ends numbers : List ℕ) : Type 0 where
  pub rising : (p : ℕ) → p < length ends → begin_in ends p ≤ slice_index ends p
  pub narrow : (p : ℕ) → slice_index ends p ≤ begin_in ends p + 64
  pub inside : (p : ℕ) → slice_index ends p ≤ length numbers
  pub last : begin_in ends (length ends) ≡ length numbers
