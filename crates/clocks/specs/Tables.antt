-- Tables of clocks by number, and clocks of threads.
use Rattle.std.specs.Prelude.{ℕ, List, [], unwrap_or, slice_index, slice_index_or, nat_eq}
use Rattle.std.specs.Map.{lookup}

-- the clocks that are kept, each with its number, and how many more have room
pub record Table : Type 0 where
  pub entries : List (ℕ × List ℕ)
  pub spare : ℕ

-- the clock under a number; nothing where none is kept
abbrev pub table_at : Table → ℕ → ℕ → ℕ
table_at table k u = slice_index (unwrap_or (lookup (nat_eq k) table.entries) []) u

-- the clock of a thread; nothing where there is none yet
abbrev pub row_at : List (List ℕ) → ℕ → ℕ → ℕ
row_at clocks t u = slice_index (slice_index_or clocks t []) u
