-- Inputs and sinks in memory, as their callers see them.
use Rattle.std.specs.Prelude.{ℕ, List, Bool, ◌==◌}
use Rattle.std.specs.List.{list_any}
use Rattle.std.specs.FinMap as fin
use Rattle.mu_base.specs.Files.{Files}

-- the call with that number is one of those that fail
abbrev pub fails : List ℕ → ℕ → Bool
fails failing number = list_any (λ n. n == number) failing

-- files as a finite map; of two of one name the first counts
abbrev pub files_of : List (List ℕ × List ℕ) → Files
files_of files = fin.from_entries files

-- the files, each with its name; the numbers of the fetches that fail; how many fetches there were, a count that stops
-- at 2^64 - 1; how often fetches of each slot have failed
pub record Shelf : Type 0 where
  pub files : List (List ℕ × List ℕ)
  pub failing : List ℕ
  pub calls : ℕ
  pub faults : List ℕ

-- what was written; how much had been written after each whole piece; the numbers of the puts that fail; how many puts
-- there were and how often they failed, counts that stop at 2^64 - 1
pub record Page : Type 0 where
  pub bytes : List ℕ
  pub ends : List ℕ
  pub failing : List ℕ
  pub puts : ℕ
  pub faults : ℕ
