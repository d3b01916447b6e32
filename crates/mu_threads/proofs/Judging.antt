-- Runs that are judged one after another.
use Rattle.std.specs.Prelude.{◌≡◌, ℕ, ◌≤◌, false, List, [], ◌∷◌, ◌++◌, Option, Some, None, length, refl}
use Rattle.std.proofs.Common.{drop, append_assoc}
use Rattle.std.proofs.Math.ListN.{drop_of_length-le}
use Rattle.std.specs.Str.Parse.{digits_value}
use Rattle.demands.specs.declared.fault.Fault.{Fault}
use Rattle.demands.specs.Demands.{first_unmet}
use Rattle.mu_threads.specs.declared.reading.ScheduleKind.{ScheduleKind}
use Rattle.mu_threads.specs.ScheduleTexts.{Run, runs_from, run_demands, runs_demands, numbers}

-- the first run meets its demands: the first fault is that of the others
pub next_met : (rs rest : List Run) (r : Run) → rs ≡ r ∷ rest → first_unmet (run_demands r) ≡ None → first_unmet (runs_demands rs) ≡ first_unmet (runs_demands rest)
next_met rs rest r e met = rw (e, met) refl

-- it does not: it is the first fault
pub next_unmet : (rs rest : List Run) (r : Run) (fault : Fault ScheduleKind) → rs ≡ r ∷ rest → first_unmet (run_demands r) ≡ Some fault → first_unmet (runs_demands rs) ≡ Some fault
next_unmet rs rest r fault e unmet = rw (e, unmet) refl

pub next_number : (rs rest : List Run) (r : Run) (ns : List ℕ) → rs ≡ r ∷ rest → ns ++ numbers rs ≡ (ns ++ digits_value 10 r.bytes ∷ []) ++ numbers rest
next_number rs rest r ns e = rw (e, append_assoc) refl

-- behind the last byte there are no runs
pub no_more : (bytes : List ℕ) (at : ℕ) → length bytes ≤ at → runs_from false at (drop at bytes) ≡ []
no_more bytes at h = rw (drop_of_length-le bytes h) refl

pub ruleset judging = (next_met, next_unmet, next_number, no_more)
