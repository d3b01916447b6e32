-- Leaves that repeat, so that few of them tell all.
-- Contracts inside the crate cite this; no public one does, so no reader of those needs it.
use Rattle.std.specs.Prelude.{◌≡◌, ◌⊎◌, ℕ, ◌+◌, ◌%◌, ◌<◌, ◌≤◌, min, List, [], ◌∷◌, length, slice_index, slice_range}
use Rattle.typed_heap.specs.declared.objects.Extent.{Extent}

-- behind the first so many leaves, each is the same as the one that stands a run before it; only where none is behind them may runs be empty
pub record Repeats (fixed run : ℕ) (cs : List ℕ) : Type 0 where
  pub again : (k : ℕ) → fixed ≤ k → k + run < length cs → slice_index cs k ≡ slice_index cs (k + run)
  pub some : fixed < length cs → 0 < run

-- So many of the first leaves tell whether all are whole runs of `many` others: those that do not repeat, one run of theirs, and, where
-- that is no whole number of runs of the others, one of the others.
pub record Enough (cs : List ℕ) (many fixed run known : ℕ) : Type 0 where
  pub own : min (length cs) (fixed + run) ≤ known
  pub whole : (run % many ≡ 0) ⊎ (min (length cs) (fixed + run + many) ≤ known)

-- the leaves of all objects repeat, where the first object begins at `from`
abbrev pub AllRepeat : ℕ → List Extent → List ℕ → Type 0
AllRepeat from [] cs = Unit {0}
AllRepeat from (e ∷ es) cs = Repeats e.fixed e.run (slice_range cs from e.end) × AllRepeat e.end es cs
