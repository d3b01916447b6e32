-- What look-ups in the accesses of a cell ask and cost.
use Rattle.std.specs.Prelude.{◌≡◌, ◌⊎◌, ℕ, ◌<◌, ◌^◌, List, [], length, Contains}
use Rattle.write_history.specs.declared.access_index.Entry.{Entry}
use Rattle.view_parts.specs.declared.families.Family.{Family}
use Rattle.view_parts.specs.Touched.{entries_at}
use Rattle.view_parts.specs.declared.cell.CellViews.{CellViews}

-- only threads on the list have entries
abbrev pub IsMade : List ℕ → (ℕ → List Entry) → Type 0
IsMade threads entries = (u : ℕ) → Contains threads u ⊎ (entries u ≡ [])

-- each thread has fewer than 2^d entries
abbrev pub IsFew : ℕ → (ℕ → List Entry) → Type 0
IsFew d entries = (u : ℕ) → length (entries u) < 2 ^ d

abbrev pub AllMade : List ℕ → CellViews → Type 0
AllMade threads kept = (family : Family) → IsMade threads (entries_at kept.accesses family)

abbrev pub AllFew : ℕ → CellViews → Type 0
AllFew d kept = (family : Family) → IsFew d (entries_at kept.accesses family)
