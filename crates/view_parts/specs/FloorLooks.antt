-- What the look-ups for a floor find.
use Rattle.std.specs.Prelude.{ℕ, ◌≡◌, ◌≤◌, max, List}
use Rattle.write_history.specs.declared.access_index.Entry.{Entry}
use Rattle.view_parts.specs.LookUps.{position_known}
use Rattle.view_parts.specs.declared.families.Family.TheVariants.{Any, SeqCst}
use Rattle.view_parts.specs.Touched.{entries_at}
use Rattle.view_parts.specs.declared.cell.CellViews.{CellViews}

-- the greatest position that the clock knows, or 0
pub record IsFound (entries : ℕ → List Entry) (clock : List ℕ) (found : ℕ) : Type 0 where
  pub above : (u : ℕ) → position_known entries clock u ≤ found
  pub least : (p : ℕ) → ((u : ℕ) → position_known entries clock u ≤ p) → found ≤ p

-- The greatest of those of three kinds: the accesses that the thread knows, the SEQ_CST ones below a number, and the
-- accesses that earlier SEQ_CST fences knew.
pub record FoundFloor (kept : CellViews) (known below before : List ℕ) (found : ℕ) : Type 0 where
  pub first : ℕ
  pub second : ℕ
  pub third : ℕ
  pub of_first : IsFound (entries_at kept.accesses Any) known first
  pub of_second : IsFound (entries_at kept.accesses SeqCst) below second
  pub of_third : IsFound (entries_at kept.accesses Any) before third
  pub is : found ≡ max first (max second third)
