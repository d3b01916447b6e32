-- What is kept says what the log says. No clause of a public call speaks of it.
use Rattle.std.specs.Prelude.{◌≡◌, ℕ, suc, ◌<◌, Bool, true, false, ◌&&◌, ◌==◌, if◌then◌else◌, List, [], ◌∷◌, ◌++◌, length, slice_index, slice_index_or, Some}
use Rattle.mu_values.specs.declared.scalars.Scalar.{Scalar}
use Rattle.mu_values.specs.declared.scalars.Scalar.TheVariants.{Null}
use Rattle.mu_values.specs.declared.cells.CellId.{CellId}
use Rattle.mem_axioms.specs.Events.{accesses, modifies, is_modification, is_seq_cst_fence, value_of}
use Rattle.mem_axioms.specs.Logs.{event_at, newest}
use Rattle.mem_axioms.specs.declared.types.Rule.{Rule}
use Rattle.mem_axioms.specs.declared.types.Event.{Event}
use Rattle.clock_laws.specs.Clocks.{views}
use Rattle.clocks.specs.Tables.{table_at, row_at}
use Rattle.clocks.specs.Spans.{Spans}
use Rattle.view_parts.specs.CellClocks.{released_at, sequence_at, Named}
use Rattle.view_parts.specs.Indexed.{accesses_at, entries_by, entries_of, by_thread}
use Rattle.view_parts.specs.declared.families.Family.{Family}
use Rattle.view_parts.specs.Families.{belongs}
use Rattle.view_parts.specs.Touched.{entries_at}
use Rattle.view_parts.specs.declared.cell.CellViews.{CellViews}
use Rattle.view_parts.specs.declared.rows.Rows.{Rows}

-- The values of a cell by position, with NULL in the place of the initial scalar, which the objects have.
abbrev pub values_of : List Event → CellId → List Scalar
values_of [] cell = Null ∷ []
values_of (e ∷ past) cell = if modifies cell e then values_of past cell ++ value_of e ∷ [] else values_of past cell

-- the SEQ_CST fences by a thread
abbrev pub fence_by : ℕ → Event → Bool
fence_by u e = is_seq_cst_fence e && (u == e.thread)

-- The clocks of threads, stacks, wakes and fences are those along the log; a wake's and a fence's are kept under its number.
pub record RowsHold (rule : Rule) (log : List Event) (rows : Rows) : Type 0 where
  pub threads : (t u : ℕ) → row_at rows.threads t u ≡ (views rule log).thread t u
  pub left : (s u : ℕ) → table_at rows.left s u ≡ (views rule log).left s u
  pub fenced : (t u : ℕ) → row_at rows.fenced t u ≡ (views rule log).fenced t u
  pub pending : (t u : ℕ) → row_at rows.pending t u ≡ (views rule log).pending t u
  pub joined : (u : ℕ) → slice_index rows.joined u ≡ (views rule log).joined u
  pub wakes : (i u : ℕ) → table_at rows.wakes i u ≡ (views rule log).woke i u
  pub before : (a : ℕ) (e : Event) → event_at log a ≡ Some e → is_seq_cst_fence e ≡ true → (u : ℕ) → table_at rows.before a u ≡ (views rule log).before a u
  pub fences : (u : ℕ) → accesses_at rows.fences.items u ≡ entries_by (λ n e. n) (fence_by u) log

-- What is kept of a cell: its values and its accesses.
pub record CellHolds (log : List Event) (cell : CellId) (kept : CellViews) : Type 0 where
  pub values : kept.history.values ≡ values_of log cell
  pub accesses : (family : Family) (u : ℕ) → entries_at kept.accesses family u ≡ entries_of (by_thread (belongs family) cell u) log

-- The clocks of the positions of a cell, and of its sequences that go on.
pub record ClocksHold (rule : Rule) (log : List Event) (clocks : Spans) (cell : CellId) (kept : CellViews) : Type 0 where
  pub released : (p u : ℕ) → released_at clocks kept p u ≡ (views rule log).released cell p u
  pub positions : length kept.released.items ≡ suc (newest log cell)
  pub sequence : (t u : ℕ) → sequence_at clocks kept t u ≡ (views rule log).sequence cell t u
  pub named : Named clocks kept

-- no event accesses the cell
abbrev pub IsUntouched : List Event → CellId → Type 0
IsUntouched log cell = (i : ℕ) (e : Event) → event_at log i ≡ Some e → accesses cell e ≡ false

-- A cell with a place is kept there, and one without was not touched. The events of the other cells are not kept.
pub record CellsHold (rule : Rule) (log : List Event) (clocks : Spans) (numbers : CellId → ℕ) (kept : List CellViews) : Type 0 where
  pub touched : (cell : CellId) (p : ℕ) (d : CellViews) → numbers cell ≡ suc p → p < length kept → CellHolds log cell (slice_index_or kept p d)
  pub clocked : (cell : CellId) (p : ℕ) (d : CellViews) → numbers cell ≡ suc p → p < length kept → ClocksHold rule log clocks cell (slice_index_or kept p d)
  pub untouched : (cell : CellId) → numbers cell ≡ 0 → IsUntouched log cell
