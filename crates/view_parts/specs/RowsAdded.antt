-- What one more event does to the clocks of threads, stacks, wakes and fences, in the words of the clocks along a log.
use Rattle.std.specs.Prelude.{◌≡◌, ℕ, suc, ◌<◌, ◌≤◌, max, ◌==◌, ◌&&◌, if◌then◌else◌, List, ◌∷◌, length, slice_index, Option}
use Rattle.mem_axioms.specs.Events.{order_of, is_fence, is_seq_cst_fence, is_wake}
use Rattle.mem_axioms.specs.Synchronizes.{acquires, releases, gives_up, makes_thread}
use Rattle.mem_axioms.specs.declared.types.Kind.TheVariants.{Access, Fence, Enter, Woken}
use Rattle.mem_axioms.specs.declared.types.Event.{Event}
use Rattle.clocks.specs.Knowing.{known_by}
use Rattle.clocks.specs.Tables.{table_at, row_at}
use Rattle.view_parts.specs.Indexed.{index_at, accesses_at}
use Rattle.view_parts.specs.declared.rows.Rows.{Rows}

-- event n, which is e, knows a clock, and took one for its thread's next acquire fence
pub record RowsAdded (old new : Rows) (n : ℕ) (e : Event) (clock : List ℕ) (taken : Option (List ℕ)) : Type 0 where
  pub threads : (t u : ℕ) → row_at new.threads t u ≡ (if t == e.thread then slice_index clock u else if makes_thread t e then max (row_at old.threads t u) (slice_index clock u) else row_at old.threads t u)
  pub left : (s u : ℕ) → table_at new.left s u ≡ (if gives_up s e then slice_index clock u else table_at old.left s u)
  pub wakes : (i u : ℕ) → table_at new.wakes i u ≡ (if is_wake e && (i == n) then slice_index clock u else table_at old.wakes i u)
  pub fenced : (t u : ℕ) → row_at new.fenced t u ≡ (if (t == e.thread) && (is_fence e && releases (order_of e)) then slice_index clock u else row_at old.fenced t u)
  pub pending : (t u : ℕ) → row_at new.pending t u ≡ (if t == e.thread then max (row_at old.pending t u) (known_by taken u) else row_at old.pending t u)
  pub joined : (u : ℕ) → slice_index new.joined u ≡ (if is_seq_cst_fence e then max (slice_index old.joined u) (slice_index clock u) else slice_index old.joined u)
  pub before : (a u : ℕ) → table_at new.before a u ≡ (if is_seq_cst_fence e && (a == n) then slice_index old.joined u else table_at old.before a u)
  pub fences : (u : ℕ) → accesses_at new.fences.items u ≡ (if is_seq_cst_fence e && (u == e.thread) then record { event = suc n; position = n } ∷ accesses_at old.fences.items u else accesses_at old.fences.items u)

-- room for that many more events by threads below 64
pub record RowsRoom (count : ℕ) (rows : Rows) : Type 0 where
  pub threads : 0 < count → 64 ≤ length rows.threads
  pub left : count ≤ rows.left.spare
  pub wakes : count ≤ rows.wakes.spare
  pub fenced : 0 < count → 64 ≤ length rows.fenced
  pub pending : 0 < count → 64 ≤ length rows.pending
  pub before : count ≤ rows.before.spare
  pub there : 0 < count → 64 ≤ length rows.fences.items
  pub fences : (t : ℕ) → t < 64 → count ≤ (index_at rows.fences.items t).spare

-- what an event gains, by the clocks of threads, stacks and wakes, and by what it took if it is an access
abbrev pub row_gains : Rows → Option (List ℕ) → Event → ℕ → ℕ
row_gains rows taken e u = elim e.kind [
  | Access mode cell order position value ↦ if acquires order then known_by taken u else 0
  | Fence order ↦ if acquires order then row_at rows.pending e.thread u else 0
  | Enter stack ↦ table_at rows.left stack u
  | Woken wake ↦ table_at rows.wakes wake u
  | _ ↦ 0
]
