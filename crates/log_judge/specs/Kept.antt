-- What the judge keeps says what the log says, besides what its cells and clocks do. No clause of a public call speaks of it.
use Rattle.std.specs.Prelude.{◌≡◌, ℕ, ◌<◌, ◌≤◌, Bool, true, false, ◌&&◌, ◌==◌, nat_lt, nat_le, if◌then◌else◌, List, [], ◌∷◌, length, slice_index, Option, Some, None}
use Rattle.std.specs.Ordering.{nat_cmp}
use Rattle.std.specs.BTreeMap.{get, BTreeMap}
use Rattle.mu_values.specs.declared.scalars.Scalar.{Scalar}
use Rattle.mu_values.specs.declared.cells.CellId.{CellId}
use Rattle.mem_axioms.specs.Events.{accesses, position_of, value_of, is_seq_cst_fence}
use Rattle.mem_axioms.specs.Logs.{event_at, any_event}
use Rattle.mem_axioms.specs.Axioms.{reads_older}
use Rattle.mem_axioms.specs.declared.types.Rule.{Rule}
use Rattle.mem_axioms.specs.declared.types.Event.{Event}
use Rattle.clocks.specs.Tables.{Table, table_at}
use Rattle.clock_laws.specs.Clocks.{views}
use Rattle.log_judge.specs.CellKeys.{cell_key}

-- the value that the last access of position 0 of a cell has
abbrev pub initial_read : List Event → CellId → Option Scalar
initial_read [] cell = None
initial_read (e ∷ past) cell = if accesses cell e && (position_of e == 0) then Some (value_of e) else initial_read past cell

-- those are kept under the keys of the cells
abbrev pub InitialsHold : List Event → BTreeMap ℕ Scalar → Type 0
InitialsHold log initials = (cell : CellId) → cell.at < 4294967296 → get nat_cmp initials (cell_key cell) ≡ initial_read log cell

-- the list is 0, 1 and so on, with the threads of all events on it, which are below 64
pub record ThreadsHold (threads : List ℕ) (log : List Event) : Type 0 where
  pub listed : (i : ℕ) (e : Event) → event_at log i ≡ Some e → e.thread < length threads
  pub counted : (t : ℕ) → t < length threads → slice_index threads t ≡ t
  pub few : length threads ≤ 64

-- what is known at each SEQ_CST fence is kept under its number
abbrev pub FencesHold : Rule → List Event → Table → Type 0
FencesHold rule log fences = (a : ℕ) (e : Event) → event_at log a ≡ Some e → is_seq_cst_fence e ≡ true → (u : ℕ) → table_at fences a u ≡ (views rule log).at a u

-- A clock gives for each thread one more than the number of its first access that the read e passes over, or 0.
abbrev pub AreFirsts : List ℕ → List Event → Event → Type 0
AreFirsts firsts log e = (u k : ℕ) → any_event (λ y ey. reads_older e ey && (ey.thread == u) && nat_lt y k) log ≡ (nat_lt 0 (slice_index firsts u) && nat_le (slice_index firsts u) k)

-- a number is not above the last of some, if there is one
abbrev pub is_up_to : Option ℕ → ℕ → Bool
is_up_to None b = false
is_up_to (Some a) b = nat_le b a

-- the last SEQ_CST fence that a clock knows, if there is one
abbrev pub IsLastFence : Option ℕ → List Event → List ℕ → Type 0
IsLastFence last log clock = (b : ℕ) → any_event (λ a ea. is_seq_cst_fence ea && nat_le b a && nat_lt a (slice_index clock ea.thread)) log ≡ is_up_to last b
