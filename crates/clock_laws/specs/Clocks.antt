-- Clocks, kept along a log.
--
-- A clock says which events are known: it gives for each thread a number, and an event of the thread is known where its
-- own number is below that. So a clock that knows nothing gives 0, and the clock of event n gives n + 1 for its thread.
-- What a log's clocks know is what happens before (`laws` proves it).
use Rattle.std.specs.Prelude.{ℕ, suc, ◌-◌, max, ◌&&◌, ◌==◌, if◌then◌else◌, List, [], ◌∷◌, length}
use Rattle.mu_values.specs.declared.cells.CellId.{CellId}
use Rattle.mem_axioms.specs.Events.{is_atomic, loads, modifies, is_update, order_of, position_of, position_taken, is_fence, is_seq_cst_fence, is_wake}
use Rattle.mem_axioms.specs.Synchronizes.{acquires, releases, continues, gives_up, makes_thread}
use Rattle.mem_axioms.specs.declared.types.Rule.{Rule}
use Rattle.mem_axioms.specs.declared.types.Kind.TheVariants.{Access, Fence, Enter, Woken}
use Rattle.mem_axioms.specs.declared.types.Event.{Event}

abbrev pub Clock : Type 0
Clock = ℕ → ℕ

abbrev pub nothing : Clock
nothing u = 0

-- all that either knows
abbrev pub join : Clock → Clock → Clock
join a b u = max (a u) (b u)

-- the clock of event n, by a thread that knew this before it
abbrev pub bump : Clock → ℕ → ℕ → Clock
bump a thread n u = if u == thread then suc n else a u

-- Who knows what after a log.
pub record Views : Type 0 where
  -- a thread, before its next event
  pub thread : ℕ → Clock
  -- who sees an event: the event itself and what happens before it
  pub at : ℕ → Clock
  -- who is woken by an event: what a wake knew, and nothing of an event that is no wake
  pub woke : ℕ → Clock
  -- who enters a stack that was left or made: what its last leaving or making knew
  pub left : ℕ → Clock
  -- who acquires a position of a cell
  pub released : CellId → ℕ → Clock
  -- the same of the newest position, counting only the heads by one thread
  pub sequence : CellId → ℕ → Clock
  -- a thread at its last release fence
  pub fenced : ℕ → Clock
  -- what an acquire fence of a thread takes
  pub pending : ℕ → Clock
  -- all SEQ_CST fences so far
  pub joined : Clock
  -- all SEQ_CST fences before an event
  pub before : ℕ → Clock

abbrev pub start : Views
start = record {
  thread = λ t. nothing;
  at = λ i. nothing;
  woke = λ i. nothing;
  left = λ s. nothing;
  released = λ c p. nothing;
  sequence = λ c t. nothing;
  fenced = λ t. nothing;
  pending = λ t. nothing;
  joined = nothing;
  before = λ a. nothing;
}

-- What event e takes besides what its thread knows.
abbrev pub gains : Views → Event → Clock
gains v e u = elim e.kind [
  | Access mode cell order position value ↦ if acquires order && (loads mode && is_atomic order) then v.released cell (position_taken e) u else 0
  | Fence order ↦ if acquires order then v.pending e.thread u else 0
  | Enter stack ↦ v.left stack u
  | Woken wake ↦ v.woke wake u
  | _ ↦ 0
]

-- what is known before event e, with what it takes; and what is known at it, when it has number n
abbrev pub knew : Views → Event → Clock
knew v e = join (v.thread e.thread) (gains v e)

abbrev pub knows : Views → ℕ → Event → Clock
knows v n e = bump (knew v e) e.thread n

-- What a head of a release sequence gives to it: a release gives all that it knows, another atomic one what the last
-- release fence of its thread knew.
abbrev pub gives : Views → ℕ → Event → Clock
gives v n e u = if is_atomic (order_of e) then if releases (order_of e) then knows v n e u else v.fenced e.thread u else 0

-- What an atomic read or update leaves for a later acquire fence of its thread.
abbrev pub pends : Views → Event → Clock
pends v e u = elim e.kind [ Access mode cell order position value ↦ if loads mode && is_atomic order then v.released cell (position_taken e) u else 0 | _ ↦ 0 ]

-- The clocks after event e, which has number n.
abbrev pub after : Rule → Views → ℕ → Event → Views
after rule v n e = record {
  thread = λ t u. if t == e.thread then knows v n e u else if makes_thread t e then max (v.thread t u) (knows v n e u) else v.thread t u;
  at = λ i u. if i == n then knows v n e u else v.at i u;
  woke = λ i u. if is_wake e && (i == n) then knows v n e u else v.woke i u;
  left = λ s u. if gives_up s e then knows v n e u else v.left s u;
  released = λ c p u. if modifies c e && (position_of e == p)
      then max (gives v n e u) (if is_update e then v.released c (p - 1) u else if continues rule e e.thread then v.sequence c e.thread u else 0)
      else v.released c p u;
  sequence = λ c t u. if modifies c e
      then max (if t == e.thread then gives v n e u else 0) (if continues rule e t then v.sequence c t u else 0)
      else v.sequence c t u;
  fenced = λ t u. if (t == e.thread) && (is_fence e && releases (order_of e)) then knows v n e u else v.fenced t u;
  pending = λ t u. if t == e.thread then max (v.pending t u) (pends v e u) else v.pending t u;
  joined = λ u. if is_seq_cst_fence e then max (v.joined u) (knows v n e u) else v.joined u;
  before = λ a u. if a == n then v.joined u else v.before a u;
}

-- The clocks after a log.
abbrev pub views : Rule → List Event → Views
views rule [] = start
views rule (e ∷ past) = after rule (views rule past) (length past) e
