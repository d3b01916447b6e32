-- The moves of a search: what each thread may do next; which of them may be exchanged; and which sleep.
use Rattle.std.specs.Prelude.{ℕ, Bool, true, false, ◌==◌, ◌&&◌, List, [], ◌∷◌, ◌++◌, Option, Some, None, Result, Ok, Err, map, option_map, flat_map, filter, find, take, length}
use Rattle.std.specs.List.{list_any}
use Rattle.mu_base.specs.declared.order.Order.{Order}
use Rattle.mu_base.specs.declared.order.Order.TheVariants as orders
use Rattle.mu_values.specs.declared.cells.CellId.{CellId}
use Rattle.mu_values.specs.SameCell.{same_cell}
use Rattle.mu_values.specs.SameScalar.{same_scalar}
use Rattle.typed_heap.specs.Places.{cell_in}
use Rattle.mem_axioms.specs.Logs.{newest}
use Rattle.mem_axioms.specs.Choices.{choices, chosen_at}
use Rattle.mem_axioms.specs.declared.types.Mode.{Mode}
use Rattle.mem_axioms.specs.declared.types.Mode.TheVariants as modes
use Rattle.mem_axioms.specs.declared.types.Kind.{Kind}
use Rattle.mem_axioms.specs.declared.types.Kind.TheVariants as kinds
use Rattle.mem_axioms.specs.declared.types.Event.{Event}
use Rattle.mem_axioms.specs.declared.types.Chosen.{Chosen}
use Rattle.futex.specs.declared.waiters.Waiter.{Waiter}
use Rattle.futex.specs.Waiting.{is_of}
use Rattle.exchange_laws.specs.Independence.{independent}
use Rattle.mu_model.specs.declared.endings.Case.{Case}
use Rattle.mu_model.specs.Configuration.{Configuration}
use Rattle.mu_model.specs.Acts as acts
use Rattle.mu_model.specs.Acts.{Access, Act, Program}
use Rattle.mu_model.specs.Turns.{Turn, turn_of}
use Rattle.mu_model.specs.Changes.{event}
use Rattle.mu_model.specs.Outcomes.{Outcome, Stuck, or_case, refused}
use Rattle.mu_model.specs.Accesses.{initial, kind_of, takes_option, wanted}
use Rattle.mu_model.specs.Waiting.{times_out}
use Rattle.mu_model.specs.Step.{performed, picked, runnable}

-- A move of a thread. Of an access that takes an option, and of a fence, it tells the event that is logged of it, or would be if it did not
-- race; of any other move nothing.
pub record Move : Type 0 where
  pub thread : ℕ
  pub event : Option Event

-- ---- the moves of a thread

-- the only move of a thread that makes no such access and no fence
abbrev pub plain_move : ℕ → Move
plain_move i = record { thread = i; event = None }

-- one for each option of the access
abbrev pub option_move : ℕ → Turn → Access → CellId → Chosen → Move
option_move i u a cell k = record { thread = i; event = option_map (event u.thread) (kind_of a cell k) }

abbrev pub cell_moves : Configuration → ℕ → Turn → Access → Option (Result CellId Case) → List Move
cell_moves c i u a None = plain_move i ∷ []
cell_moves c i u a (Some (Err k)) = plain_move i ∷ []
cell_moves c i u a (Some (Ok there)) = map (option_move i u a there) (choices c.rule (initial c) c.log u.thread there (wanted a))

abbrev pub act_moves : Configuration → ℕ → Turn → Act → List Move
act_moves c i u (acts.Accesses a cell) = cell_moves c i u a (option_map or_case (cell_in c.objects cell))
act_moves c i u (acts.Fences o) = record { thread = i; event = Some (event u.thread (kinds.Fence o)) } ∷ []
act_moves c i u a = plain_move i ∷ []

abbrev pub doing_moves : Configuration → ℕ → Turn → Option Act → List Move
doing_moves c i u None = plain_move i ∷ []
doing_moves c i u (Some a) = act_moves c i u a

-- of a thread that waits, or not; it has a turn, or none
abbrev pub turn_moves : Configuration → ℕ → Option Waiter → Option Turn → List Move
turn_moves c i w None = plain_move i ∷ []
turn_moves c i (Some w) (Some u) = plain_move i ∷ []
turn_moves c i None (Some u) = doing_moves c i u u.doing.act

abbrev pub thread_moves : Program → Configuration → ℕ → List Move
thread_moves p c i = turn_moves c i (find (is_of i) c.waiters) (turn_of p c i)

-- those of all threads that may run, one thread after the other
abbrev pub moves : Program → Configuration → List Move
moves p c = flat_map (thread_moves p c) (runnable c)

-- ---- what comes of a move

-- the option of which this is logged: a read takes the value at its position, all else the newest
abbrev pub option_of : Configuration → CellId → Kind → Chosen
option_of c cell (kinds.Access modes.Read at order position value) = chosen_at (initial c) c.log cell false position
option_of c cell k = chosen_at (initial c) c.log cell true (newest c.log cell)

abbrev pub option_made : Program → Configuration → Turn → Access → CellId → Option Event → Outcome
option_made p c u a cell None = Stuck
option_made p c u a cell (Some e) = takes_option p c u a cell (option_of c cell e.kind)

abbrev pub cell_made : Program → Configuration → Turn → Access → Option Event → Option (Result CellId Case) → Outcome
cell_made p c u a e None = Stuck
cell_made p c u a e (Some (Err k)) = refused p c u k
cell_made p c u a e (Some (Ok there)) = option_made p c u a there e

abbrev pub act_made : Program → Configuration → Turn → Option Event → Act → Outcome
act_made p c u e (acts.Accesses a cell) = cell_made p c u a e (option_map or_case (cell_in c.objects cell))
act_made p c u e a = performed p c u a

abbrev pub doing_made : Program → Configuration → Turn → Option Event → Option Act → Outcome
doing_made p c u e None = Stuck
doing_made p c u e (Some a) = act_made p c u e a

abbrev pub turn_made : Program → Configuration → Option Event → Option Waiter → Option Turn → Outcome
turn_made p c e w None = Stuck
turn_made p c e (Some w) (Some u) = times_out p c u w
turn_made p c e None (Some u) = doing_made p c u e u.doing.act

-- before the client answers
abbrev pub move_made : Program → Configuration → Move → Outcome
move_made p c m = turn_made p (picked c []) m.event (find (is_of m.thread) c.waiters) (turn_of p c m.thread)

-- ---- sleep

-- the second move could have come before the first, which is made where the log has so many events; nothing is said of other moves
abbrev pub may_turn : ℕ → Option Event → Option Event → Bool
may_turn n (Some e) (Some f) = independent n e f
may_turn n e f = false

abbrev pub are_apart : Configuration → Move → Move → Bool
are_apart c a b = may_turn (length c.log) a.event b.event

-- What sleeps after a move: of what slept, and of the moves that stand before it there, those that could have come before it.
abbrev pub asleep : Configuration → Move → List Move → List Move → List Move
asleep c a sleep before = filter (are_apart c a) (sleep ++ before)

-- the same move
abbrev pub order_number : Order → ℕ
order_number orders.NotAtomic = 0
order_number orders.Relaxed = 1
order_number orders.Consume = 2
order_number orders.Acquire = 3
order_number orders.Release = 4
order_number orders.AcqRel = 5
order_number orders.SeqCst = 6

abbrev pub mode_number : Mode → ℕ
mode_number modes.Read = 0
mode_number modes.Write = 1
mode_number modes.Update = 2

-- of accesses and fences; no other event is that of a move
abbrev pub same_kind : Kind → Kind → Bool
same_kind (kinds.Access m cell order position value) (kinds.Access n other order_too place scalar) =
    ((((mode_number m == mode_number n) && same_cell cell other) && (order_number order == order_number order_too)) && (position == place)) && same_scalar value scalar
same_kind (kinds.Fence o) (kinds.Fence q) = order_number o == order_number q
same_kind k l = false

abbrev pub same_event : Option Event → Option Event → Bool
same_event (Some e) (Some f) = (e.thread == f.thread) && same_kind e.kind f.kind
same_event e f = false

-- Only moves with an event sleep.
abbrev pub same_move : Move → Move → Bool
same_move a b = (a.thread == b.thread) && same_event a.event b.event

abbrev pub sleeps : Move → List Move → Bool
sleeps a sleep = list_any (same_move a) sleep

-- ---- as events

-- the move with this event
abbrev pub move_of : Event → Move
move_of e = record { thread = e.thread; event = Some e }

-- the events of moves that have one
abbrev pub event_of : Option Event → List Event
event_of None = []
event_of (Some e) = e ∷ []

abbrev pub events_in : List Move → List Event
events_in ms = flat_map (λ (m : Move). event_of m.event) ms

-- the same event, of two moves that have one
abbrev pub are_same : Event → Event → Bool
are_same e f = same_event (Some e) (Some f)
