-- The machine as a search by sleep sets sees it: a state is a configuration at which no thread has a local step, with the lines so far, or
-- what is seen of a run that is over; a move is the turn of a thread, with the local steps that follow.
use Rattle.std.specs.Prelude.{◌≡◌, ◌≤◌, ◌<◌, ℕ, zero, suc, Bool, true, false, ◌==◌, nat_lt, List, [], ◌∷◌, ◌++◌, Option, Some, None, flat_map, find, length, reverse, slice_get, if◌then◌else◌}
use Rattle.mu_values.specs.declared.scalars.Scalar.{Scalar}
use Rattle.mu_values.specs.declared.cells.CellId.{CellId}
use Rattle.typed_heap.specs.Objects.{HeapObject}
use Rattle.mem_axioms.specs.declared.types.Event.{Event}
use Rattle.mu_model.specs.declared.lines.Line.{Line}
use Rattle.mu_model.specs.declared.endings.Ending.TheVariants as endings
use Rattle.mu_model.specs.Configuration.{Configuration}
use Rattle.mu_model.specs.Acts.{Program}
use Rattle.mu_model.specs.Outcomes.{Outcome, Next, End, Asks, Stuck}
use Rattle.mu_model.specs.Step.{threads_from, runnable, turns, picked}
use Rattle.mu_model.specs.Run.{client_answers}
use Rattle.seen_runs.specs.Seen.{Seen, end_of, last_after, seen_at}
use Rattle.local_steps.specs.IsLocal.{is_local}
use Rattle.exchange_steps.specs.Alike.{with_log}
use Rattle.exchange_steps.specs.Ordered.{Ordered}
use Rattle.sleep_moves.specs.Moves.{Move, moves, move_made, are_apart}
use Rattle.sleep_laws.specs.Fits.{plain}

pub data Place : Type 0 where
  At : Configuration → List Line → Place
  -- nothing is seen of a run that comes to its budget or to a step without a rule
  Gone : Option Seen → Place

-- the least thread that has a local step
abbrev pub local_first : Program → Configuration → Option ℕ
local_first p c = find (is_local p c) (runnable c)

module _ (p : Program) (globals : ℕ) (os : List HeapObject) where
  abbrev pub comes : List Line → Outcome → Place
  comes ls (Next c) = At (plain c) (ls ++ reverse c.lines)
  comes ls (End ms e) = Gone (seen_at globals os (ls ++ ms) e)
  comes ls (Asks view go) = Gone None
  comes ls Stuck = Gone None

  -- ---- local steps

  abbrev pub stays_at : Configuration → List Line → Option ℕ → Place
  stays_at c ls None = At c ls
  stays_at c ls (Some i) = Gone None

  abbrev pub goes_first : (Place → Place) → Configuration → List Line → Option ℕ → Place
  goes_first more c ls None = At c ls
  goes_first more c ls (Some i) = more (comes ls (client_answers p c.client (turns p (picked c []) i)))

  -- all local steps, if they are no more than so many
  abbrev pub settled : ℕ → Place → Place
  settled zero (At c ls) = stays_at c ls (local_first p c)
  settled zero (Gone o) = Gone o
  settled (suc n) (At c ls) = goes_first (settled n) c ls (local_first p c)
  settled (suc n) (Gone o) = Gone o

  -- ---- the search

  abbrev pub over_by : Configuration → List Line → List ℕ → List ℕ → Option (Option Seen)
  over_by c ls [] is = Some (seen_at globals os ls endings.Done)
  over_by c ls (t ∷ ts) [] = Some (seen_at globals os ls (endings.AllWaiting (t ∷ ts)))
  over_by c ls (t ∷ ts) (i ∷ is) = if c.steps == c.budget then Some None else None

  -- no thread can make a move, or no move may be made
  abbrev pub over : Place → Option (Option Seen)
  over (At c ls) = if nat_lt c.budget c.steps then Some None else over_by c ls (threads_from 0 c.threads) (runnable c)
  over (Gone o) = Some o

  abbrev pub place_moves : Place → List Move
  place_moves (At c ls) = moves p c
  place_moves (Gone o) = []

  abbrev pub move_step : ℕ → Place → Move → Place
  move_step n (At c ls) a = settled n (comes ls (client_answers p c.client (move_made p c a)))
  move_step n (Gone o) a = Gone o

  abbrev pub place_apart : Place → Move → Move → Bool
  place_apart (At c ls) a b = are_apart c a b
  place_apart (Gone o) a b = false

-- ---- good places

abbrev pub GoodAt : Program → (Configuration → Type 0) → Place → Type 0
GoodAt p Fit (At c ls) = (c.steps ≤ c.budget → Fit c) × (local_first p c ≡ None)
GoodAt p Fit (Gone o) = Unit {0}

-- ---- places that are alike

-- the same is seen of both, whatever comes after them
pub record SameSeen (ls ms : List Line) : Type 0 where
  pub ends : (i : ℕ) → flat_map (end_of i) ls ≡ flat_map (end_of i) ms
  pub last : (cell : CellId) (v : Scalar) → last_after cell v ls ≡ last_after cell v ms

pub data LikeAt : Place → Place → Type 0 where
  both : {c d : Configuration} {ls ms : List Line} {m : ℕ} {other : List Event} → d ≡ with_log other c → Ordered m c.log other → SameSeen ls ms → LikeAt (At c ls) (At d ms)
  gone : {o : Option Seen} → LikeAt (Gone o) (Gone o)
