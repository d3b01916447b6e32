-- What an access is offered: exactly what the axioms of memory and its comparison let it take.
use Rattle.std.specs.Prelude.{◌≡◌, ◌↔◌, ℕ, Bool, true, false, List, ◌∷◌, Some, None, Ok, ◌==◌, find, slice_get}
use Rattle.mu_base.specs.declared.order.Order.TheVariants.{Relaxed}
use Rattle.mu_values.specs.declared.scalars.Scalar.{Scalar}
use Rattle.mu_values.specs.declared.cells.CellId.{CellId}
use Rattle.typed_heap.specs.Places.{cell_in}
use Rattle.mem_axioms.specs.Logs.{newest}
use Rattle.mem_axioms.specs.Form.{value_at}
use Rattle.mem_axioms.specs.Axioms.{meets_axioms}
use Rattle.mem_axioms.specs.declared.types.Chosen.{Chosen}
use Rattle.mu_model.specs.declared.endings.Case.TheVariants.{DataRace}
use Rattle.mu_model.specs.declared.endings.Ending.TheVariants.{Undefined}
use Rattle.mu_model.specs.Configuration.{Configuration}
use Rattle.mu_model.specs.Acts as acts
use Rattle.mu_model.specs.Acts.{Access, Act, Loads, Stores, Compares, Updates, Program}
use Rattle.mu_model.specs.Turns.{Turn, turn_of}
use Rattle.mu_model.specs.Changes.{event}
use Rattle.mu_model.specs.Accesses.{initial, taking, takes_option}
use Rattle.mu_model.specs.Outcomes.{End, Next, Outcome, Stuck}
use Rattle.futex.specs.Waiting.{is_of}
use Rattle.mu_model.specs.Waiting.{waited}
use Rattle.mu_model.specs.Step.{performed, picked, runnable, step, turns}

-- ---- what the axioms allow

-- No load succeeds; each store and each update does. A comparison succeeds at the expected value alone; a weak one may fail there too.
abbrev pub Succeeds : Access → Chosen → Type 0
Succeeds (Loads o) k = k.success ≡ false
Succeeds (Stores o v) k = k.success ≡ true
Succeeds (Compares true o f expected v) k = k.success ≡ true → k.value ≡ expected
Succeeds (Compares false o f expected v) k = (k.success ≡ true) ↔ (k.value ≡ expected)
Succeeds (Updates o op v) k = k.success ≡ true

-- A thread's access of a cell may take a choice: its value is the one at its position, it succeeds as it should, and the log with the
-- access added meets the axioms, whatever an update writes.
pub record MayTake (c : Configuration) (thread : ℕ) (a : Access) (cell : CellId) (k : Chosen) : Type 0 where
  pub stands : k.value ≡ value_at (initial c) c.log cell k.position
  pub succeeds : Succeeds a k
  pub allowed : (w : Scalar) → meets_axioms c.rule (initial c) (event thread (taking a cell k w) ∷ c.log) ≡ true

-- ---- what is offered

-- With these numbers left of the schedule the access takes the choice, and leaves those.
abbrev pub Takes : Program → Configuration → Turn → Access → CellId → List ℕ → Chosen → List ℕ → Type 0
Takes p c u a cell picks k rest = performed p (picked c picks) u (acts.Accesses a cell) ≡ takes_option p (picked c rest) u a cell k

-- What comes of a choice: its event is logged next, or it races, which is the ending. What has no rule does neither.
abbrev pub Logs : Configuration → ℕ → Access → CellId → Chosen → Outcome → Type 0
Logs c thread a cell k (Next d) = (w : Scalar) × (d.log ≡ event thread (taking a cell k w) ∷ c.log)
Logs c thread a cell k (End ls (Undefined DataRace t block at (Some r))) = (w : Scalar) × (r.event ≡ event thread (taking a cell k w))
Logs c thread a cell k Stuck = Unit {0}
Logs c thread a cell k _ = ⊥

-- What a turn may come to at a cell, where the step that is made goes by some schedule.
pub record IsOffered (p : Program) (c : Configuration) (u : Turn) (cell : CellId) : Type 0 where
  -- whatever the schedule, what an access takes is a choice that it may take ..
  pub only : (a : Access) (picks : List ℕ) → (k : Chosen) × (rest : List ℕ) × MayTake c u.thread a cell k × Takes p c u a cell picks k rest
  -- .. and each choice that it may take is what it takes by some schedule
  pub all : (a : Access) (k : Chosen) → MayTake c u.thread a cell k → (picks : List ℕ) × (rest : List ℕ) × Takes p c u a cell picks k rest
  -- what comes of a choice is that it is logged, or races
  pub logs : (a : Access) (k : Chosen) (rest : List ℕ) → Logs c u.thread a cell k (takes_option p (picked c rest) u a cell k)
  -- a wait picks nothing: it reads the newest position, which a relaxed load may take
  pub waits : (timed : Bool) (v : Scalar) (picks : List ℕ) → (k : Chosen) × MayTake c u.thread (Loads Relaxed) cell k × (k.position ≡ newest c.log cell)
      × (performed p (picked c picks) u (acts.Waits timed v cell) ≡ waited p (picked c picks) u timed v cell k)
      × Logs c u.thread (Loads Relaxed) cell k (waited p (picked c picks) u timed v cell k)
  -- a turn of a thread that is not at a wait comes to what its act performs
  pub turn : (i : ℕ) (act : Act) (picks : List ℕ) → turn_of p c i ≡ Some u → find (is_of i) c.waiters ≡ None → u.doing.act ≡ Some act →
      turns p (picked c picks) i ≡ performed p (picked c picks) u act
  -- and where a step is left, each thread that may be picked has its turn next by some schedule, with any numbers left
  pub steps : (n i : ℕ) (picks : List ℕ) → slice_get (runnable c) n ≡ Some i → (c.steps == c.budget) ≡ false →
      (given : List ℕ) × (step p (record c { picks = given }) ≡ turns p (picked c picks) i)

-- whatever access or wait comes next, at whatever cell of an object that is not dead
abbrev pub OffersExactly : Program → Configuration → Type 0
OffersExactly p c = (u : Turn) (cell : CellId) → cell_in c.objects cell ≡ Some (Ok cell) → IsOffered p c u cell
