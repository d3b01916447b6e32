-- Each step is the turn of a thread that may be picked, or an ending that comes before a pick.
use Rattle.std.specs.Prelude.{◌≡◌, ◌⊎◌, ◌==◌, ℕ, false, List, [], Some, length, slice_get}
use Rattle.mu_threads.specs.Picks.{pick}
use Rattle.mu_model.specs.declared.endings.Ending.{Ending}
use Rattle.mu_model.specs.declared.endings.Ending.TheVariants.{Done, AllWaiting, Budget}
use Rattle.mu_model.specs.Acts.{Program}
use Rattle.mu_model.specs.Configuration.{Configuration}
use Rattle.mu_model.specs.Outcomes.{Next, End}
use Rattle.mu_model.specs.Run.{client_answers}
use Rattle.mu_model.specs.Step.{picked, runnable, step, turns}

-- which of the threads that may be picked the schedule picks, and the numbers that it leaves
abbrev pub next_pick : Configuration → ℕ × List ℕ
next_pick c = pick (length (runnable c)) c.picks

-- a step is left, and it is the turn of the thread that is picked
pub record IsPickedTurn (p : Program) (c : Configuration) : Type 0 where
  pub left : (c.steps == c.budget) ≡ false
  pub thread : ℕ
  pub may : slice_get (runnable c) (next_pick c).0 ≡ Some thread
  pub turn : step p c ≡ turns p (picked c (next_pick c).1) thread

-- no thread is left, all that are left wait, or no step is left
abbrev pub ComesBeforeAPick : Ending → Type 0
ComesBeforeAPick Done = Unit {0}
ComesBeforeAPick (AllWaiting threads) = Unit {0}
ComesBeforeAPick (Budget steps) = Unit {0}
ComesBeforeAPick _ = ⊥

abbrev pub EndsBeforeAPick : Program → Configuration → Type 0
EndsBeforeAPick p c = (e : Ending) × ComesBeforeAPick e × (step p c ≡ End [] e)

-- so it is of every program
abbrev pub StepsAreTurns : Type 0
StepsAreTurns = (p : Program) (c : Configuration) → IsPickedTurn p c ⊎ EndsBeforeAPick p c

-- a step that goes on, by the client's own answer, is a turn
abbrev pub StepsMadeAreTurns : Type 0
StepsMadeAreTurns = (p : Program) (c d : Configuration) → client_answers p c.client (step p c) ≡ Next d → IsPickedTurn p c
