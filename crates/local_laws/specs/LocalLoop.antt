-- What a loop goes by that makes the steps of a run in which local steps come first. A step that went on with lines came from c to d.
use Rattle.std.specs.Prelude.{◌≡◌, ◌≢◌, ℕ, suc, List, [], ◌++◌, Some, None, length, reverse, slice_get}
use Rattle.mu_model.specs.declared.lines.Line.{Line}
use Rattle.mu_model.specs.declared.endings.Ending.{Ending}
use Rattle.mu_model.specs.Configuration.{Configuration}
use Rattle.mu_model.specs.Acts.{Program}
use Rattle.mu_model.specs.Outcomes.{Next, End, Stuck}
use Rattle.mu_model.specs.Step.{runnable, step}
use Rattle.mu_model.specs.Run.{Ends, Breaks, behind, client_answers, run}
use Rattle.mu_threads.specs.Picks.{pick}
use Rattle.odometer.specs.Trees.{leaf, rest}
use Rattle.odometer.specs.Odometer.{path, digits}
use Rattle.search_laws.specs.Moved.{with_picks, step_tree}
use Rattle.local_steps.specs.IsLocal.{least_local}
use Rattle.local_laws.specs.LocalSteps.{local_tree}

-- the step, by these numbers, goes on; or it gives the ending
abbrev pub WentOn : Program → Configuration → List ℕ → List Line → Configuration → Type 0
WentOn p c numbers ls d = Next (record d { lines = reverse ls }) ≡ client_answers p c.client (step p (with_picks numbers c))

abbrev pub CameToEnd : Program → Configuration → List ℕ → List Line → Ending → Type 0
CameToEnd p c numbers ls e = End ls e ≡ client_answers p c.client (step p (with_picks numbers c))

-- by these numbers thread i is picked
abbrev pub PicksThread : Configuration → List ℕ → ℕ → Type 0
PicksThread c numbers i = slice_get (runnable c) (pick (length (runnable c)) numbers).0 ≡ Some i

-- ---- a step that comes first

-- It makes no pick of the search, whose numbers are left as they were.
pub record GoesOnFirst (p : Program) (n : ℕ) (c d : Configuration) (ls : List Line) (numbers : List ℕ) : Type 0 where
  pub path : path (local_tree p (suc n) c) numbers ≡ path (local_tree p n d) numbers
  pub leaf : leaf (local_tree p (suc n) c) numbers ≡ behind ls (leaf (local_tree p n d) numbers)

abbrev pub FirstStepsGoOn : Type 0
FirstStepsGoOn = (p : Program) (n i : ℕ) (c d : Configuration) (ls : List Line) (picks numbers : List ℕ) → least_local p c ≡ Some i → PicksThread c picks i → WentOn p c picks ls d → GoesOnFirst p n c d ls numbers

-- It gives no ending.
abbrev pub FirstStepsDoNotEnd : Type 0
FirstStepsDoNotEnd = (p : Program) (i : ℕ) (c : Configuration) (ls : List Line) (e : Ending) (picks : List ℕ) → least_local p c ≡ Some i → PicksThread c picks i → CameToEnd p c picks ls e → ⊥

-- ---- a step where no thread's is local

-- The picks of the search are those of the step and then those of the rest.
pub record GoesOnAny (p : Program) (n : ℕ) (c d : Configuration) (ls : List Line) (numbers : List ℕ) : Type 0 where
  pub path : path (local_tree p (suc n) c) numbers ≡ path (step_tree p c) numbers ++ path (local_tree p n d) d.picks
  pub leaf : leaf (local_tree p (suc n) c) numbers ≡ behind ls (leaf (local_tree p n d) d.picks)
  pub picks : rest (step_tree p c) numbers ≡ d.picks

abbrev pub AnyStepsGoOn : Type 0
AnyStepsGoOn = (p : Program) (n : ℕ) (c d : Configuration) (ls : List Line) (numbers : List ℕ) → least_local p c ≡ None → WentOn p c numbers ls d → GoesOnAny p n c d ls numbers

pub record IsOverAny (p : Program) (n : ℕ) (c : Configuration) (ls : List Line) (e : Ending) (numbers : List ℕ) : Type 0 where
  pub path : path (local_tree p (suc n) c) numbers ≡ path (step_tree p c) numbers
  pub leaf : leaf (local_tree p (suc n) c) numbers ≡ Ends [] ls e

abbrev pub AnyStepsEnd : Type 0
AnyStepsEnd = (p : Program) (n : ℕ) (c : Configuration) (ls : List Line) (e : Ending) (numbers : List ℕ) → least_local p c ≡ None → CameToEnd p c numbers ls e → IsOverAny p n c ls e numbers

-- ---- the schedule

-- The schedule of a run has the numbers of each step's picks, one step after the other.
abbrev pub SchedulesGoOn : Type 0
SchedulesGoOn = (p : Program) (n : ℕ) (c d : Configuration) (ls : List Line) (picks more : List ℕ) → WentOn p c picks ls d →
    run p (suc n) (with_picks (digits (path (step_tree p c) picks) ++ more) c) ≡ behind ls (run p n (with_picks more d))

abbrev pub SchedulesEnd : Type 0
SchedulesEnd = (p : Program) (n : ℕ) (c : Configuration) (ls : List Line) (e : Ending) (picks more : List ℕ) → CameToEnd p c picks ls e →
    run p (suc n) (with_picks (digits (path (step_tree p c) picks) ++ more) c) ≡ Ends [] ls e

-- ---- that each thread may be asked for its step

-- no schedule's run comes to a step without a rule
abbrev pub NoneBreaks : Program → ℕ → Configuration → Type 0
NoneBreaks p n c = (picks : List ℕ) → run p n (with_picks picks c) ≢ Breaks

-- Then the step has a rule whichever thread is picked, and so it is of each step that follows.
abbrev pub StepsHaveRules : Type 0
StepsHaveRules = (p : Program) (n : ℕ) (c : Configuration) (picks : List ℕ) → NoneBreaks p (suc n) c → client_answers p c.client (step p (with_picks picks c)) ≢ Stuck

abbrev pub NoneBreaksLater : Type 0
NoneBreaksLater = (p : Program) (n : ℕ) (c d : Configuration) (ls : List Line) (picks : List ℕ) → NoneBreaks p (suc n) c → WentOn p c picks ls d → NoneBreaks p n d
