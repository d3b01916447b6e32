-- Runs that make local steps first, as a tree of picks; and that such a step and another thread's step commute.
use Rattle.std.specs.Prelude.{◌≡◌, ◌≢◌, ℕ, zero, suc, true, List, [], Option, Some, None}
use Rattle.mu_model.specs.declared.lines.Line.{Line}
use Rattle.mu_model.specs.declared.endings.Ending.{Ending}
use Rattle.mu_model.specs.Configuration.{Configuration}
use Rattle.mu_model.specs.Acts.{Program}
use Rattle.mu_model.specs.Outcomes.{Outcome, Next, End}
use Rattle.mu_model.specs.Step.{turns, picked}
use Rattle.mu_model.specs.Run.{Run, Unfinished, client_answers, run}
use Rattle.odometer.specs.Trees.{Tree, Leaf, leaf, grown}
use Rattle.search_laws.specs.Moved.{with_picks, step_tree, goes_on_tree}
use Rattle.local_steps.specs.IsLocal.{is_local, least_local}

-- ---- runs in which local steps come first

-- the step of the least thread whose step is local, without a pick; where there is none, the step of any thread
abbrev pub first_tree : Program → Configuration → Option ℕ → Tree Outcome
first_tree p c (Some i) = Leaf (turns p (picked c []) i)
first_tree p c None = step_tree p c

-- The run by any picks, as a tree, in which local steps come first.
abbrev pub local_tree : Program → ℕ → Configuration → Tree Run
local_tree p zero c = Leaf Unfinished
local_tree p (suc n) c = grown (first_tree p c (least_local p c)) (λ o. goes_on_tree (local_tree p n) (client_answers p c.client o))

-- ---- laws

-- the step of a thread, by the client's own answer, where the schedule has these numbers left for it
abbrev pub made : Program → Configuration → ℕ → List ℕ → Outcome
made p c j picks = client_answers p c.client (turns p (picked c picks) j)

-- a configuration without the numbers that are left, and without the lines of its last step
abbrev pub plain : Configuration → Configuration
plain c = record c { picks = []; lines = [] }

-- Thread i's step comes from c to d, and thread j's to e; then each can still be made behind the other, with its own lines, both ways come
-- to the same configuration, and thread i's step is local there too.
pub record Meet (p : Program) (i j : ℕ) (picks : List ℕ) (d e : Configuration) : Type 0 where
  pub over : Configuration
  pub made_over : made p d j picks ≡ Next over
  pub under : Configuration
  pub made_under : made p e i [] ≡ Next under
  pub same : plain over ≡ plain under
  pub lines_over : over.lines ≡ e.lines
  pub lines_under : under.lines ≡ d.lines
  pub local : is_local p e i ≡ true

-- A local step and a step of another thread commute, exactly ..
abbrev pub LocalStepsMeet : Type 0
LocalStepsMeet = (p : Program) (c d e : Configuration) (i j : ℕ) (picks : List ℕ) → is_local p c i ≡ true → j ≢ i → made p c i [] ≡ Next d → made p c j picks ≡ Next e → Meet p i j picks d e

-- .. and a step with which another thread ends the run ends it behind the local step too, with the same lines.
abbrev pub LocalStepsLeaveEndings : Type 0
LocalStepsLeaveEndings = (p : Program) (c d : Configuration) (i j : ℕ) (picks : List ℕ) (ls : List Line) (x : Ending) → is_local p c i ≡ true → j ≢ i → made p c i [] ≡ Next d → made p c j picks ≡ End ls x → made p d j picks ≡ End ls x

-- Each run in which local steps come first is the run of a schedule.
abbrev pub LocalRunsAreRuns : Type 0
LocalRunsAreRuns = (p : Program) (n : ℕ) (c : Configuration) (numbers : List ℕ) → (picks : List ℕ) × (run p n (with_picks picks c) ≡ leaf (local_tree p n c) numbers)
