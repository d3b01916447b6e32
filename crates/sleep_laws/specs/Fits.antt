-- What is asked of the configurations of a run.
use Rattle.std.specs.Prelude.{◌≡◌, ◌<◌, ℕ, suc, true, List, [], Some, slice_get}
use Rattle.mem_axioms.specs.Axioms.{meets_axioms}
use Rattle.mu_model.specs.Configuration.{Configuration}
use Rattle.mu_model.specs.Acts.{Program}
use Rattle.mu_model.specs.Accesses.{initial}
use Rattle.mu_model.specs.Outcomes.{Next}
use Rattle.mu_model.specs.Step.{runnable, turns, picked}
use Rattle.mu_model.specs.Run.{client_answers}

-- without the numbers that are left, and without lines
abbrev pub plain : Configuration → Configuration
plain c = record c { picks = []; lines = [] }

-- a thread that may run goes on, where a step may be made
pub record Advances (p : Program) (c d : Configuration) : Type 0 where
  pub thread : ℕ
  pub number : ℕ
  pub runs : slice_get (runnable c) number ≡ Some thread
  pub room : c.steps < c.budget
  pub picks : List ℕ
  pub made : client_answers p c.client (turns p (picked c picks) thread) ≡ Next d

-- It holds after each step that may be made; a step is counted and keeps the budget; and the log meets the axioms.
pub record Fits (p : Program) (Fit : Configuration → Type 0) : Type 0 where
  pub meets : (c : Configuration) → Fit c → meets_axioms c.rule (initial c) c.log ≡ true
  pub goes : (c d : Configuration) → Fit c → Advances p c d → Fit d
  pub counts : (c d : Configuration) → Fit c → Advances p c d → (d.steps ≡ suc c.steps) × (d.budget ≡ c.budget)
  pub alone : (c : Configuration) → Fit c → Fit (plain c)
