-- Runs with a client that answers by a way.
use Rattle.std.specs.Prelude.{◌≡◌, ◌≢◌, ℕ, zero, suc, List, Option, Some, None}
use Rattle.check_tables.specs.declared.tables.Tables.{Tables}
use Rattle.typed_heap.specs.Fits.{World}
use Rattle.mu_model.specs.declared.lines.Line.{Line}
use Rattle.mu_model.specs.declared.endings.Ending.{Ending}
use Rattle.mu_model.specs.Types.{type_graph}
use Rattle.mu_model.specs.Accesses.{initial}
use Rattle.mu_model.specs.Acts.{Program}
use Rattle.mu_model.specs.Clients.{Client}
use Rattle.mu_model.specs.Configuration.{Configuration}
use Rattle.mu_model.specs.Outcomes.{End, Next, Stuck, View}
use Rattle.mu_model.specs.Run.{Setting, Run, Breaks, Unfinished, first_configuration, goes_on}
use Rattle.mu_model.specs.Step.{step}
use Rattle.model_laws.specs.ClientsFit.{AnswerFits, ClientFits, ViewFits}
use Rattle.model_laws.specs.Laws.{OneOwner}
use Rattle.model_laws.specs.Values.{HasGlobals}
use Rattle.text_programs.specs.Moments.{IsSoundEnding, IsSoundLog, log_behind}
use Rattle.text_programs.specs.Offers.{OffersExactly}
use Rattle.client_hooks.specs.Ways.{Way, client_answers_by}

-- A way by which clients that fit answer what fits, where they are shown what fits, and fit past it.
pub record WayFits (p : Tables) (how : Way) : Type 0 where
  pub answers : (w : World) → HasGlobals p w → (view : View) (k : Client) → ViewFits (type_graph p) w view → ClientFits p k → AnswerFits p w (how.answer p view k)
  pub past : (k : Client) → ClientFits p k → ClientFits p (how.past k)

-- within so many steps
abbrev pub run_by : Way → Program → ℕ → Configuration → Run
run_by how p zero c = Unfinished
run_by how p (suc n) c = goes_on (run_by how p n) (client_answers_by how p c.client (step p c))

-- no run makes more steps than its budget
abbrev pub run_from_by : Way → Program → Option Configuration → Run
run_from_by how p None = Breaks
run_from_by how p (Some c) = run_by how p (suc c.budget) c

abbrev pub program_run_by : Way → Program → Setting → ℕ → Run
program_run_by how p s f = run_from_by how p (first_configuration p s f)

-- a run comes from one configuration to another by steps that go on
pub data ReachesBy (how : Way) (p : Program) (c : Configuration) : Configuration → Type 0 where
  here : ReachesBy how p c c
  onward : {d e : Configuration} → ReachesBy how p c d → client_answers_by how p d.client (step p d) ≡ Next e → ReachesBy how p c e

-- ---- a moment of such a run

-- where the next step gives the ending, the log behind its lines is sound, and has at most one event more
abbrev pub EndsSoundlyBy : Way → Program → Configuration → Type 0
EndsSoundlyBy how p c = (ls : List Line) (e : Ending) → client_answers_by how p c.client (step p c) ≡ End ls e → IsSoundEnding c (log_behind ls c.log)

pub record IsSoundMomentBy (how : Way) (p : Program) (c : Configuration) : Type 0 where
  -- it meets the axioms of memory, no two of its events race, and each read in it was an option of its past
  pub log : IsSoundLog c.rule (initial c) c.log
  -- an access is offered what the axioms of memory and its comparison let it take, and nothing else
  pub offers : OffersExactly p c
  -- no two threads are on one stack, and no thread is on two
  pub owners : OneOwner c
  -- the next step has a rule
  pub rule : client_answers_by how p c.client (step p c) ≢ Stuck
  pub ending : EndsSoundlyBy how p c
