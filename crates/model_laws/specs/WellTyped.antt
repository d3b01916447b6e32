-- The well-typed configuration, which holds between two steps, and what comes of a step.
use Rattle.std.specs.Prelude.{◌≤◌, All, length, Option}
use Rattle.typed_heap.specs.Fits.{World}
use Rattle.mu_model.specs.Types.{type_graph}
use Rattle.mu_model.specs.Acts.{Program}
use Rattle.mu_model.specs.Clients.{Answer}
use Rattle.mu_model.specs.Configuration.{Configuration}
use Rattle.mu_model.specs.EnteringStacks.{most_threads}
use Rattle.mu_model.specs.Outcomes.{Outcome, Next, End, Asks, Stuck}
use Rattle.model_laws.specs.Values.{world, HasGlobals}
use Rattle.model_laws.specs.Places.{Places}
use Rattle.model_laws.specs.FramesFit.{StackFits}
use Rattle.model_laws.specs.ThreadsFit.{Owned, ThreadFits, WaitersFit}
use Rattle.model_laws.specs.LogFits.{ObjectFits, LogFits}
use Rattle.model_laws.specs.ClientsFit.{ViewFits, AnswerFits, ClientFits}

pub record WellTyped (p : Program) (t : Places) (c : Configuration) : Type 0 where
  pub globals : HasGlobals p.tables (world p.tables c)
  -- 1 to 3: frames and stacks
  pub stacks : All (StackFits p t (world p.tables c)) c.stacks
  -- 4: threads and their stacks
  pub owners : Owned c.threads c.stacks
  -- 5: objects, and the cells and values of the log
  pub objects : All (ObjectFits (type_graph p.tables) (world p.tables c)) c.objects
  -- 7, and the log's part of 5
  pub log : LogFits p c
  -- 6: threads' own objects, and waiters
  pub threads : All (ThreadFits p.tables (world p.tables c)) c.threads
  pub waiters : WaitersFit p c.threads c.stacks c.waiters
  -- what the client tells fits
  pub client : ClientFits p.tables c.client
  -- no more threads were made and no more steps than may be
  pub most : length c.threads ≤ most_threads
  pub steps : c.steps ≤ c.budget

-- ---- what comes of a step

-- a well-typed configuration, or an ending; never a question, and never no rule
abbrev pub Settles : Program → Places → Outcome → Type 0
Settles p t (Next c) = WellTyped p t c
Settles p t (End lines e) = Unit {0}
Settles p t (Asks view go) = ⊥
Settles p t Stuck = ⊥

-- or one question to the client, which is shown what fits, and every answer that fits settles the step
abbrev pub GoesWell : Program → Places → World → Outcome → Type 0
GoesWell p t w (Next c) = WellTyped p t c
GoesWell p t w (End lines e) = Unit {0}
GoesWell p t w (Asks view go) = ViewFits (type_graph p.tables) w view × ((a : Option Answer) → AnswerFits p.tables w a → Settles p t (go a))
GoesWell p t w Stuck = ⊥
