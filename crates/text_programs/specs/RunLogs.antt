-- The log of a run, by the lines that it writes.
use Rattle.std.specs.Prelude.{◌≡◌, ℕ, List, [], ◌∷◌, Some, reverse}
use Rattle.mem_axioms.specs.declared.types.Event.{Event}
use Rattle.mu_model.specs.declared.lines.Line.{Line}
use Rattle.mu_model.specs.declared.endings.Ending.{Ending}
use Rattle.mu_model.specs.Configuration.{Configuration}
use Rattle.mu_model.specs.Acts.{Program}
use Rattle.mu_model.specs.Outcomes.{Next}
use Rattle.mu_model.specs.Step.{step}
use Rattle.mu_model.specs.Run.{Setting, Ends, first_configuration, client_answers, program_run}
use Rattle.text_programs.specs.Laws.{OfAcceptedTexts}
use Rattle.text_programs.specs.Moments.{Reaches, log_behind, IsSoundEnding, OfEnteredRuns}

-- the lines of a step tell, in order, exactly the events that it logs; so it is of every program
abbrev pub LinesTellTheLog : Type 0
LinesTellTheLog = (p : Program) (c d : Configuration) → client_answers p c.client (step p c) ≡ Next d → d.log ≡ log_behind (reverse d.lines) c.log

-- the log behind the lines of some steps, the first step's first
abbrev pub log_of_steps : List (List Line) → List Event → List Event
log_of_steps [] log = log
log_of_steps (ls ∷ steps) log = log_of_steps steps (log_behind ls log)

-- a log that a run leaves at its ending, behind its last moment
pub record IsLeftBy (p : Program) (s : Setting) (function : ℕ) (log : List Event) : Type 0 where
  pub first : Configuration
  pub begins : first_configuration p s function ≡ Some first
  pub last : Configuration
  pub reached : Reaches p first last
  -- by the rule of release sequences that the run is given
  pub rule : last.rule ≡ s.rule
  pub sound : IsSoundEnding last log

-- all lines of a run that ends tell the log that it leaves, which is sound
abbrev pub RunsLeaveSoundLogs : Program → Setting → ℕ → Type 0
RunsLeaveSoundLogs p s function = (steps : List (List Line)) (ls : List Line) (e : Ending) → program_run p s function ≡ Ends steps ls e → IsLeftBy p s function (log_behind ls (log_of_steps steps []))

abbrev pub RunsOfTextsLeaveSoundLogs : Type 0
RunsOfTextsLeaveSoundLogs = OfAcceptedTexts (OfEnteredRuns RunsLeaveSoundLogs)

-- each moment of a run, whatever the program, goes by the rule of release sequences that the run is given
abbrev pub RuleStays : Type 0
RuleStays = (p : Program) (s : Setting) (function : ℕ) (c d : Configuration) → first_configuration p s function ≡ Some c → Reaches p c d → d.rule ≡ s.rule
