-- What the functions that write a run tell their callers.
use Rattle.std.specs.Prelude.{◌≡◌, ℕ, suc, ◌+◌, List, [], ◌∷◌, ◌++◌, length, Option, Some, None, reverse, codes}
use Rattle.std.specs.List.{count_by}
use Rattle.mu_base.specs.declared.status.Status.{Status}
use Rattle.ir_tree.specs.declared.items.Item.{Item}
use Rattle.mu_model.specs.declared.lines.Line.{Line}
use Rattle.mu_model.specs.declared.endings.Ending.{Ending}
use Rattle.mu_model.specs.declared.endings.StepEnd.{StepEnd}
use Rattle.mu_model.specs.declared.endings.StepEnd.TheVariants as ends
use Rattle.mu_model.specs.Configuration.{Configuration}
use Rattle.mu_model.specs.Acts.{Program}
use Rattle.mu_model.specs.Outcomes.{Outcome, Next}
use Rattle.mu_model.specs.Programs.{named}
use Rattle.mu_model.specs.Step.{step}
use Rattle.mu_model.specs.Run.{Run, Ends, Breaks, Unfinished, client_answers, run}
use Rattle.client_hooks.specs.Ways.{by_entries, client_answers_by, entries_answer}
use Rattle.run_texts.specs.Texts.{Text, ending_text}
use Rattle.run_texts.specs.Pieces.{lines_text}
use Rattle.run_state.specs.Outcome.{outcome_of}
use Rattle.mu_texts.specs.Answer.{Answer, run_answer, is_event, events_in}
use Rattle.model_laws.specs.Bounds.{HasEnding}
use Rattle.mu_command.specs.declared.counting.Counted.{Counted}
use Rattle.mu_command.specs.declared.counting.Tally.{Tally}
use Rattle.mu_command.specs.Written.{Wrote, Writes}

-- the pieces of a step that goes on: one, where it has lines
abbrev pub step_pieces : List Item → List Line → List Text
step_pieces bundle [] = []
step_pieces bundle (l ∷ ls) = lines_text bundle (l ∷ ls) ∷ []

-- the piece of the step that gives the ending
abbrev pub last_piece : List Item → List Line → Ending → Text
last_piece bundle lines e = lines_text bundle lines ++ ending_text bundle e ++ codes "\n"

-- an answer behind other pieces
abbrev pub behind_pieces : List Text → Answer → Answer
behind_pieces pieces answer = record { pieces = pieces ++ answer.pieces; status = answer.status }

-- a step by the client's own answer, which is that of its entries
abbrev pub answered_step : Program → Configuration → Outcome
answered_step p c = client_answers_by by_entries p c.client (step p c)

pub own_answer : (p : Program) (c : Configuration) → answered_step p c ≡ client_answers p c.client (step p c)
own_answer p c = entries_answer p c.client (step p c)

-- the step went from one configuration to another, and its pieces were put
pub record Goes (bundle : List Item) (c d : Configuration) (written new_written marks new_marks : Option (List ℕ)) : Type 0 where
  pub lines : List Line
  pub is : answered_step (named bundle) c ≡ Next (record d { lines = reverse lines })
  pub wrote : Wrote (step_pieces bundle lines) written new_written marks new_marks

-- however many steps may come, what is left of the run was written with this status
abbrev pub IsOver : List Item → Configuration → Option (List ℕ) → Option (List ℕ) → Option (List ℕ) → Option (List ℕ) → Status → Type 0
IsOver bundle c written new_written marks new_marks status =
    (n : ℕ) → HasEnding (run (named bundle) (suc n) c) → Writes (run_answer bundle (run (named bundle) (suc n) c)) written new_written marks new_marks status

-- ---- steps that are counted

-- how many events the lines of a step tell of, and the ending where it gives one
abbrev pub counted : StepEnd → Counted
counted (ends.Went ls) = record { events = count_by is_event ls; ending = None }
counted (ends.Ended ls e) = record { events = count_by is_event ls; ending = Some e }

-- the step comes to this, and was counted
pub record IsCounted (bundle : List Item) (c d : Configuration) (count : Counted) : Type 0 where
  pub end : StepEnd
  pub is : outcome_of end d ≡ answered_step (named bundle) c
  pub counts : count ≡ counted end

-- what a run comes to, behind so many steps and events
abbrev pub tally_behind : ℕ → ℕ → Run → Option Tally
tally_behind steps events (Ends more ls e) = Some (record { steps = steps + length more; events = events + events_in more ls; ending = e })
tally_behind steps events Breaks = None
tally_behind steps events Unfinished = None
