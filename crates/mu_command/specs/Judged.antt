-- The text that the program prints of a run is the text of a log, of which the verdict is Yes.
use Rattle.std.specs.Prelude.{◌≡◌, ◌≤◌, ◌++◌, ℕ, List, Ok, Some, length, codes, decimal}
use Rattle.mu_base.specs.declared.status.Status.TheVariants.{Done}
use Rattle.mu_base.specs.Outcome.{Outcome, got, failed, too_long}
use Rattle.ir_tree.specs.declared.items.Item.{Item}
use Rattle.mu_model.specs.declared.lines.Line.{Line}
use Rattle.mu_model.specs.declared.endings.Ending.{Ending}
use Rattle.mu_model.specs.Run.{Ends}
use Rattle.run_lines.specs.Laws.{whole}
use Rattle.run_lines.specs.Verdicts.{IsReadAsYes, log_of}
use Rattle.mu_texts.specs.declared.what.What.TheVariants.{Hail, Log}
use Rattle.mu_texts.specs.declared.ready.Ready.TheVariants.{Entered}
use Rattle.mu_texts.specs.declared.ready.Telling.TheVariants.{Lines}
use Rattle.mu_texts.specs.Answer.{line, run_of}
use Rattle.mu_texts.specs.Start.{Started}
use Rattle.mu_command.specs.declared.job.RunJob.{RunJob}
use Rattle.mu_command.specs.declared.job.Job.TheVariants.{Run, Judge}
use Rattle.mu_command.specs.Job.{job_of}
use Rattle.mu_command.specs.Allowed.{file_limit}
use Rattle.mu_command.specs.Answer.{Outcomes, answer_of, found}
use Rattle.mu_command.specs.Central.{outcome_of}

-- A file that was fetched is within the limit.
abbrev pub IsShort : Outcome → Type 0
IsShort (got bytes) = length bytes ≤ file_limit
IsShort failed = Unit {0}
IsShort too_long = Unit {0}

-- That holds of each run that words ask for and that comes to an ending, whatever the words and the files: of how it begins, of its steps, and
-- of the text that is to be written.
abbrev pub OfPrintedRuns : (RunJob → List Item → Started → List (List Line) → List Line → List ℕ → Type 0) → Type 0
OfPrintedRuns P =
    (words : List (List ℕ)) (r : RunJob) (o : Outcomes) (code : List Item) (start : Started) (steps : List (List Line)) (ls : List Line) (e : Ending) →
    job_of words ≡ Some (Run r) → IsShort (o Hail) → found words (Run r) o ≡ Ok (Entered code start Lines) → run_of code start.entry start.setting ≡ Ends steps ls e →
    P r code start steps ls (whole (answer_of words (job_of words) o).pieces)

-- The text is read as the log of the run, with its values replaced. The verdict on that log is Yes, by the run's rule of release sequences.
abbrev pub PrintedRunsAreJudged : Type 0
PrintedRunsAreJudged = OfPrintedRuns (λ r code start steps ls text. IsReadAsYes code start.setting steps ls text)

-- Where words ask for the judging of a log by that rule, and the text is in the file of the log, the answer is `yes` and the number of the
-- run's events. The text is no longer than a file may be.
abbrev pub PrintedRunsAreAnsweredYes : Type 0
PrintedRunsAreAnsweredYes = OfPrintedRuns (λ r code start steps ls text.
    (words : List (List ℕ)) (file : ℕ) (o : Outcomes) →
    job_of words ≡ Some (Judge file r.rule) → length text ≤ file_limit → o Log ≡ outcome_of (Some text) →
    answer_of words (job_of words) o ≡ line (codes "yes " ++ decimal (length (log_of steps ls))) Done)
