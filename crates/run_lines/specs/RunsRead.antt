-- What a run of an accepted text prints is read as its log, and the verdict on it is Yes.
use Rattle.std.specs.Prelude.{◌≡◌, ◌≤◌, ◌<◌, ℕ, true, List, All, Ok, length}
use Rattle.ir_tree.specs.declared.items.Item.{Item}
use Rattle.checked_code.specs.Checking.{bundle_tables}
use Rattle.mem_axioms.specs.declared.types.Event.{Event}
use Rattle.mu_model.specs.declared.lines.Line.{Line}
use Rattle.mu_model.specs.declared.endings.Ending.{Ending}
use Rattle.mu_model.specs.Programs.{named}
use Rattle.mu_model.specs.Run.{Setting, Ends, program_run}
use Rattle.checked_code.specs.Answers.{entry}
use Rattle.hail_load.specs.Texts.{hail_commands}
use Rattle.loaded_programs.specs.Laws.{IsScripted, loaded_objects}
use Rattle.text_programs.specs.Printable.{IsModest}
use Rattle.text_programs.specs.Laws.{OfAcceptedTexts}
use Rattle.text_programs.specs.Moments.{OfEnteredRuns}
use Rattle.text_programs.specs.RunLogs.{IsLeftBy}
use Rattle.log_lines.specs.Fields.{number_limit}
use Rattle.log_lines.specs.Values.{is_name}
use Rattle.log_lines.specs.Readable.{EventIsReadable}
use Rattle.log_lines.specs.Laws.{LinesAreReadable}
use Rattle.run_texts.specs.Pieces.{pieces_of}
use Rattle.run_lines.specs.Laws.{names_in, Numbered, all_lines, run_lines, whole}
use Rattle.run_lines.specs.Verdicts.{log_of, IsReadAsYes}

-- Each function of the bundle has a name that can be read in a log.
abbrev pub HasNames : List Item → Type 0
HasNames bundle = (f : ℕ) → f < length (bundle_tables bundle).functions → is_name (names_in bundle f) ≡ true

-- ---- a run in a modest setting

-- The log that the run leaves is readable, and has fewer events than 2^32.
abbrev pub LogsAreReadable : List Item → Type 0
LogsAreReadable bundle =
    HasNames bundle → OfEnteredRuns (λ p s function. IsModest s → (log : List Event) → IsLeftBy p s function log → All (EventIsReadable (names_in bundle)) log × (length log < number_limit)) bundle

abbrev pub LogsOfTextsAreReadable : Type 0
LogsOfTextsAreReadable = OfAcceptedTexts LogsAreReadable

-- The event lines of the run are numbered, all its lines are readable, and its events are fewer than 2^32.
pub record AreReadable (bundle : List Item) (steps : List (List Line)) (ls : List Line) (e : Ending) : Type 0 where
  pub numbered : Numbered 0 (all_lines steps ls)
  pub lines : LinesAreReadable (names_in bundle) (run_lines bundle steps ls e)
  pub few : length (log_of steps ls) < number_limit

abbrev pub RunsAreReadable : List Item → Type 0
RunsAreReadable bundle =
    OfEnteredRuns (λ p s function. IsModest s → (steps : List (List Line)) (ls : List Line) (e : Ending) → program_run p s function ≡ Ends steps ls e → AreReadable bundle steps ls e) bundle

abbrev pub RunsOfTextsAreReadable : Type 0
RunsOfTextsAreReadable = OfAcceptedTexts RunsAreReadable

-- So the text of the run is read as its log, with its values replaced, and the verdict on that is Yes.
abbrev pub RunsAreJudged : List Item → Type 0
RunsAreJudged bundle =
    OfEnteredRuns (λ p s function. IsModest s → (steps : List (List Line)) (ls : List Line) (e : Ending) → program_run p s function ≡ Ends steps ls e → IsReadAsYes bundle s steps ls (whole (pieces_of bundle steps ls e))) bundle

abbrev pub RunsOfTextsAreJudged : Type 0
RunsOfTextsAreJudged = OfAcceptedTexts RunsAreJudged

-- ---- a run in a setting that the program makes

-- The setting has the objects of a script of 1,048,576 bytes at most and the client of a script, and allows a million cells and a million
-- steps at most.
pub record IsGiven (bundle : List Item) (s : Setting) : Type 0 where
  pub text : List ℕ
  pub short : length text ≤ 1048576
  pub objects : s.objects ≡ loaded_objects bundle s.cells (hail_commands text)
  pub client : IsScripted bundle s.client
  pub cells : s.cells ≤ 1000000
  pub budget : s.budget ≤ 1000000

abbrev pub GivenRunsAreJudged : List Item → Type 0
GivenRunsAreJudged bundle =
    (s : Setting) (name : List ℕ) (function : ℕ) → IsGiven bundle s → entry bundle name ≡ Ok function → (steps : List (List Line)) (ls : List Line) (e : Ending) →
    program_run (named bundle) s function ≡ Ends steps ls e → IsReadAsYes bundle s steps ls (whole (pieces_of bundle steps ls e))

abbrev pub GivenRunsOfTextsAreJudged : Type 0
GivenRunsOfTextsAreJudged = OfAcceptedTexts GivenRunsAreJudged
