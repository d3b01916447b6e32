-- The verdict on a run is Yes.
use Rattle.std.specs.Prelude.{ℕ, ◌<◌, ◌≡◌, List, [], length, map, Ok}
use Rattle.ir_tree.specs.declared.items.Item.{Item}
use Rattle.mem_axioms.specs.declared.types.Event.{Event}
use Rattle.mu_model.specs.declared.lines.Line.{Line}
use Rattle.mu_model.specs.declared.endings.Ending.{Ending}
use Rattle.mu_model.specs.Acts.{Program}
use Rattle.mu_model.specs.Run.{Setting}
use Rattle.run_texts.specs.Pieces.{pieces_of}
use Rattle.text_programs.specs.Moments.{log_behind}
use Rattle.text_programs.specs.RunLogs.{log_of_steps, IsLeftBy}
use Rattle.log_lines.specs.Fields.{number_limit}
use Rattle.log_lines.specs.Texts.{ReadLog, text_read}
use Rattle.log_lines.specs.Readable.{event_for}
use Rattle.log_lines.specs.Laws.{LinesAreReadable}
use Rattle.verdicts.specs.Verdicts.{verdict}
use Rattle.verdicts.specs.declared.types.Verdict.TheVariants.{Yes}
use Rattle.run_lines.specs.Laws.{names_in, Numbered, all_lines, run_lines, whole}

-- the log that a run leaves at its ending
abbrev pub log_of : List (List Line) → List Line → List Event
log_of steps ls = log_behind ls (log_of_steps steps [])

-- The verdict on that log is Yes, by the rule of release sequences that the run is given.
abbrev pub RunIsYes : Type 0
RunIsYes = (p : Program) (s : Setting) (function : ℕ) (log : List Event) → IsLeftBy p s function log → verdict s.rule log ≡ Yes (length log)

-- The text is read as the log of the run with its values replaced: an integer has width 128, and a function the number that its name has
-- among those that the text uses. The verdict on the log that is read is Yes.
pub record IsReadAsYes (bundle : List Item) (s : Setting) (steps : List (List Line)) (ls : List Line) (text : List ℕ) : Type 0 where
  pub read : ReadLog
  pub is_read : text_read text ≡ Ok read
  pub replaced : read.log ≡ map (event_for (names_in bundle) read.names) (log_of steps ls)
  pub yes : verdict s.rule read.log ≡ Yes (length (log_of steps ls))

-- So is the text of a run whose lines are readable, numbered from 0 on, and fewer than 2^32.
abbrev pub RunTextIsYes : Type 0
RunTextIsYes = (p : Program) (s : Setting) (function : ℕ) (bundle : List Item) (steps : List (List Line)) (ls : List Line) (e : Ending) → IsLeftBy p s function (log_of steps ls) →
    Numbered 0 (all_lines steps ls) → LinesAreReadable (names_in bundle) (run_lines bundle steps ls e) → length (log_of steps ls) < number_limit →
    IsReadAsYes bundle s steps ls (whole (pieces_of bundle steps ls e))
