-- The text of a run: a line for each event and each record, and a last one for the ending.
use Rattle.std.specs.Prelude.{List, [], ◌++◌, Option, Some, None, codes, decimal}
use Rattle.mu_base.specs.declared.status.Status.{Status}
use Rattle.mu_base.specs.declared.status.Status.TheVariants as statuses
use Rattle.ir_tree.specs.declared.items.Item.{Item}
use Rattle.mu_model.specs.declared.lines.Note.{Note}
use Rattle.mu_model.specs.declared.lines.Note.TheVariants as notes
use Rattle.mu_model.specs.declared.lines.Line.{Line}
use Rattle.mu_model.specs.declared.lines.Line.TheVariants as lines
use Rattle.mu_model.specs.declared.endings.Case.{Case}
use Rattle.mu_model.specs.declared.endings.Case.TheVariants as cases
use Rattle.mu_model.specs.declared.endings.Raced.{Raced}
use Rattle.mu_model.specs.declared.endings.Ending.{Ending}
use Rattle.mu_model.specs.declared.endings.Ending.TheVariants as endings
pub use Rattle.run_texts.specs.EventTexts.{Text}
use Rattle.run_texts.specs.EventTexts.{place_text, cell_text, thread_text, spaced, values_text, kind_text}

-- ---- lines

abbrev pub note_text : List Item → Note → Text
note_text bundle (notes.Returned i vs) = codes "returned " ++ thread_text i ++ values_text bundle vs
note_text bundle (notes.Exited i) = codes "exited " ++ thread_text i
note_text bundle (notes.Trap i block at) = codes "trap " ++ thread_text i ++ codes " " ++ place_text bundle block at
note_text bundle (notes.Watchpoint i block at n) = codes "watchpoint " ++ thread_text i ++ codes " " ++ place_text bundle block at ++ codes " " ++ decimal n
note_text bundle (notes.Frame n block at) = codes "frame " ++ decimal n ++ codes " " ++ place_text bundle block at
note_text bundle (notes.Kept n vs) = codes "kept " ++ decimal n ++ values_text bundle vs
note_text bundle (notes.TimedOut i cell) = codes "timed out " ++ thread_text i ++ codes " " ++ cell_text cell

abbrev pub line_text : List Item → Line → Text
line_text bundle (lines.Event n e) = decimal n ++ codes " " ++ thread_text e.thread ++ codes " " ++ kind_text bundle e.kind ++ codes "\n"
line_text bundle (lines.Note n) = note_text bundle n ++ codes "\n"

abbrev pub case_text : Case → Text
case_text cases.DivideByZero = codes "DivideByZero"
case_text cases.NullAccess = codes "NullAccess"
case_text cases.OutOfRange = codes "OutOfRange"
case_text cases.BadCast = codes "BadCast"
case_text cases.DeadCell = codes "DeadCell"
case_text cases.DataRace = codes "DataRace"
case_text cases.StackNotReady = codes "StackNotReady"
case_text cases.StackTypes = codes "StackTypes"
case_text cases.Uncaught = codes "Uncaught"
case_text cases.NullCall = codes "NullCall"
case_text cases.NoBody = codes "NoBody"
case_text cases.ClientMisuse = codes "ClientMisuse"

abbrev pub race_text : List Item → Option Raced → Text
race_text bundle None = []
race_text bundle (Some r) = codes " " ++ kind_text bundle r.event.kind ++ codes " with " ++ decimal r.earlier

abbrev pub ending_text : List Item → Ending → Text
ending_text bundle endings.Done = codes "done"
ending_text bundle endings.Stop = codes "stop"
ending_text bundle (endings.Undefined k i block at r) = codes "undefined " ++ case_text k ++ codes " " ++ thread_text i ++ codes " " ++ place_text bundle block at ++ race_text bundle r
ending_text bundle (endings.HeapFull i asked left) = codes "heap full " ++ thread_text i ++ codes " asked " ++ decimal asked ++ codes " left " ++ decimal left
ending_text bundle (endings.ThreadsFull i) = codes "threads full " ++ thread_text i
ending_text bundle (endings.AllWaiting is) = codes "all waiting" ++ spaced thread_text is
ending_text bundle (endings.Budget n) = codes "budget " ++ decimal n

-- the status of the program after that ending
abbrev pub ending_status : Ending → Status
ending_status endings.Done = statuses.Done
ending_status endings.Stop = statuses.Stop
ending_status (endings.Undefined k i block at r) = statuses.Undefined
ending_status (endings.HeapFull i asked left) = statuses.HeapFull
ending_status (endings.ThreadsFull i) = statuses.ThreadsFull
ending_status (endings.AllWaiting is) = statuses.AllWaiting
ending_status (endings.Budget n) = statuses.Budget
