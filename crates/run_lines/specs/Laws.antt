-- The lines of a run as lines of a log, and that the text of a run is read as its log.
use Rattle.std.specs.Prelude.{ℕ, ◌<◌, ◌≡◌, List, [], ◌∷◌, ◌++◌, length, map, flat_map, Ok}
use Rattle.ir_tree.specs.declared.items.Item.{Item}
use Rattle.mem_axioms.specs.declared.types.Event.{Event}
use Rattle.mu_model.specs.declared.lines.Line.{Line}
use Rattle.mu_model.specs.declared.lines.Line.TheVariants as lines
use Rattle.mu_model.specs.declared.endings.Ending.{Ending}
use Rattle.run_texts.specs.EventTexts.{Text, function_text}
use Rattle.run_texts.specs.Texts.{line_text, note_text, ending_text}
use Rattle.run_texts.specs.Pieces.{pieces_of}
pub use Rattle.text_programs.specs.Numbers.{Numbered, all_lines}
use Rattle.log_lines.specs.Fields.{number_limit}
use Rattle.log_lines.specs.Texts.{ReadLog, line_read, text_read, nothing_read}
use Rattle.log_lines.specs.EventTexts.{NameOf}
use Rattle.log_lines.specs.Readable.{EventIsReadable, after_event}
use Rattle.log_lines.specs.Laws.{EventLine, OtherLine, LinesAreReadable, after_lines, events_in}
use Rattle.log_lines.specs.Laws.{Line as LogLine}

-- the names of a bundle's functions
abbrev pub names_in : List Item → NameOf
names_in bundle n = function_text bundle bundle n

-- A record is no event line.
abbrev pub log_line : List Item → Line → LogLine
log_line bundle (lines.Event n e) = EventLine e
log_line bundle (lines.Note n) = OtherLine (note_text bundle n)

-- the lines of a run that ends, and its ending line
abbrev pub run_lines : List Item → List (List Line) → List Line → Ending → List LogLine
run_lines bundle steps ls e = map (log_line bundle) (all_lines steps ls) ++ OtherLine (ending_text bundle e) ∷ []

-- the text that the pieces make together
abbrev pub whole : List Text → Text
whole pieces = flat_map (λ piece. piece) pieces

-- The line that a run prints for a readable event, with the number that is next, is read as that event, with its value replaced.
abbrev pub RunLineIsRead : Type 0
RunLineIsRead = (bundle : List Item) (at : ℕ) (r : ReadLog) (e : Event) → length r.log < number_limit → EventIsReadable (names_in bundle) e →
    (line : Text) × (line_text bundle (lines.Event (length r.log) e) ≡ line ++ 10 ∷ []) × (line_read at r line ≡ Ok (after_event (names_in bundle) r e))

-- The text of a run, in its pieces, is read as the events of its lines, where these are readable, numbered from 0 on, and fewer than 2^32.
abbrev pub RunTextIsRead : Type 0
RunTextIsRead = (bundle : List Item) (steps : List (List Line)) (ls : List Line) (e : Ending) → Numbered 0 (all_lines steps ls) →
    LinesAreReadable (names_in bundle) (run_lines bundle steps ls e) → events_in (run_lines bundle steps ls e) < number_limit →
    text_read (whole (pieces_of bundle steps ls e)) ≡ Ok (after_lines (names_in bundle) nothing_read (run_lines bundle steps ls e))
