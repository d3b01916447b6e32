-- The laws of log texts.
use Rattle.std.specs.Prelude.{ℕ, suc, ◌<◌, ◌≡◌, true, false, not, ◌==◌, List, [], ◌∷◌, ◌++◌, map, length, Ok}
use Rattle.std.specs.List.{list_all}
use Rattle.mem_axioms.specs.declared.types.Event.{Event}
use Rattle.log_lines.specs.Fields.{Text, number_limit}
use Rattle.log_lines.specs.Texts.{ReadLog, nothing_read, line_read, text_read, begins_with_digit}
use Rattle.log_lines.specs.EventTexts.{NameOf, event_text}
use Rattle.log_lines.specs.Readable.{EventIsReadable, event_for, after_event}

-- The line of a readable event, with the number that is next, is read as that event, with its value replaced.
abbrev pub EventLinesAreRead : Type 0
EventLinesAreRead = (name_of : NameOf) (at : ℕ) (r : ReadLog) (e : Event) → length r.log < number_limit → EventIsReadable name_of e →
    line_read at r (event_text name_of (length r.log) e) ≡ Ok (after_event name_of r e)

-- ---- whole texts

-- a line of an event, or another line
pub data Line : Type 0 where
  EventLine : Event → Line
  OtherLine : Text → Line

-- An event is readable. Another line does not begin with a digit and has no line feed in it.
abbrev pub LineIsReadable : NameOf → Line → Type 0
LineIsReadable name_of (EventLine e) = EventIsReadable name_of e
LineIsReadable name_of (OtherLine text) = (begins_with_digit text ≡ false) × (list_all (λ b. not (b == 10)) text ≡ true)

abbrev pub LinesAreReadable : NameOf → List Line → Type 0
LinesAreReadable name_of [] = Unit {0}
LinesAreReadable name_of (l ∷ ls) = LineIsReadable name_of l × LinesAreReadable name_of ls

-- all lines in order, each with a line feed after it; the events are numbered from `n` on
abbrev pub lines_text : NameOf → ℕ → List Line → Text
lines_text name_of n [] = []
lines_text name_of n (EventLine e ∷ ls) = event_text name_of n e ++ 10 ∷ lines_text name_of (suc n) ls
lines_text name_of n (OtherLine text ∷ ls) = text ++ 10 ∷ lines_text name_of n ls

abbrev pub events_in : List Line → ℕ
events_in [] = 0
events_in (EventLine e ∷ ls) = suc (events_in ls)
events_in (OtherLine text ∷ ls) = events_in ls

-- what was read before, and then the events of the lines
abbrev pub after_lines : NameOf → ReadLog → List Line → ReadLog
after_lines name_of r [] = r
after_lines name_of r (EventLine e ∷ ls) = after_lines name_of (after_event name_of r e) ls
after_lines name_of r (OtherLine text ∷ ls) = after_lines name_of r ls

abbrev pub TextsAreRead : Type 0
TextsAreRead = (name_of : NameOf) (ls : List Line) → LinesAreReadable name_of ls → events_in ls < number_limit → text_read (lines_text name_of 0 ls) ≡ Ok (after_lines name_of nothing_read ls)

-- ---- the values that are read

-- a log, and then the events of the lines; newest first
abbrev pub log_after : List Event → List Line → List Event
log_after log [] = log
log_after log (EventLine e ∷ ls) = log_after (e ∷ log) ls
log_after log (OtherLine text ∷ ls) = log_after log ls

-- One replacement serves for all values of the text, by the names that were used up to its end: so equal values stay equal.
abbrev pub ValuesAreReplaced : Type 0
ValuesAreReplaced = (name_of : NameOf) (ls : List Line) → LinesAreReadable name_of ls →
    let r = after_lines name_of nothing_read ls in r.log ≡ map (event_for name_of r.names) (log_after [] ls)
