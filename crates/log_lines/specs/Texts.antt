-- The log of a text. The text's lines stand between line feeds. A line that begins with a decimal digit is an event line, and
-- every other line is passed over. So a text that ends with a line feed ends with an empty line, which is passed over.
use Rattle.std.specs.Prelude.{ℕ, ◌+◌, Bool, false, ◌&&◌, nat_le, if◌then◌else◌, List, [], ◌∷◌, length, Result, Ok, Err, Option, Some, None}
use Rattle.std.specs.Char.{is_ascii_digit}
use Rattle.demands.specs.declared.fault.Fault.{Fault}
use Rattle.demands.specs.declared.fault.Fault.TheVariants.{At}
use Rattle.mem_axioms.specs.declared.types.Event.{Event}
use Rattle.log_lines.specs.Fields.{Text, parts}
use Rattle.log_lines.specs.Values.{Names}
use Rattle.log_lines.specs.Lines.{placed, event_in}
use Rattle.log_lines.specs.declared.types.LogKind.{LogKind}
use Rattle.log_lines.specs.declared.types.LogKind.TheVariants.{Lex}

-- the events that were read, newest first, and the names of functions in the order of their first use
pub record ReadLog : Type 0 where
  pub log : List Event
  pub names : Names

abbrev pub nothing_read : ReadLog
nothing_read = record { log = []; names = [] }

-- a byte from 32 to 126
abbrev pub is_printable : ℕ → Bool
is_printable b = nat_le 32 b && nat_le b 126

-- the byte offset of the first byte that is no such byte
abbrev pub first_unprintable : ℕ → Text → Option ℕ
first_unprintable at [] = None
first_unprintable at (b ∷ bs) = if is_printable b then first_unprintable (1 + at) bs else Some at

abbrev pub with_event : ReadLog → Result (Event × Names) (Fault LogKind) → Result ReadLog (Fault LogKind)
with_event r (Ok e) = Ok (record { log = e.0 ∷ r.log; names = e.1 })
with_event r (Err fault) = Err fault

-- In an event line the first byte that is not printable is the fault, whatever the fields before it.
abbrev pub event_line : ℕ → ReadLog → Text → Option ℕ → Result ReadLog (Fault LogKind)
event_line at r line (Some place) = Err (At Lex place)
event_line at r line None = with_event r (event_in (at + length line) (length r.log) r.names (placed at (parts 32 line)))

abbrev pub begins_with_digit : Text → Bool
begins_with_digit [] = false
begins_with_digit (b ∷ bs) = is_ascii_digit b

abbrev pub line_read : ℕ → ReadLog → Text → Result ReadLog (Fault LogKind)
line_read at r line = if begins_with_digit line then event_line at r line (first_unprintable at line) else Ok r

abbrev pub go_on : Result ReadLog (Fault LogKind) → (ReadLog → Result ReadLog (Fault LogKind)) → Result ReadLog (Fault LogKind)
go_on (Ok r) more = more r
go_on (Err fault) more = Err fault

-- Lines are judged in order. The first of these lines begins at that byte offset.
abbrev pub lines_read : ℕ → ReadLog → List Text → Result ReadLog (Fault LogKind)
lines_read at r [] = Ok r
lines_read at r (line ∷ lines) = go_on (line_read at r line) (λ r. lines_read (at + length line + 1) r lines)

abbrev pub text_read : Text → Result ReadLog (Fault LogKind)
text_read text = lines_read 0 nothing_read (parts 10 text)
