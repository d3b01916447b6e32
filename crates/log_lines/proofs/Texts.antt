-- A text of readable lines is read as the log of their events.
use Rattle.std.proofs.Common.{◌≡◌, ℕ, suc, ◌+◌, ◌<◌, ◌^◌, Bool, true, false, ◌&&◌, List, [], ◌∷◌, length, refl, arith}
use Rattle.std.specs.Prelude.{if◌then◌else◌, Ok, Some, None}
use Rattle.std.specs.List.{list_all}
use Rattle.std.proofs.lemmas.Bool.Decides.{nat_tests}
use Rattle.log_lines.specs.Fields.{Text, parts}
use Rattle.log_lines.specs.Texts.{ReadLog, nothing_read, is_printable, first_unprintable, begins_with_digit, line_read, lines_read}
use Rattle.log_lines.specs.EventTexts.{NameOf, event_text}
use Rattle.log_lines.specs.Readable.{after_event}
use Rattle.log_lines.specs.Laws.{Line, EventLine, OtherLine, LinesAreReadable, lines_text, events_in, after_lines, TextsAreRead}
use Rattle.log_lines.proofs.Bytes.{other_than, parts_front}
use Rattle.log_lines.proofs.Lines.{line_is_read, event_printable}

no_feed : (b : ℕ) → is_printable b ≡ true → other_than 10 b ≡ true
no_feed b h = grind (arith, nat_tests)

printable_free : (at : ℕ) (line : Text) → first_unprintable at line ≡ None → list_all (other_than 10) line ≡ true
printable_free at [] h = refl
printable_free at (b ∷ bs) h = go (is_printable b) refl (printable_free (1 + at) bs) h
  where
    go : (x : Bool) → is_printable b ≡ x → (first_unprintable (1 + at) bs ≡ None → list_all (other_than 10) bs ≡ true) → (if x then first_unprintable (1 + at) bs else Some at) ≡ None → (other_than 10 b && list_all (other_than 10) bs) ≡ true
    go true q ih h = rw (no_feed b q) (ih h)
    go false q ih h = absurd (cc)

passed_line : (at : ℕ) (t : ReadLog) (text : Text) → begins_with_digit text ≡ false → line_read at t text ≡ Ok t
passed_line at t text h = rw h refl

lines_are_read : (name_of : NameOf) (at : ℕ) (t : ReadLog) (ls : List Line) → LinesAreReadable name_of ls → length t.log + events_in ls < 2 ^ 32 →
    lines_read at t (parts 10 (lines_text name_of (length t.log) ls)) ≡ Ok (after_lines name_of t ls)
lines_are_read name_of at t [] h l = refl
lines_are_read name_of at t (EventLine e ∷ ls) h l =
    let line = event_text name_of (length t.log) e in
    rw (parts_front 10 line (lines_text name_of (suc (length t.log)) ls) (printable_free at line (event_printable name_of at (length t.log) e (omega arith) h.0)), line_is_read name_of at t e (omega arith) h.0)
    (lines_are_read name_of (at + length line + 1) (after_event name_of t e) ls h.1 (omega arith))
lines_are_read name_of at t (OtherLine text ∷ ls) h l =
    rw (parts_front 10 text (lines_text name_of (length t.log) ls) h.0.1, passed_line at t text h.0.0)
    (lines_are_read name_of (at + length text + 1) t ls h.1 l)

pub text_is_read : TextsAreRead
text_is_read name_of ls h l = lines_are_read name_of 0 nothing_read ls h (omega arith)
