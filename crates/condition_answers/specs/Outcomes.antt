-- What the text of an outcome says: what each thread returned, what the globals of one cell hold, and the ending.
use Rattle.std.specs.Prelude.{ℕ, ◌-◌, ◌^◌, Bool, true, false, not, ◌&&◌, ◌==◌, nat_lt, List, [], ◌∷◌, length, flat_map, Option, Some, None, codes, bytes_eq, slice_index, if◌then◌else◌}
use Rattle.std.specs.Option.{unwrap_or}
use Rattle.std.specs.List.{list_all, slice_split}
use Rattle.std.specs.Char.{is_digit}
use Rattle.std.specs.Str.Parse.{digits_value}
use Rattle.conditions.specs.declared.tree.Value.{Value}
use Rattle.conditions.specs.declared.tree.Value.TheVariants as values
use Rattle.conditions.specs.declared.tree.Ending.{Ending}
use Rattle.conditions.specs.declared.tree.Ending.TheVariants as endings
use Rattle.conditions.specs.declared.holding.Returned.{Returned}
use Rattle.conditions.specs.declared.holding.Outcome.{Outcome}
use Rattle.conditions.specs.Words.{thread_of, ending_of}

abbrev pub Text : Type 0
Text = List ℕ

-- the parts between line feeds, and those of a line between blanks
abbrev pub lines_of : Text → List Text
lines_of text = slice_split (λ b. b == 10) text

abbrev pub words_of : Text → List Text
words_of line = slice_split (λ b. b == 32) line

-- ---- values

-- decimal digits of a number below 2^128
abbrev pub are_digits : Text → Bool
are_digits word = not (length word == 0) && list_all (λ d. is_digit d 10) word

abbrev pub number_in : Text → Option ℕ
number_in word = if are_digits word then (if nat_lt (digits_value 10 word) (2 ^ 128) then Some (digits_value 10 word) else None) else None

abbrev pub value_by : Option ℕ → Text → Value
value_by (Some n) word = values.Number n
value_by None word = if bytes_eq word (codes "NULL") then values.Null else values.Other

abbrev pub value_of : Text → Value
value_of word = value_by (number_in word) word

-- the word begins with `{`, and it ends with `}`
abbrev pub opens : Text → Bool
opens [] = false
opens (b ∷ bs) = b == 123

abbrev pub closes : Text → Bool
closes word = not (length word == 0) && (slice_index word (length word - 1) == 125)

-- the values that these words write, the first of which may stand inside braces: what stands in braces is one value
abbrev pub values_from : Bool → List Text → List Value
values_from inside [] = []
values_from true (w ∷ ws) = values_from (not (closes w)) ws
values_from false (w ∷ ws) = if opens w then values.Other ∷ values_from (not (closes w)) ws else value_of w ∷ values_from false ws

-- ---- lines

-- `returned tT VALUES`
abbrev pub returned_by : Option ℕ → List Text → List Returned
returned_by None words = []
returned_by (Some thread) words = record { thread = thread; values = values_from false words } ∷ []

abbrev pub returned_in : List Text → List Returned
returned_in (first ∷ thread ∷ words) = if bytes_eq first (codes "returned") then returned_by (thread_of thread) words else []
returned_in _ = []

-- `final @G VALUE`
abbrev pub final_in : List Text → List Value
final_in (first ∷ name ∷ value ∷ []) = if bytes_eq first (codes "final") then value_of value ∷ [] else []
final_in _ = []

-- the ending: `done`, `stop`, `all waiting ..`, `heap full ..`, `threads full ..`, or `undefined CASE ..`
abbrev pub case_in : List Text → Option Ending
case_in [] = None
case_in (case ∷ words) = ending_of case

abbrev pub ending_in : List Text → Option Ending
ending_in [] = None
ending_in (first ∷ words) =
    if bytes_eq first (codes "done") then Some endings.Done
    else (if bytes_eq first (codes "stop") then Some endings.Stop
    else (if bytes_eq first (codes "all") then Some endings.Waiting
    else (if bytes_eq first (codes "heap") then Some endings.HeapFull
    else (if bytes_eq first (codes "threads") then Some endings.ThreadsFull
    else (if bytes_eq first (codes "undefined") then case_in words else None)))))

-- that of the first line that tells one
abbrev pub or_later : Option Ending → Option Ending → Option Ending
or_later None later = later
or_later (Some e) later = Some e

abbrev pub first_ending : List Text → Option Ending
first_ending [] = None
first_ending (line ∷ lines) = or_later (ending_in (words_of line)) (first_ending lines)

-- ---- an outcome

abbrev pub all_returned : List Text → List Returned
all_returned lines = flat_map (λ line. returned_in (words_of line)) lines

abbrev pub all_finals : List Text → List Value
all_finals lines = flat_map (λ line. final_in (words_of line)) lines

-- each outcome has an ending, so the other case never comes
abbrev pub outcome_in : Text → Outcome
outcome_in text =
    record {
      returned = all_returned (lines_of text);
      finals = all_finals (lines_of text);
      ending = unwrap_or (first_ending (lines_of text)) endings.Done;
    }
