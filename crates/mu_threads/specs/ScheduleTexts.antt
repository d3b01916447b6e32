-- The text of a schedule, the numbers that it stands for, and what it is refused for.
use Rattle.std.specs.Prelude.{ℕ, ◌+◌, ◌^◌, Bool, true, false, ◌&&◌, ◌==◌, not, nat_lt, List, [], ◌∷◌, length, filter, map, if◌then◌else◌}
use Rattle.std.specs.List.{list_all, slice_split}
use Rattle.std.specs.Char.{is_digit}
use Rattle.std.specs.Str.Parse.{digits_value}
use Rattle.ir_lex.specs.Bytes.{is_blank, is_line_feed}
use Rattle.ir_lex.specs.Gaps.{slash_next}
use Rattle.demands.specs.Demands.{Demands, none, demand, ◌⨾◌}
use Rattle.mu_threads.specs.declared.reading.ScheduleKind.{ScheduleKind}
use Rattle.mu_threads.specs.declared.reading.ScheduleKind.TheVariants.{BadToken, NumberTooLarge}

-- The text with a blank for each byte of a comment, so that all other bytes keep their places. A comment is `//` up to the next line
-- feed or the end. Whether one has begun before these bytes is said first.
abbrev pub without_comments : Bool → List ℕ → List ℕ
without_comments inside [] = []
without_comments true (b ∷ bs) = if is_line_feed b then b ∷ without_comments false bs else 32 ∷ without_comments true bs
without_comments false (b ∷ bs) = if b == 47 && slash_next bs then 32 ∷ without_comments true bs else b ∷ without_comments false bs

-- bytes that stand together, and the place of the first
pub record Run : Type 0 where
  pub place : ℕ
  pub bytes : List ℕ

-- parts of a text, of which the first begins at the place, with one byte between each two
abbrev pub placed : ℕ → List (List ℕ) → List Run
placed place [] = []
placed place (bytes ∷ parts) = record { place = place; bytes = bytes } ∷ placed (place + length bytes + 1) parts

abbrev pub has_bytes : Run → Bool
has_bytes r = not (length r.bytes == 0)

-- The runs of a text: its parts between blanks and comments that are not empty. The first byte has the place, and stands in a comment
-- or not.
abbrev pub runs_from : Bool → ℕ → List ℕ → List Run
runs_from inside place text = filter has_bytes (placed place (slice_split is_blank (without_comments inside text)))

abbrev pub runs : List ℕ → List Run
runs text = runs_from false 0 text

-- a run spells a number by decimal digits alone, and that number is below 2^32
abbrev pub run_demands : Run → Demands ScheduleKind
run_demands r =
    demand r.place BadToken (list_all (λ d. is_digit d 10) r.bytes)
    ⨾ demand r.place NumberTooLarge (nat_lt (digits_value 10 r.bytes) (2 ^ 32))

-- the demands on runs, in their order
abbrev pub runs_demands : List Run → Demands ScheduleKind
runs_demands [] = none
runs_demands (r ∷ rs) = run_demands r ⨾ runs_demands rs

abbrev pub schedule_demands : List ℕ → Demands ScheduleKind
schedule_demands text = runs_demands (runs text)

-- the numbers that runs spell
abbrev pub numbers : List Run → List ℕ
numbers rs = map (λ (r : Run). digits_value 10 r.bytes) rs

abbrev pub schedule_numbers : List ℕ → List ℕ
schedule_numbers text = numbers (runs text)
