-- The fields of an event line that hold numbers: what each of them means, or what is wrong with it.
use Rattle.std.specs.Prelude.{ℕ, ◌^◌, Bool, false, not, ◌&&◌, ◌||◌, ◌==◌, nat_lt, if◌then◌else◌, List, [], ◌∷◌, length, Result, Ok, Err}
use Rattle.std.specs.List.{list_all}
use Rattle.std.specs.Char.{is_digit}
use Rattle.std.specs.Str.Parse.{digits_value}
use Rattle.mu_values.specs.declared.cells.CellId.{CellId}
pub use Rattle.log_lines.specs.EventTexts.{Text}
use Rattle.log_lines.specs.declared.types.LogKind.{LogKind}
use Rattle.log_lines.specs.declared.types.LogKind.TheVariants.{Unexpected, BadNumber}

-- The parts of a text between the bytes that equal `separator`. There is one part more than there are such bytes.
abbrev pub onto_first : ℕ → List Text → List Text
onto_first b [] = (b ∷ []) ∷ []
onto_first b (part ∷ rest) = (b ∷ part) ∷ rest

abbrev pub parts : ℕ → Text → List Text
parts separator [] = [] ∷ []
parts separator (b ∷ bs) = if b == separator then [] ∷ parts separator bs else onto_first b (parts separator bs)

-- what a field means, or what is wrong with it
abbrev pub Judged : Type 0 → Type 0
Judged A = Result A LogKind

abbrev pub mapped : {A B : Type 0} → (A → B) → Judged A → Judged B
mapped f (Ok a) = Ok (f a)
mapped f (Err k) = Err k

-- a field of the first form, or else of the other; a number of the first form that is out of range is not tried as the other
abbrev pub or_else : {A : Type 0} → Judged A → Judged A → Judged A
or_else (Err Unexpected) other = other
or_else first other = first

-- ---- numbers

-- decimal digits, without a leading zero, `0` aside
abbrev pub is_numeral : Text → Bool
is_numeral [] = false
is_numeral (b ∷ bs) = list_all (λ d. is_digit d 10) (b ∷ bs) && ((length bs == 0) || not (b == 48))

-- a number below the limit
abbrev pub number : ℕ → Text → Judged ℕ
number limit f = if is_numeral f then (if nat_lt (digits_value 10 f) limit then Ok (digits_value 10 f) else Err BadNumber) else Err Unexpected

-- the number `n`, as an event's own number is the count of event lines before it
abbrev pub exactly : ℕ → Text → Judged ℕ
exactly n f = if is_numeral f then (if digits_value 10 f == n then Ok n else Err BadNumber) else Err Unexpected

-- A value is below 2^128 and a thread's number below 64. Every other number is below 2^32.
abbrev pub value_limit : ℕ
value_limit = 2 ^ 128

abbrev pub thread_limit : ℕ
thread_limit = 64

abbrev pub number_limit : ℕ
number_limit = 2 ^ 32

-- a letter, and then what `judge` reads
abbrev pub after_letter : {A : Type 0} → ℕ → (Text → Judged A) → Text → Judged A
after_letter letter judge [] = Err Unexpected
after_letter letter judge (b ∷ bs) = if b == letter then judge bs else Err Unexpected

-- `tN`
abbrev pub thread : Text → Judged ℕ
thread f = after_letter 116 (number thread_limit) f

-- `sN`
abbrev pub stack : Text → Judged ℕ
stack f = after_letter 115 (number number_limit) f

-- `#o`
abbrev pub object : Text → Judged ℕ
object f = after_letter 35 (number number_limit) f

-- `#o+k`; where either number has not the form of a number that is the fault, whatever the range of the other
abbrev pub cell_of : Judged ℕ → Judged ℕ → Judged CellId
cell_of (Ok o) (Ok k) = Ok (record { object = o; at = k })
cell_of (Err Unexpected) k = Err Unexpected
cell_of o (Err Unexpected) = Err Unexpected
cell_of o k = Err BadNumber

abbrev pub cell_in : List Text → Judged CellId
cell_in (o ∷ k ∷ []) = cell_of (number number_limit o) (number number_limit k)
cell_in _ = Err Unexpected

abbrev pub cell : Text → Judged CellId
cell f = after_letter 35 (λ bs. cell_in (parts 43 bs)) f
