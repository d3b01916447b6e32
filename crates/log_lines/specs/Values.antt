-- The field of an event line that holds a value, which is one scalar. A function is written by its name; its number is how
-- many other names were used first before it.
use Rattle.std.specs.Prelude.{ℕ, suc, Bool, false, not, ◌&&◌, ◌||◌, ◌==◌, if◌then◌else◌, List, [], ◌∷◌, ◌++◌, length, codes, bytes_eq, Ok, Err}
use Rattle.std.specs.List.{list_all}
use Rattle.std.specs.Char.{is_ascii_alphanumeric}
use Rattle.mu_values.specs.declared.scalars.Scalar.{Scalar}
use Rattle.mu_values.specs.declared.scalars.Scalar.TheVariants as scalars
use Rattle.mu_values.specs.declared.cells.CellId.{CellId}
use Rattle.log_lines.specs.Fields.{Text, Judged, mapped, or_else, number, object, cell, stack, thread, value_limit}
use Rattle.log_lines.specs.declared.types.LogKind.TheVariants.{Unexpected}

-- the names of functions in the order of their first use
abbrev pub Names : Type 0
Names = List Text

-- how many names stand before this one; of a new name, how many there are
abbrev pub place_among : Names → Text → ℕ
place_among [] f = 0
place_among (name ∷ names) f = if bytes_eq name f then 0 else suc (place_among names f)

abbrev pub is_among : Names → Text → Bool
is_among [] f = false
is_among (name ∷ names) f = bytes_eq name f || is_among names f

-- a letter, a digit, `_`, `-` or `.`
abbrev pub is_name_byte : ℕ → Bool
is_name_byte b = is_ascii_alphanumeric b || (b == 95) || (b == 45) || (b == 46)

-- `@` and one or more such bytes
abbrev pub is_name : Text → Bool
is_name [] = false
is_name (b ∷ bs) = (b == 64) && not (length bs == 0) && list_all is_name_byte bs

abbrev pub function : Names → Text → Judged ℕ
function names f = if is_name f then Ok (place_among names f) else Err Unexpected

-- A number that is read as a value has width 128.
abbrev pub scalar : Names → Text → Judged Scalar
scalar names f =
    or_else (mapped (scalars.Int 128) (number value_limit f))
    (or_else (if bytes_eq (codes "NULL") f then Ok scalars.Null else Err Unexpected)
    (or_else (mapped scalars.Object (object f))
    (or_else (mapped (λ (c : CellId). scalars.Place c.object c.at) (cell f))
    (or_else (mapped scalars.Func (function names f))
    (or_else (mapped scalars.Stack (stack f)) (mapped scalars.Thread (thread f)))))))

-- the names, and at their end that of the field where it is a new name
abbrev pub names_with : Names → Text → Names
names_with names f = if is_name f && not (is_among names f) then names ++ f ∷ [] else names

-- a value, and the names that were used up to then
abbrev pub value : Names → Text → Judged (Scalar × Names)
value names f = mapped (λ s. (s, names_with names f)) (scalar names f)
