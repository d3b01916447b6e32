-- Inner: what the functions of this crate say to each other.
use Rattle.std.specs.Prelude.{◌≡◌, ◌≤◌, ◌-◌, ℕ, suc, Bool, not, ◌==◌, if◌then◌else◌, List, [], ◌∷◌, length, map, codes, bytes_eq, Option, Some, None, Result, Ok, Err}
use Rattle.std.specs.Borrow.{Bor}
use Rattle.demands.specs.declared.fault.Fault.{Fault}
use Rattle.demands.specs.declared.fault.Fault.TheVariants.{Memory, At}
use Rattle.mu_values.specs.declared.scalars.Scalar.{Scalar}
use Rattle.mu_values.specs.declared.scalars.Scalar.TheVariants as scalars
use Rattle.mu_values.specs.declared.cells.CellId.{CellId}
use Rattle.mem_axioms.specs.declared.types.Kind.{Kind}
use Rattle.mem_axioms.specs.declared.types.Event.{Event}
use Rattle.log_lines.specs.Fields.{Text, parts, Judged, mapped, or_else, number, value_limit, object, cell, stack, thread}
use Rattle.log_lines.specs.Values.{Names}
use Rattle.log_lines.specs.Lines.{Fields, Read, placed}
use Rattle.log_lines.specs.Texts.{ReadLog}
use Rattle.log_lines.specs.declared.types.LogKind.{LogKind}
use Rattle.log_lines.specs.declared.types.LogKind.TheVariants.{Unexpected}

-- ---- parts

-- the parts after the first, of a text that goes on so after its first part
abbrev pub parts_after : ℕ → Text → List Text
parts_after separator [] = []
parts_after separator (b ∷ rest) = parts separator rest

-- a byte other than the separator
abbrev pub other_than : ℕ → ℕ → Bool
other_than separator b = not (b == separator)

-- the parts of a text, if there is one
abbrev pub parts_of : ℕ → Option (Bor Text) → List Text
parts_of separator None = []
parts_of separator (Some rest) = parts separator rest.now

-- ---- fields

-- the fields that are left of a line, and the line's end
pub record LineRest : Type 0 where
  pub fields : Fields
  pub end : ℕ

abbrev pub fields_left : ℕ → Option (Bor Text) → Fields
fields_left end None = []
fields_left end (Some rest) = placed (end - length rest.now) (parts 32 rest.now)

abbrev pub IsWithin : ℕ → Option (Bor Text) → Type 0
IsWithin end None = Unit {0}
IsWithin end (Some rest) = length rest.now ≤ end

-- what a field means, or its fault at that byte offset
abbrev pub at_place : {A : Type 0} → ℕ → Result A LogKind → Result A (Fault LogKind)
at_place place (Ok a) = Ok a
at_place place (Err kind) = Err (At kind place)

-- what a function answers that reads some of these fields, and the fields that it leaves
abbrev pub Reads : {A : Type 0} → (Fields → Read A) → LineRest → LineRest → Result A (Fault LogKind) → Type 0
Reads read old new (Ok a) = (read old.fields ≡ Ok (a, new.fields)) × (new.end ≡ old.end)
Reads read old new (Err fault) = read old.fields ≡ Err fault

-- ---- values

-- the names of a scope, and that each stands for its place, counted from `n` on
abbrev pub names_of : List (Text × ℕ) → Names
names_of = map (λ e. e.0)

abbrev pub AreNumbered : ℕ → List (Text × ℕ) → Type 0
AreNumbered n [] = Unit {0}
AreNumbered n (e ∷ es) = (e.1 ≡ n) × AreNumbered (suc n) es

-- a value that is no function
abbrev pub other_value : Text → Judged Scalar
other_value f =
    or_else (mapped (scalars.Int 128) (number value_limit f))
    (or_else (if bytes_eq (codes "NULL") f then Ok scalars.Null else Err Unexpected)
    (or_else (mapped scalars.Object (object f))
    (or_else (mapped (λ (c : CellId). scalars.Place c.object c.at) (cell f))
    (or_else (mapped scalars.Stack (stack f)) (mapped scalars.Thread (thread f))))))

-- what a function answers that reads a value, and the names after it
abbrev pub IsValue : Names → Judged (Scalar × Names) → Result Scalar LogKind → Type 0
IsValue names means (Ok s) = means ≡ Ok (s, names)
IsValue names means (Err kind) = means ≡ Err kind

-- ---- events

-- the same for what happened
abbrev pub ReadsKind : (Fields → Read (Kind × Names)) → LineRest → LineRest → Names → Result Kind (Fault LogKind) → Type 0
ReadsKind read old new names (Ok kind) = read old.fields ≡ Ok ((kind, names), new.fields)
ReadsKind read old new names (Err Memory) = Unit {0}
ReadsKind read old new names (Err (At kind place)) = read old.fields ≡ Err (At kind place)

-- for an event
abbrev pub IsEvent : Result (Event × Names) (Fault LogKind) → Names → Result Event (Fault LogKind) → Type 0
IsEvent means names (Ok e) = means ≡ Ok (e, names)
IsEvent means names (Err Memory) = Unit {0}
IsEvent means names (Err (At kind place)) = means ≡ Err (At kind place)

-- and for what was read up to the end of a line
abbrev pub GoesOn : Result ReadLog (Fault LogKind) → ReadLog → Result (Unit {0}) (Fault LogKind) → Type 0
GoesOn means r (Ok _) = means ≡ Ok r
GoesOn means r (Err Memory) = Unit {0}
GoesOn means r (Err (At kind place)) = means ≡ Err (At kind place)
