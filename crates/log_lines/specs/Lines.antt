-- The event of an event line. The line's fields stand between single spaces, and are judged from left to right.
use Rattle.std.specs.Prelude.{ℕ, ◌+◌, List, [], ◌∷◌, length, Result, Ok, Err}
use Rattle.demands.specs.declared.fault.Fault.{Fault}
use Rattle.demands.specs.declared.fault.Fault.TheVariants.{At}
use Rattle.mem_axioms.specs.declared.types.Kind.{Kind}
use Rattle.mem_axioms.specs.declared.types.Kind.TheVariants as kinds
use Rattle.mem_axioms.specs.declared.types.Event.{Event}
use Rattle.log_lines.specs.Fields.{Text, Judged, number, exactly, thread, stack, cell, number_limit}
use Rattle.log_lines.specs.Words.{look_up, kind_words, is_order_of, is_fence_order, order as order_field}
use Rattle.log_lines.specs.Values.{Names, value}
use Rattle.log_lines.specs.declared.types.LogKind.{LogKind}
use Rattle.log_lines.specs.declared.types.LogKind.TheVariants.{Unexpected}
use Rattle.log_lines.specs.declared.types.KindWord.{KindWord}
use Rattle.log_lines.specs.declared.types.KindWord.TheVariants as words

-- the fields that are left, each with its byte offset
abbrev pub Fields : Type 0
Fields = List (ℕ × Text)

-- the fields of a line that begins at that offset, with one byte between two of them
abbrev pub placed : ℕ → List Text → Fields
placed at [] = []
placed at (f ∷ fs) = (at, f) ∷ placed (at + length f + 1) fs

-- what was read of some fields, with those that are left; or the first fault
abbrev pub Read : Type 0 → Type 0
Read A = Result (A × Fields) (Fault LogKind)

abbrev pub of_field : {A : Type 0} → ℕ → Fields → Judged A → Read A
of_field at fs (Ok a) = Ok (a, fs)
of_field at fs (Err kind) = Err (At kind at)

-- The next field is judged, and a fault stands at its first byte. Where no field is left the fault stands at the line's end.
abbrev pub field : {A : Type 0} → ℕ → (Text → Judged A) → Fields → Read A
field end judge [] = Err (At Unexpected end)
field end judge (f ∷ fs) = of_field f.0 fs (judge f.1)

abbrev pub and_then : {A B : Type 0} → Read A → (A → Fields → Read B) → Read B
and_then (Ok r) more = more r.0 r.1
and_then (Err fault) more = Err fault

abbrev pub gives : {A B : Type 0} → (A → B) → A → Fields → Read B
gives f a fs = Ok (f a, fs)

-- what happened, where no new name is used
abbrev pub with_names : Names → Kind → Kind × Names
with_names names kind = (kind, names)

-- the fields after the word that says what happened
abbrev pub kind_after : ℕ → Names → KindWord → Fields → Read (Kind × Names)
kind_after end names (words.Access mode) fs =
    and_then (field end (order_field (is_order_of mode)) fs) (λ order fs.
    and_then (field end cell fs) (λ c fs.
    and_then (field end (number number_limit) fs) (λ position fs.
    and_then (field end (value names) fs) (gives (λ v. (kinds.Access mode c order position v.0, v.1))))))
kind_after end names words.Fence fs = and_then (field end (order_field is_fence_order) fs) (gives (λ order. with_names names (kinds.Fence order)))
kind_after end names words.NewStack fs = and_then (field end stack fs) (gives (λ k. with_names names (kinds.NewStack k)))
kind_after end names words.NewThread fs = and_then (field end thread fs) (gives (λ i. with_names names (kinds.NewThread i)))
kind_after end names words.Leave fs = and_then (field end stack fs) (gives (λ k. with_names names (kinds.Leave k)))
kind_after end names words.Enter fs = and_then (field end stack fs) (gives (λ k. with_names names (kinds.Enter k)))
kind_after end names words.Wake fs =
    and_then (field end cell fs) (λ c fs. and_then (field end (number number_limit) fs) (gives (λ many. with_names names (kinds.Wake c many))))
kind_after end names words.Woken fs = and_then (field end (number number_limit) fs) (gives (λ wake. with_names names (kinds.Woken wake)))

abbrev pub kind_in : ℕ → Names → Fields → Read (Kind × Names)
kind_in end names fs = and_then (field end (look_up kind_words) fs) (kind_after end names)

-- No field may be left; one that is left is the fault.
abbrev pub finished : {A : Type 0} → A → Fields → Result A (Fault LogKind)
finished a [] = Ok a
finished a (f ∷ fs) = Err (At Unexpected f.0)

abbrev pub all_read : Read (Event × Names) → Result (Event × Names) (Fault LogKind)
all_read (Ok r) = finished r.0 r.1
all_read (Err fault) = Err fault

-- The event of a line that ends at `end` and that `n` event lines come before: its number, its thread, and what happened.
abbrev pub event_in : ℕ → ℕ → Names → Fields → Result (Event × Names) (Fault LogKind)
event_in end n names fs = all_read (
    and_then (field end (exactly n) fs) (λ count fs.
    and_then (field end thread fs) (λ i fs.
    and_then (kind_in end names fs) (gives (λ k. (record { thread = i; kind = k.0 }, k.1))))))
