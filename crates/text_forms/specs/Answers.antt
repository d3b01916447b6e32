-- What the functions that read answer.
use Rattle.std.specs.Prelude.{◌≡◌, List, ◌++◌, Result, Ok, Err}
use Rattle.text_forms.specs.declared.fault.Fault.{Fault}
use Rattle.text_forms.specs.declared.fault.ReadError.{ReadError}
use Rattle.text_forms.specs.declared.fault.ReadError.TheVariants as errors
use Rattle.text_forms.specs.Tokens.{Tok}
use Rattle.text_forms.specs.Reading.{◌>>=◌}

-- what a function returned is what reading gives, unless memory ran out; rest is what it left
abbrev pub Gives : {A : Type 0} → Result A ReadError → List Tok → Result (A × List Tok) Fault → Type 0
Gives (Ok a) rest r = r ≡ Ok (a, rest)
Gives (Err errors.Memory) rest r = Unit {0}
Gives (Err (errors.Fault e)) rest r = r ≡ Err e

-- the same for a whole text
abbrev pub GivesAll : {A : Type 0} → Result A ReadError → Result A Fault → Type 0
GivesAll (Ok a) r = r ≡ Ok a
GivesAll (Err errors.Memory) r = Unit {0}
GivesAll (Err (errors.Fault e)) r = r ≡ Err e

-- P holds of the fault, where there is one
abbrev pub IfFault : {A : Type 0} → Result A ReadError → (Fault → Type 0) → Type 0
IfFault (Ok a) P = Unit {0}
IfFault (Err errors.Memory) P = Unit {0}
IfFault (Err (errors.Fault e)) P = P e

-- what is still read, with a meaning that counts in what was read before
abbrev pub kept : {A B : Type 0} → (A → B) → Result (A × List Tok) Fault → Result (B × List Tok) Fault
kept k r = r >>= λ x. Ok (k x.0, x.1)

abbrev pub with_front : {A : Type 0} → List A → Result (List A × List Tok) Fault → Result (List A × List Tok) Fault
with_front front r = kept (λ xs. front ++ xs) r
