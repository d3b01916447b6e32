-- How a form is read: token by token, looking at the next one alone. Readers do these steps; that reading answers what the
-- form derives, or else the first fault, is a law.
use Rattle.std.specs.Prelude.{ℕ, zero, suc, List, [], ◌∷◌, length, Result, Ok, Err, if◌then◌else◌}
use Rattle.text_forms.specs.declared.symbol.Symbol.{Symbol}
use Rattle.text_forms.specs.declared.fault.Fault.{Fault}
use Rattle.text_forms.specs.Tokens.{Tok, at, first, rest_of, fault_at, too_many_at, refusal}
use Rattle.text_forms.specs.Forms.{Form, token, nothing, never, both, on, made, left_out, past, many, lines}
use Rattle.text_forms.specs.Begins.{begins}

infixl 10 ◌>>=◌
abbrev pub ◌>>=◌ : {A B : Type 0} → Result A Fault → (A → Result B Fault) → Result B Fault
(Ok x) >>= f = f x
(Err e) >>= f = Err e

abbrev pub token_at : List Symbol → List Tok → Result (Tok × List Tok) Fault
token_at xs ts = if at xs ts then Ok (first ts, rest_of ts) else Err (fault_at ts)

-- elements, up to one of the closing symbols; the number bounds how many
unfoldable pub elements : {A B S F : Type 0} → List Symbol → (S → F) → (S → A → S) → (F → ℕ → List Tok → Result (A × List Tok) Fault) → (List Tok → Result (B × List Tok) Fault) → ℕ → S → List Tok → Result ((List A × B) × List Tok) Fault
elements closing flags step p q zero s ts = Err (fault_at ts)
elements closing flags step p q (suc n) s ts =
    if at closing ts then (q ts >>= λ y. Ok (([], y.0), y.1))
    else (p (flags s) (first ts).place ts >>= λ x. elements closing flags step p q n (step s x.0) x.1 >>= λ y. Ok ((x.0 ∷ y.0.0, y.0.1), y.1))

-- start is the place where the innermost element begins that is being read: there TooMany stands, also where the element's
-- second or third token tells that it passes a limit
abbrev pub read_from : {A : Type 0} → Form A → ℕ → List Tok → Result (A × List Tok) Fault
read_from (token xs) start ts = token_at xs ts
read_from (nothing a) start ts = Ok (a, ts)
read_from never start ts = Err (fault_at ts)
read_from (both f g) start ts = read_from f start ts >>= λ x. read_from g start x.1 >>= λ y. Ok ((x.0, y.0), y.1)
read_from (on xs f g) start ts = if at xs ts then read_from f start ts else read_from g start ts
read_from (made h f) start ts = read_from f start ts >>= λ x. Ok (h x.0, x.1)
read_from (left_out xs a) start ts = Err (refusal xs ts)
read_from (past f) start ts = if at (begins f) ts then Err (too_many_at start) else read_from f start ts
read_from (many f) start ts = Err (fault_at ts)
read_from (lines fl flags step f xs g s) start ts = elements xs flags step (λ y. read_from (f y)) (read_from g start) (suc (length ts)) s ts

-- a form whose own lists have all its limits is read alike wherever it stands
abbrev pub read : {A : Type 0} → Form A → List Tok → Result (A × List Tok) Fault
read f ts = read_from f 0 ts

-- the meaning of a whole text
abbrev pub whole : {A : Type 0} → Form A → List Tok → Result A Fault
whole f ts = read f ts >>= λ x. Ok x.0
