-- The grammar without its limits, and what tokens can still become.
use Rattle.std.specs.Prelude.{List, ◌++◌}
use Rattle.text_forms.specs.Tokens.{Tok}
use Rattle.text_forms.specs.Forms.{Form, token, nothing, never, both, on, made, left_out, past, many, lines}
use Rattle.text_forms.specs.Derives.{Derives}

-- the grammar without limits: an element past one is an element
abbrev pub unlimited : {A : Type 0} → Form A → Form A
unlimited (token xs) = token xs
unlimited (nothing a) = nothing a
unlimited never = never
unlimited (both f g) = both (unlimited f) (unlimited g)
unlimited (on xs f g) = on xs (unlimited f) (unlimited g)
unlimited (made h f) = made h (unlimited f)
unlimited (left_out xs a) = left_out xs a
unlimited (past f) = unlimited f
unlimited (many f) = many (unlimited f)
unlimited (lines fl flags step f xs g s) = lines fl flags step (λ y. unlimited (f y)) xs (unlimited g) s

-- the grammar without limits in which the words that the profile leaves out are words
abbrev pub widen : {A : Type 0} → Form A → Form A
widen (token xs) = token xs
widen (nothing a) = nothing a
widen never = never
widen (both f g) = both (widen f) (widen g)
widen (on xs f g) = on xs (widen f) (widen g)
widen (made h f) = made h (widen f)
widen (left_out xs a) = made (λ _. a) (token xs)
widen (past f) = widen f
widen (many f) = many (widen f)
widen (lines fl flags step f xs g s) = lines fl flags step (λ y. widen (f y)) xs (widen g) s

-- some tokens after these complete what the form derives, limits aside
abbrev pub Live : {A : Type 0} → Form A → List Tok → Type 0
Live {A} f ts = (more : List Tok) × (a : A) × Derives (unlimited f) (ts ++ more) a

-- the same where the words that are left out are words
abbrev pub LiveInFull : {A : Type 0} → Form A → List Tok → Type 0
LiveInFull {A} f ts = (more : List Tok) × (a : A) × Derives (widen f) (ts ++ more) a
