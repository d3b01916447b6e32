-- Where the next token decides. These are tests on grammars; `decides` is what a grammar must pass to be read by one token
-- of look-ahead.
use Rattle.std.specs.Prelude.{Bool, true, false, List, [], ◌∷◌, ◌++◌, if◌then◌else◌, ◌&&◌, ◌||◌, not}
use Rattle.text_forms.specs.declared.symbol.Symbol.{Symbol}
use Rattle.text_forms.specs.Tokens.{has}
use Rattle.text_forms.specs.Forms.{Flags, no_flag, one_flag, two_flags, three_flags, every, Form, token, nothing, never, both, on, made, left_out, past, many, lines}

-- no symbol is in both
abbrev pub apart : List Symbol → List Symbol → Bool
apart [] ys = true
apart (x ∷ xs) ys = not (has ys x) && apart xs ys

-- each of the second is in the first
abbrev pub only : List Symbol → List Symbol → Bool
only xs [] = true
only xs (y ∷ ys) = has xs y && only xs ys

-- those in either, each once where each is once in the second
abbrev pub union : List Symbol → List Symbol → List Symbol
union [] ys = ys
union (x ∷ xs) ys = if has ys x then union xs ys else x ∷ union xs ys

-- those for any value of the flags
abbrev pub gather : {F : Type 0} → Flags F → (F → List Symbol) → List Symbol
gather no_flag p = p (tt {0})
gather one_flag p = union (p false) (p true)
gather two_flags p = union (union (p (false, false)) (p (false, true))) (union (p (true, false)) (p (true, true)))
gather three_flags p =
    union (union (union (p (false, false, false)) (p (false, false, true))) (union (p (false, true, false)) (p (false, true, true))))
    (union (union (p (true, false, false)) (p (true, false, true))) (union (p (true, true, false)) (p (true, true, true))))

-- no tokens at all are derived
abbrev pub empties : {A : Type 0} → Form A → Bool
empties (token xs) = false
empties (nothing a) = true
empties never = false
empties (both f g) = empties f && empties g
empties (on xs f g) = empties f || empties g
empties (made h f) = empties f
empties (left_out xs a) = false
empties (past f) = empties f
empties (many f) = true
empties (lines fl flags step f xs g s) = empties g

-- the symbols that it may begin with, limits aside
abbrev pub begins : {A : Type 0} → Form A → List Symbol
begins (token xs) = xs
begins (nothing a) = []
begins never = []
begins (both f g) = begins f ++ (if empties f then begins g else [])
begins (on xs f g) = begins f ++ begins g
begins (made h f) = begins f
begins (left_out xs a) = []
begins (past f) = begins f
begins (many f) = begins f
begins (lines fl flags step f xs g s) = begins g ++ begins (f (flags s))

-- the symbols that it may go on with where it could also be complete
abbrev pub goes_on : {A : Type 0} → Form A → List Symbol
goes_on (token xs) = []
goes_on (nothing a) = []
goes_on never = []
goes_on (both f g) = union (goes_on g) (if empties g then goes_on f else [])
goes_on (on xs f g) = union (goes_on f) (union (goes_on g) (if empties g then xs else []))
goes_on (made h f) = goes_on f
goes_on (left_out xs a) = []
goes_on (past f) = goes_on f
goes_on (many f) = begins f ++ goes_on f
goes_on (lines fl flags step f xs g s) = goes_on g

-- something is derived, limits aside
abbrev pub derives_some : {A : Type 0} → Form A → Bool
derives_some (token []) = false
derives_some (token (x ∷ xs)) = true
derives_some (nothing a) = true
derives_some never = false
derives_some (both f g) = derives_some f && derives_some g
derives_some (on xs f g) = derives_some f || derives_some g
derives_some (made h f) = derives_some f
derives_some (left_out xs a) = false
derives_some (past f) = derives_some f
derives_some (many f) = true
derives_some (lines fl flags step f xs g s) = derives_some g

-- the next token always decides
abbrev pub decides : {A : Type 0} → Form A → Bool
decides (token xs) = true
decides (nothing a) = true
decides never = true
decides (both f g) = (decides f && decides g) && (derives_some g && apart (goes_on f) (begins g))
decides (on xs f g) = (decides f && decides g) && (not (empties f) && (only xs (begins f) && apart xs (begins g)))
decides (made h f) = decides f
decides (left_out xs a) = true
decides (past f) = decides f && not (empties f)
decides (many f) = false
decides (lines fl flags step f xs g s) =
    ((decides g && derives_some g) && (not (empties g) && only xs (begins g)))
    && (every fl (λ y. (decides (f y) && not (empties (f y))) && apart xs (begins (f y)))
    && apart (gather fl (λ y. goes_on (f y))) (xs ++ gather fl (λ y. begins (f y))))

-- whether an element of a list passes a limit is told by that list alone, not by where the form itself stands
abbrev pub steady : {A : Type 0} → Form A → Bool
steady (token xs) = true
steady (nothing a) = true
steady never = true
steady (both f g) = steady f && steady g
steady (on xs f g) = steady f && steady g
steady (made h f) = steady f
steady (left_out xs a) = true
steady (past f) = false
steady (many f) = true
steady (lines fl flags step f xs g s) = steady g
