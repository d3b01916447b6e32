-- Words of the canonical text: tokens, each with the blanks that are written before it.
--
-- One space stands between two tokens, save none behind `(`, `<` and `[`; none before `)`, `>`, `]` and `:`; none before the `<`
-- or `(` that comes right behind a type's word or one of RET_WITH, PASS_VALUES, EXC, WPEXC, KEEPALIVE and THREADLOCAL; none
-- before the `(` of a destination or of a block's head; and a line feed where a line begins.
use Rattle.std.specs.Prelude.{ℕ, List, [], ◌∷◌, ◌++◌, Option, Some, None, codes, decimal, if◌then◌else◌}
use Rattle.std.specs.List.{flat_map}
use Rattle.ir_lex.specs.declared.token.TokenKind.TheVariants as kinds
use Rattle.ir_lex.specs.declared.token.Mark.{Mark}
use Rattle.ir_lex.specs.declared.token.Number.{Number}
use Rattle.ir_lex.specs.declared.name.Name.{Name}
use Rattle.ir_lex.specs.declared.name.Numeral.{Numeral}
use Rattle.ir_lex.specs.Spellings.{mark_bytes}
use Rattle.ir_lex.specs.Printed.{Piece}

-- the bytes of a word, with what stands before it
abbrev pub word_text : Piece → List ℕ
word_text w = w.space ++ w.spelling

-- the bytes of words
abbrev pub text : List Piece → List ℕ
text ws = flat_map word_text ws

-- what stands before a word
abbrev pub tight : List ℕ
tight = []

abbrev pub spaced : List ℕ
spaced = codes " "

-- the word is the first of its line
abbrev pub on_new_line : List ℕ
on_new_line = codes "\n"

-- the word is the first of an instruction
abbrev pub indented : List ℕ
indented = codes "\n  "

-- ---- words of one token

abbrev pub mark : List ℕ → Mark → Piece
mark space m = record { space = space; kind = kinds.Mark m; spelling = mark_bytes m }

abbrev pub word : List ℕ → List ℕ → Piece
word space spelling = record { space = space; kind = kinds.Word; spelling = spelling }

abbrev pub directive : List ℕ → List ℕ → Piece
directive space spelling = record { space = space; kind = kinds.Directive; spelling = spelling }

abbrev pub global : List ℕ → Name → Piece
global space n = record { space = space; kind = kinds.Global; spelling = n.text }

abbrev pub local : List ℕ → Name → Piece
local space n = record { space = space; kind = kinds.Local; spelling = n.text }

-- numbers are decimal, with `-` where negative
abbrev pub number_text : Number → List ℕ
number_text n = if n.negative then 45 ∷ decimal n.magnitude else decimal n.magnitude

abbrev pub number : List ℕ → Numeral → Piece
number space n = record { space = space; kind = kinds.Number; spelling = number_text n.number }

-- ---- words of lists, and of what may be left out

abbrev pub global_words : List ℕ → Name → List Piece
global_words space n = global space n ∷ []

abbrev pub local_words : List ℕ → Name → List Piece
local_words space n = local space n ∷ []

-- the members of a list behind `(` or `<`: the first has no blank before it
unfoldable pub listed : {A : Type 0} → (List ℕ → A → List Piece) → List A → List Piece
listed words [] = []
listed words (x ∷ xs) = words tight x ++ flat_map (words spaced) xs

-- what may be left out stands behind a space
abbrev pub optional_words : {A : Type 0} → (List ℕ → A → List Piece) → Option A → List Piece
optional_words words None = []
optional_words words (Some x) = words spaced x
