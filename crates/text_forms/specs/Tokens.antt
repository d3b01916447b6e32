-- Tokens as the grammars see them. The tokens of a text end with its one last token: the end, or a lexical fault, which no
-- token is seen behind. So "at the end", "at a lexical fault" and "at a token" are one case.
use Rattle.std.specs.Prelude.{◌≡◌, ℕ, Bool, true, false, List, [], ◌∷◌, Option, Some, None, ◌||◌, ◌<◌, not, if◌then◌else◌, ◌⊎◌}
use denote.Enum.Bare.{sameb}
use Rattle.text_forms.specs.declared.symbol.Symbol.{Symbol}
use Rattle.text_forms.specs.contracts.symbol.Symbol.{the_type}
use Rattle.text_forms.specs.declared.symbol.Symbol.TheVariants as symbols
use Rattle.text_forms.specs.declared.fault.FaultKind.{FaultKind}
use Rattle.text_forms.specs.declared.fault.FaultKind.TheVariants as kinds
use Rattle.text_forms.specs.declared.fault.Fault.{Fault}

-- a token: what it is to the grammar, the offset of its first byte, and its bytes
pub record Tok : Type 0 where
  pub symbol : Symbol
  pub place : ℕ
  pub spelling : List ℕ

-- the two are one symbol: their tags are equal
abbrev pub same : Symbol → Symbol → Bool
same = sameb the_type

-- the symbol is one of these
abbrev pub has : List Symbol → Symbol → Bool
has [] s = false
has (x ∷ xs) s = same x s || has xs s

-- what the next token is
abbrev pub symbol_ahead : List Tok → Option Symbol
symbol_ahead [] = None
symbol_ahead (t ∷ ts) = Some t.symbol

abbrev pub is_among : List Symbol → Option Symbol → Bool
is_among xs None = false
is_among xs (Some s) = has xs s

-- the next token is one of these
abbrev pub at : List Symbol → List Tok → Bool
at xs ts = is_among xs (symbol_ahead ts)

abbrev pub first : List Tok → Tok
first [] = record { symbol = symbols.End; place = 0; spelling = [] }
first (t ∷ ts) = t

abbrev pub rest_of : List Tok → List Tok
rest_of [] = []
rest_of (t ∷ ts) = ts

-- nothing stands behind this one: it is the end, or a lexical fault
abbrev pub last_symbols : List Symbol
last_symbols = symbols.End ∷ symbols.BadByte ∷ symbols.BadName ∷ symbols.NumberTooLarge ∷ symbols.TooLong ∷ []

abbrev pub is_last : Symbol → Bool
is_last s = has last_symbols s

-- a token comes next, and another stands behind it
abbrev pub goes_on_behind : List Tok → Bool
goes_on_behind [] = false
goes_on_behind (t ∷ ts) = not (is_last t.symbol)

-- the tokens of a whole text: one last token, at the end, and places that rise
unfoldable pub IsText : List Tok → Type 0
IsText [] = ⊥
IsText (t ∷ ts) = ((is_last t.symbol ≡ true) × (ts ≡ [])) ⊎ ((is_last t.symbol ≡ false) × (t.place < (first ts).place) × IsText ts)

-- ---- faults at a token

abbrev pub kind_of : Symbol → FaultKind
kind_of symbols.BadByte = kinds.BadByte
kind_of symbols.BadName = kinds.BadName
kind_of symbols.NumberTooLarge = kinds.NumberTooLarge
kind_of symbols.TooLong = kinds.TooLong
kind_of _ = kinds.Unexpected

-- the next token does not go on with what stands before it: a lexical fault has its own kind
abbrev pub fault_at : List Tok → Fault
fault_at [] = record { kind = kinds.Unexpected; place = 0 }
fault_at (t ∷ ts) = record { kind = kind_of t.symbol; place = t.place }

-- the token is a word that the profile leaves out
abbrev pub left_out_at : Tok → Fault
left_out_at t = record { kind = kinds.NotInProfile; place = t.place }

-- an element that begins at this place passes a limit
abbrev pub too_many_at : ℕ → Fault
too_many_at place = record { kind = kinds.TooMany; place = place }

-- what is answered where only words that are left out could stand
abbrev pub refusal : List Symbol → List Tok → Fault
refusal xs ts = if at xs ts then left_out_at (first ts) else fault_at ts
