-- What the functions of the scanner compute, in the order of the code. Public contracts cite `number_of` alone, and a law says
-- what it is.
use Rattle.std.specs.Prelude.{◌+◌, ◌^◌, ℕ, suc, Bool, true, false, Option, Some, None, Result, Ok, Err, List, [], ◌∷◌, length, take, drop, if◌then◌else◌, ◌&&◌, ◌==◌, not, nat_lt, slice_index, option_map}
use Rattle.std.specs.List.{prefix_len}
use Rattle.std.specs.Result.{result_unwrap_or}
use Rattle.std.specs.Char.{is_ascii_digit, is_ascii_alphabetic}
use Rattle.std.specs.Str.Parse.{digits_value}
use Rattle.ir_lex.specs.declared.token.TokenKind.{TokenKind}
use Rattle.ir_lex.specs.declared.token.TokenKind.TheVariants as kinds
use Rattle.ir_lex.specs.declared.token.Mark.{Mark}
use Rattle.ir_lex.specs.declared.token.Mark.TheVariants as marks
use Rattle.ir_lex.specs.declared.token.Token.{Token}
use Rattle.ir_lex.specs.declared.token.LexKind.{LexKind}
use Rattle.ir_lex.specs.declared.token.LexKind.TheVariants as faults
use Rattle.ir_lex.specs.declared.token.LexFault.{LexFault}
use Rattle.ir_lex.specs.declared.token.Number.{Number}
use Rattle.ir_lex.specs.Bytes.{is_blank, is_line_feed, is_sign, is_sigil, goes_on}
use Rattle.ir_lex.specs.Numerals.{are_digits}
use Rattle.ir_lex.specs.Lexemes.{longest_token}
use Rattle.ir_lex.specs.Gaps.{slash_next}

-- ---- gaps

-- of a byte within a comment or not, and whether a slash stands behind it: whether the next byte stands in a comment, or
-- None where the byte is of no gap
abbrev pub gap_step : Bool → ℕ → Bool → Option Bool
gap_step true b slash = Some (not (is_line_feed b))
gap_step false b slash = if b == 47 && slash then Some true else (if is_blank b then Some false else None)

-- how many bytes of a gap stand at the front, within a comment or not
unfoldable pub gap_len : Bool → List ℕ → ℕ
gap_len c [] = 0
gap_len c (b ∷ bs) = elim (gap_step c b (slash_next bs)) [ None ↦ 0 | Some d ↦ suc (gap_len d bs) ]

-- ---- numbers

-- the number that a run spells
abbrev pub digits : ℕ → List ℕ → Option ℕ
digits base ds = if are_digits base ds then Some (digits_value base ds) else None

abbrev pub magnitude : List ℕ → Option ℕ
magnitude [] = None
magnitude (b ∷ bs) =
    if b == 48 then
    (if length bs == 0 then Some 0
    else (if slice_index bs 0 == 120 then digits 16 (drop 1 bs) else digits 8 bs))
    else digits 10 (b ∷ bs)

abbrev pub small : Option ℕ → Result ℕ LexKind
small None = Err faults.BadByte
small (Some m) = if nat_lt m (2 ^ 128) then Ok m else Err faults.NumberTooLarge

-- the run behind a sign, if there is one
abbrev pub unsigned : List ℕ → List ℕ
unsigned [] = []
unsigned (b ∷ bs) = if is_sign b then bs else b ∷ bs

abbrev pub has_minus : List ℕ → Bool
has_minus [] = false
has_minus (b ∷ bs) = b == 45

abbrev pub numeral : List ℕ → Result ℕ LexKind
numeral spelling = small (magnitude (unsigned spelling))

-- the number, by its sign and its magnitude
abbrev pub number_at : List ℕ → ℕ → Number
number_at spelling n = record { negative = has_minus spelling && not (n == 0); magnitude = n }

-- the number that a spelling stands for, 0 where it stands for none below 2^128
abbrev pub number_of : List ℕ → Number
number_of spelling = number_at spelling (result_unwrap_or (numeral spelling) 0)

-- ---- spellings

-- the longest spelling at the front of some bytes, if any: its kind, and how many bytes it has
abbrev pub Found : Type 0
Found = Option (TokenKind × ℕ)

-- behind the sigil of the kind
abbrev pub named : TokenKind → List ℕ → Found
named kind bs = let n = prefix_len (goes_on kind) bs in if n == 0 then None else Some (kind, n + 1)

abbrev pub digit_next : List ℕ → Bool
digit_next [] = false
digit_next (b ∷ bs) = is_ascii_digit b

abbrev pub greater_next : List ℕ → Bool
greater_next [] = false
greater_next (b ∷ bs) = b == 62

-- behind a sign
abbrev pub signed : ℕ → List ℕ → Found
signed b bs =
    if digit_next bs then Some (kinds.Number, prefix_len (goes_on kinds.Number) bs + 1)
    else (if b == 45 && greater_next bs then Some (kinds.Mark marks.Arrow, 2) else None)

-- a mark of one byte
abbrev pub mark_of : ℕ → Option Mark
mark_of b =
    if b == 40 then Some marks.Open
    else (if b == 41 then Some marks.Close
    else (if b == 123 then Some marks.OpenBrace
    else (if b == 125 then Some marks.CloseBrace
    else (if b == 60 then Some marks.Less
    else (if b == 62 then Some marks.Greater
    else (if b == 91 then Some marks.OpenBracket
    else (if b == 93 then Some marks.CloseBracket
    else (if b == 61 then Some marks.Equals
    else (if b == 58 then Some marks.Colon
    else (if b == 38 then Some marks.Ampersand
    else None))))))))))

abbrev pub marked : ℕ → Found
marked b = option_map (λ m. (kinds.Mark m, 1)) (mark_of b)

-- the longest spelling that begins with that byte
abbrev pub begun : ℕ → List ℕ → Found
begun b bs =
    if is_ascii_alphabetic b then Some (kinds.Word, prefix_len (goes_on kinds.Word) bs + 1)
    else (if is_ascii_digit b then Some (kinds.Number, prefix_len (goes_on kinds.Number) bs + 1)
    else (if b == 64 then named kinds.Global bs
    else (if b == 37 then named kinds.Local bs
    else (if b == 36 then named kinds.Object bs
    else (if b == 46 then named kinds.Directive bs
    else (if is_sign b then signed b bs
    else marked b))))))

-- ---- the next token

-- a spelling that is not too long: its kind, or its fault
abbrev pub numbered : Result ℕ LexKind → Result TokenKind LexKind
numbered (Ok m) = Ok kinds.Number
numbered (Err e) = Err e

abbrev pub meant : TokenKind → List ℕ → Result TokenKind LexKind
meant kinds.Number spelling = numbered (numeral spelling)
meant kind spelling = Ok kind

-- a spelling: its kind, or its fault
abbrev pub judged : TokenKind → List ℕ → Result TokenKind LexKind
judged kind spelling = if nat_lt longest_token (length spelling) then Err faults.TooLong else meant kind spelling

-- what is at fault where no spelling begins
abbrev pub none_begun : ℕ → LexKind
none_begun b = if is_sigil b then faults.BadName else faults.BadByte

abbrev pub sized : ℕ → Result TokenKind LexKind → Result (Option (TokenKind × ℕ)) LexKind
sized n (Ok kind) = Ok (Some (kind, n))
sized n (Err e) = Err e

abbrev pub lexeme_of : ℕ → List ℕ → Found → Result (Option (TokenKind × ℕ)) LexKind
lexeme_of b bs None = Err (none_begun b)
lexeme_of b bs (Some x) = sized x.1 (judged x.0 (take x.1 (b ∷ bs)))

-- what begins at the front of some bytes: None where there are none
abbrev pub lexeme : List ℕ → Result (Option (TokenKind × ℕ)) LexKind
lexeme [] = Ok None
lexeme (b ∷ bs) = lexeme_of b bs (begun b bs)

abbrev pub placed : ℕ → Result (Option (TokenKind × ℕ)) LexKind → Result (Option Token) LexFault
placed from (Ok None) = Ok None
placed from (Ok (Some x)) = Ok (Some (record { kind = x.0; from = from; to = from + x.1 }))
placed from (Err e) = Err (record { kind = e; place = from })

-- the next token of a text from a place on
unfoldable pub next_of : List ℕ → ℕ → Result (Option Token) LexFault
next_of text at =
    let n = gap_len false (drop at text) in
    placed (at + n) (lexeme (drop n (drop at text)))
