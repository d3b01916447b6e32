-- Words that stand apart: none goes on with the one before it.
use Rattle.std.proofs.Common.{◌≡◌, ℕ, Bool, true, false, List, [], ◌∷◌, ◌++◌, refl, inl, inr}
use Rattle.std.specs.Prelude.{◌||◌}
use Rattle.std.specs.List.{list_all}
use Rattle.std.specs.Char.{is_ascii_alphanumeric}
use Rattle.std.proofs.lemmas.Bool.{and_parts, eqb-true, or_cases}
use Rattle.ir_lex.specs.declared.token.TokenKind.{TokenKind}
use Rattle.ir_lex.specs.declared.token.TokenKind.TheVariants as kinds
use Rattle.ir_lex.specs.declared.token.Mark.{Mark}
use Rattle.ir_lex.specs.declared.token.Mark.TheVariants as marks
use Rattle.ir_lex.specs.Bytes.{is_blank, is_name_byte, is_directive_byte, is_word_byte, goes_on, stops_at}
use Rattle.ir_lex.specs.Spellings.{mark_bytes, Spells, global, local, object, directive, word, plain, signed, mark}
use Rattle.ir_lex.specs.Printed.{Piece, text_of, IsPiece, StandApart}

-- behind a mark any word may stand without a blank
abbrev pub is_mark : TokenKind → Bool
is_mark (kinds.Mark m) = true
is_mark _ = false

-- a mark may stand without a blank, save `->`
abbrev pub stands_tight : TokenKind → Bool
stands_tight (kinds.Mark marks.Arrow) = false
stands_tight (kinds.Mark _) = true
stands_tight _ = false

abbrev pub some : List ℕ → Bool
some [] = false
some (b ∷ bs) = true

-- each word stands apart from the one before it; the first may stand without a blank where the test holds
abbrev pub Apart : Bool → List Piece → Type 0
Apart o [] = Unit {0}
Apart o (p ∷ ps) = IsPiece p × ((o || (stands_tight p.kind || some p.space)) ≡ true) × Apart (is_mark p.kind) ps

-- whether a word may stand without a blank behind these
abbrev pub after : Bool → List Piece → Bool
after o [] = o
after o (p ∷ ps) = after (is_mark p.kind) ps

pub apart_append : (o : Bool) (u v : List Piece) → Apart o u → Apart (after o u) v → Apart o (u ++ v)
apart_append o [] v a b = b
apart_append o (p ∷ u) v (is, loose, a) b = (is, loose, apart_append (is_mark p.kind) u v a b)

pub after_append : (o : Bool) (u v : List Piece) → after o (u ++ v) ≡ after (after o u) v
after_append o [] v = refl
after_append o (p ∷ u) v = after_append (is_mark p.kind) u v

-- ---- what stands behind a token does not go on with it

-- a blank goes on with nothing
blank_code : (kind : TokenKind) → (goes_on kind 32 ≡ false) × (goes_on kind 9 ≡ false) × (goes_on kind 13 ≡ false) × (goes_on kind 10 ≡ false)
blank_code kinds.Global = (refl, refl, refl, refl)
blank_code kinds.Local = (refl, refl, refl, refl)
blank_code kinds.Object = (refl, refl, refl, refl)
blank_code kinds.Directive = (refl, refl, refl, refl)
blank_code kinds.Word = (refl, refl, refl, refl)
blank_code kinds.Number = (refl, refl, refl, refl)
blank_code (kinds.Mark m) = (refl, refl, refl, refl)

blank_stops : (kind : TokenKind) (b : ℕ) → is_blank b ≡ true → goes_on kind b ≡ false
blank_stops kind b e =
    let at_code = blank_code kind in
    elim (or_cases _ _ e) [
      | inl h ↦ rw (eqb-true b 32 h) at_code.0
      | inr f ↦ elim (or_cases _ _ f) [
        | inl h ↦ rw (eqb-true b 9 h) at_code.1
        | inr g ↦ elim (or_cases _ _ g) [
          | inl h ↦ rw (eqb-true b 13 h) at_code.2
          | inr h ↦ rw (eqb-true b 10 h) at_code.3
        ]
      ]
    ]

blanks_stop : (kind : TokenKind) (space : List ℕ) → list_all is_blank space ≡ true → stops_at (goes_on kind) space
blanks_stop kind [] all = tt
blanks_stop kind (b ∷ space) all = blank_stops kind b (and_parts (is_blank b) (list_all is_blank space) all).0

-- nor does a mark, save `->`
abbrev StopsAll : List ℕ → Type 0
StopsAll bs = stops_at is_name_byte bs × stops_at is_directive_byte bs × stops_at is_word_byte bs × stops_at is_ascii_alphanumeric bs

mark_stops : (m : Mark) (rest : List ℕ) → stands_tight (kinds.Mark m) ≡ true → StopsAll (mark_bytes m ++ rest)
mark_stops marks.Open rest e = (refl, refl, refl, refl)
mark_stops marks.Close rest e = (refl, refl, refl, refl)
mark_stops marks.OpenBrace rest e = (refl, refl, refl, refl)
mark_stops marks.CloseBrace rest e = (refl, refl, refl, refl)
mark_stops marks.Less rest e = (refl, refl, refl, refl)
mark_stops marks.Greater rest e = (refl, refl, refl, refl)
mark_stops marks.OpenBracket rest e = (refl, refl, refl, refl)
mark_stops marks.CloseBracket rest e = (refl, refl, refl, refl)
mark_stops marks.Equals rest e = (refl, refl, refl, refl)
mark_stops marks.Colon rest e = (refl, refl, refl, refl)
mark_stops marks.Ampersand rest e = (refl, refl, refl, refl)
mark_stops marks.Arrow rest e = absurd (cc)

by_kind : (kind : TokenKind) (bs : List ℕ) → StopsAll bs → is_mark kind ≡ false → stops_at (goes_on kind) bs
by_kind kinds.Global bs all e = all.0
by_kind kinds.Local bs all e = all.0
by_kind kinds.Object bs all e = all.0
by_kind kinds.Directive bs all e = all.1
by_kind kinds.Word bs all e = all.2
by_kind kinds.Number bs all e = all.3
by_kind (kinds.Mark m) bs all e = absurd (cc)

tight_stops : (kind other : TokenKind) (spelling rest : List ℕ) → Spells other spelling → stands_tight other ≡ true → is_mark kind ≡ false → stops_at (goes_on kind) (spelling ++ rest)
tight_stops kind _ _ rest (global body some all) t e = absurd (cc)
tight_stops kind _ _ rest (local body some all) t e = absurd (cc)
tight_stops kind _ _ rest (object body some all) t e = absurd (cc)
tight_stops kind _ _ rest (directive body some all) t e = absurd (cc)
tight_stops kind _ _ rest (word first body is all) t e = absurd (cc)
tight_stops kind _ _ rest (plain first body is all) t e = absurd (cc)
tight_stops kind _ _ rest (signed sign first body is digit all) t e = absurd (cc)
tight_stops kind _ _ rest (mark m) t e = by_kind kind (mark_bytes m ++ rest) (mark_stops m rest t) e

or_nothing : (b : Bool) → (b || false) ≡ true → b ≡ true
or_nothing true e = refl
or_nothing false e = e

front_stops : (kind other : TokenKind) (space spelling rest : List ℕ) → is_mark kind ≡ false → list_all is_blank space ≡ true → Spells other spelling → (stands_tight other || some space) ≡ true → stops_at (goes_on kind) (space ++ (spelling ++ rest))
front_stops kind other [] spelling rest e blanks spells loose = tight_stops kind other spelling rest spells (or_nothing (stands_tight other) loose) e
front_stops kind other (b ∷ space) spelling rest e blanks spells loose = blank_stops kind b (and_parts (is_blank b) (list_all is_blank space) blanks).0

words_stop : (kind : TokenKind) (ps : List Piece) (last : List ℕ) → is_mark kind ≡ false → Apart false ps → list_all is_blank last ≡ true → stops_at (goes_on kind) (text_of ps last)
words_stop kind [] last e a blanks = blanks_stop kind last blanks
words_stop kind (p ∷ ps) last e (is, loose, a) blanks = front_stops kind p.kind p.space p.spelling (text_of ps last) e is.blanks is.spells loose

never_goes_on : (bs : List ℕ) → stops_at (λ _. false) bs
never_goes_on [] = tt
never_goes_on (b ∷ bs) = refl

next_stops : (kind : TokenKind) (ps : List Piece) (last : List ℕ) → Apart (is_mark kind) ps → list_all is_blank last ≡ true → stops_at (goes_on kind) (text_of ps last)
next_stops kinds.Global ps last a blanks = words_stop kinds.Global ps last refl a blanks
next_stops kinds.Local ps last a blanks = words_stop kinds.Local ps last refl a blanks
next_stops kinds.Object ps last a blanks = words_stop kinds.Object ps last refl a blanks
next_stops kinds.Directive ps last a blanks = words_stop kinds.Directive ps last refl a blanks
next_stops kinds.Word ps last a blanks = words_stop kinds.Word ps last refl a blanks
next_stops kinds.Number ps last a blanks = words_stop kinds.Number ps last refl a blanks
next_stops (kinds.Mark m) ps last a blanks = never_goes_on (text_of ps last)

pub stand_apart : (o : Bool) (ps : List Piece) (last : List ℕ) → Apart o ps → list_all is_blank last ≡ true → StandApart ps last
stand_apart o [] last a blanks = blanks
stand_apart o (p ∷ ps) last (is, loose, a) blanks = (is, next_stops p.kind ps last a blanks, stand_apart (is_mark p.kind) ps last a blanks)
