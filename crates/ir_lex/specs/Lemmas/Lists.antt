-- The list of the tokens of a text.
use Rattle.std.proofs.Common.{◌≡◌, ℕ, zero, suc, ◌+◌, ◌<◌, ◌≤◌, true, false, List, [], ◌∷◌, ◌++◌, length, drop, map, Option, Some, None, Result, Ok, Err, refl, sym, ap, ◌∙◌, arith, inl, inr}
use Rattle.std.specs.List.{list_all}
use Rattle.std.proofs.lemmas.Bool.{and_parts, eqb-true, or_cases}
use Rattle.ir_lex.specs.declared.token.TokenKind.{TokenKind}
use Rattle.ir_lex.specs.declared.token.TokenKind.TheVariants as kinds
use Rattle.ir_lex.specs.declared.token.Token.{Token}
use Rattle.ir_lex.specs.declared.token.LexFault.{LexFault}
use Rattle.ir_lex.specs.Bytes.{is_blank, goes_on, stops_at}
use Rattle.ir_lex.specs.Gaps.{IsGap, none, blank}
use Rattle.ir_lex.specs.Texts.{IsNext, Lexes, ends, stops, reads, spelling_of}
use Rattle.ir_lex.specs.Printed.{Piece, text_of, tokens_of, IsPiece, StandApart, AreSpaced}
use Rattle.ir_lex.specs.Laws.{TokensAreOneList, SpellingsReadBack, PiecesReadBack, SpacedStandApart}
use Rattle.ir_lex.specs.Scanner.{next_of}
use Rattle.ir_lex.specs.Walk.{Tokens, with_token, tokens_within}
use Rattle.ir_lex.specs.Lemmas.Longest.{found_again, found_longest}
use Rattle.ir_lex.specs.Lemmas.Judging.{take_front}
use Rattle.ir_lex.specs.Lemmas.Nexts.{next_is, fault_is, end_is, next_found, fault_found, end_found, next_within, behind_next, next_spelling, drop_front}

-- ---- there is one list

pub within_token : (n : ℕ) (text : List ℕ) (at : ℕ) (t : Token) → next_of text at ≡ Ok (Some t) → tokens_within (suc n) text at ≡ with_token t (tokens_within n text t.to)
unfolding tokens_within
within_token n text at t e = rw (e, tokens_within) refl

pub within_end : (n : ℕ) (text : List ℕ) (at : ℕ) → next_of text at ≡ Ok None → tokens_within (suc n) text at ≡ ([], None)
unfolding tokens_within
within_end n text at e = rw (e, tokens_within) refl

pub within_fault : (n : ℕ) (text : List ℕ) (at : ℕ) (f : LexFault) → next_of text at ≡ Err f → tokens_within (suc n) text at ≡ ([], Some f)
unfolding tokens_within
within_fault n text at f e = rw (e, tokens_within) refl

abbrev pub LexesAs : List ℕ → ℕ → Tokens → Type 0
LexesAs text at r = Lexes text at r.0 r.1

-- one token more, where the tokens behind it are known
lexed_more : (n : ℕ) (text : List ℕ) (at : ℕ) → ((t : Token) → next_of text at ≡ Ok (Some t) → LexesAs text t.to (tokens_within n text t.to)) → LexesAs text at (tokens_within (suc n) text at)
lexed_more n text at more = go (next_of text at) refl
  where
    go : (r : Result (Option Token) LexFault) → next_of text at ≡ r → LexesAs text at (tokens_within (suc n) text at)
    go (Err f) e = rw (within_fault n text at f e) (stops at f (fault_found text at f e))
    go (Ok None) e = rw (within_end n text at e) (ends at (end_found text at e))
    go (Ok (Some t)) e = rw (within_token n text at t e) (reads at t _ _ (next_found text at t e) (more t e))

pub lexed : (n : ℕ) (text : List ℕ) (at : ℕ) → length text ≤ at + n → LexesAs text at (tokens_within (suc n) text at)
lexed zero text at le = lexed_more zero text at (λ t e. absurd (let w = next_within text at t (next_found text at t e) in omega arith))
lexed (suc n) text at le = lexed_more (suc n) text at (λ t e. lexed n text t.to (let w = next_within text at t (next_found text at t e) in omega arith))

pub lexes_are : (text : List ℕ) (at : ℕ) (ts : List Token) (end : Option LexFault) → Lexes text at ts end → (n : ℕ) → length text ≤ at + n → tokens_within (suc n) text at ≡ (ts, end)
lexes_are text _ _ _ (ends at is) n le = within_end n text at (end_is text at is)
lexes_are text _ _ _ (stops at f is) n le = within_fault n text at f (fault_is text at f is)
lexes_are text _ _ _ (reads at t more end is later) zero le = absurd (let w = next_within text at t is in omega arith)
lexes_are text _ _ _ (reads at t more end is later) (suc n) le =
    within_token (suc n) text at t (next_is text at t is)
    ∙ ap (with_token t) (lexes_are text t.to more end later n (let w = next_within text at t is in omega arith))

pub one_list : TokensAreOneList
one_list text =
    let here = tokens_within (suc (length text)) text 0 in (
      here.0,
      here.1,
      lexed (length text) text 0 (omega arith),
      λ others other is.
          let same : here ≡ (others, other) = lexes_are text 0 others other is (length text) (omega arith) in
          (ap (λ (r : Tokens). r.0) (sym same), ap (λ (r : Tokens). r.1) (sym same)),
    )

-- ---- printed tokens read back

pub spellings_read_back : SpellingsReadBack
spellings_read_back kind spelling after spells stop =
    let here = found_longest (spelling ++ after) (kind, length spelling) (found_again kind spelling after spells stop) in
    rw (take_front spelling after, drop_front spelling after) at here

blanks_gap : (space after : List ℕ) → list_all is_blank space ≡ true → IsGap after space
blanks_gap [] after all = none
blanks_gap (b ∷ space) after all = let parts = and_parts (is_blank b) (list_all is_blank space) all in blank b space parts.0 (blanks_gap space after parts.1)

abbrev piece_next : (text : List ℕ) (at : ℕ) (p : Piece) (after : List ℕ) → drop at text ≡ p.space ++ (p.spelling ++ after) → IsPiece p → stops_at (goes_on p.kind) after → IsNext text at (record { kind = p.kind; from = at + length p.space; to = at + length p.space + length p.spelling })
piece_next text at p after parts is stop = record {
  gap = p.space;
  spelling = p.spelling;
  after = after;
  parts = parts;
  is_gap = blanks_gap p.space (p.spelling ++ after) is.blanks;
  longest = spellings_read_back p.kind p.spelling after is.spells stop;
  is_token = is.is_token;
  from = refl;
  to = refl;
}

pieces_lex : (text : List ℕ) (at : ℕ) (ps : List Piece) (last : List ℕ) → drop at text ≡ text_of ps last → StandApart ps last → Lexes text at (tokens_of at ps) None
pieces_lex text at [] last parts all = ends at (rw parts (blanks_gap last [] all))
pieces_lex text at (p ∷ ps) last parts (is, stop, later) =
    let t : Token = record { kind = p.kind; from = at + length p.space; to = at + length p.space + length p.spelling } in
    let next : IsNext text at t = piece_next text at p (text_of ps last) parts is stop in
    reads at t (tokens_of t.to ps) None next (pieces_lex text t.to ps last (behind_next text at t next) later)

pieces_spelled : (text : List ℕ) (at : ℕ) (ps : List Piece) (last : List ℕ) → drop at text ≡ text_of ps last → StandApart ps last → map (spelling_of text) (tokens_of at ps) ≡ map (λ (p : Piece). p.spelling) ps
pieces_spelled text at [] last parts all = refl
pieces_spelled text at (p ∷ ps) last parts (is, stop, later) =
    let t : Token = record { kind = p.kind; from = at + length p.space; to = at + length p.space + length p.spelling } in
    let next : IsNext text at t = piece_next text at p (text_of ps last) parts is stop in
    rw (next_spelling text at t next) (ap (λ (l : List (List ℕ)). p.spelling ∷ l) (pieces_spelled text t.to ps last (behind_next text at t next) later))

pub pieces_read_back : PiecesReadBack
pieces_read_back pieces last all = (pieces_lex (text_of pieces last) 0 pieces last refl all, pieces_spelled (text_of pieces last) 0 pieces last refl all)

-- a blank goes on with nothing
blank_code : (kind : TokenKind) → (goes_on kind 32 ≡ false) × (goes_on kind 9 ≡ false) × (goes_on kind 13 ≡ false) × (goes_on kind 10 ≡ false)
blank_code kinds.Global = (refl, refl, refl, refl)
blank_code kinds.Local = (refl, refl, refl, refl)
blank_code kinds.Object = (refl, refl, refl, refl)
blank_code kinds.Directive = (refl, refl, refl, refl)
blank_code kinds.Word = (refl, refl, refl, refl)
blank_code kinds.Number = (refl, refl, refl, refl)
blank_code (kinds.Mark m) = (refl, refl, refl, refl)

blank_stops : (kind : TokenKind) (b : ℕ) → is_blank b ≡ true → goes_on kind b ≡ false
blank_stops kind b e =
    let at_code = blank_code kind in
    elim (or_cases _ _ e) [
      | inl h ↦ rw (eqb-true b 32 h) at_code.0
      | inr f ↦ elim (or_cases _ _ f) [
        | inl h ↦ rw (eqb-true b 9 h) at_code.1
        | inr g ↦ elim (or_cases _ _ g) [
          | inl h ↦ rw (eqb-true b 13 h) at_code.2
          | inr h ↦ rw (eqb-true b 10 h) at_code.3
        ]
      ]
    ]

blanks_stop : (kind : TokenKind) (space : List ℕ) → list_all is_blank space ≡ true → stops_at (goes_on kind) space
blanks_stop kind [] all = tt
blanks_stop kind (b ∷ space) all = blank_stops kind b (and_parts (is_blank b) (list_all is_blank space) all).0

space_stops : (kind : TokenKind) (space rest : List ℕ) → 0 < length space → list_all is_blank space ≡ true → stops_at (goes_on kind) (space ++ rest)
space_stops kind [] rest some all = absurd (omega arith)
space_stops kind (b ∷ space) rest some all = blank_stops kind b (and_parts (is_blank b) (list_all is_blank space) all).0

spaced_stop : (kind : TokenKind) (ps : List Piece) (last : List ℕ) → AreSpaced ps → list_all is_blank last ≡ true → stops_at (goes_on kind) (text_of ps last)
spaced_stop kind [] last spaced all = blanks_stop kind last all
spaced_stop kind (p ∷ ps) last (is, some, later) all = space_stops kind p.space (p.spelling ++ text_of ps last) some is.blanks

pub spaced_stand_apart : SpacedStandApart
spaced_stand_apart [] last spaced all = all
spaced_stand_apart (p ∷ ps) last (is, some, later) all = (is, spaced_stop p.kind ps last later all, spaced_stand_apart ps last later all)
