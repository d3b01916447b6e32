-- The scanner finds the next token of a text, or its fault, or that there is none.
use Rattle.std.proofs.Common.{◌≡◌, ℕ, ◌+◌, ◌<◌, ◌≤◌, true, false, List, [], ◌∷◌, ◌++◌, length, take, drop, Option, Some, None, Result, Ok, Err, refl, sym, ap, subst, ◌∙◌, arith, inl, inr, append_assoc}
use Rattle.std.specs.Prelude.{◌==◌, ◌&&◌, ◌-◌, IfOk, IfSome}
use Rattle.std.proofs.lemmas.Bool.{eqb-true, and_parts, or_cases, cases_Bool}
use Rattle.std.proofs.lemmas.List.{take-append-drop, length-take-le, length-append, length-drop, append-nil, drop-drop}
use Rattle.ir_lex.specs.declared.token.TokenKind.{TokenKind}
use Rattle.ir_lex.specs.declared.token.TokenKind.TheVariants as kinds
use Rattle.ir_lex.specs.Numerals.{IsNumber}
use Rattle.ir_lex.specs.declared.token.Token.{Token}
use Rattle.ir_lex.specs.declared.token.LexKind.{LexKind}
use Rattle.ir_lex.specs.declared.token.LexFault.{LexFault}
use Rattle.ir_lex.specs.Bytes.{is_blank}
use Rattle.ir_lex.specs.Gaps.{IsGap, begins_gap, slash_next}
use Rattle.ir_lex.specs.declared.token.Mark.TheVariants as marks
use Rattle.ir_lex.specs.Spellings.{Spells, global, local, object, directive, word, plain, signed, mark}
use Rattle.ir_lex.specs.Lexemes.{IsLongest, IsToken}
use Rattle.ir_lex.specs.Texts.{OnlyGap, IsNext, IsNextFault, spelling_of}
use Rattle.ir_lex.specs.Scanner.{gap_len, lexeme, placed, next_of}
use Rattle.ir_lex.specs.Lemmas.Longest.{found, longest_found, none_is_none, some_is}
use Rattle.ir_lex.specs.Lemmas.GapLemmas.{gap_found, gap_whole, gap_within, gap_is}
use Rattle.ir_lex.specs.Lemmas.Judging.{token_lexeme, fault_lexeme, lexeme_token, lexeme_none, lexeme_fault, take_front}

pub drop_front : (s after : List ℕ) → drop (length s) (s ++ after) ≡ after
drop_front [] after = refl
drop_front (x ∷ s) after = drop_front s after

-- no spelling begins like a gap
not_begun : (b : ℕ) (bs : List ℕ) → is_blank b ≡ true → found (b ∷ bs) ≡ None
not_begun b bs e =
    elim (or_cases _ _ e) [
      | inl h ↦ rw (eqb-true b 32 h) refl
      | inr f ↦ elim (or_cases _ _ f) [
        | inl h ↦ rw (eqb-true b 9 h) refl
        | inr g ↦ elim (or_cases _ _ g) [
          | inl h ↦ rw (eqb-true b 13 h) refl
          | inr h ↦ rw (eqb-true b 10 h) refl
        ]
      ]
    ]

gap_not_found : (bytes : List ℕ) → begins_gap bytes ≡ true → found bytes ≡ None
gap_not_found [] e = refl
gap_not_found (b ∷ bs) e =
    elim (or_cases (is_blank b) (b == 47 && slash_next bs) e) [
      | inl h ↦ not_begun b bs h
      | inr h ↦ let parts = and_parts (b == 47) (slash_next bs) h in rw (eqb-true b 47 parts.0) refl
    ]

token_no_gap : (bytes : List ℕ) (k : TokenKind) (s after : List ℕ) → IsLongest bytes k s after → begins_gap bytes ≡ false
token_no_gap bytes k s after is =
    elim (cases_Bool (begins_gap bytes)) [
      | inl e ↦ none_is_none {A = TokenKind × ℕ} (k, length s) (sym (gap_not_found bytes e) ∙ longest_found bytes k s after is)
      | inr e ↦ e
    ]

-- ---- what stands behind a gap is what the scanner finds

behind : (text : List ℕ) (at : ℕ) (gap after : List ℕ) → drop at text ≡ gap ++ after → IsGap after gap → begins_gap after ≡ false → next_of text at ≡ placed (at + length gap) (lexeme after)
unfolding next_of
behind text at gap after parts is stop =
    let len : gap_len false (drop at text) ≡ length gap = ap (gap_len false) parts ∙ gap_is after gap is stop in
    rw (len, parts, drop_front gap after) refl

pub next_is : (text : List ℕ) (at : ℕ) (t : Token) → IsNext text at t → next_of text at ≡ Ok (Some t)
next_is text at t is =
    let stop = token_no_gap (is.spelling ++ is.after) t.kind is.spelling is.after is.longest in
    let lex = token_lexeme (is.spelling ++ is.after) t.kind is.spelling is.after is.longest is.is_token in
    behind text at is.gap (is.spelling ++ is.after) is.parts is.is_gap stop
    ∙ ap (placed (at + length is.gap)) lex
    ∙ rw (← is.from, ← is.to) refl

pub fault_is : (text : List ℕ) (at : ℕ) (e : LexFault) → IsNextFault text at e → next_of text at ≡ Err e
fault_is text at e is =
    behind text at is.gap is.after is.parts is.is_gap is.whole
    ∙ ap (placed (at + length is.gap)) (fault_lexeme is.after e.kind is.is_fault)
    ∙ rw (← is.place) refl

pub end_is : (text : List ℕ) (at : ℕ) → OnlyGap text at → next_of text at ≡ Ok None
end_is text at is = behind text at (drop at text) [] (sym (append-nil (drop at text))) is refl

-- ---- what the scanner finds stands behind a gap

placed_token : (from : ℕ) (r : Result (Option (TokenKind × ℕ)) LexKind) (t : Token) → placed from r ≡ Ok (Some t) → (z : TokenKind × ℕ) × (r ≡ Ok (Some z)) × (t.kind ≡ z.0) × (t.from ≡ from) × (t.to ≡ from + z.1)
placed_token from (Err e) t h = absurd (cc)
placed_token from (Ok None) t h = absurd (let some : None ≡ Some t = cc in none_is_none t some)
placed_token from (Ok (Some z)) t h =
    let here : Token = record { kind = z.0; from = from; to = from + z.1 } in
    let some : Some here ≡ Some t = cc in
    let same : here ≡ t = some_is here t some in
    (z, refl, ap (λ (x : Token). x.kind) (sym same), ap (λ (x : Token). x.from) (sym same), ap (λ (x : Token). x.to) (sym same))

placed_none : (from : ℕ) (r : Result (Option (TokenKind × ℕ)) LexKind) → placed from r ≡ Ok None → r ≡ Ok None
placed_none from (Err e) h = absurd (cc)
placed_none from (Ok None) h = refl
placed_none from (Ok (Some z)) h =
    let here : Token = record { kind = z.0; from = from; to = from + z.1 } in
    let none : Some here ≡ None = cc in
    none_is_none here (sym none)

placed_fault : (from : ℕ) (r : Result (Option (TokenKind × ℕ)) LexKind) (e : LexFault) → placed from r ≡ Err e → (r ≡ Err e.kind) × (e.place ≡ from)
placed_fault from (Ok None) e h = absurd (cc)
placed_fault from (Ok (Some z)) e h = absurd (cc)
placed_fault from (Err k) e h =
    let here : LexFault = record { kind = k; place = from } in
    let same : here ≡ e = cc in
    (ap (λ (x : LexFault). Err x.kind) same, ap (λ (x : LexFault). x.place) (sym same))

pub next_found : (text : List ℕ) (at : ℕ) (t : Token) → next_of text at ≡ Ok (Some t) → IsNext text at t
unfolding next_of
next_found text at t e =
    let rest = drop at text in
    let n = gap_len false rest in
    let bytes = drop n rest in
    let p = placed_token (at + n) (lexeme bytes) t e in
    let lex = lexeme_token bytes p.0 p.1 in
    let size = p.0.1 in
    let joined : bytes ≡ take size bytes ++ drop size bytes = sym (take-append-drop size bytes) in
    let gap_size = length-take-le n rest (gap_within false rest) in
    let token_size = length-take-le size bytes lex.within in
    record {
      gap = take n rest;
      spelling = take size bytes;
      after = drop size bytes;
      parts = sym (take-append-drop n rest) ∙ ap (λ (l : List ℕ). take n rest ++ l) joined;
      is_gap = subst (λ (l : List ℕ). IsGap l (take n rest)) joined (gap_found rest);
      longest = subst (λ (l : List ℕ). IsLongest l t.kind (take size bytes) (drop size bytes)) joined (subst (λ (k : TokenKind). IsLongest bytes k (take size bytes) (drop size bytes)) (sym p.2) lex.longest);
      is_token = subst (λ (k : TokenKind). IsToken k (take size bytes)) (sym p.2) lex.is_token;
      from = p.3 ∙ ap (λ (m : ℕ). at + m) (sym gap_size);
      to = p.4 ∙ (let from = p.3 in omega arith);
    }

pub fault_found : (text : List ℕ) (at : ℕ) (e : LexFault) → next_of text at ≡ Err e → IsNextFault text at e
unfolding next_of
fault_found text at e h =
    let rest = drop at text in
    let n = gap_len false rest in
    let p = placed_fault (at + n) (lexeme (drop n rest)) e h in
    let gap_size = length-take-le n rest (gap_within false rest) in
    record {
      gap = take n rest;
      after = drop n rest;
      parts = sym (take-append-drop n rest);
      is_gap = gap_found rest;
      whole = gap_whole false rest;
      is_fault = lexeme_fault (drop n rest) e.kind p.0;
      place = p.1 ∙ ap (λ (m : ℕ). at + m) (sym gap_size);
    }

pub end_found : (text : List ℕ) (at : ℕ) → next_of text at ≡ Ok None → OnlyGap text at
unfolding next_of
end_found text at h =
    let rest = drop at text in
    let n = gap_len false rest in
    let nothing = lexeme_none (drop n rest) (placed_none (at + n) (lexeme (drop n rest)) h) in
    let whole : take n rest ≡ rest = sym (append-nil (take n rest)) ∙ ap (λ (l : List ℕ). take n rest ++ l) (sym nothing) ∙ take-append-drop n rest in
    subst (λ (l : List ℕ). IsGap [] l) whole (subst (λ (l : List ℕ). IsGap l (take n rest)) nothing (gap_found rest))

-- ---- where the next token stands

spells_some : (kind : TokenKind) (spelling : List ℕ) → Spells kind spelling → 0 < length spelling
spells_some _ _ (global body some all) = omega arith
spells_some _ _ (local body some all) = omega arith
spells_some _ _ (object body some all) = omega arith
spells_some _ _ (directive body some all) = omega arith
spells_some _ _ (word first body e all) = omega arith
spells_some _ _ (plain first body e all) = omega arith
spells_some _ _ (signed sign first body s e all) = omega arith
spells_some _ _ (mark marks.Open) = omega arith
spells_some _ _ (mark marks.Close) = omega arith
spells_some _ _ (mark marks.OpenBrace) = omega arith
spells_some _ _ (mark marks.CloseBrace) = omega arith
spells_some _ _ (mark marks.Less) = omega arith
spells_some _ _ (mark marks.Greater) = omega arith
spells_some _ _ (mark marks.OpenBracket) = omega arith
spells_some _ _ (mark marks.CloseBracket) = omega arith
spells_some _ _ (mark marks.Equals) = omega arith
spells_some _ _ (mark marks.Colon) = omega arith
spells_some _ _ (mark marks.Ampersand) = omega arith
spells_some _ _ (mark marks.Arrow) = omega arith

pub record IsWithin (text : List ℕ) (at : ℕ) (t : Token) : Type 0 where
  pub behind : at ≤ t.from
  pub some : t.from < t.to
  pub within : t.to ≤ length text

pub next_within : (text : List ℕ) (at : ℕ) (t : Token) → IsNext text at t → IsWithin text at t
next_within text at t is =
    let some = spells_some t.kind is.spelling is.longest.spells in
    let whole = ap length is.parts in
    let left = length-drop at text in
    let outer = length-append is.gap (is.spelling ++ is.after) in
    let inner = length-append is.spelling is.after in
    let from = is.from in
    let to = is.to in
    record { behind = omega arith; some = omega arith; within = omega arith }

-- where the bytes behind the next token begin
pub behind_next : (text : List ℕ) (at : ℕ) (t : Token) → (is : IsNext text at t) → drop t.to text ≡ is.after
behind_next text at t is =
    let size : t.to ≡ at + (length is.gap + length is.spelling) = is.to ∙ (let from = is.from in omega arith) in
    rw size (sym (drop-drop (length is.gap + length is.spelling) at text) ∙ ap (drop (length is.gap + length is.spelling)) is.parts
    ∙ ap (λ (n : ℕ). drop n (is.gap ++ (is.spelling ++ is.after))) (sym (length-append is.gap is.spelling))
    ∙ ap (drop (length (is.gap ++ is.spelling))) (sym (append_assoc is.gap is.spelling is.after))
    ∙ drop_front (is.gap ++ is.spelling) is.after)

-- the bytes of the next token
pub next_spelling : (text : List ℕ) (at : ℕ) (t : Token) → (is : IsNext text at t) → spelling_of text t ≡ is.spelling
next_spelling text at t is =
    let size : t.to - t.from ≡ length is.spelling = (let to = is.to in omega arith) in
    let front : drop t.from text ≡ is.spelling ++ is.after =
    ap (λ (n : ℕ). drop n text) is.from ∙ sym (drop-drop (length is.gap) at text) ∙ ap (drop (length is.gap)) is.parts ∙ drop_front is.gap (is.spelling ++ is.after) in
    rw (size, front) (take_front is.spelling is.after)

-- ---- as the contract has it

pub found_some : (text : List ℕ) (at : ℕ) (r : Result (Option Token) LexFault) → next_of text at ≡ r → IfOk r (λ o. IfSome o (λ t. t.from < t.to))
found_some text at (Err f) e = tt
found_some text at (Ok None) e = tt
found_some text at (Ok (Some t)) e = (next_within text at t (next_found text at t e)).some

pub found_number : (text : List ℕ) (at : ℕ) (r : Result (Option Token) LexFault) → next_of text at ≡ r → IfOk r (λ o. IfSome o (λ t. t.kind ≡ kinds.Number → IsNumber (spelling_of text t)))
found_number text at (Err f) e = tt
found_number text at (Ok None) e = tt
found_number text at (Ok (Some t)) e = λ kind. let is = next_found text at t e in rw (next_spelling text at t is) (is.is_token.number kind)
