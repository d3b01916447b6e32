-- What a cursor holds is the tokens of its text from its place on.
use Rattle.std.proofs.Common.{◌≡◌, ℕ, zero, suc, ◌+◌, ◌≤◌, Bool, true, false, List, [], ◌∷◌, length, take, drop, Option, Some, None, Result, Ok, Err, refl, sym, ap, subst, ◌∙◌, arith, inl, inr}
use Rattle.std.specs.Prelude.{◌||◌, ◌==◌, ◌-◌, not}
use Rattle.std.specs.List.{list_all, list_any}
use Rattle.std.specs.Str.{bytes_eq}
use Rattle.std.proofs.lemmas.Bool.{and_parts, not-true, cases_Bool, or_cases}
use Rattle.text_forms.specs.declared.symbol.Symbol.{Symbol}
use Rattle.text_forms.specs.declared.symbol.Symbol.TheVariants as symbols
use denote.Enum.Bare.{same_true}
use Rattle.text_forms.specs.contracts.symbol.Symbol.{the_type}
use Rattle.text_forms.specs.Tokens.{Tok, same, has, is_last, goes_on_behind, rest_of, first, IsText, at}
use Rattle.text_forms.specs.Texts.{none_last}
use Rattle.ir_lex.specs.declared.token.TokenKind.{TokenKind}
use Rattle.ir_lex.specs.declared.token.TokenKind.TheVariants as kinds
use Rattle.ir_lex.specs.declared.token.Mark.{Mark}
use Rattle.ir_lex.specs.declared.token.Mark.TheVariants as marks
use Rattle.ir_lex.specs.declared.token.LexKind.{LexKind}
use Rattle.ir_lex.specs.declared.token.LexKind.TheVariants as faults
use Rattle.ir_lex.specs.declared.token.Token.{Token}
use Rattle.ir_lex.specs.declared.token.LexFault.{LexFault}
use Rattle.ir_lex.specs.declared.cursor.Held.{Held}
use Rattle.ir_lex.specs.Texts.{Lexes, ends, stops, reads, spelling_of}
use Rattle.ir_lex.specs.Seen.{mark_symbol, symbol_of, fault_symbol, tok_of, seen}
use Rattle.ir_lex.specs.WordTable.{Row, look_up, words, directives, common_names}
use Rattle.ir_lex.specs.Scanner.{next_of}
use Rattle.ir_lex.specs.Walk.{Tokens, tokens_within, tokens_from, held, held_tokens}
use Rattle.ir_lex.specs.Lemmas.Nexts.{next_within, next_found}
use Rattle.ir_lex.specs.SeenLaws.{TokensAreSeen, TextsEnd, NumbersAreMeant, EachWordIsFound}
use Rattle.ir_lex.specs.Lemmas.Meanings.{means_numeral, one_number}
use Rattle.ir_lex.specs.Lemmas.Lists.{one_list, lexed, lexes_are, within_token, within_end, within_fault}

-- ---- a token is no last one

looked_up : (absent : Symbol) (rows : List Row) (word : List ℕ) → is_last absent ≡ false → list_all (λ (r : Row). not (is_last r.1)) rows ≡ true → is_last (look_up absent rows word) ≡ false
looked_up absent [] word e all = e
looked_up absent (r ∷ rs) word e all =
    let parts = and_parts (not (is_last r.1)) (list_all (λ (q : Row). not (is_last q.1)) rs) all in
    let later = looked_up absent rs word e parts.1 in
    elim (cases_Bool (bytes_eq word r.0)) [
      | inl h ↦ rw h (not-true (is_last r.1) parts.0)
      | inr h ↦ rw h later
    ]

words_go_on : list_all (λ (r : Row). not (is_last r.1)) words ≡ true
unfolding words
words_go_on = refl

directives_go_on : list_all (λ (r : Row). not (is_last r.1)) directives ≡ true
unfolding directives
directives_go_on = refl

names_go_on : list_all (λ (r : Row). not (is_last r.1)) common_names ≡ true
unfolding common_names
names_go_on = refl

mark_goes_on : (m : Mark) → is_last (mark_symbol m) ≡ false
mark_goes_on marks.Open = refl
mark_goes_on marks.Close = refl
mark_goes_on marks.OpenBrace = refl
mark_goes_on marks.CloseBrace = refl
mark_goes_on marks.Less = refl
mark_goes_on marks.Greater = refl
mark_goes_on marks.OpenBracket = refl
mark_goes_on marks.CloseBracket = refl
mark_goes_on marks.Equals = refl
mark_goes_on marks.Colon = refl
mark_goes_on marks.Ampersand = refl
mark_goes_on marks.Arrow = refl

pub goes_on : (kind : TokenKind) (spelling : List ℕ) → is_last (symbol_of kind spelling) ≡ false
goes_on kinds.Global spelling = looked_up symbols.Global common_names spelling refl names_go_on
goes_on kinds.Local spelling = refl
goes_on kinds.Object spelling = refl
goes_on kinds.Directive spelling = looked_up symbols.Other directives spelling refl directives_go_on
goes_on kinds.Word spelling = looked_up symbols.Other words spelling refl words_go_on
goes_on kinds.Number spelling = refl
goes_on (kinds.Mark m) spelling = mark_goes_on m

fault_is_last : (k : LexKind) → is_last (fault_symbol k) ≡ true
fault_is_last faults.BadByte = refl
fault_is_last faults.BadName = refl
fault_is_last faults.NumberTooLarge = refl
fault_is_last faults.TooLong = refl

-- ---- the tokens from a place on are those of the relation

abbrev seen_in : List ℕ → Tokens → List Tok
seen_in text r = seen text r.0 r.1

pub from_lexes : (text : List ℕ) (at : ℕ) (ts : List Token) (end : Option LexFault) → Lexes text at ts end → tokens_from text at ≡ seen text ts end
unfolding tokens_from
from_lexes text at ts end is = ap (seen_in text) (lexes_are text at ts end is (length text) (omega arith))

-- with the number one larger
within_more : (text : List ℕ) (at n : ℕ) → length text ≤ at + n → tokens_within (suc (suc n)) text at ≡ tokens_within (suc n) text at
within_more text at n le = lexes_are text at _ _ (lexed n text at le) (suc n) (omega arith)

from_token : (text : List ℕ) (at : ℕ) (t : Token) → next_of text at ≡ Ok (Some t) → tokens_from text at ≡ tok_of text t ∷ tokens_from text t.to
unfolding tokens_from
from_token text at t e =
    ap (seen_in text) (within_token (length text) text at t e)
    ∙ ap (λ (r : Tokens). tok_of text t ∷ seen_in text r) (more (length text) refl)
  where
    more : (n : ℕ) → length text ≡ n → tokens_within n text t.to ≡ tokens_within (suc n) text t.to
    more zero h = absurd (let w = next_within text at t (next_found text at t e) in omega arith)
    more (suc n) h = sym (within_more text t.to n (let w = next_within text at t (next_found text at t e) in omega arith))

-- ---- what is held

abbrev pub holds : List ℕ → Held → List Tok
holds text h = held_tokens text h.symbol h.from h.to

nothing_taken : (p : ℕ) (l : List ℕ) → take (p - p) l ≡ []
nothing_taken p l = let none : p - p ≡ 0 = omega arith in rw none refl

holds_last : (text : List ℕ) (s : Symbol) (p : ℕ) → is_last s ≡ true → held_tokens text s p p ≡ record { symbol = s; place = p; spelling = [] } ∷ []
holds_last text s p e = rw (e, nothing_taken p (drop p text)) refl

pub held_is : (text : List ℕ) (at : ℕ) (r : Result (Option Token) LexFault) → next_of text at ≡ r → holds text (held text r) ≡ tokens_from text at
unfolding tokens_from
held_is text at (Err f) e = holds_last text (fault_symbol f.kind) f.place (fault_is_last f.kind) ∙ ap (seen_in text) (sym (within_fault (length text) text at f e))
held_is text at (Ok None) e = holds_last text symbols.End (length text) refl ∙ ap (seen_in text) (sym (within_end (length text) text at e))
held_is text at (Ok (Some t)) e = rw (goes_on t.kind (spelling_of text t)) (sym (from_token text at t e))

pub held_next : (text : List ℕ) (s : Symbol) (from to : ℕ) → goes_on_behind (held_tokens text s from to) ≡ true → holds text (held text (next_of text to)) ≡ rest_of (held_tokens text s from to)
held_next text s from to e = held_is text to (next_of text to) refl ∙ rw (not-true (is_last s) e) refl

-- ---- one of several

pub any_has : (xs : List Symbol) (s : Symbol) → list_any (λ (x : Symbol). same x s) xs ≡ has xs s
any_has [] s = refl
any_has (x ∷ xs) s = ap (λ (b : Bool). same x s || b) (any_has xs s)

-- what is among symbols of which none is a last one is none
pub among_goes_on : (xs : List Symbol) (ts : List Tok) → none_last xs ≡ true → at xs ts ≡ true → goes_on_behind ts ≡ true
among_goes_on xs [] none e = absurd (cc)
among_goes_on xs (t ∷ ts) none e = go xs none e
  where
    go : (xs : List Symbol) → none_last xs ≡ true → has xs t.symbol ≡ true → not (is_last t.symbol) ≡ true
    go [] none e = absurd (cc)
    go (x ∷ xs) none e =
        let parts = and_parts (not (is_last x)) (none_last xs) none in
        elim (or_cases (same x t.symbol) (has xs t.symbol) e) [
          | inl h ↦ subst (λ (z : Symbol). not (is_last z) ≡ true) (same_true the_type tt x t.symbol h) parts.0
          | inr h ↦ go xs parts.1 h
        ]

pub one_goes_on : (x : Symbol) (ts : List Tok) → is_last x ≡ false → at (x ∷ []) ts ≡ true → goes_on_behind ts ≡ true
one_goes_on x ts ordinary e = among_goes_on (x ∷ []) ts (rw ordinary refl) e

-- ---- the laws

pub tokens_are_seen : TokensAreSeen
tokens_are_seen text at tokens end is = from_lexes text at tokens end is

-- the first token stands at the place or behind it
begins_behind : (text : List ℕ) (at : ℕ) (ts : List Token) (end : Option LexFault) → at ≤ length text → Lexes text at ts end → at ≤ (first (seen text ts end)).place
begins_behind text _ _ _ le (ends at is) = le
begins_behind text _ _ _ le (stops at f is) = let place = is.place in omega arith
begins_behind text _ _ _ le (reads at t more end is later) = (next_within text at t is).behind

seen_is_text : (text : List ℕ) (at : ℕ) (ts : List Token) (end : Option LexFault) → at ≤ length text → Lexes text at ts end → IsText (seen text ts end)
unfolding IsText
seen_is_text text _ _ _ le (ends at is) = inl (refl, refl)
seen_is_text text _ _ _ le (stops at f is) = inl (fault_is_last f.kind, refl)
seen_is_text text _ _ _ le (reads at t more end is later) =
    let w = next_within text at t is in
    let behind = begins_behind text t.to more end w.within later in
    inr (goes_on t.kind (spelling_of text t), omega arith, seen_is_text text t.to more end w.within later)

pub texts_end : TextsEnd
texts_end text =
    let here = one_list text in
    rw (from_lexes text 0 here.0 here.1 here.2) (seen_is_text text 0 here.0 here.1 (omega arith) here.2)

pub numbers_are_meant : NumbersAreMeant
numbers_are_meant spelling n means small =
    let found = means_numeral spelling n means small in
    sym (one_number spelling n.magnitude found n means ∙ rw found refl)

pub each_word_is_found : EachWordIsFound
unfolding words directives common_names
each_word_is_found = (refl, refl, refl)
