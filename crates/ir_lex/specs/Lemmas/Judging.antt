-- The scanner finds the token at the front of some bytes, or its fault.
use Rattle.std.proofs.Common.{◌≡◌, ℕ, ◌<◌, ◌≤◌, List, [], ◌∷◌, ◌++◌, length, take, drop, Some, None, Result, Ok, Err, refl, sym, ap, subst, ◌∙◌, inl, inr}
use Rattle.std.specs.Prelude.{nat_lt}
use Rattle.std.proofs.lemmas.Bool.{ltb-true, ltb-false, le-ltb, lt-ltb, cases_Bool}
use Rattle.ir_lex.specs.declared.token.TokenKind.{TokenKind}
use Rattle.ir_lex.specs.declared.token.TokenKind.TheVariants as kinds
use Rattle.ir_lex.specs.declared.token.LexKind.{LexKind}
use Rattle.ir_lex.specs.declared.token.LexKind.TheVariants as faults
use Rattle.ir_lex.specs.Bytes.{is_sigil}
use Rattle.ir_lex.specs.Lexemes.{IsLongest, NoneBegins, longest_token, IsToken, IsFault, too_long, bad_byte, bad_run, bad_name, too_large}
use Rattle.ir_lex.specs.Scanner.{numeral, numbered, meant, judged, none_begun, sized, lexeme_of, lexeme, Found, number_at}
use Rattle.ir_lex.specs.Lemmas.Longest.{found, found_sound, found_longest, longest_found, none_found, found_none, none_is_none, some_is}
use Rattle.ir_lex.specs.Lemmas.Meanings.{numeral_ok, numeral_bad, means_numeral, means_too_large, nothing_meant}

-- ---- a spelling

-- a token of another kind than a number is only not too long
short_token : (k : TokenKind) (s : List ℕ) → (k ≡ kinds.Number → ⊥) → length s ≤ longest_token → IsToken k s
short_token k s other le = record { short = le; number = λ e. absurd (other e) }

number_token : (s : List ℕ) (r : Result ℕ LexKind) → numeral s ≡ r → (kind : TokenKind) → numbered r ≡ Ok kind → length s ≤ longest_token → (kind ≡ kinds.Number) × IsToken kinds.Number s
number_token s (Err e) h kind f le = absurd (cc)
number_token s (Ok m) h kind f le =
    let means = numeral_ok s m h in
    (let same : kinds.Number ≡ kind = cc in sym same, record { short = le; number = λ e. (number_at s m, means.0, means.1) })

meant_ok : (k : TokenKind) (s : List ℕ) (kind : TokenKind) → meant k s ≡ Ok kind → length s ≤ longest_token → (kind ≡ k) × IsToken k s
meant_ok kinds.Global s kind e le = (cc, short_token kinds.Global s (λ h. cc) le)
meant_ok kinds.Local s kind e le = (cc, short_token kinds.Local s (λ h. cc) le)
meant_ok kinds.Object s kind e le = (cc, short_token kinds.Object s (λ h. cc) le)
meant_ok kinds.Directive s kind e le = (cc, short_token kinds.Directive s (λ h. cc) le)
meant_ok kinds.Word s kind e le = (cc, short_token kinds.Word s (λ h. cc) le)
meant_ok kinds.Number s kind e le = number_token s (numeral s) refl kind e le
meant_ok (kinds.Mark m) s kind e le = (cc, short_token (kinds.Mark m) s (λ h. cc) le)

judged_ok : (k : TokenKind) (s : List ℕ) (kind : TokenKind) → judged k s ≡ Ok kind → (kind ≡ k) × IsToken k s
judged_ok k s kind e =
    elim (cases_Bool (nat_lt longest_token (length s))) [
      | inl long ↦ absurd (let bad : Err faults.TooLong ≡ Ok kind = rw long at e in cc)
      | inr short ↦ meant_ok k s kind (rw short at e) (ltb-false _ _ short)
    ]

numbered_bad : (s : List ℕ) (r : Result ℕ LexKind) → numeral s ≡ r → (e : LexKind) → numbered r ≡ Err e → numeral s ≡ Err e
numbered_bad s (Ok m) h e f = absurd (cc)
numbered_bad s (Err d) h e f = cc

meant_bad : (k : TokenKind) (s : List ℕ) (e : LexKind) → meant k s ≡ Err e → (k ≡ kinds.Number) × (numeral s ≡ Err e)
meant_bad kinds.Global s e h = absurd (cc)
meant_bad kinds.Local s e h = absurd (cc)
meant_bad kinds.Object s e h = absurd (cc)
meant_bad kinds.Directive s e h = absurd (cc)
meant_bad kinds.Word s e h = absurd (cc)
meant_bad kinds.Number s e h = (refl, numbered_bad s (numeral s) refl e h)
meant_bad (kinds.Mark m) s e h = absurd (cc)

number_fault : (bytes s after : List ℕ) (e : LexKind) → IsLongest bytes kinds.Number s after → length s ≤ longest_token → numeral s ≡ Err e → IsFault bytes e
number_fault bytes s after e is le h =
    elim (numeral_bad s e h) [
      | inl b ↦ rw b.0 (bad_run bytes s after is le b.1)
      | inr b ↦ rw b.1 (too_large bytes s after b.0 is le b.2 b.3)
    ]

judged_bad : (bytes : List ℕ) (k : TokenKind) (s after : List ℕ) (e : LexKind) → IsLongest bytes k s after → judged k s ≡ Err e → IsFault bytes e
judged_bad bytes k s after e is h =
    elim (cases_Bool (nat_lt longest_token (length s))) [
      | inl long ↦ let same : Err faults.TooLong ≡ Err e = rw long at h in let kind : faults.TooLong ≡ e = cc in subst (IsFault bytes) kind (too_long bytes s after k is (ltb-true _ _ long))
      | inr short ↦ let b = meant_bad k s e (rw short at h) in number_fault bytes s after e (subst (λ (j : TokenKind). IsLongest bytes j s after) b.0 is) (ltb-false _ _ short) b.1
    ]

judged_token : (k : TokenKind) (s : List ℕ) → IsToken k s → judged k s ≡ Ok k
judged_token k s is = rw (le-ltb longest_token (length s) is.short) (by_kind k is)
  where
    by_kind : (j : TokenKind) → IsToken j s → meant j s ≡ Ok j
    by_kind kinds.Global t = refl
    by_kind kinds.Local t = refl
    by_kind kinds.Object t = refl
    by_kind kinds.Directive t = refl
    by_kind kinds.Word t = refl
    by_kind kinds.Number t = let n = t.number refl in rw (means_numeral s n.0 n.1 n.2) refl
    by_kind (kinds.Mark m) t = refl

-- ---- at the front of some bytes

pub take_front : (s after : List ℕ) → take (length s) (s ++ after) ≡ s
take_front [] after = refl
take_front (x ∷ s) after = ap (λ (l : List ℕ). x ∷ l) (take_front s after)

longest_lexeme : (bytes : List ℕ) (k : TokenKind) (s after : List ℕ) → IsLongest bytes k s after → lexeme bytes ≡ sized (length s) (judged k s)
longest_lexeme [] k s after is = none_is_none (k, length s) (longest_found [] k s after is)
longest_lexeme (b ∷ bs) k s after is =
    ap (lexeme_of b bs) (longest_found (b ∷ bs) k s after is)
    ∙ ap (λ (l : List ℕ). sized (length s) (judged k l)) (ap (take (length s)) is.parts ∙ take_front s after)

pub token_lexeme : (bytes : List ℕ) (k : TokenKind) (s after : List ℕ) → IsLongest bytes k s after → IsToken k s → lexeme bytes ≡ Ok (Some (k, length s))
token_lexeme bytes k s after is t = longest_lexeme bytes k s after is ∙ ap (sized (length s)) (judged_token k s t)

number_judged : (s : List ℕ) (e : LexKind) → length s ≤ longest_token → numeral s ≡ Err e → judged kinds.Number s ≡ Err e
number_judged s e le h = rw (le-ltb longest_token (length s) le, h) refl

too_long_judged : (k : TokenKind) (s : List ℕ) → longest_token < length s → judged k s ≡ Err faults.TooLong
too_long_judged k s long = rw (lt-ltb longest_token (length s) long) refl

none_lexeme : (b : ℕ) (bs : List ℕ) → NoneBegins (b ∷ bs) → lexeme (b ∷ bs) ≡ Err (none_begun b)
none_lexeme b bs none = ap (lexeme_of b bs) (none_found (b ∷ bs) none)

pub fault_lexeme : (bytes : List ℕ) (e : LexKind) → IsFault bytes e → lexeme bytes ≡ Err e
fault_lexeme _ _ (too_long bytes s after k is long) = longest_lexeme bytes k s after is ∙ ap (sized (length s)) (too_long_judged k s long)
fault_lexeme _ _ (bad_byte b bs none sigil) = none_lexeme b bs none ∙ rw sigil refl
fault_lexeme _ _ (bad_run bytes s after is le none) = longest_lexeme bytes kinds.Number s after is ∙ ap (sized (length s)) (number_judged s faults.BadByte le (nothing_meant s none))
fault_lexeme _ _ (bad_name b bs none sigil) = none_lexeme b bs none ∙ rw sigil refl
fault_lexeme _ _ (too_large bytes s after n is le means large) = longest_lexeme bytes kinds.Number s after is ∙ ap (sized (length s)) (number_judged s faults.NumberTooLarge le (means_too_large s n means large))

pub record IsLexeme (bytes : List ℕ) (k : TokenKind) (n : ℕ) : Type 0 where
  pub longest : IsLongest bytes k (take n bytes) (drop n bytes)
  pub is_token : IsToken k (take n bytes)
  pub within : n ≤ length bytes

sized_ok : (bytes : List ℕ) (z x : TokenKind × ℕ) → found bytes ≡ Some x → (r : Result TokenKind LexKind) → judged x.0 (take x.1 bytes) ≡ r → sized x.1 r ≡ Ok (Some z) → IsLexeme bytes z.0 z.1
sized_ok bytes z x f (Err e) h g = absurd (cc)
sized_ok bytes z x f (Ok kind) h g =
    let ok = judged_ok x.0 (take x.1 bytes) kind h in
    let some : Some (kind, x.1) ≡ Some z = cc in
    let same : (kind, x.1) ≡ z = some_is _ _ some in
    let here : IsLexeme bytes x.0 x.1 = record { longest = found_longest bytes x f; is_token = ok.1; within = (found_sound bytes x f).1 } in
    subst (λ (y : TokenKind × ℕ). IsLexeme bytes y.0 y.1) same (subst (λ (k : TokenKind). IsLexeme bytes k x.1) (sym ok.0) here)

pub lexeme_token : (bytes : List ℕ) (z : TokenKind × ℕ) → lexeme bytes ≡ Ok (Some z) → IsLexeme bytes z.0 z.1
lexeme_token [] z e = absurd (cc)
lexeme_token (b ∷ bs) z e = go (found (b ∷ bs)) refl e
  where
    go : (o : Found) → found (b ∷ bs) ≡ o → lexeme_of b bs o ≡ Ok (Some z) → IsLexeme (b ∷ bs) z.0 z.1
    go None f g = absurd (cc)
    go (Some x) f g = sized_ok (b ∷ bs) z x f (judged x.0 (take x.1 (b ∷ bs))) refl g

pub lexeme_none : (bytes : List ℕ) → lexeme bytes ≡ Ok None → bytes ≡ []
lexeme_none [] e = refl
lexeme_none (b ∷ bs) e = absurd (go (found (b ∷ bs)) e)
  where
    of_sized : (n : ℕ) (r : Result TokenKind LexKind) → sized n r ≡ Ok None → ⊥
    of_sized n (Ok k) g = none_is_none {A = TokenKind × ℕ} (k, n) (let same : Some (k, n) ≡ None = cc in sym same)
    of_sized n (Err d) g = cc

    go : (o : Found) → lexeme_of b bs o ≡ Ok None → ⊥
    go None g = cc
    go (Some x) g = of_sized x.1 (judged x.0 (take x.1 (b ∷ bs))) g

pub lexeme_fault : (bytes : List ℕ) (e : LexKind) → lexeme bytes ≡ Err e → IsFault bytes e
lexeme_fault [] e h = absurd (cc)
lexeme_fault (b ∷ bs) e h = go (found (b ∷ bs)) refl h
  where
    of_sized : (n : ℕ) (r : Result TokenKind LexKind) → sized n r ≡ Err e → r ≡ Err e
    of_sized n (Ok k) g = absurd (cc)
    of_sized n (Err d) g = let same : d ≡ e = cc in ap (λ (x : LexKind). Err x) same

    none_case : NoneBegins (b ∷ bs) → none_begun b ≡ e → IsFault (b ∷ bs) e
    none_case none g = elim (cases_Bool (is_sigil b)) [
      | inl sigil ↦ let kind : faults.BadName ≡ e = rw sigil at g in subst (IsFault (b ∷ bs)) kind (bad_name b bs none sigil)
      | inr other ↦ let kind : faults.BadByte ≡ e = rw other at g in subst (IsFault (b ∷ bs)) kind (bad_byte b bs none other)
    ]

    go : (o : Found) → found (b ∷ bs) ≡ o → lexeme_of b bs o ≡ Err e → IsFault (b ∷ bs) e
    go None f g = none_case (found_none (b ∷ bs) f) (let same : none_begun b ≡ e = cc in same)
    go (Some x) f g = judged_bad (b ∷ bs) x.0 (take x.1 (b ∷ bs)) (drop x.1 (b ∷ bs)) e (found_longest (b ∷ bs) x f) (of_sized x.1 (judged x.0 (take x.1 (b ∷ bs))) g)
