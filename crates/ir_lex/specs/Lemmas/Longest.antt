-- The scanner finds the longest spelling at the front of some bytes.
use Rattle.std.proofs.Common.{◌≡◌, ℕ, suc, ◌+◌, ◌<◌, ◌≤◌, Bool, true, false, cond, eqb, List, [], ◌∷◌, ◌++◌, length, take, drop, Option, Some, None, refl, sym, ap, subst, ◌∙◌, arith, add-one, inl, inr}
use Rattle.std.specs.Prelude.{◌==◌, ◌&&◌, option_map}
use Rattle.std.specs.List.{prefix_len, list_all}
use Rattle.std.specs.Char.{is_ascii_digit, is_ascii_alphabetic, is_ascii_alphanumeric}
use Rattle.std.specs.Int.{is_in_range}
use Rattle.std.proofs.lemmas.Bool.{eqb-true, and_parts, or_cases, or_left}
use Rattle.std.proofs.lemmas.Bool.Decides.{nat_tests}
use Rattle.std.proofs.lemmas.List.{take-append-drop, length-take-le}
use Rattle.std.proofs.lemmas.List.Sums.{prefix_len-le-length}
use Rattle.ir_lex.specs.declared.token.TokenKind.{TokenKind}
use Rattle.ir_lex.specs.declared.token.TokenKind.TheVariants as kinds
use Rattle.ir_lex.specs.declared.token.Mark.{Mark}
use Rattle.ir_lex.specs.declared.token.Mark.TheVariants as marks
use Rattle.ir_lex.specs.Bytes.{is_sign, goes_on, stops_at}
use Rattle.ir_lex.specs.Spellings.{mark_bytes, Spells, global, local, object, directive, word, plain, signed, mark}
use Rattle.ir_lex.specs.Lexemes.{IsLongest, NoneBegins}
use Rattle.ir_lex.specs.Scanner as scanner
use Rattle.ir_lex.specs.Lemmas.Prefixes.{prefix_passes, prefix_reaches, prefix_again}

-- the longest spelling at the front, as the scanner finds it
abbrev pub found : List ℕ → scanner.Found
found [] = None
found (b ∷ bs) = scanner.begun b bs

-- ---- what is found is a spelling

abbrev Sound : List ℕ → TokenKind × ℕ → Type 0
Sound bytes z = Spells z.0 (take z.1 bytes) × (z.1 ≤ length bytes)

pub some_is : {A : Type 0} (x y : A) → Some x ≡ Some y → x ≡ y
some_is x y e = cc

pub pick : {A P : Type 0} (b : Bool) (x y : Option A) (z : A) → cond b x y ≡ Some z → (b ≡ true → x ≡ Some z → P) → (b ≡ false → y ≡ Some z → P) → P
pick true x y z e f g = f refl e
pick false x y z e f g = g refl e

pub none_is_none : {A P : Type 0} (z : A) → None ≡ Some z → P
none_is_none z e = absurd cc

-- a first byte, and the bytes behind it that go on with the kind
grown : (k : TokenKind) (b : ℕ) (bs : List ℕ) → ((body : List ℕ) → list_all (goes_on k) body ≡ true → length body ≡ prefix_len (goes_on k) bs → Spells k (b ∷ body)) → (z : TokenKind × ℕ) → Some (k, prefix_len (goes_on k) bs + 1) ≡ Some z → Sound (b ∷ bs) z
grown k b bs f z e =
    let n = prefix_len (goes_on k) bs in
    let le = prefix_len-le-length (goes_on k) bs in
    let is : (k, n + 1) ≡ z = some_is _ _ e in
    let spelled : Spells k (b ∷ take n bs) = f (take n bs) (prefix_passes (goes_on k) bs) (length-take-le n bs le) in
    let here : Sound (b ∷ bs) (k, n + 1) = (rw add-one spelled, omega arith) in
    subst (Sound (b ∷ bs)) is here

named_sound : (k : TokenKind) (b : ℕ) (bs : List ℕ) → ((body : List ℕ) → 0 < length body → list_all (goes_on k) body ≡ true → Spells k (b ∷ body)) → (z : TokenKind × ℕ) → scanner.named k bs ≡ Some z → Sound (b ∷ bs) z
named_sound k b bs f z e =
    let n = prefix_len (goes_on k) bs in
    pick (n == 0) None (Some (k, n + 1)) z e
    (λ zero_len h. none_is_none z h)
    (λ some_len h. grown k b bs (λ body all len. let some : 0 < length body = grind (arith, nat_tests) in f body some all) z h)

alnum_from_digit : (b : ℕ) → is_ascii_digit b ≡ true → is_ascii_alphanumeric b ≡ true
alnum_from_digit b e = or_left _ (is_in_range 97 122 b) (or_left _ (is_in_range 65 90 b) e)

-- a sign, a digit, and the letters and digits behind them
signed_run : (b c : ℕ) (cs : List ℕ) → is_sign b ≡ true → is_ascii_digit c ≡ true → (z : TokenKind × ℕ) → Some (kinds.Number, prefix_len is_ascii_alphanumeric (c ∷ cs) + 1) ≡ Some z → Sound (b ∷ c ∷ cs) z
signed_run b c cs sign digit z e =
    let n = prefix_len is_ascii_alphanumeric cs in
    let le = prefix_len-le-length is_ascii_alphanumeric cs in
    let alnum = alnum_from_digit c digit in
    let len : prefix_len is_ascii_alphanumeric (c ∷ cs) + 1 ≡ suc (suc n) = rw alnum (omega arith) in
    let is : (kinds.Number, prefix_len is_ascii_alphanumeric (c ∷ cs) + 1) ≡ z = some_is _ _ e in
    let here : Sound (b ∷ c ∷ cs) (kinds.Number, suc (suc n)) = (signed b c (take n cs) sign digit (prefix_passes is_ascii_alphanumeric cs), omega arith) in
    subst (Sound (b ∷ c ∷ cs)) (ap (λ (m : ℕ). let p : TokenKind × ℕ = (kinds.Number, m) in p) (sym len) ∙ is) here

arrow_sound : (b : ℕ) (bs : List ℕ) → (b == 45 && scanner.greater_next bs) ≡ true → (z : TokenKind × ℕ) → Some (kinds.Mark marks.Arrow, 2) ≡ Some z → Sound (b ∷ bs) z
arrow_sound b [] h z e = absurd (let parts = and_parts (b == 45) false h in cc)
arrow_sound b (c ∷ cs) h z e =
    let parts = and_parts (b == 45) (c == 62) h in
    let is : (kinds.Mark marks.Arrow, 2) ≡ z = some_is _ _ e in
    let here : Sound (45 ∷ 62 ∷ cs) (kinds.Mark marks.Arrow, 2) = (mark marks.Arrow, omega arith) in
    subst (Sound (b ∷ c ∷ cs)) is (rw (eqb-true b 45 parts.0, eqb-true c 62 parts.1) here)

signed_sound : (b : ℕ) (bs : List ℕ) → is_sign b ≡ true → (z : TokenKind × ℕ) → scanner.signed b bs ≡ Some z → Sound (b ∷ bs) z
signed_sound b [] sign z e = pick (b == 45 && false) (Some (kinds.Mark marks.Arrow, 2)) None z e (λ h1 h2. arrow_sound b [] h1 z h2) (λ h1 h2. none_is_none z h2)
signed_sound b (c ∷ cs) sign z e =
    pick (is_ascii_digit c) (Some (kinds.Number, prefix_len is_ascii_alphanumeric (c ∷ cs) + 1)) (cond (b == 45 && c == 62) (Some (kinds.Mark marks.Arrow, 2)) None) z e
    (λ digit h. signed_run b c cs sign digit z h)
    (λ other h. pick (b == 45 && c == 62) (Some (kinds.Mark marks.Arrow, 2)) None z h (λ h1 h2. arrow_sound b (c ∷ cs) h1 z h2) (λ h1 h2. none_is_none z h2))

mark_here : (c : ℕ) (w : Mark) (b : ℕ) (m : Mark) → mark_bytes w ≡ c ∷ [] → (b == c) ≡ true → Some w ≡ Some m → mark_bytes m ≡ b ∷ []
mark_here c w b m e h k = rw (eqb-true b c h, ← e) (ap mark_bytes (sym (some_is w m k)))

mark_sound : (b : ℕ) (m : Mark) → scanner.mark_of b ≡ Some m → mark_bytes m ≡ b ∷ []
mark_sound b m e =
    pick (b == 40) _ _ m e (mark_here 40 marks.Open b m refl)
    (λ n40 e40. pick (b == 41) _ _ m e40 (mark_here 41 marks.Close b m refl)
    (λ n41 e41. pick (b == 123) _ _ m e41 (mark_here 123 marks.OpenBrace b m refl)
    (λ n123 e123. pick (b == 125) _ _ m e123 (mark_here 125 marks.CloseBrace b m refl)
    (λ n125 e125. pick (b == 60) _ _ m e125 (mark_here 60 marks.Less b m refl)
    (λ n60 e60. pick (b == 62) _ _ m e60 (mark_here 62 marks.Greater b m refl)
    (λ n62 e62. pick (b == 91) _ _ m e62 (mark_here 91 marks.OpenBracket b m refl)
    (λ n91 e91. pick (b == 93) _ _ m e91 (mark_here 93 marks.CloseBracket b m refl)
    (λ n93 e93. pick (b == 61) _ _ m e93 (mark_here 61 marks.Equals b m refl)
    (λ n61 e61. pick (b == 58) _ _ m e61 (mark_here 58 marks.Colon b m refl)
    (λ n58 e58. pick (b == 38) _ _ m e58 (mark_here 38 marks.Ampersand b m refl)
    (λ n38 e38. none_is_none m e38)))))))))))

marked_sound : (b : ℕ) (bs : List ℕ) (o : Option Mark) → scanner.mark_of b ≡ o → (z : TokenKind × ℕ) → option_map (λ (m : Mark). let p : TokenKind × ℕ = (kinds.Mark m, 1) in p) o ≡ Some z → Sound (b ∷ bs) z
marked_sound b bs None h z e = none_is_none z e
marked_sound b bs (Some m) h z e =
    let is : (kinds.Mark m, 1) ≡ z = some_is _ _ e in
    let here : Sound (b ∷ bs) (kinds.Mark m, 1) = (subst (Spells (kinds.Mark m)) (mark_sound b m h) (mark m), omega arith) in
    subst (Sound (b ∷ bs)) is here

begun_sound : (b : ℕ) (bs : List ℕ) (z : TokenKind × ℕ) → scanner.begun b bs ≡ Some z → Sound (b ∷ bs) z
begun_sound b bs z e =
    pick (is_ascii_alphabetic b) _ _ z e (λ letter h. grown kinds.Word b bs (λ body all len. word b body letter all) z h)
    (λ other1 e1. pick (is_ascii_digit b) _ _ z e1 (λ digit h. grown kinds.Number b bs (λ body all len. plain b body digit all) z h)
    (λ other2 e2. pick (b == 64) _ _ z e2 (λ is h. named_sound kinds.Global b bs (λ body some all. rw (eqb-true b 64 is) (global body some all)) z h)
    (λ other3 e3. pick (b == 37) _ _ z e3 (λ is h. named_sound kinds.Local b bs (λ body some all. rw (eqb-true b 37 is) (local body some all)) z h)
    (λ other4 e4. pick (b == 36) _ _ z e4 (λ is h. named_sound kinds.Object b bs (λ body some all. rw (eqb-true b 36 is) (object body some all)) z h)
    (λ other5 e5. pick (b == 46) _ _ z e5 (λ is h. named_sound kinds.Directive b bs (λ body some all. rw (eqb-true b 46 is) (directive body some all)) z h)
    (λ other6 e6. pick (is_sign b) _ _ z e6 (λ sign h. signed_sound b bs sign z h)
    (λ other7 e7. marked_sound b bs (scanner.mark_of b) refl z e7)))))))

pub found_sound : (bytes : List ℕ) (z : TokenKind × ℕ) → found bytes ≡ Some z → Sound bytes z
found_sound [] z e = none_is_none z e
found_sound (b ∷ bs) z e = begun_sound b bs z e

-- ---- no spelling at the front is longer than what is found

pub record Grows (kind : TokenKind) (front rest : List ℕ) : Type 0 where
  pub len : ℕ
  pub here : found (front ++ rest) ≡ Some (kind, len)
  pub reaches : length front ≤ len
  -- where nothing behind it goes on with it, it is found as it is
  pub exact : stops_at (goes_on kind) rest → len ≡ length front

named_grows : (k : TokenKind) (body rest : List ℕ) → 0 < length body → list_all (goes_on k) body ≡ true → scanner.named k (body ++ rest) ≡ Some (k, prefix_len (goes_on k) (body ++ rest) + 1)
named_grows k body rest some all =
    let le = prefix_reaches (goes_on k) body rest all in
    let e : eqb (prefix_len (goes_on k) (body ++ rest)) 0 ≡ false = grind (arith, nat_tests) in
    rw e refl

not_letter : (b : ℕ) → is_ascii_digit b ≡ true → is_ascii_alphabetic b ≡ false
not_letter b h = grind (arith, nat_tests)

grows : (kind : TokenKind) (front : List ℕ) → Spells kind front → (rest : List ℕ) → Grows kind front rest
grows _ _ (global body some all) rest =
    let le = prefix_reaches (goes_on kinds.Global) body rest all in
    record { len = prefix_len (goes_on kinds.Global) (body ++ rest) + 1; here = named_grows kinds.Global body rest some all; reaches = omega arith; exact = λ stop. let again = prefix_again (goes_on kinds.Global) body rest all stop in omega arith }
grows _ _ (local body some all) rest =
    let le = prefix_reaches (goes_on kinds.Local) body rest all in
    record { len = prefix_len (goes_on kinds.Local) (body ++ rest) + 1; here = named_grows kinds.Local body rest some all; reaches = omega arith; exact = λ stop. let again = prefix_again (goes_on kinds.Local) body rest all stop in omega arith }
grows _ _ (object body some all) rest =
    let le = prefix_reaches (goes_on kinds.Object) body rest all in
    record { len = prefix_len (goes_on kinds.Object) (body ++ rest) + 1; here = named_grows kinds.Object body rest some all; reaches = omega arith; exact = λ stop. let again = prefix_again (goes_on kinds.Object) body rest all stop in omega arith }
grows _ _ (directive body some all) rest =
    let le = prefix_reaches (goes_on kinds.Directive) body rest all in
    record { len = prefix_len (goes_on kinds.Directive) (body ++ rest) + 1; here = named_grows kinds.Directive body rest some all; reaches = omega arith; exact = λ stop. let again = prefix_again (goes_on kinds.Directive) body rest all stop in omega arith }
grows _ _ (word first body letter all) rest =
    let le = prefix_reaches (goes_on kinds.Word) body rest all in
    record { len = prefix_len (goes_on kinds.Word) (body ++ rest) + 1; here = rw letter refl; reaches = omega arith; exact = λ stop. let again = prefix_again (goes_on kinds.Word) body rest all stop in omega arith }
grows _ _ (plain first body digit all) rest =
    let le = prefix_reaches (goes_on kinds.Number) body rest all in
    record { len = prefix_len (goes_on kinds.Number) (body ++ rest) + 1; here = rw (not_letter first digit, digit) refl; reaches = omega arith; exact = λ stop. let again = prefix_again (goes_on kinds.Number) body rest all stop in omega arith }
grows _ _ (signed sign first body is digit all) rest =
    let le = prefix_reaches (goes_on kinds.Number) body rest all in
    let alnum = alnum_from_digit first digit in
    let len : prefix_len (goes_on kinds.Number) (first ∷ (body ++ rest)) ≡ 1 + prefix_len (goes_on kinds.Number) (body ++ rest) = rw alnum refl in
    record {
      len = prefix_len (goes_on kinds.Number) (first ∷ (body ++ rest)) + 1;
      here = elim (or_cases _ _ is) [ inl e ↦ rw (eqb-true sign 43 e, digit) refl | inr e ↦ rw (eqb-true sign 45 e, digit) refl ];
      reaches = omega arith;
      exact = λ stop. let again = prefix_again (goes_on kinds.Number) body rest all stop in omega arith;
    }
grows _ _ (mark marks.Open) rest = record { len = 1; here = refl; reaches = omega arith; exact = λ _. refl }
grows _ _ (mark marks.Close) rest = record { len = 1; here = refl; reaches = omega arith; exact = λ _. refl }
grows _ _ (mark marks.OpenBrace) rest = record { len = 1; here = refl; reaches = omega arith; exact = λ _. refl }
grows _ _ (mark marks.CloseBrace) rest = record { len = 1; here = refl; reaches = omega arith; exact = λ _. refl }
grows _ _ (mark marks.Less) rest = record { len = 1; here = refl; reaches = omega arith; exact = λ _. refl }
grows _ _ (mark marks.Greater) rest = record { len = 1; here = refl; reaches = omega arith; exact = λ _. refl }
grows _ _ (mark marks.OpenBracket) rest = record { len = 1; here = refl; reaches = omega arith; exact = λ _. refl }
grows _ _ (mark marks.CloseBracket) rest = record { len = 1; here = refl; reaches = omega arith; exact = λ _. refl }
grows _ _ (mark marks.Equals) rest = record { len = 1; here = refl; reaches = omega arith; exact = λ _. refl }
grows _ _ (mark marks.Colon) rest = record { len = 1; here = refl; reaches = omega arith; exact = λ _. refl }
grows _ _ (mark marks.Ampersand) rest = record { len = 1; here = refl; reaches = omega arith; exact = λ _. refl }
grows _ _ (mark marks.Arrow) rest = record { len = 2; here = refl; reaches = omega arith; exact = λ _. refl }

-- ---- the longest spelling is what is found

pub found_longest : (bytes : List ℕ) (z : TokenKind × ℕ) → found bytes ≡ Some z → IsLongest bytes z.0 (take z.1 bytes) (drop z.1 bytes)
found_longest bytes z e =
    let sound = found_sound bytes z e in
    record {
      parts = sym (take-append-drop z.1 bytes);
      spells = sound.0;
      longest = λ other front rest parts spells.
          let more = grows other front spells rest in
          let same : (other, more.len) ≡ z = some_is _ _ (sym more.here ∙ ap found (sym parts) ∙ e) in
          let len : more.len ≡ z.1 = ap (λ (p : TokenKind × ℕ). p.1) same in
          let le = more.reaches in
          let whole = length-take-le z.1 bytes sound.1 in
          omega arith;
    }

pub longest_found : (bytes : List ℕ) (kind : TokenKind) (spelling after : List ℕ) → IsLongest bytes kind spelling after → found bytes ≡ Some (kind, length spelling)
longest_found bytes kind spelling after is =
    let more = grows kind spelling is.spells after in
    let here : found bytes ≡ Some (kind, more.len) = ap found is.parts ∙ more.here in
    let sound = found_sound bytes (kind, more.len) here in
    let le = is.longest kind (take more.len bytes) (drop more.len bytes) (sym (take-append-drop more.len bytes)) sound.0 in
    let whole = length-take-le more.len bytes sound.1 in
    let reaches = more.reaches in
    let len : more.len ≡ length spelling = omega arith in
    here ∙ ap (λ (n : ℕ). let p : TokenKind × ℕ = (kind, n) in Some p) len

-- a spelling that nothing behind it goes on with is found as it is
pub found_again : (kind : TokenKind) (spelling after : List ℕ) → Spells kind spelling → stops_at (goes_on kind) after → found (spelling ++ after) ≡ Some (kind, length spelling)
found_again kind spelling after spells stop =
    let more = grows kind spelling spells after in
    more.here ∙ ap (λ (n : ℕ). let p : TokenKind × ℕ = (kind, n) in Some p) (more.exact stop)

pub none_found : (bytes : List ℕ) → NoneBegins bytes → found bytes ≡ None
none_found bytes none = go (found bytes) refl
  where
    go : (o : scanner.Found) → found bytes ≡ o → o ≡ None
    go None e = refl
    go (Some z) e = absurd (none z.0 (take z.1 bytes) (drop z.1 bytes) (sym (take-append-drop z.1 bytes)) (found_sound bytes z e).0)

pub found_none : (bytes : List ℕ) → found bytes ≡ None → NoneBegins bytes
found_none bytes e kind front rest parts spells =
    let more = grows kind front spells rest in
    none_is_none (kind, more.len) (sym e ∙ ap found parts ∙ more.here)
