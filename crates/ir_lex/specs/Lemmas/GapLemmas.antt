-- The scanner finds the whole gap at the front of some bytes.
use Rattle.std.proofs.Common.{◌≡◌, ℕ, zero, suc, ◌+◌, ◌≤◌, Bool, true, false, List, [], ◌∷◌, ◌++◌, length, take, drop, Some, None, refl, sym, ap, subst, ◌∙◌, arith, inl, inr, append_assoc}
use Rattle.std.specs.Prelude.{◌==◌, ◌&&◌, not}
use Rattle.std.specs.List.{list_all}
use Rattle.std.proofs.lemmas.Bool.{eqb-true, and_parts, or_parts, cases_Bool, and_left}
use Rattle.std.proofs.lemmas.Bool.Decides.{nat_tests}
use Rattle.std.proofs.lemmas.List.{length-append}
use Rattle.ir_lex.specs.Bytes.{is_blank, is_line_feed}
use Rattle.ir_lex.specs.Gaps.{ends_line, IsGap, none, blank, comment, slash_next, begins_gap}
use Rattle.ir_lex.specs.Scanner.{gap_step, gap_len}

-- ---- one byte

pub step_more : (c d : Bool) (b : ℕ) (bs : List ℕ) → gap_step c b (slash_next bs) ≡ Some d → gap_len c (b ∷ bs) ≡ suc (gap_len d bs)
unfolding gap_len
step_more c d b bs e = rw (e, gap_len) refl

pub step_none : (c : Bool) (b : ℕ) (bs : List ℕ) → gap_step c b (slash_next bs) ≡ None → gap_len c (b ∷ bs) ≡ 0
unfolding gap_len
step_none c b bs e = rw (e, gap_len) refl

len_nothing : (c : Bool) → gap_len c [] ≡ 0
unfolding gap_len
len_nothing c = refl

pub data Step (c : Bool) (b : ℕ) (bs : List ℕ) : Type 0 where
  -- the byte stands in a comment and does not end its line
  inside : c ≡ true → is_line_feed b ≡ false → gap_len c (b ∷ bs) ≡ suc (gap_len true bs) → Step c b bs
  -- the line feed behind a comment
  ended : c ≡ true → is_line_feed b ≡ true → gap_len c (b ∷ bs) ≡ suc (gap_len false bs) → Step c b bs
  -- a comment begins
  begun : c ≡ false → b ≡ 47 → slash_next bs ≡ true → gap_len c (b ∷ bs) ≡ suc (gap_len true bs) → Step c b bs
  -- a blank
  skipped : c ≡ false → is_blank b ≡ true → gap_len c (b ∷ bs) ≡ suc (gap_len false bs) → Step c b bs
  -- no gap goes on here
  stopped : c ≡ false → begins_gap (b ∷ bs) ≡ false → gap_len c (b ∷ bs) ≡ 0 → Step c b bs

pub step : (c : Bool) (b : ℕ) (bs : List ℕ) → Step c b bs
step true b bs =
    elim (cases_Bool (is_line_feed b)) [
      | inl e ↦ ended refl e (step_more true false b bs (rw e refl))
      | inr e ↦ inside refl e (step_more true true b bs (rw e refl))
    ]
step false b bs =
    elim (cases_Bool (b == 47 && slash_next bs)) [
      | inl e ↦ let parts = and_parts (b == 47) (slash_next bs) e in begun refl (eqb-true b 47 parts.0) parts.1 (step_more false true b bs (rw e refl))
      | inr e ↦ elim (cases_Bool (is_blank b)) [
        | inl f ↦ skipped refl f (step_more false false b bs (rw (e, f) refl))
        | inr f ↦ stopped refl (rw (f, e) refl) (step_none false b bs (rw (e, f) refl))
      ]
    ]

-- ---- what is found is a gap, and the whole of it

pub gap_within : (c : Bool) (bytes : List ℕ) → gap_len c bytes ≤ length bytes
gap_within c [] = rw (len_nothing c) (omega arith)
gap_within c (b ∷ bs) = let t = gap_within true bs in let f = gap_within false bs in
    elim (step c b bs) [
      | inside _ _ e ↦ omega arith
      | ended _ _ e ↦ omega arith
      | begun _ _ _ e ↦ omega arith
      | skipped _ _ e ↦ omega arith
      | stopped _ _ e ↦ omega arith
    ]

pub gap_whole : (c : Bool) (bytes : List ℕ) → begins_gap (drop (gap_len c bytes) bytes) ≡ false
gap_whole c [] = rw (len_nothing c) refl
gap_whole c (b ∷ bs) = let t = gap_whole true bs in let f = gap_whole false bs in
    elim (step c b bs) [
      | inside _ _ e ↦ rw e t
      | ended _ _ e ↦ rw e f
      | begun _ _ _ e ↦ rw e t
      | skipped _ _ e ↦ rw e f
      | stopped _ s e ↦ rw e s
    ]

-- what was passed, within a comment or not
abbrev Skipped : Bool → List ℕ → List ℕ → Type 0
Skipped false gap after = IsGap after gap
Skipped true gap after = (body more : List ℕ) × (gap ≡ body ++ more) × (list_all (λ b. not (is_line_feed b)) body ≡ true) × (ends_line (more ++ after) ≡ true) × IsGap after more

line_feed_blank : (b : ℕ) → is_line_feed b ≡ true → is_blank b ≡ true
line_feed_blank b e = rw (eqb-true b 10 e) refl

-- what stands in a comment, with one byte more before it
inside_more : (b : ℕ) (gap after : List ℕ) → is_line_feed b ≡ false → Skipped true gap after → Skipped true (b ∷ gap) after
inside_more b gap after e (body, more, parts, all, ends, g) = (b ∷ body, more, ap (λ (l : List ℕ). b ∷ l) parts, rw (e, all) refl, ends, g)

-- behind the two slashes
commented : (gap after : List ℕ) → Skipped true gap after → IsGap after (47 ∷ 47 ∷ gap)
commented gap after (body, more, parts, all, ends, g) = rw parts (comment body more all ends g)

skips_comment : (bs : List ℕ) → slash_next bs ≡ true → ((cs : List ℕ) → bs ≡ 47 ∷ cs → Skipped true (take (gap_len true cs) cs) (drop (gap_len true cs) cs)) → IsGap (drop (gap_len true bs) bs) (47 ∷ take (gap_len true bs) bs)
skips_comment [] s f = absurd (cc)
skips_comment (b ∷ cs) s f =
    let slash = eqb-true b 47 s in
    let here = f cs (ap (λ (x : ℕ). x ∷ cs) slash) in
    subst (λ (x : ℕ). IsGap (drop (gap_len true (x ∷ cs)) (x ∷ cs)) (47 ∷ take (gap_len true (x ∷ cs)) (x ∷ cs))) (sym slash)
    (rw (step_more true true 47 cs refl) (commented _ _ here))

skips : (n : ℕ) (c : Bool) (bytes : List ℕ) → length bytes ≤ n → Skipped c (take (gap_len c bytes) bytes) (drop (gap_len c bytes) bytes)
skips n false [] le = rw (len_nothing false) none
skips n true [] le = rw (len_nothing true) ([], [], refl, refl, refl, none)
skips zero c (b ∷ bs) le = absurd (omega arith)
skips (suc n) true (b ∷ bs) le =
    let short : length bs ≤ n = omega arith in
    let within = skips n true bs short in
    let behind = skips n false bs short in
    elim (step true b bs) [
      | inside _ feed e ↦ rw e (inside_more b _ _ feed within)
      | ended _ feed e ↦ rw e ([], b ∷ take (gap_len false bs) bs, refl, refl, feed, blank b _ (line_feed_blank b feed) behind)
      | begun h _ _ _ ↦ absurd (cc)
      | skipped h _ _ ↦ absurd (cc)
      | stopped h _ _ ↦ absurd (cc)
    ]
skips (suc n) false (b ∷ bs) le =
    let short : length bs ≤ n = omega arith in
    let behind = skips n false bs short in
    let comment_behind = λ (cs : List ℕ) (parts : bs ≡ 47 ∷ cs). skips n true cs (omega (arith, ap length parts)) in
    elim (step false b bs) [
      | inside h _ _ ↦ absurd (cc)
      | ended h _ _ ↦ absurd (cc)
      | begun _ is slash e ↦ rw (e, is) (skips_comment bs slash comment_behind)
      | skipped _ f e ↦ rw e (blank b _ f behind)
      | stopped _ _ e ↦ rw e none
    ]

pub gap_found : (bytes : List ℕ) → IsGap (drop (gap_len false bytes) bytes) (take (gap_len false bytes) bytes)
gap_found bytes = skips (length bytes) false bytes (omega arith)

-- ---- a whole gap is found

not_slash : (b : ℕ) (bs : List ℕ) → is_blank b ≡ true → (b == 47 && slash_next bs) ≡ false
not_slash b bs e = and_left (b == 47) (slash_next bs) (grind (arith, nat_tests))

len_stop : (after : List ℕ) → begins_gap after ≡ false → gap_len false after ≡ 0
len_stop [] stop = len_nothing false
len_stop (b ∷ bs) stop = let parts = or_parts (is_blank b) (b == 47 && slash_next bs) stop in step_none false b bs (rw (parts.1, parts.0) refl)

len_body : (body rest : List ℕ) → list_all (λ b. not (is_line_feed b)) body ≡ true → gap_len true (body ++ rest) ≡ length body + gap_len true rest
len_body [] rest all = omega arith
len_body (b ∷ body) rest all =
    let parts = and_parts (not (is_line_feed b)) (list_all (λ c. not (is_line_feed c)) body) all in
    let more = len_body body rest parts.1 in
    step_more true true b (body ++ rest) (ap (λ (x : Bool). Some x) parts.0) ∙ omega arith

len_line_end : (rest : List ℕ) → ends_line rest ≡ true → gap_len true rest ≡ gap_len false rest
len_line_end [] e = len_nothing true ∙ sym (len_nothing false)
len_line_end (b ∷ bs) e =
    let feed = eqb-true b 10 e in
    rw feed (step_more true false 10 bs refl ∙ sym (step_more false false 10 bs refl))

pub gap_is : (after gap : List ℕ) → IsGap after gap → begins_gap after ≡ false → gap_len false (gap ++ after) ≡ length gap
gap_is after _ none stop = len_stop after stop
gap_is after _ (blank b gap e g) stop =
    let more = gap_is after gap g stop in
    step_more false false b (gap ++ after) (rw (not_slash b (gap ++ after) e, e) refl) ∙ omega arith
gap_is after _ (comment body gap all ends g) stop =
    let more = gap_is after gap g stop in
    let parts : (body ++ gap) ++ after ≡ body ++ (gap ++ after) = append_assoc body gap after in
    let rest = (body ++ gap) ++ after in
    let within : gap_len true rest ≡ length body + length gap = rw parts (len_body body (gap ++ after) all ∙ ap (λ (n : ℕ). length body + n) (len_line_end (gap ++ after) ends ∙ more)) in
    let first = step_more false true 47 (47 ∷ rest) refl in
    let second = step_more true true 47 rest refl in
    omega (arith, length-append body gap)
