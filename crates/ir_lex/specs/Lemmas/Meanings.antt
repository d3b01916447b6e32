-- The scanner finds the number that a spelling stands for.
use Rattle.std.proofs.Common.{◌≡◌, ℕ, suc, ◌^◌, ◌<◌, ◌≤◌, Bool, true, false, cond, eqb, List, [], ◌∷◌, length, Option, Some, None, Ok, Err, refl, sym, ap, subst, ◌∙◌, arith, inl, inr}
use Rattle.std.specs.Prelude.{◌⊎◌, ◌==◌, not, nat_lt}
use Rattle.std.specs.List.{list_all}
use Rattle.std.specs.Char.{is_digit}
use Rattle.std.specs.Str.Parse.{digits_value}
use Rattle.std.proofs.lemmas.Bool.{eqb-true, and_parts, or_cases, cases_Bool, le-ltb, lt-ltb, ltb-true, ltb-false}
use Rattle.std.proofs.lemmas.Bool.Decides.{nat_tests}
use Rattle.ir_lex.specs.declared.token.LexKind.{LexKind}
use Rattle.ir_lex.specs.declared.token.LexKind.TheVariants as faults
use Rattle.ir_lex.specs.declared.token.Number.{Number}
use Rattle.ir_lex.specs.Bytes.{is_sign}
use Rattle.ir_lex.specs.Numerals.{are_digits, Denotes, nought, decimal, octal, hexadecimal, Means, plain, plus, minus}
use Rattle.ir_lex.specs.Scanner.{digits, magnitude, small, unsigned, has_minus, numeral, number_at}
use Rattle.ir_lex.specs.Lemmas.Longest.{some_is, pick, none_is_none}

-- ---- a run

some_length : (n : ℕ) → eqb (suc n) 0 ≡ false
some_length n = grind (arith, nat_tests)

digit_first : (base b : ℕ) (bs : List ℕ) → are_digits base (b ∷ bs) ≡ true → is_digit b base ≡ true
digit_first base b bs h = (and_parts (is_digit b base) (list_all (λ c. is_digit c base) bs) (and_parts (not (length (b ∷ bs) == 0)) _ h).1).0

octal_run : (ds : List ℕ) → are_digits 8 ds ≡ true → magnitude (48 ∷ ds) ≡ Some (digits_value 8 ds)
octal_run [] h = absurd (cc)
octal_run (d ∷ ds) h =
    let digit_here = digit_first 8 d ds h in
    elim (cases_Bool (d == 120)) [
      | inl e ↦ absurd (let digit : is_digit 120 8 ≡ true = subst (λ (c : ℕ). is_digit c 8 ≡ true) (eqb-true d 120 e) digit_here in cc)
      | inr e ↦ rw (e, h, some_length (length ds)) refl
    ]

hexadecimal_run : (ds : List ℕ) → are_digits 16 ds ≡ true → magnitude (48 ∷ 120 ∷ ds) ≡ Some (digits_value 16 ds)
hexadecimal_run ds h = rw (h, some_length (length ds)) refl

pub denotes_magnitude : (run : List ℕ) (n : ℕ) → Denotes run n → magnitude run ≡ Some n
denotes_magnitude _ _ nought = refl
denotes_magnitude _ _ (decimal first rest e h) = rw (e, h) refl
denotes_magnitude _ _ (octal ds h) = octal_run ds h
denotes_magnitude _ _ (hexadecimal ds h) = hexadecimal_run ds h

digits_denote : (base : ℕ) (ds run : List ℕ) (n : ℕ) → digits base ds ≡ Some n → (are_digits base ds ≡ true → Denotes run (digits_value base ds)) → Denotes run n
digits_denote base ds run n e f = pick (are_digits base ds) (Some (digits_value base ds)) None n e (λ h same. subst (Denotes run) (some_is _ _ same) (f h)) (λ h none. none_is_none n none)

zero_denotes : (bs : List ℕ) (n : ℕ) → magnitude (48 ∷ bs) ≡ Some n → Denotes (48 ∷ bs) n
zero_denotes [] n e = subst (Denotes (48 ∷ [])) (some_is 0 n e) nought
zero_denotes (d ∷ ds) n e =
    pick (suc (length ds) == 0) (Some 0) (cond (d == 120) (digits 16 ds) (digits 8 (d ∷ ds))) n e
    (λ none h. absurd (let some = some_length (length ds) in cc))
    (λ some f. pick (d == 120) (digits 16 ds) (digits 8 (d ∷ ds)) n f
    (λ is h. digits_denote 16 ds (48 ∷ d ∷ ds) n h (λ all. rw (eqb-true d 120 is) (hexadecimal ds all)))
    (λ other h. digits_denote 8 (d ∷ ds) (48 ∷ d ∷ ds) n h (λ all. octal (d ∷ ds) all)))

pub magnitude_denotes : (run : List ℕ) (n : ℕ) → magnitude run ≡ Some n → Denotes run n
magnitude_denotes [] n e = none_is_none n e
magnitude_denotes (b ∷ bs) n e =
    elim (cases_Bool (b == 48)) [
      | inl is ↦ let zero_first : b ≡ 48 = eqb-true b 48 is in subst (λ (c : ℕ). Denotes (c ∷ bs) n) (sym zero_first) (zero_denotes bs n (subst (λ (c : ℕ). magnitude (c ∷ bs) ≡ Some n) zero_first e))
      | inr other ↦ digits_denote 10 (b ∷ bs) (b ∷ bs) n (sym (rw other refl) ∙ e) (λ all. decimal b bs other all)
    ]

-- ---- a spelling

not_sign : (base b : ℕ) (bs : List ℕ) → base ≤ 36 → are_digits base (b ∷ bs) ≡ true → is_sign b ≡ false
not_sign base b bs le h =
    let digit_here = digit_first base b bs h in
    elim (cases_Bool (is_sign b)) as (λ _. is_sign b ≡ false) [
      | inl e ↦ absurd (elim (or_cases (b == 43) (b == 45) e) [
        | inl is ↦ let digit : nat_lt 36 base ≡ true = subst (λ (c : ℕ). is_digit c base ≡ true) (eqb-true b 43 is) digit_here in grind (arith, nat_tests)
        | inr is ↦ let digit : nat_lt 36 base ≡ true = subst (λ (c : ℕ). is_digit c base ≡ true) (eqb-true b 45 is) digit_here in grind (arith, nat_tests)
      ])
      | inr e ↦ e
    ]

not_minus : (b : ℕ) → is_sign b ≡ false → (b == 45) ≡ false
not_minus b e = grind (arith, nat_tests)

plain_unsigned : (run : List ℕ) (n : ℕ) → Denotes run n → (unsigned run ≡ run) × (has_minus run ≡ false)
plain_unsigned _ _ nought = (refl, refl)
plain_unsigned _ _ (decimal first rest e h) = let s = not_sign 10 first rest (omega arith) h in (rw s refl, not_minus first s)
plain_unsigned _ _ (octal ds h) = (refl, refl)
plain_unsigned _ _ (hexadecimal ds h) = (refl, refl)

pub means_magnitude : (spelling : List ℕ) (number : Number) → Means spelling number → (magnitude (unsigned spelling) ≡ Some number.magnitude) × (number ≡ number_at spelling number.magnitude)
means_magnitude _ _ (plain run n d) =
    let p = plain_unsigned run n d in
    (rw p.0 (denotes_magnitude run n d), rw p.1 refl)
means_magnitude _ _ (plus run n d) = (denotes_magnitude run n d, refl)
means_magnitude _ _ (minus run n d) = (denotes_magnitude run n d, refl)

pub magnitude_means : (spelling : List ℕ) (n : ℕ) → magnitude (unsigned spelling) ≡ Some n → Means spelling (number_at spelling n)
magnitude_means [] n e = none_is_none n e
magnitude_means (b ∷ bs) n e =
    elim (cases_Bool (is_sign b)) [
      | inr other ↦
          let run : unsigned (b ∷ bs) ≡ b ∷ bs = rw other refl in
          rw (not_minus b other) (plain (b ∷ bs) n (magnitude_denotes (b ∷ bs) n (ap magnitude (sym run) ∙ e)))
      | inl sign ↦
          let behind : unsigned (b ∷ bs) ≡ bs = rw sign refl in
          let run : magnitude bs ≡ Some n = ap magnitude (sym behind) ∙ e in
          elim (or_cases (b == 43) (b == 45) sign) [
            | inl is ↦ rw (eqb-true b 43 is) (plus bs n (magnitude_denotes bs n run))
            | inr is ↦ rw (eqb-true b 45 is) (minus bs n (magnitude_denotes bs n run))
          ]
    ]

-- ---- what a number's spelling is judged to be

small_ok : (o : Option ℕ) (m : ℕ) → small o ≡ Ok m → (o ≡ Some m) × (m < 2 ^ 128)
small_ok None m e = absurd (cc)
small_ok (Some n) m e = choose (nat_lt n (2 ^ 128)) refl e
  where
    choose : (b : Bool) → nat_lt n (2 ^ 128) ≡ b → cond b (Ok n) (Err faults.NumberTooLarge) ≡ Ok m → (Some n ≡ Some m) × (m < 2 ^ 128)
    choose true lt e = let same : n ≡ m = cc in (ap (λ (x : ℕ). Some x) same, subst (λ (x : ℕ). x < 2 ^ 128) same (ltb-true n (2 ^ 128) lt))
    choose false lt e = absurd (cc)

small_bad : (o : Option ℕ) (e : LexKind) → small o ≡ Err e → ((e ≡ faults.BadByte) × (o ≡ None)) ⊎ ((n : ℕ) × (e ≡ faults.NumberTooLarge) × (o ≡ Some n) × (2 ^ 128 ≤ n))
small_bad None e h = inl (let same : faults.BadByte ≡ e = cc in sym same, refl)
small_bad (Some n) e h = choose (nat_lt n (2 ^ 128)) refl h
  where
    choose : (b : Bool) → nat_lt n (2 ^ 128) ≡ b → cond b (Ok n) (Err faults.NumberTooLarge) ≡ Err e → ((e ≡ faults.BadByte) × (Some n ≡ None)) ⊎ ((k : ℕ) × (e ≡ faults.NumberTooLarge) × (Some n ≡ Some k) × (2 ^ 128 ≤ k))
    choose true lt h = absurd (cc)
    choose false lt h = inr (n, let same : faults.NumberTooLarge ≡ e = cc in sym same, refl, ltb-false n (2 ^ 128) lt)

pub numeral_ok : (spelling : List ℕ) (m : ℕ) → numeral spelling ≡ Ok m → Means spelling (number_at spelling m) × (m < 2 ^ 128)
numeral_ok spelling m e = let h = small_ok (magnitude (unsigned spelling)) m e in (magnitude_means spelling m h.0, h.1)

pub numeral_bad : (spelling : List ℕ) (e : LexKind) → numeral spelling ≡ Err e → ((e ≡ faults.BadByte) × ((n : Number) → Means spelling n → ⊥)) ⊎ ((n : Number) × (e ≡ faults.NumberTooLarge) × Means spelling n × (2 ^ 128 ≤ n.magnitude))
numeral_bad spelling e h =
    elim (small_bad (magnitude (unsigned spelling)) e h) [
      | inl b ↦ inl (b.0, λ n means. none_is_none n.magnitude (sym b.1 ∙ (means_magnitude spelling n means).0))
      | inr b ↦ inr (number_at spelling b.0, b.1, magnitude_means spelling b.0 b.2, b.3)
    ]

pub means_numeral : (spelling : List ℕ) (n : Number) → Means spelling n → n.magnitude < 2 ^ 128 → numeral spelling ≡ Ok n.magnitude
means_numeral spelling n means lt = rw ((means_magnitude spelling n means).0, lt-ltb n.magnitude (2 ^ 128) lt) refl

pub means_too_large : (spelling : List ℕ) (n : Number) → Means spelling n → 2 ^ 128 ≤ n.magnitude → numeral spelling ≡ Err faults.NumberTooLarge
means_too_large spelling n means le = rw ((means_magnitude spelling n means).0, le-ltb n.magnitude (2 ^ 128) le) refl

pub nothing_meant : (spelling : List ℕ) → ((n : Number) → Means spelling n → ⊥) → numeral spelling ≡ Err faults.BadByte
nothing_meant spelling none = go (magnitude (unsigned spelling)) refl
  where
    go : (o : Option ℕ) → magnitude (unsigned spelling) ≡ o → small o ≡ Err faults.BadByte
    go None e = refl
    go (Some n) e = absurd (none (number_at spelling n) (magnitude_means spelling n e))

pub one_number : (spelling : List ℕ) (m : ℕ) → numeral spelling ≡ Ok m → (n : Number) → Means spelling n → n ≡ number_at spelling m
one_number spelling m e n means =
    let here = means_magnitude spelling n means in
    let there = small_ok (magnitude (unsigned spelling)) m e in
    here.1 ∙ ap (number_at spelling) (some_is n.magnitude m (sym here.0 ∙ there.0))
