-- The text of a number spells it.
use Rattle.std.proofs.Common.{◌≡◌, ℕ, zero, suc, ◌+◌, ◌/◌, ◌%◌, ◌<◌, ◌≤◌, ◌^◌, Bool, true, false, List, [], ◌∷◌, ◌++◌, length, get_or, refl, sym, subst, arith, length-append}
use Rattle.std.specs.Prelude.{◌==◌, not, decimal}
use Rattle.std.specs.List.{list_all}
use Rattle.std.specs.Char.{is_digit, digit_value, is_ascii_digit, is_ascii_alphanumeric}
use Rattle.std.specs.Str.Parse.{AllDigits, digits_value}
use Rattle.std.specs.Int.{IsInRange}
use Rattle.std.proofs.Math.ListN.{get_or-append}
use Rattle.std.proofs.lemmas.Bool.{lt-ltb}
use Rattle.std.proofs.lemmas.Bool.Decides.{nat_tests}
use Rattle.std.proofs.lemmas.Fmt.{decimal_by_steps_wide, decimal_is_IsNumeral_wide, length-decimal-le_wide, decimal_digit}
use Rattle.std.proofs.lemmas.Str.Parse.{digit_from_value}
use Rattle.ir_lex.specs.declared.token.TokenKind.TheVariants as kinds
use Rattle.ir_lex.specs.declared.token.Number.{Number}
use Rattle.ir_lex.specs.Spellings.{Spells, plain, signed}
use Rattle.ir_lex.specs.Lexemes.{IsToken}
use Rattle.ir_lex.specs.Numerals.{Denotes, nought, decimal as digits_denote, Means, plain as plain_means, plus, minus}
use Rattle.ir_print.specs.Words.{number_text}

-- ---- digits

begun : (m : ℕ) (ds : List ℕ) → 10 ≤ m → (0 < length ds) × (0 < m / 10 → 48 < get_or ds 0 0) → (0 < length (ds ++ (48 + m % 10) ∷ [])) × (0 < m → 48 < get_or (ds ++ (48 + m % 10) ∷ []) 0 0)
begun m ds l h = (omega (arith, length-append ds ((48 + m % 10) ∷ [])), λ a. omega (arith, get_or-append ds ((48 + m % 10) ∷ []) 0 0 h.0, h.1 (omega arith)))

first_digit : (n : ℕ) → n < 10 ^ 64 → (0 < length (decimal n)) × (0 < n → 48 < get_or (decimal n) 0 0)
first_digit = decimal_by_steps_wide (λ m ds. (0 < length ds) × (0 < m → 48 < get_or ds 0 0)) (λ m l. (omega arith, λ a. omega arith)) begun

digit_test : (c : ℕ) → IsInRange 48 57 c → is_ascii_digit c ≡ true
digit_test c r = grind (arith, nat_tests)

digit_is_letter : (c : ℕ) → is_ascii_digit c ≡ true → is_ascii_alphanumeric c ≡ true
digit_is_letter c h = rw h refl

pub record Digits (ds : List ℕ) : Type 0 where
  pub first : ℕ
  pub rest : List ℕ
  pub parts : ds ≡ first ∷ rest
  pub digit : is_ascii_digit first ≡ true
  pub others : list_all is_ascii_alphanumeric rest ≡ true

others_are : (ds : List ℕ) → AllDigits 10 ds → list_all is_ascii_alphanumeric ds ≡ true
others_are [] all = refl
others_are (c ∷ cs) all = rw (digit_is_letter c (digit_test c (digit_from_value c all.0)), others_are cs all.1) refl

digits_are : (ds : List ℕ) → 0 < length ds → AllDigits 10 ds → Digits ds
digits_are [] some all = absurd (omega arith)
digits_are (c ∷ cs) some all = record { first = c; rest = cs; parts = refl; digit = digit_test c (digit_from_value c all.0); others = others_are cs all.1 }

all_are_digits : (ds : List ℕ) → AllDigits 10 ds → list_all (λ d. is_digit d 10) ds ≡ true
all_are_digits [] all = refl
all_are_digits (c ∷ cs) all = rw (lt-ltb (digit_value c) 10 all.0, all_are_digits cs all.1) refl

not_empty : (n : ℕ) → (suc n == 0) ≡ false
not_empty n = grind (arith, nat_tests)

not_nought : (c : ℕ) → 48 < c → (c == 48) ≡ false
not_nought c h = grind (arith, nat_tests)

denoted : (k : ℕ) (ds : List ℕ) → 0 < k → (0 < length ds) × (0 < k → 48 < get_or ds 0 0) → AllDigits 10 ds → digits_value 10 ds ≡ k → Denotes ds k
denoted k [] some begins all value = absurd (omega (arith, begins.0))
denoted k (c ∷ cs) some begins all value =
    subst (Denotes (c ∷ cs)) value (digits_denote c cs (not_nought c (begins.1 some)) (rw (not_empty (length cs), all_are_digits (c ∷ cs) all) refl))

-- ---- decimal text

small : (k : ℕ) → k < 2 ^ 128 → (k < 10 ^ 39) × (k < 10 ^ 64)
small k h = (omega arith, omega arith)

decimal_denotes : (k : ℕ) → k < 2 ^ 128 → Denotes (decimal k) k
decimal_denotes zero h = subst (λ (ds : List ℕ). Denotes ds 0) (sym (decimal_digit 0 (omega arith))) nought
decimal_denotes (suc k) h =
    let l = (small (suc k) h).1 in
    let is = decimal_is_IsNumeral_wide (suc k) l in
    denoted (suc k) (decimal (suc k)) (omega arith) (first_digit (suc k) l) is.0.1 is.1

decimal_digits : (k : ℕ) → k < 2 ^ 128 → Digits (decimal k)
decimal_digits k h = let is = decimal_is_IsNumeral_wide k (small k h).1 in digits_are (decimal k) is.0.0 is.0.1

decimal_short : (k : ℕ) → k < 2 ^ 128 → length (decimal k) ≤ 39
decimal_short k h = let l = small k h in length-decimal-le_wide 39 k (omega arith) l.0 l.1

-- ---- numbers

-- the text of the number is the spelling of a token that stands for it
pub record IsSpelled (n : Number) : Type 0 where
  pub means : Means (number_text n) n
  pub spells : Spells kinds.Number (number_text n)
  pub is_token : IsToken kinds.Number (number_text n)

not_negative : (k : ℕ) → k < 2 ^ 128 → IsSpelled (record { negative = false; magnitude = k })
not_negative k h =
    let means : Means (decimal k) (record { negative = false; magnitude = k }) = plain_means (decimal k) k (decimal_denotes k h) in
    let ds = decimal_digits k h in
    record {
      means = means;
      spells = subst (Spells kinds.Number) (sym ds.parts) (plain ds.first ds.rest ds.digit ds.others);
      is_token = record { short = omega (arith, decimal_short k h); number = λ _. (record { negative = false; magnitude = k }, means, h) };
    }

negative : (k : ℕ) → k < 2 ^ 128 → (k == 0) ≡ false → IsSpelled (record { negative = true; magnitude = k })
negative k h nonzero =
    let as_told : not (k == 0) ≡ true = rw nonzero refl in
    let means : Means (45 ∷ decimal k) (record { negative = true; magnitude = k }) = subst (λ (b : Bool). Means (45 ∷ decimal k) (record { negative = b; magnitude = k })) as_told (minus (decimal k) k (decimal_denotes k h)) in
    let ds = decimal_digits k h in
    record {
      means = means;
      spells = subst (λ (l : List ℕ). Spells kinds.Number (45 ∷ l)) (sym ds.parts) (signed 45 ds.first ds.rest refl ds.digit ds.others);
      is_token = record { short = omega (arith, decimal_short k h); number = λ _. (record { negative = true; magnitude = k }, means, h) };
    }

by_sign : (b : Bool) (k : ℕ) → (k == 0) ≡ b → k < 2 ^ 128 → IsSpelled (record { negative = not b; magnitude = k })
by_sign true k e h = not_negative k h
by_sign false k e h = negative k h e

-- a number that some text spells is spelled by its own
pub spelled : (spelling : List ℕ) (n : Number) → Means spelling n → n.magnitude < 2 ^ 128 → IsSpelled n
spelled _ _ (plain_means run k d) h = not_negative k h
spelled _ _ (plus run k d) h = not_negative k h
spelled _ _ (minus run k d) h = by_sign (k == 0) k refl h
