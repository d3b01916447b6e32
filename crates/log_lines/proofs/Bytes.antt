-- Parts of a text, and the bytes of its fields.
use Rattle.std.proofs.Common.{◌≡◌, ℕ, zero, suc, ◌+◌, ◌/◌, ◌%◌, ◌<◌, ◌≤◌, ◌^◌, Bool, true, false, not, ◌&&◌, ◌||◌, List, [], ◌∷◌, ◌++◌, length, get_or, refl, arith, length-append}
use Rattle.std.specs.Prelude.{◌==◌, nat_lt, nat_le, decimal}
use Rattle.std.specs.List.{list_all}
use Rattle.std.specs.Char.{is_digit, digit_value, is_ascii_digit}
use Rattle.std.specs.Str.Parse.{AllDigits, digits_value}
use Rattle.std.specs.Int.{IsInRange}
use Rattle.std.proofs.Math.ListN.{get_or-append}
use Rattle.std.proofs.lemmas.Bool.{lt-ltb, false≢true}
use Rattle.std.proofs.lemmas.Bool.Decides.{nat_tests}
use Rattle.std.proofs.lemmas.Fmt.{decimal_by_steps_wide, decimal_is_IsNumeral_wide, decimal_digit}
use Rattle.std.proofs.lemmas.Str.Parse.{digit_from_value}
use Rattle.log_lines.specs.Fields.{Text, parts, is_numeral}
use Rattle.log_lines.specs.Values.{is_name_byte}
use Rattle.log_lines.specs.Texts.{is_printable, begins_with_digit}

pub both_true : (a b : Bool) → (a && b) ≡ true → (a ≡ true) × (b ≡ true)
both_true true b h = (refl, h)
both_true false b h = absurd (false≢true h)

pub all_of : (p q : ℕ → Bool) → ((b : ℕ) → p b ≡ true → q b ≡ true) → (f : Text) → list_all p f ≡ true → list_all q f ≡ true
all_of p q imp [] h = refl
all_of p q imp (b ∷ bs) h = let r = both_true (p b) (list_all p bs) h in rw (imp b r.0, all_of p q imp bs r.1) refl

-- ---- parts

abbrev pub other_than : ℕ → ℕ → Bool
other_than at b = not (b == at)

not_it : (b : Bool) → not b ≡ true → b ≡ false
not_it true h = absurd (false≢true h)
not_it false h = refl

it_is : (at : ℕ) → (at == at) ≡ true
it_is at = grind (arith, nat_tests)

pub parts_one : (at : ℕ) (f : Text) → list_all (other_than at) f ≡ true → parts at f ≡ f ∷ []
parts_one at [] h = refl
parts_one at (b ∷ bs) h =
    let r = both_true (other_than at b) (list_all (other_than at) bs) h in
    rw (not_it (b == at) r.0, parts_one at bs r.1) refl

pub parts_front : (at : ℕ) (f rest : Text) → list_all (other_than at) f ≡ true → parts at (f ++ at ∷ rest) ≡ f ∷ parts at rest
parts_front at [] rest h = rw (it_is at) refl
parts_front at (b ∷ bs) rest h =
    let r = both_true (other_than at b) (list_all (other_than at) bs) h in
    rw (not_it (b == at) r.0, parts_front at bs rest r.1) refl

-- ---- bytes of fields

-- printable, and no space
abbrev pub is_solid : ℕ → Bool
is_solid b = nat_lt 32 b && nat_le b 126

pub solid_free : (b : ℕ) → is_solid b ≡ true → other_than 32 b ≡ true
solid_free b h = grind (arith, nat_tests)

pub solid_printable : (b : ℕ) → is_solid b ≡ true → is_printable b ≡ true
solid_printable b h = grind (arith, nat_tests)

pub digit_solid : (b : ℕ) → is_ascii_digit b ≡ true → is_solid b ≡ true
digit_solid b h = grind (arith, nat_tests)

pub digit_no_plus : (b : ℕ) → is_ascii_digit b ≡ true → other_than 43 b ≡ true
digit_no_plus b h = grind (arith, nat_tests)

pub name_byte_solid : (b : ℕ) → is_name_byte b ≡ true → is_solid b ≡ true
name_byte_solid b h = grind (arith, nat_tests)

-- ---- decimal text

begun : (m : ℕ) (ds : List ℕ) → 10 ≤ m → (0 < length ds) × (0 < m / 10 → 48 < get_or ds 0 0) → (0 < length (ds ++ (48 + m % 10) ∷ [])) × (0 < m → 48 < get_or (ds ++ (48 + m % 10) ∷ []) 0 0)
begun m ds l h = (omega (arith, length-append ds ((48 + m % 10) ∷ [])), λ a. omega (arith, get_or-append ds ((48 + m % 10) ∷ []) 0 0 h.0, h.1 (omega arith)))

first_digit : (n : ℕ) → n < 10 ^ 64 → (0 < length (decimal n)) × (0 < n → 48 < get_or (decimal n) 0 0)
first_digit = decimal_by_steps_wide (λ m ds. (0 < length ds) × (0 < m → 48 < get_or ds 0 0)) (λ m l. (omega arith, λ a. omega arith)) begun

digit_test : (c : ℕ) → IsInRange 48 57 c → is_ascii_digit c ≡ true
digit_test c r = grind (arith, nat_tests)

all_ascii : (ds : List ℕ) → AllDigits 10 ds → list_all is_ascii_digit ds ≡ true
all_ascii [] all = refl
all_ascii (c ∷ cs) all = rw (digit_test c (digit_from_value c all.0), all_ascii cs all.1) refl

all_digits : (ds : List ℕ) → AllDigits 10 ds → list_all (λ d. is_digit d 10) ds ≡ true
all_digits [] all = refl
all_digits (c ∷ cs) all = rw (lt-ltb (digit_value c) 10 all.0, all_digits cs all.1) refl

not_nought : (c : ℕ) → 48 < c → (c == 48) ≡ false
not_nought c h = grind (arith, nat_tests)

or_not : (b c : Bool) → c ≡ false → (b || not c) ≡ true
or_not true c h = refl
or_not false c h = rw h refl

numeral_is : (k : ℕ) (ds : List ℕ) → 0 < k → (0 < length ds) × (0 < k → 48 < get_or ds 0 0) → AllDigits 10 ds → is_numeral ds ≡ true
numeral_is k [] some begins all = absurd (omega (arith, begins.0))
numeral_is k (c ∷ cs) some begins all = rw (all_digits (c ∷ cs) all, or_not (length cs == 0) (c == 48) (not_nought c (begins.1 some))) refl

pub record Numeral (n : ℕ) : Type 0 where
  pub numeral : is_numeral (decimal n) ≡ true
  pub value : digits_value 10 (decimal n) ≡ n
  pub digits : list_all is_ascii_digit (decimal n) ≡ true
  pub first : begins_with_digit (decimal n) ≡ true

begins : (ds : List ℕ) → 0 < length ds → list_all is_ascii_digit ds ≡ true → begins_with_digit ds ≡ true
begins [] l h = absurd (omega arith)
begins (c ∷ cs) l h = (both_true (is_ascii_digit c) (list_all is_ascii_digit cs) h).0

small : (k : ℕ) → k < 2 ^ 128 → k < 10 ^ 64
small k h = omega arith

numeral_of : (k : ℕ) → k < 2 ^ 128 → is_numeral (decimal k) ≡ true
numeral_of zero h = rw (decimal_digit 0 (omega arith)) refl
numeral_of (suc k) h =
    let l = small (suc k) h in
    numeral_is (suc k) (decimal (suc k)) (omega arith) (first_digit (suc k) l) (decimal_is_IsNumeral_wide (suc k) l).0.1

pub numeral : (k : ℕ) → k < 2 ^ 128 → Numeral k
numeral k h =
    let is = decimal_is_IsNumeral_wide k (small k h) in
    let ds = all_ascii (decimal k) is.0.1 in
    record { numeral = numeral_of k h; value = is.1; digits = ds; first = begins (decimal k) is.0.0 ds }
