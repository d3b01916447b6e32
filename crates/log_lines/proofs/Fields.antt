-- The text of each part of an event is read as that part.
use Rattle.std.proofs.Common.{◌≡◌, ℕ, ◌<◌, ◌^◌, Bool, true, false, not, ◌&&◌, List, [], ◌∷◌, ◌++◌, length, append_assoc, refl, sym, ap, subst, arith}
use Rattle.std.specs.Prelude.{◌==◌, nat_lt, decimal, codes, Ok, Err}
use Rattle.std.specs.List.{list_all}
use Rattle.std.specs.Char.{is_digit, is_ascii_digit}
use Rattle.std.proofs.lemmas.Bool.{false≢true}
use Rattle.std.proofs.lemmas.Bool.Decides.{nat_tests}
use Rattle.std.proofs.lemmas.List.Folds.{list_all-append}
use Rattle.mu_base.specs.declared.order.Order.{Order}
use Rattle.mu_base.specs.declared.order.Order.TheVariants.{NotAtomic, Relaxed, Consume, Acquire, Release, AcqRel, SeqCst}
use Rattle.mu_values.specs.declared.scalars.Scalar.{Scalar}
use Rattle.mu_values.specs.declared.scalars.Scalar.TheVariants as scalars
use Rattle.mu_values.specs.declared.cells.CellId.{CellId}
use Rattle.log_lines.specs.declared.types.LogKind.TheVariants.{Unexpected}
use Rattle.log_lines.specs.Fields.{Text, Judged, mapped, or_else, number, exactly, thread, stack, object, cell, cell_in, is_numeral, parts}
use Rattle.log_lines.specs.Words.{look_up, order_words, order_text, order}
use Rattle.log_lines.specs.Values.{Names, is_name, is_name_byte, scalar, value, place_among}
use Rattle.log_lines.specs.Texts.{begins_with_digit}
use Rattle.log_lines.specs.EventTexts.{NameOf, cell_text, scalar_text}
use Rattle.log_lines.specs.Readable.{ScalarIsReadable, CellIsReadable, scalar_for, scalar_names}
use Rattle.log_lines.proofs.Bytes.{both_true, all_of, other_than, parts_one, parts_front, is_solid, digit_solid, digit_no_plus, name_byte_solid, numeral}

-- ---- numbers

lt_is : (n limit : ℕ) → n < limit → nat_lt n limit ≡ true
lt_is n limit h = grind (arith, nat_tests)

eq_is : (n : ℕ) → (n == n) ≡ true
eq_is n = grind (arith, nat_tests)

pub number_read : (limit n : ℕ) → n < limit → n < 2 ^ 128 → number limit (decimal n) ≡ Ok n
number_read limit n h l = let d = numeral n l in rw (d.numeral, d.value, lt_is n limit h) refl

pub exactly_read : (n : ℕ) → n < 2 ^ 128 → exactly n (decimal n) ≡ Ok n
exactly_read n l = let d = numeral n l in rw (d.numeral, d.value, eq_is n) refl

pub thread_read : (n : ℕ) → n < 64 → thread (116 ∷ decimal n) ≡ Ok n
thread_read n h = number_read 64 n h (omega arith)

pub stack_read : (n : ℕ) → n < 2 ^ 32 → stack (115 ∷ decimal n) ≡ Ok n
stack_read n h = number_read (2 ^ 32) n h (omega arith)

pub object_read : (n : ℕ) → n < 2 ^ 32 → object (35 ∷ decimal n) ≡ Ok n
object_read n h = number_read (2 ^ 32) n h (omega arith)

no_plus : (n : ℕ) → n < 2 ^ 32 → list_all (other_than 43) (decimal n) ≡ true
no_plus n h = all_of is_ascii_digit (other_than 43) digit_no_plus (decimal n) (numeral n (omega arith)).digits

cell_parts : (o k : ℕ) → o < 2 ^ 32 → k < 2 ^ 32 → parts 43 (decimal o ++ 43 ∷ decimal k) ≡ decimal o ∷ decimal k ∷ []
cell_parts o k h l = rw (parts_front 43 (decimal o) (decimal k) (no_plus o h), parts_one 43 (decimal k) (no_plus k l)) refl

cell_in_read : (ps : List Text) (c : CellId) → CellIsReadable c → ps ≡ decimal c.object ∷ decimal c.at ∷ [] → cell_in ps ≡ Ok c
cell_in_read ps c h e =
    let o = number_read (2 ^ 32) c.object h.0 (let x = h.0 in omega arith) in
    let k = number_read (2 ^ 32) c.at h.1 (let x = h.1 in omega arith) in
    rw (e, o, k) refl

-- both numbers of a place, with the `+` between them
pub pair_right : (o k : ℕ) → codes "#" ++ decimal o ++ codes "+" ++ decimal k ≡ 35 ∷ (decimal o ++ 43 ∷ decimal k)
pair_right o k = ap (λ (l : Text). 35 ∷ l) (append_assoc (decimal o) (43 ∷ []) (decimal k))

pub cell_read : (c : CellId) → CellIsReadable c → cell (cell_text c) ≡ Ok c
cell_read c h = subst (λ (l : Text). cell l ≡ Ok c) (sym (pair_right c.object c.at)) (cell_in_read (parts 43 (decimal c.object ++ 43 ∷ decimal c.at)) c h (cell_parts c.object c.at h.0 h.1))

-- ---- orders

order_word : (o : Order) → look_up order_words (order_text o) ≡ Ok o
order_word NotAtomic = refl
order_word Relaxed = refl
order_word Consume = refl
order_word Acquire = refl
order_word Release = refl
order_word AcqRel = refl
order_word SeqCst = refl

pub order_read : (test : Order → Bool) (o : Order) → test o ≡ true → order test (order_text o) ≡ Ok o
order_read test o h = rw (order_word o, h) refl

-- ---- values

-- what is no numeral is no number
not_numeral : (limit b : ℕ) (bs : Text) → is_ascii_digit b ≡ false → is_numeral (b ∷ bs) ≡ false → number limit (b ∷ bs) ≡ Err Unexpected
not_numeral limit b bs h n = rw n refl

int_read : (names : Names) (n : ℕ) → n < 2 ^ 128 → scalar names (decimal n) ≡ Ok (scalars.Int 128 n)
int_read names n h = rw (number_read (2 ^ 128) n h h) refl

and_no : (b : Bool) → (b && false) ≡ false
and_no true = refl
and_no false = refl

no_digits : (ds rest : Text) → list_all (λ d. is_digit d 10) (ds ++ 43 ∷ rest) ≡ false
no_digits [] rest = refl
no_digits (d ∷ ds) rest = rw (no_digits ds rest) (and_no (is_digit d 10))

-- what stands after the `#` of `#o+k` is no number
plus_in : (ds rest : Text) → is_numeral (ds ++ 43 ∷ rest) ≡ false
plus_in [] rest = refl
plus_in (d ∷ ds) rest = rw (no_digits ds rest, and_no (is_digit d 10)) refl

object_scalar : (names : Names) (n : ℕ) → n < 2 ^ 32 → scalar names (35 ∷ decimal n) ≡ Ok (scalars.Object n)
object_scalar names n h = rw (object_read n h) refl

place_scalar : (names : Names) (o k : ℕ) → o < 2 ^ 32 → k < 2 ^ 32 → scalar names (35 ∷ (decimal o ++ 43 ∷ decimal k)) ≡ Ok (scalars.Place o k)
place_scalar names o k h l =
    rw (plus_in (decimal o) (decimal k)) (ap (λ (j : Judged CellId). or_else (mapped (λ (c : CellId). scalars.Place c.object c.at) j) (Err Unexpected)) (cell_in_read (parts 43 (decimal o ++ 43 ∷ decimal k)) (record { object = o; at = k }) (h, l) (cell_parts o k h l)))

stack_scalar : (names : Names) (n : ℕ) → n < 2 ^ 32 → scalar names (115 ∷ decimal n) ≡ Ok (scalars.Stack n)
stack_scalar names n h = rw (stack_read n h) refl

thread_scalar : (names : Names) (n : ℕ) → n < 64 → scalar names (116 ∷ decimal n) ≡ Ok (scalars.Thread n)
thread_scalar names n h = rw (thread_read n h) refl

at_sign : (names : Names) (bs : Text) → is_name (64 ∷ bs) ≡ true → scalar names (64 ∷ bs) ≡ Ok (scalars.Func (place_among names (64 ∷ bs)))
at_sign names bs h = rw h refl

is_at_sign : (b : ℕ) → (b == 64) ≡ true → b ≡ 64
is_at_sign b h = grind (arith, nat_tests)

first_of_name : (b : ℕ) (bs : Text) → is_name (b ∷ bs) ≡ true → b ≡ 64
first_of_name b bs h = is_at_sign b (both_true (b == 64) (not (length bs == 0)) (both_true ((b == 64) && not (length bs == 0)) (list_all is_name_byte bs) h).0).0

function_scalar : (names : Names) (f : Text) → is_name f ≡ true → scalar names f ≡ Ok (scalars.Func (place_among names f))
function_scalar names [] h = absurd (false≢true h)
function_scalar names (b ∷ bs) h =
    subst (λ (x : ℕ). is_name (x ∷ bs) ≡ true → scalar names (x ∷ bs) ≡ Ok (scalars.Func (place_among names (x ∷ bs)))) (sym (first_of_name b bs h)) (at_sign names bs) h

not_at_sign : (b : ℕ) → is_ascii_digit b ≡ true → (b == 64) ≡ false
not_at_sign b h = grind (arith, nat_tests)

not_name : (f : Text) → begins_with_digit f ≡ true → is_name f ≡ false
not_name [] h = absurd (false≢true h)
not_name (b ∷ bs) h = rw (not_at_sign b h) refl

pub value_read : (name_of : NameOf) (names : Names) (v : Scalar) → ScalarIsReadable name_of v → value names (scalar_text name_of v) ≡ Ok (scalar_for name_of names v, scalar_names name_of names v)
value_read name_of names (scalars.Int w n) h = rw (int_read names n h, not_name (decimal n) (numeral n h).first) refl
value_read name_of names scalars.Null h = refl
value_read name_of names (scalars.Object n) h = rw (object_scalar names n h) refl
value_read name_of names (scalars.Place n at) h = subst (λ (l : Text). value names l ≡ Ok (scalars.Place n at, names)) (sym (pair_right n at)) (rw (place_scalar names n at h.0 h.1) refl)
value_read name_of names (scalars.Func f) h = rw (function_scalar names (name_of f) h) refl
value_read name_of names (scalars.Stack k) h = rw (stack_scalar names k h) refl
value_read name_of names (scalars.Thread i) h = rw (thread_scalar names i h) refl

-- ---- bytes

abbrev pub Solid : Text → Type 0
Solid f = list_all is_solid f ≡ true

pub decimal_solid : (n : ℕ) → n < 2 ^ 128 → Solid (decimal n)
decimal_solid n h = all_of is_ascii_digit is_solid digit_solid (decimal n) (numeral n h).digits

pair_solid : (o k : ℕ) → o < 2 ^ 32 → k < 2 ^ 32 → Solid (decimal o ++ 43 ∷ decimal k)
pair_solid o k h l = rw (list_all-append is_solid (decimal o) (43 ∷ decimal k), decimal_solid o (omega arith), decimal_solid k (omega arith)) refl

pub cell_solid : (c : CellId) → CellIsReadable c → Solid (cell_text c)
cell_solid c h = subst Solid (sym (pair_right c.object c.at)) (pair_solid c.object c.at h.0 h.1)

pub order_solid : (o : Order) → Solid (order_text o)
order_solid NotAtomic = refl
order_solid Relaxed = refl
order_solid Consume = refl
order_solid Acquire = refl
order_solid Release = refl
order_solid AcqRel = refl
order_solid SeqCst = refl

name_solid : (f : Text) → is_name f ≡ true → Solid f
name_solid [] h = refl
name_solid (b ∷ bs) h =
    let r = both_true ((b == 64) && not (length bs == 0)) (list_all is_name_byte bs) h in
    rw (first_of_name b bs h, all_of is_name_byte is_solid name_byte_solid bs r.1) refl

pub scalar_solid : (name_of : NameOf) (v : Scalar) → ScalarIsReadable name_of v → Solid (scalar_text name_of v)
scalar_solid name_of (scalars.Int w n) h = decimal_solid n h
scalar_solid name_of scalars.Null h = refl
scalar_solid name_of (scalars.Object n) h = decimal_solid n (omega arith)
scalar_solid name_of (scalars.Place n at) h = subst Solid (sym (pair_right n at)) (pair_solid n at h.0 h.1)
scalar_solid name_of (scalars.Func f) h = name_solid (name_of f) h
scalar_solid name_of (scalars.Stack k) h = decimal_solid k (omega arith)
scalar_solid name_of (scalars.Thread i) h = decimal_solid i (omega arith)
