-- The names of threads.
use Rattle.std.proofs.Common.{◌≡◌, ℕ, zero, suc, ◌+◌, ◌*◌, ◌-◌, ◌<◌, ◌==◌, ◌&&◌, ◌++◌, Bool, true, false, not, List, [], ◌∷◌, Option, Some, None, refl, sym, ap, subst, ◌∙◌, arith, inl, inr, if◌then◌else◌}
use Rattle.std.specs.Prelude.{◌⊎◌, nat_lt, codes, decimal}
use Rattle.std.specs.Fmt.{digits}
use Rattle.std.specs.Char.{is_digit, digit_value}
use Rattle.std.proofs.lemmas.Str.Parse.{digit_from_value}
use Rattle.conditions.specs.Words.{unit_of, two_digits, digits_of, thread_of}
use Rattle.conditions.specs.Laws.{ThreadsAreNamed}

-- ---- each of the 64, one after the other

abbrev is_number : ℕ → Option ℕ → Bool
is_number n None = false
is_number n (Some m) = m == n

abbrev named_below : ℕ → Bool
named_below zero = true
named_below (suc n) = is_number n (thread_of (codes "t" ++ decimal n)) && named_below n

all_named : named_below 64 ≡ true
unfolding digits
all_named = refl

front : (a b : Bool) → a && b ≡ true → a ≡ true
front true b e = refl
front false b e = absurd cc

back : (a b : Bool) → a && b ≡ true → b ≡ true
back true b e = e
back false b e = absurd cc

abbrev IsNamed : ℕ → Type 0
IsNamed n = is_number n (thread_of (codes "t" ++ decimal n)) ≡ true

one_more : (m n : ℕ) → IsNamed m → (n < m → IsNamed n) → n < suc m → (b : Bool) → (m == n) ≡ b → IsNamed n
one_more m n last others less true here = let same : m ≡ n = grind (arith, here) in subst IsNamed same last
one_more m n last others less false here = others (grind (arith, here, less))

one_named : (m n : ℕ) → named_below m ≡ true → n < m → IsNamed n
one_named zero n e less = absurd (omega arith)
one_named (suc m) n e less = one_more m n (front _ _ e) (one_named m n (back _ _ e)) less (m == n) refl

is_some : (n : ℕ) (o : Option ℕ) → is_number n o ≡ true → o ≡ Some n
is_some n None e = absurd cc
is_some n (Some m) e = ap Some (grind (arith, e))

each : (n : ℕ) → n < 64 → thread_of (codes "t" ++ decimal n) ≡ Some n
each n less = is_some n (thread_of (codes "t" ++ decimal n)) (one_named 64 n all_named less)

-- ---- the words that are names

-- one digit, or two of which the first is not nought
abbrev HasOne : List ℕ → ℕ → Type 0
HasOne w n = (w ≡ 116 ∷ (48 + n) ∷ []) × (n < 10)

abbrev HasTwo : List ℕ → ℕ → Type 0
HasTwo w n = (a : ℕ) × (u : ℕ) × (w ≡ 116 ∷ (48 + a) ∷ (48 + u) ∷ []) × (0 < a) × (u < 10) × (n ≡ a * 10 + u) × (n < 64)

if_some : (b : Bool) (o : Option ℕ) (n : ℕ) → (if b then o else None) ≡ Some n → (b ≡ true) × (o ≡ Some n)
if_some true o n e = (refl, e)
if_some false o n e = absurd cc

inside : (m n : ℕ) → Some m ≡ Some n → m ≡ n
inside m n e = cc

is_unit : (b n : ℕ) → unit_of b ≡ Some n → (n < 10) × (b ≡ 48 + n)
is_unit b n e =
    let p = if_some (is_digit b 10) (Some (b - 48)) n e in
    let small : digit_value b < 10 = grind (arith, p.0) in
    let r = digit_from_value b small in
    let same : b - 48 ≡ n = inside (b - 48) n p.1 in
    (omega (arith, r.0, r.1, same), omega (arith, r.0, r.1, same))

are_two : (x y : Option ℕ) (n : ℕ) → two_digits x y ≡ Some n → (a : ℕ) × (u : ℕ) × (x ≡ Some a) × (y ≡ Some u) × (0 < a) × (n ≡ a * 10 + u) × (n < 64)
are_two None y n e = absurd cc
are_two (Some a) None n e = absurd cc
are_two (Some a) (Some u) n e =
    let p = if_some (not (a == 0) && nat_lt (a * 10 + u) 64) (Some (a * 10 + u)) n e in
    let same : a * 10 + u ≡ n = inside (a * 10 + u) n p.1 in
    let first : not (a == 0) ≡ true = front (not (a == 0)) (nat_lt (a * 10 + u) 64) p.0 in
    let second : nat_lt (a * 10 + u) 64 ≡ true = back (not (a == 0)) (nat_lt (a * 10 + u) 64) p.0 in
    let below : a * 10 + u < 64 = grind (arith, second) in
    (a, u, refl, refl, grind (arith, first), sym same, omega (arith, below, same))

three_same : (x s y t z u : ℕ) → x ≡ s → y ≡ t → z ≡ u → x ∷ y ∷ z ∷ [] ≡ s ∷ t ∷ u ∷ []
three_same x s y t z u p q r = rw (p, q, r) refl

shape : (w : List ℕ) (n : ℕ) → thread_of w ≡ Some n → HasOne w n ⊎ HasTwo w n
shape [] n e = absurd cc
shape (t ∷ []) n e = absurd cc
shape (t ∷ u ∷ []) n e =
    let p = if_some (t == 116) (unit_of u) n e in
    let d = is_unit u n p.1 in
    let same : t ≡ 116 = grind (arith, p.0) in
    inl (rw (same, d.1) refl, d.0)
shape (t ∷ a ∷ u ∷ []) n e =
    let p = if_some (t == 116) (digits_of a u) n e in
    let d = are_two (unit_of a) (unit_of u) n p.1 in
    let ten = is_unit a d.0 d.2 in
    let unit = is_unit u d.1 d.3 in
    let same : t ≡ 116 = grind (arith, p.0) in
    inr (d.0, d.1, three_same t 116 a (48 + d.0) u (48 + d.1) same ten.1 unit.1, d.4, unit.0, d.5, d.6)
shape (t ∷ a ∷ u ∷ v ∷ w) n e = absurd cc

is_below : (w : List ℕ) (n : ℕ) → HasOne w n ⊎ HasTwo w n → n < 64
is_below w n (inl (is, less)) = omega (arith, less)
is_below w n (inr (a, u, is, pos, less, sum, below)) = below

two_same : (a b u v : ℕ) → a ≡ b → u ≡ v → 116 ∷ (48 + a) ∷ (48 + u) ∷ [] ≡ 116 ∷ (48 + b) ∷ (48 + v) ∷ []
two_same a b u v p q = rw (p, q) refl

one_word : (w v : List ℕ) (n : ℕ) → HasOne w n ⊎ HasTwo w n → HasOne v n ⊎ HasTwo v n → w ≡ v
one_word w v n (inl (p, l)) (inl (q, m)) = p ∙ sym q
one_word w v n (inl (p, l)) (inr (a, u, q, pos, less, sum, below)) = absurd (omega (arith, l, pos, sum))
one_word w v n (inr (a, u, p, pos, less, sum, below)) (inl (q, m)) = absurd (omega (arith, m, pos, sum))
one_word w v n (inr (a, u, p, pos, less, sum, below)) (inr (b, y, q, pos', less', sum', below')) =
    let tens : a ≡ b = omega (arith, less, less', sum, sum') in
    let units : u ≡ y = omega (arith, less, less', sum, sum') in
    p ∙ two_same a b u y tens units ∙ sym q

named : (word : List ℕ) (n : ℕ) → thread_of word ≡ Some n → (n < 64) × (word ≡ codes "t" ++ decimal n)
named word n e =
    let s = shape word n e in
    let below : n < 64 = is_below word n s in
    (below, one_word word (codes "t" ++ decimal n) n s (shape (codes "t" ++ decimal n) n (each n below)))

names : (word : List ℕ) (n : ℕ) → (n < 64) × (word ≡ codes "t" ++ decimal n) → thread_of word ≡ Some n
names word n (below, is) = ap thread_of is ∙ each n below

pub threads_are_named : ThreadsAreNamed
threads_are_named word n = (named word n, names word n)
