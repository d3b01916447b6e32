-- Watchpoints with flags, in rising order of their numbers.
use Rattle.std.specs.Prelude.{◌≡◌, ℕ, ◌==◌, Bool, true, false, not, cond, ◌||◌, List, [], ◌∷◌, Option, Some, None, filter, is_some, refl}
use Rattle.std.specs.List.{AllByRecursion}
use Rattle.std.specs.List.Sorted.{IsStrictlySortedBy}
use Rattle.std.specs.Ordering.{nat_cmp, is_eq, match_ordering}
use Rattle.std.specs.declared.cmp.Ordering.{Ordering}
use Rattle.std.specs.declared.cmp.Ordering.TheVariants.{Less, Equal, Greater}
use Rattle.std.specs.Map.{lookup, keys_of}
use Rattle.std.specs.BTreeMap.{insert_entry, is_at}
use Rattle.std.specs.BTreeSet.{insert_key}
use Rattle.std.proofs.Common.{sym, ◌∙◌, ap, subst, arith}
use Rattle.std.proofs.lemmas.Bool.Decides.{nat_tests}
use Rattle.mu_model.specs.Traps.{is_watched, watch}
use Rattle.trap_answers.specs.Watching.{enabled_in}

abbrev pub flag_of : Option Bool → Bool
flag_of None = false
flag_of (Some b) = b

-- ---- an order of numbers

-- every number of the list is above this one
abbrev AreAbove : ℕ → List ℕ → Type 0
AreAbove n xs = AllByRecursion (λ y. nat_cmp n y ≡ Less) xs

below_less : (n k y : ℕ) → nat_cmp n k ≡ Less → nat_cmp k y ≡ Less → nat_cmp n y ≡ Less
below_less n k y e f = grind (arith, nat_tests)

equal_same : (n k : ℕ) → nat_cmp n k ≡ Equal → n ≡ k
equal_same n k e = grind (arith, nat_tests)

same_test : (n k : ℕ) → is_eq (nat_cmp n k) ≡ (k == n)
same_test n k = grind (arith, nat_tests)

above_more : (n k : ℕ) (xs : List ℕ) → nat_cmp n k ≡ Less → AreAbove k xs → AreAbove n xs
above_more n k [] e h = h
above_more n k (x ∷ xs) e h = (below_less n k x e h.0, above_more n k xs e h.1)

other_above : (n k : ℕ) → nat_cmp n k ≡ Less → (k == n) ≡ false
other_above n k e = sym (same_test n k) ∙ ap is_eq e

-- ---- numbers that are above one

first_in : (n : ℕ) (xs : List ℕ) → AreAbove n xs → insert_key nat_cmp xs n ≡ n ∷ xs
first_in n [] h = refl
first_in n (x ∷ xs) h = ap (λ o. match_ordering o (n ∷ x ∷ xs) (x ∷ xs) (x ∷ insert_key nat_cmp xs n)) h.0

all_stay : (n : ℕ) (xs : List ℕ) → AreAbove n xs → filter (λ m. not (m == n)) xs ≡ xs
all_stay n [] h = refl
all_stay n (x ∷ xs) h =
    ap (λ b. cond (not b) (x ∷ filter (λ m. not (m == n)) xs) (filter (λ m. not (m == n)) xs)) (other_above n x h.0) ∙ ap (λ ys. x ∷ ys) (all_stay n xs h.1)

none_among : (n : ℕ) (xs : List ℕ) → AreAbove n xs → is_watched n xs ≡ false
none_among n [] h = refl
none_among n (x ∷ xs) h = ap (λ b. b || is_watched n xs) (other_above n x h.0) ∙ none_among n xs h.1

-- ---- entries in rising order

enabled_above : (n : ℕ) (es : List (ℕ × Bool)) → AreAbove n (keys_of es) → AreAbove n (enabled_in es)
enabled_above n [] h = h
enabled_above n ((k, true) ∷ es) h = (h.0, enabled_above n es h.1)
enabled_above n ((k, false) ∷ es) h = enabled_above n es h.1

rest_above : (k : ℕ) (ks : List ℕ) → IsStrictlySortedBy nat_cmp (k ∷ ks) → AreAbove k ks × IsStrictlySortedBy nat_cmp ks
unfolding IsStrictlySortedBy
rest_above k ks h = h

enabled_more : (n : ℕ) (es : List (ℕ × Bool)) → IsStrictlySortedBy nat_cmp (keys_of es) → enabled_in (insert_entry nat_cmp es n true) ≡ insert_key nat_cmp (enabled_in es) n
enabled_more n [] h = refl
enabled_more n ((k, true) ∷ es) h = by (nat_cmp n k) (enabled_more n es (rest_above k (keys_of es) h).1)
  where
    by : (o : Ordering) → enabled_in (insert_entry nat_cmp es n true) ≡ insert_key nat_cmp (enabled_in es) n → enabled_in (match_ordering o ((n, true) ∷ (k, true) ∷ es) ((k, true) ∷ es) ((k, true) ∷ insert_entry nat_cmp es n true)) ≡ match_ordering o (n ∷ k ∷ enabled_in es) (k ∷ enabled_in es) (k ∷ insert_key nat_cmp (enabled_in es) n)
    by Less rest = refl
    by Equal rest = refl
    by Greater rest = ap (λ xs. k ∷ xs) rest
enabled_more n ((k, false) ∷ es) h = by (nat_cmp n k) refl (enabled_more n es (rest_above k (keys_of es) h).1)
  where
    above : AreAbove k (enabled_in es)
    above = enabled_above k es (rest_above k (keys_of es) h).0

    by : (o : Ordering) → nat_cmp n k ≡ o → enabled_in (insert_entry nat_cmp es n true) ≡ insert_key nat_cmp (enabled_in es) n → enabled_in (match_ordering o ((n, true) ∷ (k, false) ∷ es) ((k, true) ∷ es) ((k, false) ∷ insert_entry nat_cmp es n true)) ≡ insert_key nat_cmp (enabled_in es) n
    by Less e rest = sym (first_in n (enabled_in es) (above_more n k (enabled_in es) e above))
    by Equal e rest = sym (ap (insert_key nat_cmp (enabled_in es)) (equal_same n k e) ∙ first_in k (enabled_in es) above)
    by Greater e rest = rest

-- without one
abbrev less_by : ℕ → List ℕ → List ℕ
less_by n xs = filter (λ m. not (m == n)) xs

abbrev with_first : ℕ → List ℕ → Bool → List ℕ
with_first k ys q = cond (not q) (k ∷ ys) ys

enabled_less : (n : ℕ) (es : List (ℕ × Bool)) → IsStrictlySortedBy nat_cmp (keys_of es) → enabled_in (insert_entry nat_cmp es n false) ≡ less_by n (enabled_in es)
enabled_less n [] h = refl
enabled_less n ((k, b) ∷ es) h = by (nat_cmp n k) refl b (enabled_less n es (rest_above k (keys_of es) h).1)
  where
    above : AreAbove k (enabled_in es)
    above = enabled_above k es (rest_above k (keys_of es) h).0

    stay : (o : Ordering) → nat_cmp n k ≡ o → (k == n) ≡ is_eq o
    stay o e = sym (same_test n k) ∙ ap is_eq e

    same_above : nat_cmp n k ≡ Equal → less_by n (enabled_in es) ≡ enabled_in es
    same_above e = all_stay n (enabled_in es) (subst (λ m. AreAbove m (enabled_in es)) (sym (equal_same n k e)) above)

    more_above : nat_cmp n k ≡ Less → less_by n (enabled_in es) ≡ enabled_in es
    more_above e = all_stay n (enabled_in es) (above_more n k (enabled_in es) e above)

    by : (o : Ordering) → nat_cmp n k ≡ o → (b : Bool) → enabled_in (insert_entry nat_cmp es n false) ≡ less_by n (enabled_in es) → enabled_in (match_ordering o ((n, false) ∷ (k, b) ∷ es) ((k, false) ∷ es) ((k, b) ∷ insert_entry nat_cmp es n false)) ≡ less_by n (enabled_in ((k, b) ∷ es))
    by Less e true rest = sym (ap (with_first k (less_by n (enabled_in es))) (stay Less e) ∙ ap (λ xs. k ∷ xs) (more_above e))
    by Less e false rest = sym (more_above e)
    by Equal e true rest = sym (ap (with_first k (less_by n (enabled_in es))) (stay Equal e) ∙ same_above e)
    by Equal e false rest = sym (same_above e)
    by Greater e true rest = ap (λ xs. k ∷ xs) rest ∙ sym (ap (with_first k (less_by n (enabled_in es))) (stay Greater e))
    by Greater e false rest = rest

-- ---- look-ups

pub known_found : (n : ℕ) (es : List (ℕ × Bool)) → is_some (lookup (is_at (nat_cmp n)) es) ≡ is_watched n (keys_of es)
known_found n [] = refl
known_found n ((k, b) ∷ es) = ap (λ q. is_some (cond q (Some b) (lookup (is_at (nat_cmp n)) es))) (same_test n k) ∙ by (k == n) (known_found n es)
  where
    by : (q : Bool) → is_some (lookup (is_at (nat_cmp n)) es) ≡ is_watched n (keys_of es) → is_some (cond q (Some b) (lookup (is_at (nat_cmp n)) es)) ≡ (q || is_watched n (keys_of es))
    by true rest = refl
    by false rest = rest

pub flag_found : (n : ℕ) (es : List (ℕ × Bool)) → IsStrictlySortedBy nat_cmp (keys_of es) → flag_of (lookup (is_at (nat_cmp n)) es) ≡ is_watched n (enabled_in es)
flag_found n [] h = refl
flag_found n ((k, true) ∷ es) h = ap (λ q. flag_of (cond q (Some true) (lookup (is_at (nat_cmp n)) es))) (same_test n k) ∙ by (k == n) (flag_found n es (rest_above k (keys_of es) h).1)
  where
    by : (q : Bool) → flag_of (lookup (is_at (nat_cmp n)) es) ≡ is_watched n (enabled_in es) → flag_of (cond q (Some true) (lookup (is_at (nat_cmp n)) es)) ≡ (q || is_watched n (enabled_in es))
    by true rest = refl
    by false rest = rest
flag_found n ((k, false) ∷ es) h = by (nat_cmp n k) refl (flag_found n es (rest_above k (keys_of es) h).1)
  where
    above : AreAbove k (enabled_in es)
    above = enabled_above k es (rest_above k (keys_of es) h).0

    by : (o : Ordering) → nat_cmp n k ≡ o → flag_of (lookup (is_at (nat_cmp n)) es) ≡ is_watched n (enabled_in es) → flag_of (cond (is_eq o) (Some false) (lookup (is_at (nat_cmp n)) es)) ≡ is_watched n (enabled_in es)
    by Less e rest = rest
    by Equal e rest = sym (none_among n (enabled_in es) (subst (λ m. AreAbove m (enabled_in es)) (sym (equal_same n k e)) above))
    by Greater e rest = rest

absent_stays : (n : ℕ) (xs : List ℕ) → is_watched n xs ≡ false → less_by n xs ≡ xs
absent_stays n [] h = refl
absent_stays n (x ∷ xs) h = by (x == n) h (absent_stays n xs)
  where
    by : (q : Bool) → (q || is_watched n xs) ≡ false → (is_watched n xs ≡ false → less_by n xs ≡ xs) → cond (not q) (x ∷ less_by n xs) (less_by n xs) ≡ x ∷ xs
    by true h rest = cc
    by false h rest = ap (λ ys. x ∷ ys) (rest h)

-- a number that is new is not enabled
enabled_same : (n : ℕ) (es : List (ℕ × Bool)) → IsStrictlySortedBy nat_cmp (keys_of es) → lookup (is_at (nat_cmp n)) es ≡ None → enabled_in (insert_entry nat_cmp es n false) ≡ enabled_in es
enabled_same n es h none = enabled_less n es h ∙ absent_stays n (enabled_in es) (sym (flag_found n es h) ∙ ap flag_of none)

none_there : {A : Type 0} (o : Option A) → is_some o ≡ false → o ≡ None
none_there None h = refl
none_there (Some a) h = cc

pub enabled_new : (n : ℕ) (es : List (ℕ × Bool)) → IsStrictlySortedBy nat_cmp (keys_of es) → is_some (lookup (is_at (nat_cmp n)) es) ≡ false → enabled_in (insert_entry nat_cmp es n false) ≡ enabled_in es
enabled_new n es h none = enabled_same n es h (none_there (lookup (is_at (nat_cmp n)) es) none)

-- a change of one
pub enabled_watch : (n : ℕ) (b : Bool) (es : List (ℕ × Bool)) → IsStrictlySortedBy nat_cmp (keys_of es) → enabled_in (insert_entry nat_cmp es n b) ≡ watch (enabled_in es) (n, b)
enabled_watch n true es h = enabled_more n es h
enabled_watch n false es h = enabled_less n es h

-- ---- numbers that are known

equal_itself : (n : ℕ) → (n == n) ≡ true
equal_itself n = grind (arith, nat_tests)

or_true : (b : Bool) → (b || true) ≡ true
or_true true = refl
or_true false = refl

pub known_added : (n : ℕ) (b : Bool) (es : List (ℕ × Bool)) → is_watched n (keys_of (insert_entry nat_cmp es n b)) ≡ true
known_added n b [] = ap (λ q. q || false) (equal_itself n)
known_added n b ((k, x) ∷ es) = by (nat_cmp n k) (same_test n k) (known_added n b es)
  where
    by : (o : Ordering) → is_eq o ≡ (k == n) → is_watched n (keys_of (insert_entry nat_cmp es n b)) ≡ true → is_watched n (keys_of (match_ordering o ((n, b) ∷ (k, x) ∷ es) ((k, b) ∷ es) ((k, x) ∷ insert_entry nat_cmp es n b))) ≡ true
    by Less e rest = ap (λ q. q || is_watched n (k ∷ keys_of es)) (equal_itself n)
    by Equal e rest = ap (λ q. q || is_watched n (keys_of es)) (sym e)
    by Greater e rest = ap (λ q. (k == n) || q) rest ∙ or_true (k == n)

or_more : (a b c : Bool) → (b ≡ true → c ≡ true) → (a || b) ≡ true → (a || c) ≡ true
or_more true b c f h = refl
or_more false b c f h = f h

pub known_more : (m n : ℕ) (b : Bool) (es : List (ℕ × Bool)) → is_watched m (keys_of es) ≡ true → is_watched m (keys_of (insert_entry nat_cmp es n b)) ≡ true
known_more m n b [] h = cc
known_more m n b ((k, x) ∷ es) h = by (nat_cmp n k) h (known_more m n b es)
  where
    by : (o : Ordering) → is_watched m (k ∷ keys_of es) ≡ true → (is_watched m (keys_of es) ≡ true → is_watched m (keys_of (insert_entry nat_cmp es n b)) ≡ true) → is_watched m (keys_of (match_ordering o ((n, b) ∷ (k, x) ∷ es) ((k, b) ∷ es) ((k, x) ∷ insert_entry nat_cmp es n b))) ≡ true
    by Less h rest = ap (λ q. (n == m) || q) h ∙ or_true (n == m)
    by Equal h rest = h
    by Greater h rest = or_more (k == m) (is_watched m (keys_of es)) (is_watched m (keys_of (insert_entry nat_cmp es n b))) rest h
