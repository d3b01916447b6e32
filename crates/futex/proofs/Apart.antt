-- Waiters whose threads are apart.
use Rattle.std.specs.Prelude.{◌≡◌, ℕ, ◌<◌, ◌≤◌, Bool, true, false, ◌||◌, ◌==◌, not, List, [], ◌∷◌, ◌++◌, Option, Some, None, length, filter, if◌then◌else◌, refl}
use Rattle.std.proofs.Common.{◌∙◌, sym, ap, arith, eqb}
use Rattle.std.specs.List.{list_any, find, IsDistinct, AllByRecursion}
use Rattle.std.proofs.lemmas.List.{length-map}
use Rattle.std.proofs.lemmas.Map.Steps.{length-le_from_distinct_below}
use Rattle.std.proofs.lemmas.Map.Keys.{IsDistinct-cons}
use Rattle.futex.specs.declared.waiters.Waiter.{Waiter}
use Rattle.futex.specs.Waiting.{is_of, threads_of, without}
use Rattle.futex.specs.Kept.{AreApart, other_than}

-- nothing is found: not at the front, and not behind it
none_found : (b : Bool) (w : Waiter) (o : Option Waiter) → (if b then Some w else o) ≡ None → (b ≡ false) × (o ≡ None)
none_found true w o h = cc
none_found false w o h = (refl, h)

flipped : (a b : ℕ) → (a == b) ≡ false → (b == a) ≡ false
flipped a b h = grind arith

-- ---- one waiter more

find_more : (i : ℕ) (ws : List Waiter) (w : Waiter) → find (is_of i) ws ≡ None → (w.thread == i) ≡ false → find (is_of i) (ws ++ w ∷ []) ≡ None
find_more i [] w h k = rw k refl
find_more i (v ∷ ws) w h k = let p = none_found (v.thread == i) v (find (is_of i) ws) h in rw p.0 (find_more i ws w p.1 k)

pub apart_more : (ws : List Waiter) (w : Waiter) → AreApart ws → w.thread < 64 → find (is_of w.thread) ws ≡ None → AreApart (ws ++ w ∷ [])
apart_more [] w a below h = (below, refl, tt)
apart_more (v ∷ ws) w (small, alone, rest) below h =
    let p = none_found (v.thread == w.thread) v (find (is_of w.thread) ws) h in
    (small, find_more v.thread ws w alone (flipped v.thread w.thread p.0), apart_more ws w rest below p.1)

-- ---- some waiters kept

find_kept : (p : Waiter → Bool) (i : ℕ) (ws : List Waiter) → find (is_of i) ws ≡ None → find (is_of i) (filter p ws) ≡ None
find_kept p i [] h = refl
find_kept p i (w ∷ ws) h =
    let q = none_found (w.thread == i) w (find (is_of i) ws) h in
    elim (p w) as (λ b. find (is_of i) (if b then w ∷ filter p ws else filter p ws) ≡ None) [ true ↦ rw q.0 (find_kept p i ws q.1) | false ↦ find_kept p i ws q.1 ]

apart_filter : (p : Waiter → Bool) (ws : List Waiter) → AreApart ws → AreApart (filter p ws)
apart_filter p [] a = tt
apart_filter p (w ∷ ws) (small, alone, rest) =
    elim (p w) as (λ b. AreApart (if b then w ∷ filter p ws else filter p ws)) [ true ↦ (small, find_kept p w.thread ws alone, apart_filter p ws rest) | false ↦ apart_filter p ws rest ]

pub apart_kept : (gone : List ℕ) (ws : List Waiter) → AreApart ws → AreApart (other_than gone ws)
apart_kept gone ws a = apart_filter (λ w. not (list_any (λ t. t == w.thread) gone)) ws a

-- ---- who is kept

among : (i : ℕ) (gone : List Waiter) → list_any (λ t. t == i) (threads_of gone) ≡ list_any (is_of i) gone
among i [] = refl
among i (w ∷ ws) = ap (λ b. (w.thread == i) || b) (among i ws)

same_kept : (p q : Waiter → Bool) → ((w : Waiter) → p w ≡ q w) → (ws : List Waiter) → filter p ws ≡ filter q ws
same_kept p q e [] = refl
same_kept p q e (w ∷ ws) = rw (e w, same_kept p q e ws) refl

pub kept_is_without : (gone ws : List Waiter) → other_than (threads_of gone) ws ≡ without gone ws
kept_is_without gone ws =
    same_kept (λ w. not (list_any (λ t. t == w.thread) (threads_of gone))) (λ w. not (list_any (is_of w.thread) gone)) (λ w. ap not (among w.thread gone)) ws

at_front : (i : ℕ) (v w : Waiter) (o : Option Waiter) (b : Bool) → (v.thread == i) ≡ b → (if b then Some v else o) ≡ Some w → (o ≡ Some w → w.thread ≡ i) → w.thread ≡ i
at_front i v w o true k h behind =
    let same : v ≡ w = cc in
    let e : v.thread ≡ i = grind arith in
    sym (ap (λ (x : Waiter). x.thread) same) ∙ e
at_front i v w o false k h behind = behind h

found_is : (i : ℕ) (ws : List Waiter) (w : Waiter) → find (is_of i) ws ≡ Some w → w.thread ≡ i
found_is i [] w h = cc
found_is i (v ∷ ws) w h = at_front i v w (find (is_of i) ws) (v.thread == i) refl h (found_is i ws w)

pub one_is_without : (i : ℕ) (ws : List Waiter) (w : Waiter) → find (is_of i) ws ≡ Some w → other_than (i ∷ []) ws ≡ without (w ∷ []) ws
one_is_without i ws w h = sym (ap (λ t. other_than (t ∷ []) ws) (found_is i ws w h)) ∙ kept_is_without (w ∷ []) ws

-- ---- how many there are

none_same : (k : ℕ) (ws : List Waiter) → find (is_of k) ws ≡ None → AllByRecursion (λ y. eqb k y ≡ false) (threads_of ws)
none_same k [] h = tt
none_same k (w ∷ ws) h = let p = none_found (w.thread == k) w (find (is_of k) ws) h in (flipped w.thread k p.0, none_same k ws p.1)

distinct : (ws : List Waiter) → AreApart ws → IsDistinct eqb (threads_of ws)
unfolding IsDistinct
distinct [] a = tt
distinct (w ∷ ws) (small, alone, rest) = IsDistinct-cons eqb w.thread (threads_of ws) (none_same w.thread ws alone) (distinct ws rest)

below_if : (q t : ℕ) (b : Bool) (others : Bool) → eqb q t ≡ b → (b || others) ≡ true → t < 64 → (others ≡ true → q < 64) → q < 64
below_if q t true others e h small behind = let same : q ≡ t = grind arith in omega arith
below_if q t false others e h small behind = behind h

below : (ws : List Waiter) → AreApart ws → (q : ℕ) → list_any (eqb q) (threads_of ws) ≡ true → q < 64
below [] a q h = cc
below (w ∷ ws) (small, alone, rest) q h = below_if q w.thread (eqb q w.thread) (list_any (eqb q) (threads_of ws)) refl h small (below ws rest q)

pub few : (ws : List Waiter) → AreApart ws → length ws ≤ 64
few ws a =
    let many : length (threads_of ws) ≡ length ws = length-map ws (λ (w : Waiter). w.thread) in
    omega (arith, length-le_from_distinct_below (threads_of ws) 64 (distinct ws a) (below ws a), many)
