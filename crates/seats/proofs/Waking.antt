-- Threads that wait, and those that run again.
use Rattle.std.specs.Prelude.{◌≡◌, ◌≢◌, ℕ, zero, suc, ◌+◌, ◌<◌, ◌≤◌, ◌==◌, Bool, true, false, ◌&&◌, ◌||◌, not, List, [], ◌∷◌, ◌++◌, Option, Some, None, Result, Ok, Err, filter, take, is_some, length, slice_get, IsSome, IfSome, OnOk, OnErr, if◌then◌else◌, refl}
use Rattle.std.specs.List.{list_any, find}
use Rattle.std.proofs.Common.{sym, ◌∙◌, ap, subst, arith, set, get_or}
use Rattle.std.proofs.lemmas.Option.{slice_get_within, get_or_from_slice_get, same_Some}
use Rattle.std.proofs.lemmas.List.{length-set, take_more}
use Rattle.mu_values.specs.declared.scalars.Scalar.{Scalar}
use Rattle.mu_values.specs.declared.cells.CellId.{CellId}
use Rattle.stacks.specs.Stacks.{Bound}
use Rattle.stacks.specs.Directories.{Entry}
use Rattle.mu_threads.specs.Threads.{Threads, there, stack_of, with_state, IsLeft}
use Rattle.mu_threads.specs.declared.state.ThreadState.{ThreadState}
use Rattle.mu_threads.specs.declared.state.ThreadState.TheVariants.{Runs, Waits, Ended}
use Rattle.futex.specs.declared.waiters.Waiter.{Waiter}
use Rattle.futex.specs.Waiting.{is_of, is_at, oldest_at, threads_of, without}
use Rattle.mu_model.specs.Step.{is_blocked}
use Rattle.seats.specs.Seats.{Seats}
use Rattle.seats.specs.Kept.{threads_seen, stacks_seen, seats_seen, state_seen, states_seen, waiting_if, running, all_running, HeldAreLeft, AllBelow, AreBelow, IsSound}
use Rattle.seats.proofs.Threads.{is_left, many_states, states_same}
use Rattle.seats.proofs.Seen.{IsSeated}

-- ---- states, where one thread is blocked or no longer

states_behind : (p q : ℕ → Bool) (n : ℕ) (bs : List (Option Bound)) → ((j : ℕ) → n ≤ j → q j ≡ p j) → states_seen p n bs ≡ states_seen q n bs
states_behind p q n [] e = refl
states_behind p q n (x ∷ bs) e = rw (e n (omega arith), states_behind p q (suc n) bs (λ j h. e j (omega (arith, h)))) refl

pub states_written : (p q : ℕ → Bool) (n : ℕ) (bs : List (Option Bound)) (i k : ℕ) (b : Bound) → k ≡ n + i → slice_get bs i ≡ Some (Some b) → ((j : ℕ) → j ≢ k → q j ≡ p j) → set (states_seen p n bs) i (if q k then Waits else Runs) ≡ states_seen q n bs
states_written p q n [] i k b e at same = cc
states_written p q n (None ∷ bs) zero k b e at same = cc
states_written p q n (Some x ∷ bs) zero k b e at same =
    let here : k ≡ n = omega (arith, e) in
    ap (λ m. (if q m then Waits else Runs) ∷ states_seen p (suc n) bs) here
    ∙ ap (λ ss. state_seen (q n) (Some x) ∷ ss) (states_behind p q (suc n) bs (λ j h. same j (λ f. absurd (omega (arith, h, f, here)))))
states_written p q n (x ∷ bs) (suc i) k b e at same =
    let behind : k ≡ suc n + i = omega (arith, e) in
    let head : q n ≡ p n = same n (λ f. absurd (omega (arith, f, behind))) in
    rw head (ap (λ ss. state_seen (p n) x ∷ ss) (states_written p q (suc n) bs i k b behind at same))

pub states_unwritten : (p q : ℕ → Bool) (n : ℕ) (bs : List (Option Bound)) (i k : ℕ) → k ≡ n + i → there (slice_get bs i) ≡ None → ((j : ℕ) → j ≢ k → q j ≡ p j) → states_seen p n bs ≡ states_seen q n bs
states_unwritten p q n [] i k e at same = refl
states_unwritten p q n (Some x ∷ bs) zero k e at same = cc
states_unwritten p q n (None ∷ bs) zero k e at same =
    let here : k ≡ n = omega (arith, e) in
    ap (λ ss. Ended ∷ ss) (states_behind p q (suc n) bs (λ j h. same j (λ f. absurd (omega (arith, h, f, here)))))
states_unwritten p q n (x ∷ bs) (suc i) k e at same =
    let behind : k ≡ suc n + i = omega (arith, e) in
    let head : q n ≡ p n = same n (λ f. absurd (omega (arith, f, behind))) in
    rw head (ap (λ ss. state_seen (p n) x ∷ ss) (states_unwritten p q (suc n) bs i k behind at same))

-- ---- threads that run again

abbrev pub but : (ℕ → Bool) → ℕ → ℕ → Bool
but p i j = p j && not (i == j)

but_here : (p : ℕ → Bool) (i : ℕ) → but p i i ≡ false
but_here p i = let same : (i == i) ≡ true = grind arith in rw same (elim (p i) as (λ b. (b && false) ≡ false) [ true ↦ refl | false ↦ refl ])

but_elsewhere : (p : ℕ → Bool) (i j : ℕ) → j ≢ i → but p i j ≡ p j
but_elsewhere p i j apart =
    let other : (i == j) ≡ false = grind (arith, apart) in
    rw other (elim (p j) as (λ b. (b && true) ≡ b) [ true ↦ refl | false ↦ refl ])

runs_if : (p : ℕ → Bool) (t : Threads) (i : ℕ) (o : Option (Option Bound)) → slice_get t.stacks i ≡ o → t.states ≡ states_seen p 0 t.stacks → (if is_some (there o) then with_state t i Runs else t) ≡ record { states = states_seen (but p i) 0 t.stacks; stacks = t.stacks }
runs_if p t i None at e = ap (λ ss. record { states = ss; stacks = t.stacks }) (e ∙ states_unwritten p (but p i) 0 t.stacks i i (omega arith) (ap there at) (but_elsewhere p i))
runs_if p t i (Some None) at e = ap (λ ss. record { states = ss; stacks = t.stacks }) (e ∙ states_unwritten p (but p i) 0 t.stacks i i (omega arith) (ap there at) (but_elsewhere p i))
runs_if p t i (Some (Some b)) at e =
    ap (λ ss. record { states = ss; stacks = t.stacks })
    (ap (λ ss. set ss i Runs) e
    ∙ ap (λ v. set (states_seen p 0 t.stacks) i (if v then Waits else Runs)) (sym (but_here p i))
    ∙ states_written p (but p i) 0 t.stacks i i b (omega arith) at (but_elsewhere p i))

pub runs_again : (p : ℕ → Bool) (t : Threads) (i : ℕ) → t.states ≡ states_seen p 0 t.stacks → running t i ≡ record { states = states_seen (but p i) 0 t.stacks; stacks = t.stacks }
runs_again p t i e = runs_if p t i (slice_get t.stacks i) refl e

two_less : (a b c : Bool) → ((a && not b) && not c) ≡ (a && not (b || c))
two_less true true c = refl
two_less true false c = refl
two_less false b c = refl

none_less : (a : Bool) → a ≡ (a && not false)
none_less true = refl
none_less false = refl

pub all_run_again : (is : List ℕ) (p : ℕ → Bool) (bs : List (Option Bound)) → all_running is (record { states = states_seen p 0 bs; stacks = bs }) ≡ record { states = states_seen (λ j. p j && not (list_any (λ i. i == j) is)) 0 bs; stacks = bs }
all_run_again [] p bs = ap (λ ss. record { states = ss; stacks = bs }) (states_same p (λ j. p j && not false) 0 bs (λ j. none_less (p j)))
all_run_again (i ∷ is) p bs =
    ap (all_running is) (runs_again p (record { states = states_seen p 0 bs; stacks = bs }) i refl)
    ∙ all_run_again is (but p i) bs
    ∙ ap (λ ss. record { states = ss; stacks = bs }) (states_same (λ j. but p i j && not (list_any (λ k. k == j) is)) (λ j. p j && not (list_any (λ k. k == j) (i ∷ is))) 0 bs (λ j. two_less (p j) (i == j) (list_any (λ k. k == j) is)))

-- ---- one more of them, for the loop

all_more : (is : List ℕ) (i : ℕ) (t : Threads) → all_running (is ++ i ∷ []) t ≡ running (all_running is t) i
all_more [] i t = refl
all_more (k ∷ is) i t = all_more is i (running t k)

taken : (is : List ℕ) (n i : ℕ) → slice_get is n ≡ Some i → take (n + 1) is ≡ take n is ++ i ∷ []
taken is n i at =
    let one : take (n + 1) is ≡ take n is ++ get_or is n i ∷ [] = take_more is n i (slice_get_within is n i at) in
    one ∙ ap (λ x. take n is ++ x ∷ []) (get_or_from_slice_get is n i i at)

pub runs_next : (is : List ℕ) (n i : ℕ) (t : Threads) → slice_get is n ≡ Some i → all_running (take (n + 1) is) t ≡ running (all_running (take n is) t) i
runs_next is n i t at = ap (λ xs. all_running xs t) (taken is n i at) ∙ all_more (take n is) i t

same_many_if : (v : Bool) (t : Threads) (i : ℕ) → length ((if v then with_state t i Runs else t).states) ≡ length t.states
same_many_if true t i = length-set t.states i Runs
same_many_if false t i = refl

same_many : (is : List ℕ) (t : Threads) → length ((all_running is t).states) ≡ length t.states
same_many [] t = refl
same_many (i ∷ is) t = same_many is (running t i) ∙ same_many_if (is_some (stack_of t i)) t i

below_at : (m : ℕ) (is : List ℕ) (n i : ℕ) → AllBelow m is → slice_get is n ≡ Some i → i < m
below_at m [] n i h at = cc
below_at m (k ∷ is) zero i (one, rest) at = let same : k ≡ i = same_Some k i at in omega (arith, one, same)
below_at m (k ∷ is) (suc n) i (one, rest) at = below_at m is n i rest at

pub next_made : (is : List ℕ) (m n i : ℕ) (t : Threads) → AllBelow (length t.states) is → slice_get is n ≡ Some i → i < length ((all_running (take m is) t).states)
next_made is m n i t h at = omega (arith, below_at (length t.states) is n i h at, same_many (take m is) t)

-- ---- blocked threads, once some waiters are gone

among : (j : ℕ) (gone : List Waiter) → list_any (λ t. t == j) (threads_of gone) ≡ list_any (is_of j) gone
among j [] = refl
among j (w ∷ gone) = ap (λ b. (w.thread == j) || b) (among j gone)

less : (a rest gone keep : Bool) → (a ≡ true → keep ≡ not gone) → (if keep then (a || (rest && not gone)) else (rest && not gone)) ≡ ((a || rest) && not gone)
less true rest true true h = absurd (let e : true ≡ false = h refl in cc)
less true rest true false h = elim rest as (λ r. (r && false) ≡ false) [ true ↦ refl | false ↦ refl ]
less true rest false true h = refl
less true rest false false h = absurd (let e : false ≡ true = h refl in cc)
less false rest gone true h = refl
less false rest gone false h = refl

first_of : (a b : Bool) → (a && b) ≡ true → a ≡ true
first_of true b h = refl
first_of false b h = cc

is_that : (a b : ℕ) → (a == b) ≡ true → a ≡ b
is_that a b h = grind arith

kept_if : (gone ws : List Waiter) (w : Waiter) (j : ℕ) (keep : Bool) → is_blocked (if keep then w ∷ without gone ws else without gone ws) j ≡ (if keep then (((w.thread == j) && not w.timed) || is_blocked (without gone ws) j) else is_blocked (without gone ws) j)
kept_if gone ws w j true = refl
kept_if gone ws w j false = refl

pub blocked_without : (gone ws : List Waiter) (j : ℕ) → is_blocked (without gone ws) j ≡ (is_blocked ws j && not (list_any (λ t. t == j) (threads_of gone)))
blocked_without gone [] j = refl
blocked_without gone (w ∷ ws) j =
    let a = (w.thread == j) && not w.timed in
    let g = list_any (λ t. t == j) (threads_of gone) in
    let keep = not (list_any (is_of w.thread) gone) in
    let link : a ≡ true → keep ≡ not g = λ h. ap not (ap (λ k. list_any (is_of k) gone) (is_that w.thread j (first_of (w.thread == j) (not w.timed) h)) ∙ sym (among j gone)) in
    kept_if gone ws w j keep
    ∙ ap (λ r. if keep then (a || r) else r) (blocked_without gone ws j)
    ∙ less a (is_blocked ws j) g keep link

-- ---- one waiter more

one_more : (a b c : Bool) → (a || (b || false)) ≡ (a || b)
one_more a true c = refl
one_more a false c = refl

any_more : (ws : List Waiter) (w : Waiter) (j : ℕ) → is_blocked (ws ++ w ∷ []) j ≡ (is_blocked ws j || ((w.thread == j) && not w.timed))
any_more [] w j = elim ((w.thread == j) && not w.timed) as (λ b. (b || false) ≡ b) [ true ↦ refl | false ↦ refl ]
any_more (v ∷ ws) w j =
    let a = (v.thread == j) && not v.timed in
    ap (λ r. a || r) (any_more ws w j)
    ∙ elim a as (λ b. (b || (is_blocked ws j || ((w.thread == j) && not w.timed))) ≡ ((b || is_blocked ws j) || ((w.thread == j) && not w.timed))) [ true ↦ refl | false ↦ refl ]

or_false : (a : Bool) → (a || false) ≡ a
or_false true = refl
or_false false = refl

or_true : (a : Bool) → (a || true) ≡ true
or_true true = refl
or_true false = refl

and_false : (a : Bool) → (a && false) ≡ false
and_false true = refl
and_false false = refl

waiter_elsewhere : (ws : List Waiter) (w : Waiter) (j : ℕ) → j ≢ w.thread → is_blocked (ws ++ w ∷ []) j ≡ is_blocked ws j
waiter_elsewhere ws w j apart =
    let other : (w.thread == j) ≡ false = grind (arith, apart) in
    any_more ws w j ∙ ap (λ b. is_blocked ws j || (b && not w.timed)) other ∙ or_false (is_blocked ws j)

blocks_not : (ws : List Waiter) (w : Waiter) (j : ℕ) → w.timed ≡ true → is_blocked ws j ≡ is_blocked (ws ++ w ∷ []) j
blocks_not ws w j e =
    sym (any_more ws w j ∙ ap (λ b. is_blocked ws j || ((w.thread == j) && not b)) e ∙ ap (λ b. is_blocked ws j || b) (and_false (w.thread == j)) ∙ or_false (is_blocked ws j))

blocks : (ws : List Waiter) (w : Waiter) → w.timed ≡ false → is_blocked (ws ++ w ∷ []) w.thread ≡ true
blocks ws w e =
    let same : (w.thread == w.thread) ≡ true = grind arith in
    any_more ws w w.thread ∙ ap (λ b. is_blocked ws w.thread || ((w.thread == w.thread) && not b)) e ∙ ap (λ b. is_blocked ws w.thread || (b && true)) same ∙ or_true (is_blocked ws w.thread)

waits_if : (timed : Bool) (t : Threads) (ws : List Waiter) (w : Waiter) (b : Bound) → w.timed ≡ timed → slice_get t.stacks w.thread ≡ Some (Some b) → t.states ≡ states_seen (is_blocked ws) 0 t.stacks → waiting_if timed t w.thread ≡ record { states = states_seen (is_blocked (ws ++ w ∷ [])) 0 t.stacks; stacks = t.stacks }
waits_if true t ws w b k at e =
    ap (λ ss. record { states = ss; stacks = t.stacks }) (e ∙ states_same (is_blocked ws) (is_blocked (ws ++ w ∷ [])) 0 t.stacks (λ j. blocks_not ws w j k))
waits_if false t ws w b k at e =
    ap (λ ss. record { states = ss; stacks = t.stacks })
    (ap (λ ss. set ss w.thread Waits) e
    ∙ ap (λ v. set (states_seen (is_blocked ws) 0 t.stacks) w.thread (if v then Waits else Runs)) (sym (blocks ws w k))
    ∙ states_written (is_blocked ws) (is_blocked (ws ++ w ∷ [])) 0 t.stacks w.thread w.thread b (omega arith) at (waiter_elsewhere ws w))

below_pushed : (n : ℕ) (ws : List Waiter) (w : Waiter) → AreBelow n ws → w.thread < n → AreBelow n (ws ++ w ∷ [])
below_pushed n [] w h one = (one, tt)
below_pushed n (v ∷ ws) w (first, rest) one = (first, below_pushed n ws w rest one)

below_filter : (n : ℕ) (p : Waiter → Bool) (ws : List Waiter) → AreBelow n ws → AreBelow n (filter p ws)
below_filter n p [] h = tt
below_filter n p (w ∷ ws) (one, rest) = elim (p w) as (λ b. AreBelow n (if b then w ∷ filter p ws else filter p ws)) [ true ↦ (one, below_filter n p ws rest) | false ↦ below_filter n p ws rest ]

below_take : (n k : ℕ) (ws : List Waiter) → AreBelow n ws → AllBelow n (threads_of (take k ws))
below_take n zero ws h = tt
below_take n (suc k) [] h = tt
below_take n (suc k) (w ∷ ws) (one, rest) = (one, below_take n k ws rest)

-- ---- threads that hold a stack stay left

left_set : (ss : List ThreadState) (i j : ℕ) → IsLeft (slice_get ss j) → IsLeft (slice_get (set ss i Runs) j)
left_set [] i j h = h
left_set (s ∷ ss) zero zero h = tt
left_set (s ∷ ss) zero (suc j) h = h
left_set (s ∷ ss) (suc i) zero h = h
left_set (s ∷ ss) (suc i) (suc j) h = left_set ss i j h

still_left_if : (v : Bool) (t : Threads) (i : ℕ) → HeldAreLeft t → HeldAreLeft (if v then with_state t i Runs else t)
still_left_if true t i h j held = left_set t.states i j (h j held)
still_left_if false t i h j held = h j held

pub still_left : (is : List ℕ) (t : Threads) → HeldAreLeft t → HeldAreLeft (all_running is t)
still_left [] t h = h
still_left (i ∷ is) t h = still_left is (running t i) (still_left_if (is_some (stack_of t i)) t i h)

pub ruleset run_on = (runs_next, next_made, still_left)

-- ---- what the container needs

left_if : (bs : List (Option Bound)) (i : ℕ) (o : Option (Option Bound)) → slice_get bs i ≡ o → IsSome (there o) → (p : ℕ → Bool) → IsLeft (slice_get (states_seen p 0 bs) i)
left_if bs i None e h p = cc
left_if bs i (Some None) e h p = cc
left_if bs i (Some (Some b)) e h p = is_left p 0 bs i b e

pub held_are_left : (t : Threads) (es : List Entry) (owns : List Scalar) (room : ℕ) (ws : List Waiter) → IsSound t.states t.stacks es owns room ws → HeldAreLeft t
held_are_left t es owns room ws sound i h =
    subst (λ (ss : List ThreadState). IsLeft (slice_get ss i)) (sym sound.states_fit) (left_if t.stacks i (slice_get t.stacks i) refl h (is_blocked ws))

pub seat_left : (t : Threads) (es : List Entry) (owns : List Scalar) (room : ℕ) (ws : List Waiter) (s : Seats) (i : ℕ) → IsSound t.states t.stacks es owns room ws → IsSeated t.stacks owns s i → IsLeft (slice_get t.states i)
seat_left t es owns room ws s i sound h = held_are_left t es owns room ws sound i (ap (λ o. is_some (there o)) h.listed)

pub seat_below : (t : Threads) (es : List Entry) (owns : List Scalar) (room : ℕ) (ws : List Waiter) (s : Seats) (i : ℕ) → IsSound t.states t.stacks es owns room ws → IsSeated t.stacks owns s i → i < 64
seat_below t es owns room ws s i sound h = omega (arith, slice_get_within t.stacks i (Some h.stack) h.listed, sound.few)

pub goes_on : (bs : List (Option Bound)) (owns : List Scalar) (es : List Entry) (ws : List Waiter) (s : Seats) (i : ℕ) → seats_seen bs owns es ws ≡ s → find (is_of i) s.waiters ≡ None → find (is_of i) ws ≡ None
goes_on bs owns es ws s i v h = ap (λ (x : Seats). find (is_of i) x.waiters) v ∙ h

pub waits_there : (bs : List (Option Bound)) (owns : List Scalar) (es : List Entry) (ws : List Waiter) (s : Seats) (i : ℕ) → seats_seen bs owns es ws ≡ s → IsSome (find (is_of i) s.waiters) → IsSome (find (is_of i) ws)
waits_there bs owns es ws s i v h = subst (λ (x : Seats). IsSome (find (is_of i) x.waiters)) (sym v) h

-- ---- a thread waits

waited_sound : (t u : Threads) (es : List Entry) (owns : List Scalar) (room : ℕ) (ws new : List Waiter) (s : Seats) (w : Waiter) → IsSound t.states t.stacks es owns room ws → IsSeated t.stacks owns s w.thread → u ≡ waiting_if w.timed t w.thread → new ≡ ws ++ w ∷ [] → IsSound u.states u.stacks es owns room new
waited_sound t u es owns room ws new s w sound h e f =
    let now = e ∙ waits_if w.timed t ws w h.stack refl h.listed sound.states_fit in
    rw (now, f)
    (record {
      states_fit = refl;
      agree = sound.agree;
      even = sound.even;
      few = sound.few;
      room_fits = sound.room_fits;
      below = below_pushed (length t.stacks) ws w sound.below (slice_get_within t.stacks w.thread (Some h.stack) h.listed);
    })

pub wait_sound : {E : Type 0} (t u : Threads) (es : List Entry) (owns : List Scalar) (room : ℕ) (ws new : List Waiter) (s : Seats) (w : Waiter) (r : Result (Unit {0}) E) → IsSound t.states t.stacks es owns room ws → IsSeated t.stacks owns s w.thread → OnOk r (u ≡ waiting_if w.timed t w.thread) → OnOk r (new ≡ ws ++ w ∷ []) → OnErr r (u ≡ t) → OnErr r (new ≡ ws) → IsSound u.states u.stacks es owns room new
wait_sound t u es owns room ws new s w (Ok n) sound h e f g k = waited_sound t u es owns room ws new s w sound h e f
wait_sound t u es owns room ws new s w (Err n) sound h e f g k = rw (g, k) sound

same_stacks_if : (timed : Bool) (t : Threads) (i : ℕ) → (waiting_if timed t i).stacks ≡ t.stacks
same_stacks_if true t i = refl
same_stacks_if false t i = refl

pub wait_seen : {E : Type 0} (t u : Threads) (es : List Entry) (owns : List Scalar) (ws new : List Waiter) (s : Seats) (w : Waiter) (r : Result (Unit {0}) E) → seats_seen t.stacks owns es ws ≡ s → OnOk r (u ≡ waiting_if w.timed t w.thread) → OnOk r (new ≡ ws ++ w ∷ []) → OnOk r (seats_seen u.stacks owns es new ≡ record s { waiters = s.waiters ++ w ∷ [] })
wait_seen t u es owns ws new s w (Err n) v e f = tt
wait_seen t u es owns ws new s w (Ok n) v e f =
    ap (λ bs. seats_seen bs owns es new) (ap (λ (x : Threads). x.stacks) e ∙ same_stacks_if w.timed t w.thread)
    ∙ ap (λ vs. record { threads = threads_seen t.stacks owns; stacks = stacks_seen t.stacks es; waiters = vs }) f
    ∙ ap (λ (x : Seats). record x { waiters = x.waiters ++ w ∷ [] }) v

pub wait_same : {E : Type 0} (t u : Threads) (es : List Entry) (owns : List Scalar) (ws new : List Waiter) (s : Seats) (r : Result (Unit {0}) E) → seats_seen t.stacks owns es ws ≡ s → OnErr r (u ≡ t) → OnErr r (new ≡ ws) → OnErr r (seats_seen u.stacks owns es new ≡ s)
wait_same t u es owns ws new s (Ok n) v e f = tt
wait_same t u es owns ws new s (Err n) v e f = rw (e, f) v

-- ---- threads run again

woken_states : (t : Threads) (gone ws : List Waiter) → t.states ≡ states_seen (is_blocked ws) 0 t.stacks → all_running (threads_of gone) t ≡ record { states = states_seen (is_blocked (without gone ws)) 0 t.stacks; stacks = t.stacks }
woken_states t gone ws e =
    ap (λ ss. all_running (threads_of gone) (record { states = ss; stacks = t.stacks })) e
    ∙ all_run_again (threads_of gone) (is_blocked ws) t.stacks
    ∙ ap (λ ss. record { states = ss; stacks = t.stacks }) (states_same (λ j. is_blocked ws j && not (list_any (λ i. i == j) (threads_of gone))) (is_blocked (without gone ws)) 0 t.stacks (λ j. sym (blocked_without gone ws j)))

pub woken_sound : (t u : Threads) (es : List Entry) (owns : List Scalar) (room : ℕ) (gone ws new : List Waiter) → IsSound t.states t.stacks es owns room ws → u ≡ all_running (threads_of gone) t → new ≡ without gone ws → IsSound u.states u.stacks es owns room new
woken_sound t u es owns room gone ws new sound e f =
    let now = e ∙ woken_states t gone ws sound.states_fit in
    rw (now, f)
    (record {
      states_fit = refl;
      agree = sound.agree;
      even = sound.even;
      few = sound.few;
      room_fits = sound.room_fits;
      below = below_filter (length t.stacks) (λ w. not (list_any (is_of w.thread) gone)) ws sound.below;
    })

pub woken_seen : (t u : Threads) (es : List Entry) (owns : List Scalar) (room : ℕ) (gone ws new : List Waiter) (s : Seats) → seats_seen t.stacks owns es ws ≡ s → IsSound t.states t.stacks es owns room ws → u ≡ all_running (threads_of gone) t → new ≡ without gone ws → seats_seen u.stacks owns es new ≡ record s { waiters = without gone s.waiters }
woken_seen t u es owns room gone ws new s v sound e f =
    let now = e ∙ woken_states t gone ws sound.states_fit in
    ap (λ (x : Threads). seats_seen x.stacks owns es new) now
    ∙ ap (λ vs. record { threads = threads_seen t.stacks owns; stacks = stacks_seen t.stacks es; waiters = vs }) f
    ∙ ap (λ (x : Seats). record x { waiters = without gone x.waiters }) v

-- those that wait at a cell
pub woken_made : (t : Threads) (es : List Entry) (owns : List Scalar) (room : ℕ) (ws : List Waiter) (cell : CellId) (many : ℕ) → IsSound t.states t.stacks es owns room ws → AllBelow (length t.states) (threads_of (oldest_at cell many ws))
woken_made t es owns room ws cell many sound =
    subst (λ n. AllBelow n (threads_of (oldest_at cell many ws))) (sym (ap length sound.states_fit ∙ many_states (is_blocked ws) 0 t.stacks))
    (below_take (length t.stacks) many (filter (is_at cell) ws) (below_filter (length t.stacks) (is_at cell) ws sound.below))

pub others_told : (t u : Threads) (es : List Entry) (owns : List Scalar) (room : ℕ) (ws new : List Waiter) (s : Seats) (cell : CellId) (many : ℕ) → seats_seen t.stacks owns es ws ≡ s → IsSound t.states t.stacks es owns room ws → u ≡ all_running (threads_of (oldest_at cell many ws)) t → new ≡ without (oldest_at cell many ws) ws → seats_seen u.stacks owns es new ≡ record s { waiters = without (oldest_at cell many s.waiters) s.waiters }
others_told t u es owns room ws new s cell many v sound e f =
    woken_seen t u es owns room (oldest_at cell many ws) ws new s v sound e f
    ∙ ap (λ (x : Seats). record s { waiters = without (oldest_at cell many x.waiters) s.waiters }) v

-- one thread that waits
found_thread : (i : ℕ) (ws : List Waiter) (w : Waiter) → find (is_of i) ws ≡ Some w → (w.thread ≡ i) × ((n : ℕ) → AreBelow n ws → i < n)
found_thread i [] w h = cc
found_thread i (v ∷ ws) w h =
    elim (v.thread == i) as (λ b. (v.thread == i) ≡ b → (if b then Some v else find (is_of i) ws) ≡ Some w → (w.thread ≡ i) × ((n : ℕ) → AreBelow n (v ∷ ws) → i < n)) [
      | true ↦ λ k e.
          let same = is_that v.thread i k in
          (sym (ap (λ (x : Waiter). x.thread) (same_Some v w e)) ∙ same, λ n below. omega (arith, same, below.0))
      | false ↦ λ k e. let p = found_thread i ws w e in (p.0, λ n below. p.1 n below.1)
    ] refl h

some_waiter : (i : ℕ) (ws : List Waiter) (o : Option Waiter) → find (is_of i) ws ≡ o → IsSome o → (n : ℕ) → AreBelow n ws → i < n
some_waiter i ws None e h n below = cc
some_waiter i ws (Some w) e h n below = (found_thread i ws w e).1 n below

pub stopped_made : (t : Threads) (es : List Entry) (owns : List Scalar) (room : ℕ) (ws : List Waiter) (i : ℕ) → IsSound t.states t.stacks es owns room ws → IsSome (find (is_of i) ws) → i < length t.states
stopped_made t es owns room ws i sound h =
    subst (λ n. i < n) (sym (ap length sound.states_fit ∙ many_states (is_blocked ws) 0 t.stacks))
    (some_waiter i ws (find (is_of i) ws) refl h (length t.stacks) sound.below)

one_running : (t u : Threads) (i : ℕ) (ws : List Waiter) (w : Waiter) → find (is_of i) ws ≡ Some w → u ≡ running t i → u ≡ all_running (threads_of (w ∷ [])) t
one_running t u i ws w h e = e ∙ ap (λ k. running t k) (sym ((found_thread i ws w h).0))

stopped_sound_at : (t u : Threads) (es : List Entry) (owns : List Scalar) (room : ℕ) (ws new : List Waiter) (i : ℕ) (o : Option Waiter) → find (is_of i) ws ≡ o → IsSome o → IsSound t.states t.stacks es owns room ws → u ≡ running t i → IfSome o (λ w. new ≡ without (w ∷ []) ws) → IsSound u.states u.stacks es owns room new
stopped_sound_at t u es owns room ws new i None k h sound e f = cc
stopped_sound_at t u es owns room ws new i (Some w) k h sound e f = woken_sound t u es owns room (w ∷ []) ws new sound (one_running t u i ws w k e) f

pub stopped_sound : (t u : Threads) (es : List Entry) (owns : List Scalar) (room : ℕ) (ws new : List Waiter) (i : ℕ) → IsSome (find (is_of i) ws) → IsSound t.states t.stacks es owns room ws → u ≡ running t i → IfSome (find (is_of i) ws) (λ w. new ≡ without (w ∷ []) ws) → IsSound u.states u.stacks es owns room new
stopped_sound t u es owns room ws new i h sound e f = stopped_sound_at t u es owns room ws new i (find (is_of i) ws) refl h sound e f

stopped_seen_at : (t u : Threads) (es : List Entry) (owns : List Scalar) (room : ℕ) (ws new : List Waiter) (s : Seats) (i : ℕ) (o : Option Waiter) → find (is_of i) ws ≡ o → seats_seen t.stacks owns es ws ≡ s → IsSound t.states t.stacks es owns room ws → u ≡ running t i → IfSome o (λ w. new ≡ without (w ∷ []) ws) → IfSome o (λ w. seats_seen u.stacks owns es new ≡ record s { waiters = without (w ∷ []) s.waiters })
stopped_seen_at t u es owns room ws new s i None k v sound e f = tt
stopped_seen_at t u es owns room ws new s i (Some w) k v sound e f = woken_seen t u es owns room (w ∷ []) ws new s v sound (one_running t u i ws w k e) f

pub stopped_seen : (t u : Threads) (es : List Entry) (owns : List Scalar) (room : ℕ) (ws new : List Waiter) (s : Seats) (i : ℕ) → seats_seen t.stacks owns es ws ≡ s → IsSound t.states t.stacks es owns room ws → u ≡ running t i → IfSome (find (is_of i) ws) (λ w. new ≡ without (w ∷ []) ws) → IfSome (find (is_of i) s.waiters) (λ w. seats_seen u.stacks owns es new ≡ record s { waiters = without (w ∷ []) s.waiters })
stopped_seen t u es owns room ws new s i v sound e f =
    subst (λ (x : Seats). IfSome (find (is_of i) x.waiters) (λ w. seats_seen u.stacks owns es new ≡ record s { waiters = without (w ∷ []) s.waiters })) v
    (stopped_seen_at t u es owns room ws new s i (find (is_of i) ws) refl v sound e f)
