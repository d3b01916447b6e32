-- Laws of wakes.
use Rattle.std.specs.Prelude.{◌≡◌, ◌≢◌, ℕ, zero, suc, ◌+◌, ◌<◌, ◌==◌, nat_lt, Bool, true, false, List, [], ◌∷◌, ◌++◌, Option, Some, None, IsSome, Result, length, find, filter, take, reverse, slice_get, slice_set, if◌then◌else◌, refl}
use Rattle.std.proofs.Common.{sym, ◌∙◌, ap, subst, arith}
use Rattle.std.proofs.lemmas.Bool.Decides.{nat_tests}
use Rattle.std.proofs.lemmas.Option.{same_Some}
use Rattle.std.proofs.lemmas.List.{append-nil, append_assoc, reverse-append}
use Rattle.ir_tree.specs.declared.items.Item.{Item}
use Rattle.mu_values.specs.declared.scalars.Scalar.{Scalar}
use Rattle.mu_values.specs.declared.scalars.Scalar.TheVariants.{Int, Place}
use Rattle.mu_values.specs.declared.cells.CellId.{CellId}
use Rattle.typed_heap.specs.declared.faults.PlaceFault.{PlaceFault}
use Rattle.typed_heap.specs.Places.{with_some, cell_of}
use Rattle.frames.specs.Activations.{Activation}
use Rattle.frames.specs.Chains.{frames_of}
use Rattle.mem_axioms.specs.declared.types.Event.{Event}
use Rattle.mem_axioms.specs.declared.types.Kind.TheVariants.{Woken}
use Rattle.mem_axioms.specs.EventFits.{is_thread, wakes_at}
use Rattle.mem_axioms.specs.Lemmas.Fitting.{thread-same, thread-stays, wake-stays}
use Rattle.mu_model.specs.declared.lines.Line.{Line}
use Rattle.mu_model.specs.declared.lines.Line.TheVariants as lines
use Rattle.mu_model.specs.Acts as acts
use Rattle.mu_model.specs.Acts.{Doing, Program}
use Rattle.mu_model.specs.Changes.{logged, stack_becomes}
use Rattle.futex.specs.declared.waiters.Waiter.{Waiter}
use Rattle.mu_model.specs.Configuration.{Stack, Ready, Active, Dead, Thread, Configuration}
use Rattle.mu_model.specs.Frames.{passed}
use Rattle.mu_model.specs.Outcomes.{Outcome, Next, Stuck, on, next, onto, has_result}
use Rattle.mu_model.specs.Turns.{Turn, active_on, turn_at, turn_of}
use Rattle.futex.specs.Waiting.{is_at, is_of, without, threads_of, oldest_at}
use Rattle.mu_model.specs.Waiting.{was_woken, wakes_one, wakes_all, wakes_these}
use Rattle.model_numbers.specs.Numbered.{numbered}
use Rattle.futex.specs.Kept.{AreApart}
use Rattle.run_state.specs.Held.{Held, held_stacks}
use Rattle.run_state.specs.Acting.{begun, turn, doing_of, went_with, acting, goes_on}
use Rattle.memory_acts.specs.FutexLaws.{found_or, tried_found, tried_at}
use Rattle.run_state.specs.StepLaws.{set_again, set_there, get_below, on_there, on_is, with_there, with_is, acting_there, acting_is}
use Rattle.wake_acts.specs.Waking.{frames_at, behind, goes_behind, all_go, IsOther, AreDistinct, wake_event, woken_event, logs_woken, woken_lines, AreThreads}

-- ---- lists with elements written

pub get_apart : {A : Type 0} (xs : List A) (m n : ℕ) (a : A) → m ≢ n → slice_get (slice_set xs m a) n ≡ slice_get xs n
get_apart [] m n a h = refl
get_apart (x ∷ xs) zero zero a h = absurd (h refl)
get_apart (x ∷ xs) zero (suc n) a h = refl
get_apart (x ∷ xs) (suc m) zero a h = refl
get_apart (x ∷ xs) (suc m) (suc n) a h = get_apart xs m n a (λ e. h (ap suc e))

pub set_apart : {A : Type 0} (xs : List A) (m n : ℕ) (a b : A) → m ≢ n → slice_set (slice_set xs m a) n b ≡ slice_set (slice_set xs n b) m a
set_apart [] m n a b h = refl
set_apart (x ∷ xs) zero zero a b h = absurd (h refl)
set_apart (x ∷ xs) zero (suc n) a b h = refl
set_apart (x ∷ xs) (suc m) zero a b h = refl
set_apart (x ∷ xs) (suc m) (suc n) a b h = ap (λ ys. x ∷ ys) (set_apart xs m n a b (λ e. h (ap suc e)))

pub set_many : {A : Type 0} (xs : List A) (n : ℕ) (a : A) → length (slice_set xs n a) ≡ length xs
set_many [] n a = refl
set_many (x ∷ xs) zero a = refl
set_many (x ∷ xs) (suc n) a = ap suc (set_many xs n a)

-- ---- the stack of a thread

pub record IsSeated (ts : List (Option Thread)) (ss : List Stack) (i k : ℕ) (fs : List Activation) : Type 0 where
  pub seat : Thread
  pub there : slice_get ts i ≡ Some (Some seat)
  pub on : seat.stack ≡ k
  pub stack : slice_get ss k ≡ Some (Active i fs)

active_if : (i j : ℕ) (gs fs : List Activation) (b : Bool) → (j == i) ≡ b → (if b then Some gs else None) ≡ Some fs → Active j gs ≡ Active i fs
active_if i j gs fs true e h =
    let number : j ≡ i = grind arith in
    let frames : gs ≡ fs = cc in
    ap (λ n. Active n gs) number ∙ ap (Active i) frames
active_if i j gs fs false e h = cc

pub active_is : (i : ℕ) (s : Stack) (fs : List Activation) → active_on i s ≡ Some fs → s ≡ Active i fs
active_is i (Ready gs) fs h = cc
active_is i (Active j gs) fs h = active_if i j gs fs (j == i) refl h
active_is i Dead fs h = cc

same_is : (i : ℕ) → (i == i) ≡ true
same_is i = grind arith

pub active_there : (i : ℕ) (fs : List Activation) → active_on i (Active i fs) ≡ Some fs
active_there i fs = ap (λ (b : Bool). if b then Some fs else None) (same_is i)

pub seated_from : (ts : List (Option Thread)) (ss : List Stack) (i k : ℕ) (fs : List Activation) → frames_at ts ss i ≡ Some (k, fs) → IsSeated ts ss i k fs
seated_from ts ss i k fs h =
    let a = with_there (slice_get ts i) (λ o. with_some o (λ (t : Thread). with_some (slice_get ss t.stack) (λ k. with_some (active_on i k) (λ fs. Some (t.stack, fs))))) (k, fs) h in
    let t = with_there a.0 (λ (t : Thread). with_some (slice_get ss t.stack) (λ k. with_some (active_on i k) (λ fs. Some (t.stack, fs)))) (k, fs) a.2 in
    let s = with_there (slice_get ss t.0.stack) (λ k. with_some (active_on i k) (λ fs. Some (t.0.stack, fs))) (k, fs) t.2 in
    let g = with_there (active_on i s.0) (λ fs. Some (t.0.stack, fs)) (k, fs) s.2 in
    let both : (t.0.stack, g.0) ≡ (k, fs) = same_Some (t.0.stack, g.0) (k, fs) g.2 in
    let number : t.0.stack ≡ k = ap (λ (p : ℕ × List Activation). p.0) both in
    let frames : g.0 ≡ fs = ap (λ (p : ℕ × List Activation). p.1) both in
    record {
      seat = t.0;
      there = a.1 ∙ ap Some t.1;
      on = number;
      stack = ap (slice_get ss) (sym number) ∙ s.1 ∙ ap Some (active_is i s.0 g.0 g.1 ∙ ap (Active i) frames);
    }

pub seated_at : (ts : List (Option Thread)) (ss : List Stack) (i k : ℕ) (fs : List Activation) → IsSeated ts ss i k fs → frames_at ts ss i ≡ Some (k, fs)
seated_at ts ss i k fs h =
    with_is (slice_get ts i) (Some h.seat) (λ o. with_some o (λ (t : Thread). with_some (slice_get ss t.stack) (λ k. with_some (active_on i k) (λ fs. Some (t.stack, fs))))) h.there
    ∙ with_is (slice_get ss h.seat.stack) (Active i fs) (λ k. with_some (active_on i k) (λ fs. Some (h.seat.stack, fs))) (ap (slice_get ss) h.on ∙ h.stack)
    ∙ with_is (active_on i (Active i fs)) fs (λ fs. Some (h.seat.stack, fs)) (active_there i fs)
    ∙ ap (λ k. Some (k, fs)) h.on

number_of : Stack → ℕ
number_of (Active i fs) = i
number_of (Ready fs) = 0
number_of Dead = 0

number_same : (ss : List Stack) (k i j : ℕ) (fs gs : List Activation) → slice_get ss k ≡ Some (Active i fs) → slice_get ss k ≡ Some (Active j gs) → i ≡ j
unfolding number_of
number_same ss k i j fs gs a b = let same : Active i fs ≡ Active j gs = cc in ap number_of same

-- ---- one thread that goes on

pub record Goes (bundle : List Item) (ts : List (Option Thread)) (i : ℕ) (ss out : List Stack) : Type 0 where
  pub stack : ℕ
  pub frames : List Activation
  pub now : List Activation
  pub seated : IsSeated ts ss i stack frames
  pub behind_is : behind bundle frames ≡ Some now
  pub is : slice_set ss stack (Active i now) ≡ out

pub goes_from : (bundle : List Item) (ts : List (Option Thread)) (i : ℕ) (ss out : List Stack) → goes_behind bundle ts i ss ≡ Some out → Goes bundle ts i ss out
goes_from bundle ts i ss out h =
    let a = with_there (frames_at ts ss i) (λ at. with_some (behind bundle at.1) (λ fs. Some (slice_set ss at.0 (Active i fs)))) out h in
    let b = with_there (behind bundle a.0.1) (λ fs. Some (slice_set ss a.0.0 (Active i fs))) out a.2 in
    let is : slice_set ss a.0.0 (Active i b.0) ≡ out = let found = b.2 in cc in
    record { stack = a.0.0; frames = a.0.1; now = b.0; seated = seated_from ts ss i a.0.0 a.0.1 a.1; behind_is = b.1; is = is }

pub goes_at : (bundle : List Item) (ts : List (Option Thread)) (i k : ℕ) (ss : List Stack) (fs gs : List Activation) → IsSeated ts ss i k fs → behind bundle fs ≡ Some gs → goes_behind bundle ts i ss ≡ Some (slice_set ss k (Active i gs))
goes_at bundle ts i k ss fs gs seated e =
    with_is (frames_at ts ss i) (k, fs) (λ at. with_some (behind bundle at.1) (λ fs. Some (slice_set ss at.0 (Active i fs)))) (seated_at ts ss i k fs seated)
    ∙ with_is (behind bundle fs) gs (λ fs. Some (slice_set ss k (Active i fs))) e

-- ---- all that go on: the first of them may as well be the last

pub record GoLast (bundle : List Item) (ts : List (Option Thread)) (js : List ℕ) (ss out : List Stack) (i k : ℕ) (fs gs : List Activation) : Type 0 where
  pub rest : List Stack
  pub go : all_go bundle ts js ss ≡ Some rest
  pub seated : IsSeated ts rest i k fs
  pub is : slice_set rest k (Active i gs) ≡ out

other_seat : (ts : List (Option Thread)) (ss : List Stack) (i j k m : ℕ) (fs gs hs : List Activation) → j ≢ i → IsSeated ts ss i k fs → IsSeated ts (slice_set ss k (Active i gs)) j m hs → (m ≢ k) × IsSeated ts ss j m hs
other_seat ts ss i j k m fs gs hs apart seated other =
    let low = get_below ss k (Active i fs) seated.stack in
    let here = set_there ss k (Active i gs) low in
    let different : m ≢ k = λ e. apart (number_same (slice_set ss k (Active i gs)) k j i hs gs (ap (slice_get (slice_set ss k (Active i gs))) (sym e) ∙ other.stack) here) in
    (different, record { seat = other.seat; there = other.there; on = other.on; stack = sym (get_apart ss k m (Active i gs) (λ e. different (sym e))) ∙ other.stack })

pub go_last : (bundle : List Item) (ts : List (Option Thread)) (is : List ℕ) (ss out : List Stack) (i k : ℕ) (fs gs : List Activation) → IsOther i is → IsSeated ts ss i k fs
    → all_go bundle ts is (slice_set ss k (Active i gs)) ≡ Some out → GoLast bundle ts is ss out i k fs gs
unfolding all_go
go_last bundle ts [] ss out i k fs gs other seated h =
    let is : slice_set ss k (Active i gs) ≡ out = cc in
    record { rest = ss; go = refl; seated = seated; is = is }
go_last bundle ts (j ∷ is) ss out i k fs gs (apart, other) seated h =
    let first = with_there (goes_behind bundle ts j (slice_set ss k (Active i gs))) (all_go bundle ts is) out h in
    let g = goes_from bundle ts j (slice_set ss k (Active i gs)) first.0 first.1 in
    let q = other_seat ts ss i j k g.stack fs gs g.frames apart seated g.seated in
    let mid = slice_set ss g.stack (Active j g.now) in
    let here : IsSeated ts mid i k fs = record { seat = seated.seat; there = seated.there; on = seated.on; stack = get_apart ss g.stack k (Active j g.now) q.0 ∙ seated.stack } in
    let swapped : slice_set mid k (Active i gs) ≡ first.0 = sym (set_apart ss k g.stack (Active i gs) (Active j g.now) (λ e. q.0 (sym e))) ∙ g.is in
    let r = go_last bundle ts is mid out i k fs gs other here (ap (all_go bundle ts is) swapped ∙ first.2) in
    record {
      rest = r.rest;
      go = ap (λ o. with_some o (all_go bundle ts is)) (goes_at bundle ts j g.stack ss g.frames g.now q.1 g.behind_is) ∙ r.go;
      seated = r.seated;
      is = r.is;
    }

-- ---- events of those that are woken

pub woken_threads : (e : Event) (log : List Event) (is : List ℕ) → AreThreads log is → AreThreads (e ∷ log) is
woken_threads e log [] h = tt
woken_threads e log (i ∷ is) (one, rest) = (thread-stays log e i one, woken_threads e log is rest)

pub logs_same : (wake : ℕ) (is : List ℕ) (log : List Event) (j : ℕ) → is_thread (logs_woken wake is log) j ≡ is_thread log j
unfolding logs_woken
logs_same wake [] log j = refl
logs_same wake (i ∷ is) log j = logs_same wake is (woken_event wake i ∷ log) j ∙ thread-same log (woken_event wake i) j refl

pub logs_many : (wake : ℕ) (is : List ℕ) (log : List Event) → length (logs_woken wake is log) ≡ length is + length log
unfolding logs_woken
logs_many wake [] log = omega arith
logs_many wake (i ∷ is) log = let more = logs_many wake is (woken_event wake i ∷ log) in omega (arith, more)

pub next_wakes : (wake : ℕ) (e : Event) (log : List Event) → wakes_at log wake ≡ true → wakes_at (e ∷ log) wake ≡ true
next_wakes wake e log h = wake-stays log e wake h

-- ---- how many stacks there are, and whose they are

pub all_go_many : (bundle : List Item) (ts : List (Option Thread)) (is : List ℕ) (ss out : List Stack) → all_go bundle ts is ss ≡ Some out → length out ≡ length ss
unfolding all_go
all_go_many bundle ts [] ss out h = let same : ss ≡ out = cc in ap length (sym same)
all_go_many bundle ts (i ∷ is) ss out h =
    let first = with_there (goes_behind bundle ts i ss) (all_go bundle ts is) out h in
    let g = goes_from bundle ts i ss first.0 first.1 in
    all_go_many bundle ts is first.0 out first.2 ∙ ap length (sym g.is) ∙ set_many ss g.stack (Active i g.now)

below_so : (a b : ℕ) → a < b → nat_lt a b ≡ true
below_so a b h = grind (arith, nat_tests)

pub all_threads : (bundle : List Item) (ts : List (Option Thread)) (is : List ℕ) (ss out : List Stack) (log : List Event) → ((i : ℕ) → is_thread log i ≡ nat_lt i (length ts)) → all_go bundle ts is ss ≡ Some out → AreThreads log is
unfolding all_go
all_threads bundle ts [] ss out log made h = tt
all_threads bundle ts (i ∷ is) ss out log made h =
    let first = with_there (goes_behind bundle ts i ss) (all_go bundle ts is) out h in
    let g = goes_from bundle ts i ss first.0 first.1 in
    (made i ∙ below_so i (length ts) (get_below ts i (Some g.seated.seat) g.seated.there), all_threads bundle ts is first.0 out log made first.2)

-- ---- who is woken

none_found : (b : Bool) (w : Waiter) (o : Option Waiter) → (if b then Some w else o) ≡ None → (b ≡ false) × (o ≡ None)
none_found true w o h = cc
none_found false w o h = (refl, h)

unequal : (a b : ℕ) → (a == b) ≡ false → a ≢ b
unequal a b h = λ e. let same : (a == b) ≡ true = grind arith in cc

others : (i : ℕ) (ws : List Waiter) → find (is_of i) ws ≡ None → IsOther i (threads_of ws)
others i [] h = tt
others i (w ∷ ws) h = let p = none_found (w.thread == i) w (find (is_of i) ws) h in (unequal w.thread i p.0, others i ws p.1)

others_filter : (i : ℕ) (test : Waiter → Bool) (ws : List Waiter) → IsOther i (threads_of ws) → IsOther i (threads_of (filter test ws))
others_filter i test [] h = tt
others_filter i test (w ∷ ws) (one, rest) = elim (test w) as (λ b. IsOther i (threads_of (if b then w ∷ filter test ws else filter test ws))) [ true ↦ (one, others_filter i test ws rest) | false ↦ others_filter i test ws rest ]

others_take : (i n : ℕ) (ws : List Waiter) → IsOther i (threads_of ws) → IsOther i (threads_of (take n ws))
others_take i zero ws h = tt
others_take i (suc n) [] h = tt
others_take i (suc n) (w ∷ ws) (one, rest) = (one, others_take i n ws rest)

apart_distinct : (ws : List Waiter) → AreApart ws → AreDistinct (threads_of ws)
apart_distinct [] h = tt
apart_distinct (w ∷ ws) (small, alone, rest) = (others w.thread ws alone, apart_distinct ws rest)

distinct_filter : (test : Waiter → Bool) (ws : List Waiter) → AreDistinct (threads_of ws) → AreDistinct (threads_of (filter test ws))
distinct_filter test [] h = tt
distinct_filter test (w ∷ ws) (one, rest) =
    elim (test w) as (λ b. AreDistinct (threads_of (if b then w ∷ filter test ws else filter test ws))) [ true ↦ (others_filter w.thread test ws one, distinct_filter test ws rest) | false ↦ distinct_filter test ws rest ]

distinct_take : (n : ℕ) (ws : List Waiter) → AreDistinct (threads_of ws) → AreDistinct (threads_of (take n ws))
distinct_take zero ws h = tt
distinct_take (suc n) [] h = tt
distinct_take (suc n) (w ∷ ws) (one, rest) = (others_take w.thread n ws one, distinct_take n ws rest)

pub oldest_distinct : (cell : CellId) (many : ℕ) (ws : List Waiter) → AreApart ws → AreDistinct (threads_of (oldest_at cell many ws))
oldest_distinct cell many ws h = distinct_take many (filter (is_at cell) ws) (distinct_filter (is_at cell) ws (apart_distinct ws h))

oldest_others : (i : ℕ) (cell : CellId) (many : ℕ) (ws : List Waiter) → find (is_of i) ws ≡ None → IsOther i (threads_of (oldest_at cell many ws))
oldest_others i cell many ws h = others_take i many (filter (is_at cell) ws) (others_filter i (is_at cell) ws (others i ws h))

pub threads_many : (ws : List Waiter) → length (threads_of ws) ≡ length ws
threads_many [] = refl
threads_many (w ∷ ws) = ap suc (threads_many ws)

-- ---- what the abstract machine makes of it

-- a step that has written these lines
abbrev lined : Held → List Line → Configuration
lined s ls = record (begun s) { lines = ls }

record TurnAt (bundle : List Item) (s : Held) (i : ℕ) (u : Turn) : Type 0 where
  pub thread : u.thread ≡ i
  pub apart : u.stack ≢ s.stack
  pub seated : IsSeated s.seats.threads s.seats.stacks i u.stack (u.top ∷ u.below)

turn_parts : (p : Program) (i k : ℕ) (fs : List Activation) (u : Turn) → turn_at p i k fs ≡ Some u → (u.thread ≡ i) × (u.stack ≡ k) × (fs ≡ u.top ∷ u.below)
turn_parts p i k [] u h = cc
turn_parts p i k (f ∷ fs) u h =
    let r = with_there (p.doing f.block f.at f.vars) (λ d. Some (record { thread = i; stack = k; top = f; below = fs; doing = d })) u h in
    let same : record { thread = i; stack = k; top = f; below = fs; doing = r.0 } ≡ u = let found = r.2 in cc in
    (ap (λ (u : Turn). u.thread) (sym same), ap (λ (u : Turn). u.stack) (sym same), ap (λ (u : Turn). u.top ∷ u.below) same)

turn_there : (bundle : List Item) (s : Held) (ls : List Line) (i : ℕ) (u : Turn) → i ≢ s.thread → s.stack < length s.seats.stacks → turn_of (numbered bundle) (lined s ls) i ≡ Some u → TurnAt bundle s i u
turn_there bundle s ls i u other within h =
    let p = numbered bundle in
    let at : Thread → Option Turn = λ t. with_some (slice_get (held_stacks s) t.stack) (λ k. with_some (active_on i k) (turn_at p i t.stack)) in
    let a = with_there (slice_get s.seats.threads i) (λ o. with_some o at) u h in
    let t = with_there a.0 at u a.2 in
    let k = with_there (slice_get (held_stacks s) t.0.stack) (λ k. with_some (active_on i k) (turn_at p i t.0.stack)) u t.2 in
    let g = with_there (active_on i k.0) (turn_at p i t.0.stack) u k.2 in
    let q = turn_parts p i t.0.stack g.0 u g.2 in
    let there : slice_get (held_stacks s) u.stack ≡ Some (Active i (u.top ∷ u.below)) = ap (slice_get (held_stacks s)) q.1 ∙ k.1 ∙ ap Some (active_is i k.0 g.0 g.1 ∙ ap (Active i) q.2) in
    let own : slice_get (held_stacks s) s.stack ≡ Some (Active s.thread (frames_of s.frames)) = set_there s.seats.stacks s.stack (Active s.thread (frames_of s.frames)) within in
    let apart : u.stack ≢ s.stack = λ e. other (number_same (held_stacks s) s.stack i s.thread (u.top ∷ u.below) (frames_of s.frames) (ap (slice_get (held_stacks s)) (sym e) ∙ there) own) in
    record {
      thread = q.0;
      apart = apart;
      seated = record { seat = t.0; there = a.1 ∙ ap Some t.1; on = sym q.1; stack = sym (get_apart s.seats.stacks s.stack u.stack (Active s.thread (frames_of s.frames)) (λ e. apart (sym e))) ∙ there };
    }

-- one that is woken
abbrev woke_one : Held → ℕ → ℕ → List Stack → Held
woke_one s wake i ss = record s { log = woken_event wake i ∷ s.log; seats = record s.seats { stacks = ss } }

record WakesOne (bundle : List Item) (wake i : ℕ) (s : Held) (ls : List Line) (c : Configuration) : Type 0 where
  pub stacks : List Stack
  pub go : goes_behind bundle s.seats.threads i s.seats.stacks ≡ Some stacks
  pub is : lined (woke_one s wake i stacks) (lines.Event (length s.log) (woken_event wake i) ∷ ls) ≡ c

wakes_first : (bundle : List Item) (wake i : ℕ) (s : Held) (ls : List Line) (u : Turn) (c : Configuration) → TurnAt bundle s i u → wakes_one (numbered bundle) wake (lined s ls) u ≡ Some c → WakesOne bundle wake i s ls c
unfolding goes_on
wakes_first bundle wake i s ls u c t h =
    let p = numbered bundle in
    let own = Active s.thread (frames_of s.frames) in
    let b : Configuration = lined s ls in
    let r = with_there (passed p u.top ((was_woken ∷ []) ∷ [])) (λ f. Some (stack_becomes u.stack (Active u.thread (f ∷ u.below)) (logged u.thread (Woken wake) b))) c h in
    let now = r.0 ∷ u.below in
    let way : behind bundle (u.top ∷ u.below) ≡ Some now = ap (λ o. with_some o (λ g. Some (g ∷ u.below))) r.1 in
    let made : stack_becomes u.stack (Active u.thread now) (logged u.thread (Woken wake) b) ≡ c = let found = r.2 in cc in
    let number : stack_becomes u.stack (Active i now) (logged i (Woken wake) b) ≡ c = ap (λ n. stack_becomes u.stack (Active n now) (logged n (Woken wake) b)) (sym t.thread) ∙ made in
    record {
      stacks = slice_set s.seats.stacks u.stack (Active i now);
      go = goes_at bundle s.seats.threads i u.stack s.seats.stacks (u.top ∷ u.below) now t.seated way;
      is = ap (λ stacks. record (logged i (Woken wake) b) { stacks = stacks }) (set_apart s.seats.stacks u.stack s.stack (Active i now) own t.apart) ∙ number;
    }

record WakesAll (bundle : List Item) (wake : ℕ) (js : List ℕ) (s : Held) (ls : List Line) (d : Configuration) : Type 0 where
  pub stacks : List Stack
  pub go : all_go bundle s.seats.threads js s.seats.stacks ≡ Some stacks
  pub is : lined (record s { log = logs_woken wake js s.log; seats = record s.seats { stacks = stacks } }) (reverse (woken_lines wake js (length s.log)) ++ ls) ≡ d

one_behind : (x : Line) (xs ls : List Line) → reverse (x ∷ xs) ++ ls ≡ reverse xs ++ x ∷ ls
one_behind x xs ls = ap (λ ys. ys ++ ls) (reverse-append (x ∷ []) xs) ∙ append_assoc (reverse xs) (x ∷ []) ls

wakes_these_all : (bundle : List Item) (wake : ℕ) (ws : List Waiter) (s : Held) (ls : List Line) (d : Configuration) → IsOther s.thread (threads_of ws) → s.stack < length s.seats.stacks → wakes_all (numbered bundle) wake ws (lined s ls) ≡ Some d
    → WakesAll bundle wake (threads_of ws) s ls d
unfolding all_go logs_woken woken_lines
wakes_these_all bundle wake [] s ls d other within h =
    let same : lined s ls ≡ d = cc in
    record { stacks = s.seats.stacks; go = refl; is = same }
wakes_these_all bundle wake (w ∷ ws) s ls d (one, rest) within h =
    let p = numbered bundle in
    let go : Turn → Option Configuration = λ u. with_some (wakes_one p wake (lined s ls) u) (wakes_all p wake ws) in
    let t = with_there (turn_of p (lined s ls) w.thread) go d h in
    let c = with_there (wakes_one p wake (lined s ls) t.0) (wakes_all p wake ws) d t.2 in
    let at = turn_there bundle s ls w.thread t.0 one within t.1 in
    let q = wakes_first bundle wake w.thread s ls t.0 c.0 at c.1 in
    let now = woke_one s wake w.thread q.stacks in
    let x = lines.Event (length s.log) (woken_event wake w.thread) in
    let many : s.stack < length q.stacks = omega (arith, within, all_go_many bundle s.seats.threads (w.thread ∷ []) s.seats.stacks q.stacks (ap (λ o. with_some o (λ ss. Some ss)) q.go)) in
    let r = wakes_these_all bundle wake ws now (x ∷ ls) d rest many (ap (wakes_all p wake ws) q.is ∙ c.2) in
    record {
      stacks = r.stacks;
      go = ap (λ o. with_some o (all_go bundle s.seats.threads (threads_of ws))) q.go ∙ r.go;
      is = ap (lined (record now { log = logs_woken wake (threads_of ws) now.log; seats = record now.seats { stacks = r.stacks } })) (one_behind x (woken_lines wake (threads_of ws) (suc (length s.log))) ls) ∙ r.is;
    }

-- ---- a wake

-- at a cell that is there
unfoldable pub waking_at : List Item → Held → ℕ → CellId → Outcome
waking_at bundle s many cell = on (doing_of (numbered bundle) s) (λ d. wakes_these (numbered bundle) (begun s) (turn s d) cell (oldest_at cell many s.seats.waiters))

-- those that are woken
abbrev pub woken_of : Held → ℕ → CellId → List ℕ
woken_of s many cell = threads_of (oldest_at cell many s.seats.waiters)

-- the thread and all that it wakes go on
abbrev pub woke : Held → ℕ → CellId → List Stack → Activation → Held
woke s many cell ss f =
    record s {
      frames = record s.frames { top = f };
      seats = record s.seats { stacks = ss; waiters = without (oldest_at cell many s.seats.waiters) s.seats.waiters };
      log = logs_woken (length s.log) (woken_of s many cell) (wake_event s.thread cell (length (woken_of s many cell)) ∷ s.log);
    }

abbrev pub lines_of_wake : ℕ → ℕ → CellId → List ℕ → List Line
lines_of_wake i n cell is = lines.Event n (wake_event i cell (length is)) ∷ woken_lines n is (suc n)

pub record Wakes (bundle : List Item) (s : Held) (many : ℕ) (cell : CellId) : Type 0 where
  pub stacks : List Stack
  pub go : all_go bundle s.seats.threads (woken_of s many cell) s.seats.stacks ≡ Some stacks
  pub goes : IsSome (goes_on bundle s.frames.top ((Int 32 (length (woken_of s many cell)) ∷ []) ∷ []))
  pub is : (f : Activation) → goes_on bundle s.frames.top ((Int 32 (length (woken_of s many cell)) ∷ []) ∷ []) ≡ Some f
      → waking_at bundle s many cell ≡ went_with (woke s many cell stacks f) (reverse (lines_of_wake s.thread (length s.log) cell (woken_of s many cell)))

frames_some : (u : Turn) (o : Option Activation) (fs : List Activation) → with_some o (onto u) ≡ Some fs → IsSome o
frames_some u None fs h = cc
frames_some u (Some f) fs h = refl

ends_so : (p : Program) (s : Held) (d : Doing) (ls : List Line) (v : Scalar) (f : Activation) → passed p s.frames.top ((v ∷ []) ∷ []) ≡ Some f → has_result p (lined s ls) (turn s d) v ≡ went_with (record s { frames = record s.frames { top = f } }) ls
unfolding on went_with
ends_so p s d ls v f way =
    ap (λ o. next (lined s ls) (turn s d) (with_some o (onto (turn s d)))) way
    ∙ ap (λ stacks. Next (record (lined s ls) { stacks = stacks })) (set_again s.seats.stacks s.stack (Active s.thread (frames_of s.frames)) (Active s.thread (f ∷ s.frames.below)))

pub wakes : (bundle : List Item) (s : Held) (many : ℕ) (cell : CellId) → find (is_of s.thread) s.seats.waiters ≡ None → s.stack < length s.seats.stacks → waking_at bundle s many cell ≢ Stuck → Wakes bundle s many cell
unfolding waking_at goes_on
wakes bundle s many cell alone within h =
    let p = numbered bundle in
    let ws = oldest_at cell many s.seats.waiters in
    let is = threads_of ws in
    let n = length s.log in
    let start : Held = record s { log = wake_event s.thread cell (length ws) ∷ s.log; seats = record s.seats { waiters = without ws s.seats.waiters } } in
    let first = lines.Event n (wake_event s.thread cell (length ws)) in
    let d = on_there (doing_of p s) (λ d. wakes_these p (begun s) (turn s d) cell ws) h in
    let go : Configuration → Outcome = λ c. has_result p c (turn s d.0) (Int 32 (length ws)) in
    let c = on_there (wakes_all p n ws (lined start (first ∷ []))) go d.2 in
    let q = wakes_these_all bundle n ws start (first ∷ []) c.0 (oldest_others s.thread cell many s.seats.waiters alone) within c.1 in
    let after : Held = record start { log = logs_woken n is start.log; seats = record start.seats { stacks = q.stacks } } in
    let ls = reverse (woken_lines n is (suc n)) ++ first ∷ [] in
    let u = turn s d.0 in
    let r = on_there (with_some (passed p s.frames.top ((Int 32 (length ws) ∷ []) ∷ [])) (onto u)) _ (subst (λ c. go c ≢ Stuck) (sym q.is) c.2) in
    let count : length ws ≡ length is = sym (threads_many ws) in
    record {
      stacks = q.stacks;
      go = q.go;
      goes = subst (λ m. IsSome (passed p s.frames.top ((Int 32 m ∷ []) ∷ []))) count (frames_some u (passed p s.frames.top ((Int 32 (length ws) ∷ []) ∷ [])) r.0 r.1);
      is =
          λ f way.
          let way_so : passed p s.frames.top ((Int 32 (length ws) ∷ []) ∷ []) ≡ Some f = ap (λ m. passed p s.frames.top ((Int 32 m ∷ []) ∷ [])) count ∙ way in
          on_is (doing_of p s) d.0 (λ d. wakes_these p (begun s) (turn s d) cell ws) d.1
          ∙ on_is (wakes_all p n ws (lined start (first ∷ []))) c.0 go c.1
          ∙ ap go (sym q.is)
          ∙ ends_so p after d.0 ls (Int 32 (length ws)) f way_so
          ∙ ap (went_with (record after { frames = record s.frames { top = f } })) (sym (one_behind first (woken_lines n is (suc n)) []) ∙ append-nil (reverse (first ∷ woken_lines n is (suc n))))
          ∙ ap (λ m. went_with (record s { frames = record s.frames { top = f }; log = logs_woken n is (wake_event s.thread cell m ∷ s.log); seats = record s.seats { stacks = q.stacks; waiters = without ws s.seats.waiters } }) (reverse (lines.Event n (wake_event s.thread cell m) ∷ woken_lines n is (suc n)))) count;
    }

-- ---- the cell of a wake

wake_by : List Item → Held → ℕ → Doing → CellId → Outcome
wake_by bundle s many d cell = wakes_these (numbered bundle) (begun s) (turn s d) cell (oldest_at cell many s.seats.waiters)

pub wake_cell_there : (bundle : List Item) (s : Held) (many : ℕ) (cell : CellId) → acting bundle s (acts.Wakes many cell) ≢ Stuck → IsSome (cell_of s.objects (Place cell.object cell.at))
unfolding wake_by
wake_cell_there bundle s many cell h =
    let r = acting_there bundle s (acts.Wakes many cell) h in
    tried_found (numbered bundle) s r.0 (cell_of s.objects (Place cell.object cell.at)) (wake_by bundle s many r.0) r.2

pub wake_is : (bundle : List Item) (s : Held) (many : ℕ) (cell : CellId) (r : Result CellId PlaceFault) → acting bundle s (acts.Wakes many cell) ≢ Stuck
    → cell_of s.objects (Place cell.object cell.at) ≡ Some r → acting bundle s (acts.Wakes many cell) ≡ found_or bundle s (waking_at bundle s many) r
unfolding waking_at wake_by
wake_is bundle s many cell r h e =
    let d = acting_there bundle s (acts.Wakes many cell) h in
    acting_is bundle s (acts.Wakes many cell) d.0 d.1 ∙ tried_at bundle s d.0 (cell_of s.objects (Place cell.object cell.at)) r (wake_by bundle s many) d.1 e
