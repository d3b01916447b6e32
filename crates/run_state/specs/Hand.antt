-- Nothing that a reader believes of a run rests on this. It is the thread in hand, and how it is put down and taken up.
use Rattle.std.specs.Prelude.{◌≡◌, ◌≢◌, ℕ, zero, suc, ◌+◌, ◌<◌, ◌≤◌, ◌==◌, nat_lt, Bool, true, false, List, [], ◌∷◌, Option, Some, None, Result, Ok, Err, IfOk, IsSome, IsSomeAnd, drop, find, filter, length, not, slice_get, slice_set, if◌then◌else◌, refl}
use Rattle.std.proofs.Common.{sym, ◌∙◌, ap, subst, arith, inl, inr}
use Rattle.std.proofs.lemmas.Bool.Decides.{nat_tests, eqb_tells, leb_tells}
use Rattle.ir_tree.specs.declared.items.Item.{Item}
use Rattle.typed_heap.specs.Places.{with_some}
use Rattle.frames.specs.Activations.{Activation}
use Rattle.frames.specs.Chains.{Chain, frames_of}
use Rattle.mem_axioms.specs.EventFits.{is_thread}
use Rattle.mem_axioms.specs.Synchronizes.{makes_thread}
use Rattle.mem_axioms.specs.Lemmas.Fitting.{thread-same}
use Rattle.mem_axioms.specs.declared.types.Event.{Event}
use Rattle.mu_model.specs.declared.endings.StepEnd.{StepEnd}
use Rattle.mu_model.specs.declared.endings.StepEnd.TheVariants.{Went, Ended}
use Rattle.mu_model.specs.declared.endings.Ending.TheVariants.{Done, AllWaiting, Budget}
use Rattle.mu_values.specs.declared.cells.CellId.{CellId}
use Rattle.mu_model.specs.Clients.{Client}
use Rattle.futex.specs.declared.waiters.Waiter.{Waiter}
use Rattle.mu_model.specs.Configuration.{Stack, Active, Thread, Configuration}
use Rattle.mu_model.specs.Turns.{Turn, active_on, turn_at, turn_of}
use Rattle.futex.specs.Waiting.{is_of, cell_of}
use Rattle.mu_model.specs.Outcomes.{Outcome, End, Stuck, on}
use Rattle.mu_model.specs.Step.{threads_from, is_blocked, turned, turns, picked, picking_thread, ends_or_picks, step}
use Rattle.model_numbers.specs.Numbered.{numbered}
use Rattle.mu_threads.specs.Picks.{pick, picked_from}
use Rattle.seats.specs.Seats.{Seats, seat_of, IsOn, runnable_of}
use Rattle.client_hooks.specs.Ways.{Way}
use Rattle.run_state.specs.Held.{Held, ahead, held_stacks, configured, configuration}
use Rattle.run_state.specs.Outcome.{outcome_of}
use Rattle.run_state.specs.Acting.{begun, turn, doing_of, stepping, answers, told}
use Rattle.run_state.specs.StepLaws.{on_is, on_with, with_is, set_again, set_there, set_same, get_below, configuration_left}

-- ---- what is kept beside what is seen

-- the thread in hand is left, and on its stack; the threads that were made are those of the log
pub record IsSound (left : Bool) (thread stack : ℕ) (seats : Seats) (log : List Event) : Type 0 where
  pub on_stack : left ≡ true → IsOn seats thread stack
  pub within : left ≡ true → stack < length seats.stacks
  pub made : (i : ℕ) → is_thread log i ≡ nat_lt i (length seats.threads)

on_parts : (seats : Seats) (i k : ℕ) → IsOn seats i k → (t : Thread) × (slice_get seats.threads i ≡ Some (Some t)) × (t.stack ≡ k)
on_parts seats i k h = by (slice_get seats.threads i) refl h
  where
    by : (o : Option (Option Thread)) → slice_get seats.threads i ≡ o → IsSomeAnd (with_some o (λ t. t)) (λ (t : Thread). t.stack ≡ k) → (t : Thread) × (slice_get seats.threads i ≡ Some (Some t)) × (t.stack ≡ k)
    by None e h = absurd h
    by (Some None) e h = absurd h
    by (Some (Some t)) e h = (t, e, h)

below_so : (a b : ℕ) → a < b → nat_lt a b ≡ true
below_so a b h = grind (arith, nat_tests)

-- the thread in hand is one of the log
pub hand_made : (left : Bool) (thread stack : ℕ) (seats : Seats) (log : List Event) → IsSound left thread stack seats log → left ≡ true → is_thread log thread ≡ true
hand_made left thread stack seats log h e =
    let q = on_parts seats thread stack (h.on_stack e) in
    h.made thread ∙ below_so thread (length seats.threads) (get_below seats.threads thread (Some q.0) q.1)

-- an event that makes no thread
pub logged_sound : (left : Bool) (thread stack : ℕ) (seats : Seats) (log lg after : List Event) (e : Event) → IsSound left thread stack seats log → lg ≡ log → after ≡ e ∷ lg → ((i : ℕ) → makes_thread i e ≡ false) → IsSound left thread stack seats after
logged_sound left thread stack seats log lg after e h same added plain =
    let now : after ≡ e ∷ log = added ∙ ap (λ lg. e ∷ lg) same in
    record { on_stack = h.on_stack; within = h.within; made = λ i. ap (λ lg. is_thread lg i) now ∙ thread-same log e i (plain i) ∙ h.made i }

-- ---- a thread that is put down

-- what is in hand then means nothing
abbrev pub put_down : Held → Chain → Held
put_down s rest = record s { left = false; frames = rest; seats = record s.seats { stacks = held_stacks s } }

pub put_down_same : (s : Held) (rest : Chain) → s.left ≡ true → configuration (put_down s rest) ≡ configuration s
put_down_same s rest e = sym (configuration_left s e)

-- nothing is asked of an empty hand
pub hand_empty : (left : Bool) (thread stack : ℕ) (seats after : Seats) (log : List Event) → IsSound left thread stack seats log → after.threads ≡ seats.threads → IsSound false thread stack after log
hand_empty left thread stack seats after log h same =
    record { on_stack = λ e. cc; within = λ e. cc; made = λ i. h.made i ∙ ap (λ (ts : List (Option Thread)). nat_lt i (length ts)) (sym same) }

-- ---- a thread that is taken up

-- thread i is in hand, and the configuration is the same
pub record IsTakenUp (s t : Held) (i : ℕ) : Type 0 where
  pub left : t.left ≡ true
  pub thread : t.thread ≡ i
  pub same : configuration t ≡ configuration s
  pub client : t.client ≡ s.client
  pub picks : t.picks ≡ s.picks
  pub skip : t.skip ≡ s.skip

pub taken_already : (s : Held) (i : ℕ) → s.left ≡ true → s.thread ≡ i → IsTakenUp s s i
taken_already s i left thread = record { left = left; thread = thread; same = refl; client = refl; picks = refl; skip = refl }

-- another thread's frames are in hand now, and what was in hand stands in their place
abbrev pub lifted : Held → ℕ → ℕ → Chain → Held
lifted s i k frames =
    record s { thread = i; stack = k; frames = frames; left = true; seats = record s.seats { stacks = slice_set s.seats.stacks k (Active i (frames_of s.frames)) } }

pub lifted_up : (s : Held) (i k : ℕ) (frames : Chain) → s.left ≡ false → slice_get s.seats.stacks k ≡ Some (Active i (frames_of frames)) → IsTakenUp s (lifted s i k frames) i
lifted_up s i k frames empty there =
    let stacks : held_stacks (lifted s i k frames) ≡ s.seats.stacks =
    set_again s.seats.stacks k (Active i (frames_of s.frames)) (Active i (frames_of frames)) ∙ set_same s.seats.stacks k (Active i (frames_of frames)) there in
    record {
      left = refl;
      thread = refl;
      same = ap (configured s) stacks ∙ ap (λ (left : Bool). configured s (if left then held_stacks s else s.seats.stacks)) (sym empty);
      client = refl;
      picks = refl;
      skip = refl;
    }

pub set_length : {A : Type 0} (xs : List A) (n : ℕ) (a : A) → length (slice_set xs n a) ≡ length xs
set_length [] n a = refl
set_length (x ∷ xs) zero a = refl
set_length (x ∷ xs) (suc n) a = ap suc (set_length xs n a)

pub lifted_sound : (s : Held) (i k : ℕ) (frames : Chain) (log : List Event) → IsSound s.left s.thread s.stack s.seats log → IsOn s.seats i k → slice_get s.seats.stacks k ≡ Some (Active i (frames_of frames))
    → IsSound true i k (lifted s i k frames).seats log
lifted_sound s i k frames log h seated there =
    let low = get_below s.seats.stacks k (Active i (frames_of frames)) there in
    record { on_stack = λ e. seated; within = λ e. omega (arith, low, set_length s.seats.stacks k (Active i (frames_of s.frames))); made = h.made }

-- put down, and another one taken up
pub taken_then : (s t u : Held) (rest : Chain) (i : ℕ) → s.left ≡ true → t ≡ put_down s rest → IsTakenUp t u i → IsTakenUp s u i
taken_then s t u rest i left down up =
    record {
      left = up.left;
      thread = up.thread;
      same = up.same ∙ ap configuration down ∙ put_down_same s rest left;
      client = up.client ∙ ap (λ (s : Held). s.client) down;
      picks = up.picks ∙ ap (λ (s : Held). s.picks) down;
      skip = up.skip ∙ ap (λ (s : Held). s.skip) down;
    }

-- ---- which threads may be taken up

filter_there : (test : ℕ → Bool) (xs : List ℕ) (n i : ℕ) → slice_get (filter test xs) n ≡ Some i → (m : ℕ) × (slice_get xs m ≡ Some i)
filter_there test [] n i h = cc
filter_there test (x ∷ xs) n i h = by (test x) n h (λ n h. filter_there test xs n i h)
  where
    by : (b : Bool) (n : ℕ) → slice_get (if b then x ∷ filter test xs else filter test xs) n ≡ Some i → ((n : ℕ) → slice_get (filter test xs) n ≡ Some i → (m : ℕ) × (slice_get xs m ≡ Some i))
        → (m : ℕ) × (slice_get (x ∷ xs) m ≡ Some i)
    by true zero h more = (0, h)
    by true (suc n) h more = let r = more n h in (suc r.0, r.1)
    by false n h more = let r = more n h in (suc r.0, r.1)

seat_at : List (Option Thread) → ℕ → Option Thread
seat_at ts i = with_some (slice_get ts i) (λ t. t)

from_there : (k : ℕ) (ts : List (Option Thread)) (n i : ℕ) → slice_get (threads_from k ts) n ≡ Some i → (m : ℕ) × (i ≡ m + k) × IsSome (seat_at ts m)
unfolding seat_at
from_there k [] n i h = cc
from_there k (None ∷ ts) n i h = let r = from_there (suc k) ts n i h in (suc r.0, omega (arith, r.1), r.2)
from_there k (Some t ∷ ts) zero i h = let same : k ≡ i = cc in (0, omega (arith, same), refl)
from_there k (Some t ∷ ts) (suc n) i h = let r = from_there (suc k) ts n i h in (suc r.0, omega (arith, r.1), r.2)

pub runnable_there : (seats : Seats) (n i : ℕ) → slice_get (runnable_of seats) n ≡ Some i → IsSome (seat_of seats i)
unfolding seat_at
runnable_there seats n i h =
    let r = filter_there (λ i. not (is_blocked seats.waiters i)) (threads_from 0 seats.threads) n i h in
    let q = from_there 0 seats.threads r.0 i r.1 in
    let same : q.0 ≡ i = omega (arith, q.1) in
    subst (λ i. IsSome (seat_at seats.threads i)) same q.2

-- ---- the step, once a thread is taken up

same_is : (i : ℕ) → (i == i) ≡ true
same_is i = elim (eqb_tells i i) [ inl t ↦ t.0 | inr f ↦ absurd (f.1 refl) ]

active_there : (i : ℕ) (fs : List Activation) → active_on i (Active i fs) ≡ Some fs
active_there i fs = ap (λ (b : Bool). if b then Some fs else None) (same_is i)

pub turn_there : (bundle : List Item) (t : Held) → IsOn t.seats t.thread t.stack → t.stack < length t.seats.stacks
    → turn_of (numbered bundle) (begun t) t.thread ≡ with_some (doing_of (numbered bundle) t) (λ d. Some (turn t d))
turn_there bundle t seated within =
    let p = numbered bundle in
    let q = on_parts t.seats t.thread t.stack seated in
    let at : ℕ → Option Turn = λ k. with_some (slice_get (held_stacks t) k) (λ s. with_some (active_on t.thread s) (turn_at p t.thread k)) in
    with_is (slice_get t.seats.threads t.thread) (Some q.0) (λ o. with_some o (λ (t : Thread). at t.stack)) q.1 ∙ ap at q.2
    ∙ with_is (slice_get (held_stacks t) t.stack) (Active t.thread (frames_of t.frames)) (λ s. with_some (active_on t.thread s) (turn_at p t.thread t.stack)) (set_there t.seats.stacks t.stack (Active t.thread (frames_of t.frames)) within)
    ∙ with_is (active_on t.thread (Active t.thread (frames_of t.frames))) (frames_of t.frames) (turn_at p t.thread t.stack) (active_there t.thread (frames_of t.frames))

turns_there : (bundle : List Item) (t : Held) → IsOn t.seats t.thread t.stack → t.stack < length t.seats.stacks → turns (numbered bundle) (begun t) t.thread ≡ stepping bundle t
unfolding stepping
turns_there bundle t seated within =
    let go = turned (numbered bundle) (begun t) (find (is_of t.thread) t.seats.waiters) in
    ap (λ o. on o go) (turn_there bundle t seated within) ∙ on_with (doing_of (numbered bundle) t) (turn t) go

picks_one : (bundle : List Item) (c : Configuration) (ts is : List ℕ) (n i : ℕ) → (ts ≡ [] → is ≡ []) → slice_get is n ≡ Some i → c.steps < c.budget → ends_or_picks (numbered bundle) c ts is ≡ picking_thread (numbered bundle) c is
picks_one bundle c ts [] n i none there room = cc
picks_one bundle c [] (j ∷ is) n i none there room = let no = none refl in cc
picks_one bundle c (t ∷ ts) (j ∷ is) n i none there room =
    elim (eqb_tells c.steps c.budget) [
      | inl e ↦ absurd (omega (arith, e.1, room))
      | inr e ↦ ap (λ (b : Bool). if b then End [] (Budget c.steps) else picking_thread (numbered bundle) c (j ∷ is)) e.0
    ]

none_filtered : (test : ℕ → Bool) (xs : List ℕ) → xs ≡ [] → filter test xs ≡ []
none_filtered test xs e = ap (filter test) e

-- so many may be picked from, and the one that is picked is in hand
pub step_is : (bundle : List Item) (s t : Held) (many : ℕ) → many ≡ length (runnable_of s.seats) → s.steps < s.budget → IsSound t.left t.thread t.stack t.seats t.log → t.left ≡ true → configuration (record t { skip = s.skip }) ≡ configuration s
    → slice_get (runnable_of s.seats) (pick many (ahead s)).0 ≡ Some t.thread → ahead t ≡ (pick many (ahead s)).1 → step (numbered bundle) (configuration s) ≡ stepping bundle t
step_is bundle s t many count room sound left same there rest =
    let p = numbered bundle in
    let c = configuration s in
    let is = runnable_of s.seats in
    let k = pick (length is) (ahead s) in
    let at : slice_get is k.0 ≡ Some t.thread = ap (λ m. slice_get is (pick m (ahead s)).0) (sym count) ∙ there in
    let picks : k.1 ≡ ahead t = ap (λ m. (pick m (ahead s)).1) (sym count) ∙ sym rest in
    let now : c ≡ configured (record t { skip = s.skip }) (held_stacks t) = sym same ∙ configuration_left (record t { skip = s.skip }) left in
    let begins : picked c k.1 ≡ begun t = ap (λ c. picked c k.1) now ∙ ap (λ ps. picked (configured (record t { skip = s.skip }) (held_stacks t)) ps) picks in
    picks_one bundle c (threads_from 0 s.seats.threads) is k.0 t.thread (none_filtered (λ i. not (is_blocked s.seats.waiters i)) (threads_from 0 s.seats.threads)) at room
    ∙ on_is (slice_get is k.0) t.thread (turns p (picked c k.1)) at ∙ ap (λ c. turns p c t.thread) begins ∙ turns_there bundle t (sound.on_stack left) (sound.within left)

-- ---- what a pick takes

more_picked : (many : ℕ) (ps : List ℕ) → drop 1 ps ≡ (picked_from many ps).1
more_picked many [] = refl
more_picked many (p ∷ ps) = refl

rest_is : (many k : ℕ) (ps : List ℕ) → (1 < many → k ≡ 1) → (many ≤ 1 → k ≡ 0) → drop k ps ≡ (pick many ps).1
rest_is many k ps more one =
    elim (leb_tells many 1) [
      | inl t ↦ ap (λ k. drop k ps) (one t.1) ∙ sym (ap (λ (b : Bool). (if b then (0, ps) else picked_from many ps).1) t.0)
      | inr f ↦ ap (λ k. drop k ps) (more (omega (arith, f.1))) ∙ more_picked many ps ∙ sym (ap (λ (b : Bool). (if b then (0, ps) else picked_from many ps).1) f.0)
    ]

pub picks_so : (s u : Held) (many picked thread k : ℕ) → IsTakenUp s u thread → s.skip ≡ 0 → many ≡ length (runnable_of s.seats) → s.steps < s.budget → picked ≡ (pick many (drop 0 s.picks)).0
    → slice_get (runnable_of s.seats) picked ≡ Some thread → (1 < many → k ≡ 1) → (many ≤ 1 → k ≡ 0) → IsSound u.left u.thread u.stack u.seats u.log
    → (bundle : List Item) → step (numbered bundle) (configuration s) ≡ stepping bundle (record u { skip = k })
picks_so s u many picked thread k up whole count room looked there more one sound bundle =
    let at : s.picks ≡ ahead s = ap (λ n. drop n s.picks) (sym whole) in
    let same : configuration (record u { skip = s.skip }) ≡ configuration s = ap (λ n. configuration (record u { skip = n })) (sym up.skip) ∙ up.same in
    let here : slice_get (runnable_of s.seats) (pick many (ahead s)).0 ≡ Some u.thread =
    ap (λ ps. slice_get (runnable_of s.seats) (pick many ps).0) (sym at) ∙ ap (slice_get (runnable_of s.seats)) (sym looked)
    ∙ there ∙ ap Some (sym up.thread) in
    let rest : drop k u.picks ≡ (pick many (ahead s)).1 = ap (drop k) up.picks ∙ rest_is many k s.picks more one ∙ ap (λ ps. (pick many ps).1) at in
    step_is bundle s (record u { skip = k }) many count room sound up.left same here rest

pub picks_back : (s u : Held) (thread : ℕ) → IsTakenUp s u thread → s.skip ≡ 0 → configuration (record u { skip = 0 }) ≡ configuration s
picks_back s u thread up whole = ap (λ n. configuration (record u { skip = n })) (sym (up.skip ∙ whole)) ∙ up.same

pub picks_room : (s u : Held) (thread : ℕ) → IsTakenUp s u thread → s.steps < s.budget → u.steps < u.budget
picks_room s u thread up room =
    let steps : u.steps ≡ s.steps = ap (λ (c : Configuration). c.steps) up.same in
    let budget : u.budget ≡ s.budget = ap (λ (c : Configuration). c.budget) up.same in
    omega (arith, steps, budget, room)

pub ruleset picks_thread = (runnable_there, picks_so, picks_back, picks_room)

-- ---- where no thread is picked

ends_by : (bundle : List Item) (c : Configuration) (ts is : List ℕ) → length is ≡ 0 → length ts ≡ 0 → ends_or_picks (numbered bundle) c ts is ≡ End [] Done
ends_by bundle c [] is none empty = refl
ends_by bundle c (t ∷ ts) is none empty = absurd (omega (arith, empty))

waits_by : (bundle : List Item) (c : Configuration) (ts is : List ℕ) → length is ≡ 0 → length ts ≢ 0 → ends_or_picks (numbered bundle) c ts is ≡ End [] (AllWaiting ts)
waits_by bundle c [] is none some = absurd (some refl)
waits_by bundle c (t ∷ ts) [] none some = refl
waits_by bundle c (t ∷ ts) (i ∷ is) none some = absurd (omega (arith, none))

over_by : (bundle : List Item) (c : Configuration) (ts is : List ℕ) → length is ≢ 0 → (ts ≡ [] → is ≡ []) → c.steps ≡ c.budget → ends_or_picks (numbered bundle) c ts is ≡ End [] (Budget c.steps)
over_by bundle c ts [] some none over = absurd (some refl)
over_by bundle c [] (i ∷ is) some none over = let no = none refl in cc
over_by bundle c (t ∷ ts) (i ∷ is) some none over =
    elim (eqb_tells c.steps c.budget) [
      | inl e ↦ ap (λ (b : Bool). if b then End [] (Budget c.steps) else picking_thread (numbered bundle) c (i ∷ is)) e.0
      | inr e ↦ absurd (e.1 over)
    ]

pub step_done : (bundle : List Item) (s : Held) (left : List ℕ) → length (runnable_of s.seats) ≡ 0 → left ≡ threads_from 0 s.seats.threads → length left ≡ 0 → step (numbered bundle) (configuration s) ≡ End [] Done
step_done bundle s left none told empty = ends_by bundle (configuration s) (threads_from 0 s.seats.threads) (runnable_of s.seats) none (ap length (sym told) ∙ empty)

pub step_waits : (bundle : List Item) (s : Held) (left : List ℕ) → length (runnable_of s.seats) ≡ 0 → left ≡ threads_from 0 s.seats.threads → length left ≢ 0 → step (numbered bundle) (configuration s) ≡ End [] (AllWaiting left)
step_waits bundle s left none told some =
    waits_by bundle (configuration s) (threads_from 0 s.seats.threads) (runnable_of s.seats) none (λ e. some (ap length told ∙ e)) ∙ ap (λ ts. End [] (AllWaiting ts)) (sym told)

pub step_over : (bundle : List Item) (s : Held) → length (runnable_of s.seats) ≢ 0 → s.steps ≡ s.budget → step (numbered bundle) (configuration s) ≡ End [] (Budget s.steps)
step_over bundle s some over =
    over_by bundle (configuration s) (threads_from 0 s.seats.threads) (runnable_of s.seats) some (none_filtered (λ i. not (is_blocked s.seats.waiters i)) (threads_from 0 s.seats.threads)) over

pub done_so : (w : Way) (bundle : List Item) (k : Client) (s : Held) (left : List ℕ) (end : StepEnd) → length (runnable_of s.seats) ≡ 0 → left ≡ threads_from 0 s.seats.threads → length left ≡ 0 → answers end s ≡ End [] Done
    → outcome_of end (configuration s) ≡ told w bundle k (step (numbered bundle) (configuration s))
unfolding answers
done_so w bundle k s left end none same empty is = is ∙ sym (ap (told w bundle k) (step_done bundle s left none same empty))

pub waits_so : (w : Way) (bundle : List Item) (k : Client) (s : Held) (left : List ℕ) (end : StepEnd) → length (runnable_of s.seats) ≡ 0 → left ≡ threads_from 0 s.seats.threads → length left ≢ 0 → answers end s ≡ End [] (AllWaiting left)
    → outcome_of end (configuration s) ≡ told w bundle k (step (numbered bundle) (configuration s))
unfolding answers
waits_so w bundle k s left end none same some is = is ∙ sym (ap (told w bundle k) (step_waits bundle s left none same some))

pub over_so : (w : Way) (bundle : List Item) (k : Client) (s : Held) (end : StepEnd) → length (runnable_of s.seats) ≢ 0 → s.steps ≡ s.budget → answers end s ≡ End [] (Budget s.steps)
    → outcome_of end (configuration s) ≡ told w bundle k (step (numbered bundle) (configuration s))
unfolding answers
over_so w bundle k s end some over is = is ∙ sym (ap (told w bundle k) (step_over bundle s some over))

-- a step that has a rule with the client's answer has one
pub told_there : (w : Way) (bundle : List Item) (k : Client) (o : Outcome) → told w bundle k o ≢ Stuck → o ≢ Stuck
told_there w bundle k o h = λ e. h (ap (told w bundle k) e)

-- ---- what an answer says once the picks are taken, or left

abbrev pub is_went : {E : Type 0} → Result StepEnd E → Bool
is_went (Ok (Went ls)) = true
is_went (Ok (Ended ls e)) = false
is_went (Err e) = false

pub settled : {E : Type 0} (w : Way) (bundle : List Item) (k : Client) (r : Result StepEnd E) (s t u v : Held) → step (numbered bundle) (configuration s) ≡ stepping bundle t → IfOk r (λ end. answers end u ≡ told w bundle k (stepping bundle t))
    → (is_went r ≡ true → configuration v ≡ configuration u) → IfOk r (λ end. outcome_of end (configuration v) ≡ told w bundle k (step (numbered bundle) (configuration s)))
unfolding answers
settled w bundle k (Ok (Went ls)) s t u v same is taken = ap (outcome_of (Went ls)) (taken refl) ∙ is ∙ ap (told w bundle k) (sym same)
settled w bundle k (Ok (Ended ls e)) s t u v same is taken = is ∙ ap (told w bundle k) (sym same)
settled w bundle k (Err e) s t u v same is taken = tt

-- ---- the end of a thread

-- what stands for its stack are the frames that were put there
pub frames_back : (stacks : List Stack) (k i : ℕ) (fs gs : List Activation) → slice_get (slice_set stacks k (Active i fs)) k ≡ Some (Active i gs) → k < length stacks → gs ≡ fs
frames_back stacks k i fs gs there low =
    let same : Some (Active i fs) ≡ Some (Active i gs) = sym (set_there stacks k (Active i fs) low) ∙ there in
    cc

pub hand_on : (left : Bool) (thread stack : ℕ) (seats : Seats) (log : List Event) → IsSound left thread stack seats log → left ≡ true → IsOn seats thread stack
hand_on left thread stack seats log h e = h.on_stack e

pub hand_within : (left : Bool) (thread stack : ℕ) (seats : Seats) (log : List Event) → IsSound left thread stack seats log → left ≡ true → stack < length seats.stacks
hand_within left thread stack seats log h e = h.within e

-- a thread less is left, and as many were made
pub ended_sound : (left : Bool) (thread stack i : ℕ) (seats after : Seats) (log : List Event) → IsSound left thread stack seats log → after.threads ≡ slice_set seats.threads i None → IsSound false thread stack after log
ended_sound left thread stack i seats after log h same =
    record { on_stack = λ e. cc; within = λ e. cc; made = λ j. h.made j ∙ ap (nat_lt j) (sym (ap length same ∙ set_length seats.threads i None)) }

pub ruleset hand_ended = (hand_on, hand_within, ended_sound)

-- ---- whether the thread in hand waits

pub waits_there : (o : Option Waiter) (cell : CellId) → cell_of o ≡ Some cell → IsSomeAnd o (λ (w : Waiter). w.cell ≡ cell)
waits_there None cell e = cc
waits_there (Some w) cell e = cc

pub waits_none : (o : Option Waiter) → cell_of o ≡ None → o ≡ None
waits_none None e = refl
waits_none (Some w) e = cc

pub ruleset waiting_hand = (waits_there, waits_none)
