-- Laws of waits, of wakes, and of the end of a wait with a limit.
use Rattle.std.specs.Prelude.{◌≡◌, ◌≢◌, ℕ, ◌==◌, Bool, true, false, List, [], ◌∷◌, ◌++◌, Option, Some, None, IsSome, IfSome, Result, length, find, slice_get, if◌then◌else◌, refl}
use Rattle.std.proofs.Common.{sym, ◌∙◌, ap, subst, arith}
use Rattle.ir_tree.specs.declared.items.Item.{Item}
use Rattle.mu_base.specs.declared.order.Order.TheVariants.{Relaxed}
use Rattle.mu_values.specs.declared.scalars.Scalar.{Scalar}
use Rattle.mu_values.specs.declared.scalars.Scalar.TheVariants.{Place}
use Rattle.mu_values.specs.SameScalar.{same_scalar}
use Rattle.mu_values.specs.declared.cells.CellId.{CellId}
use Rattle.typed_heap.specs.declared.faults.PlaceFault.{PlaceFault}
use Rattle.typed_heap.specs.Places.{with_some, cell_of}
use Rattle.frames.specs.Activations.{Activation}
use Rattle.frames.specs.Chains.{frames_of}
use Rattle.mem_axioms.specs.declared.types.Mode.TheVariants.{Read}
use Rattle.mem_axioms.specs.declared.types.Kind.TheVariants.{Access}
use Rattle.mem_axioms.specs.declared.types.Event.{Event}
use Rattle.mem_axioms.specs.declared.types.Chosen.{Chosen}
use Rattle.mem_axioms.specs.Races.{race}
use Rattle.mu_model.specs.declared.lines.Line.TheVariants as lines
use Rattle.mu_model.specs.declared.lines.Note.TheVariants.{TimedOut}
use Rattle.futex.specs.declared.waiters.Waiter.{Waiter}
use Rattle.mu_model.specs.Configuration.{Active, Configuration}
use Rattle.mu_model.specs.Acts.{Loads, Waits, Doing, Program}
use Rattle.mu_model.specs.Accesses.{raced}
use Rattle.mu_model.specs.Changes.{event, logged_event, noted}
use Rattle.mu_model.specs.Frames.{passed}
use Rattle.mu_model.specs.Outcomes.{Outcome, Next, End, Stuck, on, next, onto}
use Rattle.mu_model.specs.Step.{turned}
use Rattle.futex.specs.Waiting.{is_of, without}
use Rattle.mu_model.specs.Waiting.{found_another, time_was_over, waits_at, waited, times_out}
use Rattle.model_numbers.specs.Numbered.{numbered}
use Rattle.seats.specs.Seats.{Seats}
use Rattle.run_state.specs.Held.{Held, ahead}
use Rattle.run_state.specs.Acting.{begun, turn, doing_of, went_with, acting, stepping, goes_on}
pub use Rattle.run_state.specs.Acting.{found_or}
use Rattle.memory_acts.specs.Accessing.{options_of, race_at, logs}
use Rattle.run_state.specs.Hand.{IsSound}
use Rattle.memory_acts.specs.AccessLaws.{raced_is}
use Rattle.run_state.specs.ActLaws.{onto_there}
use Rattle.run_state.specs.StepLaws.{set_again, on_there, on_is, acting_there, acting_is}
pub use Rattle.run_state.specs.StepLaws.{tried_found, tried_at}

-- ---- the end of a wait with a limit

-- the thread goes on so, and waits no more
abbrev pub timed_out : Held → Waiter → Activation → Held
timed_out s w f = record s { frames = record s.frames { top = f }; seats = record s.seats { waiters = without (w ∷ []) s.seats.waiters } }

step_waiting : (bundle : List Item) (s : Held) (w : Waiter) → find (is_of s.thread) s.seats.waiters ≡ Some w → stepping bundle s ≡ on (doing_of (numbered bundle) s) (λ d. times_out (numbered bundle) (begun s) (turn s d) w)
unfolding stepping
step_waiting bundle s w e = ap (λ o. on (doing_of (numbered bundle) s) (λ d. turned (numbered bundle) (begun s) o (turn s d))) e

step_times_out : (bundle : List Item) (s : Held) (w : Waiter) → find (is_of s.thread) s.seats.waiters ≡ Some w → stepping bundle s ≢ Stuck
    → (d : Doing) × (doing_of (numbered bundle) s ≡ Some d) × (times_out (numbered bundle) (begun s) (turn s d) w ≢ Stuck)
step_times_out bundle s w e h = on_there (doing_of (numbered bundle) s) (λ d. times_out (numbered bundle) (begun s) (turn s d) w) (λ k. h (step_waiting bundle s w e ∙ k))

pub time_out_there : (bundle : List Item) (s : Held) (w : Waiter) → find (is_of s.thread) s.seats.waiters ≡ Some w → stepping bundle s ≢ Stuck → IsSome (goes_on bundle s.frames.top ((time_was_over ∷ []) ∷ []))
unfolding goes_on
time_out_there bundle s w e h =
    let d = step_times_out bundle s w e h in
    let o = passed (numbered bundle) s.frames.top ((time_was_over ∷ []) ∷ []) in
    let r = on_there (with_some o (onto (turn s d.0))) _ d.2 in
    onto_there (turn s d.0) o r.0 r.1

time_out_by : (p : Program) (s : Held) (w : Waiter) (d : Doing) (f : Activation) → passed p s.frames.top ((time_was_over ∷ []) ∷ []) ≡ Some f
    → times_out p (begun s) (turn s d) w ≡ went_with (timed_out s w f) (lines.Note (TimedOut s.thread w.cell) ∷ [])
unfolding on went_with
time_out_by p s w d f way =
    let c : Configuration = noted (TimedOut s.thread w.cell) (record (begun s) { waiters = without (w ∷ []) s.seats.waiters }) in
    ap (λ o. next c (turn s d) (with_some o (onto (turn s d)))) way
    ∙ ap (λ stacks. Next (record c { stacks = stacks })) (set_again s.seats.stacks s.stack (Active s.thread (frames_of s.frames)) (Active s.thread (f ∷ s.frames.below)))

pub time_out_is : (bundle : List Item) (s : Held) (w : Waiter) (f : Activation) → find (is_of s.thread) s.seats.waiters ≡ Some w → stepping bundle s ≢ Stuck → goes_on bundle s.frames.top ((time_was_over ∷ []) ∷ []) ≡ Some f
    → stepping bundle s ≡ went_with (timed_out s w f) (lines.Note (TimedOut s.thread w.cell) ∷ [])
unfolding goes_on
time_out_is bundle s w f e h way =
    let d = step_times_out bundle s w e h in
    step_waiting bundle s w e ∙ on_is (doing_of (numbered bundle) s) d.0 (λ d. times_out (numbered bundle) (begun s) (turn s d) w) d.1 ∙ time_out_by (numbered bundle) s w d.0 f way

-- ---- a wait

-- at a cell that is there
unfoldable pub waiting_at : List Item → Held → Bool → Scalar → CellId → Outcome
waiting_at bundle s timed v cell = on (doing_of (numbered bundle) s) (λ d. on (slice_get (options_of s (Loads Relaxed) cell) 0) (waited (numbered bundle) (begun s) (turn s d) timed v cell))

-- what it does at a cell that is there, by its instruction
abbrev wait_by : List Item → Held → Bool → Scalar → Doing → CellId → Outcome
wait_by bundle s timed v d cell = on (slice_get (options_of s (Loads Relaxed) cell) 0) (waited (numbered bundle) (begun s) (turn s d) timed v cell)

pub wait_cell_there : (bundle : List Item) (s : Held) (timed : Bool) (v : Scalar) (cell : CellId) → acting bundle s (Waits timed v cell) ≢ Stuck → IsSome (cell_of s.objects (Place cell.object cell.at))
wait_cell_there bundle s timed v cell h =
    let r = acting_there bundle s (Waits timed v cell) h in
    tried_found (numbered bundle) s r.0 (cell_of s.objects (Place cell.object cell.at)) (wait_by bundle s timed v r.0) r.2

pub wait_is : (bundle : List Item) (s : Held) (timed : Bool) (v : Scalar) (cell : CellId) (r : Result CellId PlaceFault) → acting bundle s (Waits timed v cell) ≢ Stuck
    → cell_of s.objects (Place cell.object cell.at) ≡ Some r → acting bundle s (Waits timed v cell) ≡ found_or bundle s (waiting_at bundle s timed v) r
unfolding waiting_at
wait_is bundle s timed v cell r h e =
    let d = acting_there bundle s (Waits timed v cell) h in
    acting_is bundle s (Waits timed v cell) d.0 d.1 ∙ tried_at bundle s d.0 (cell_of s.objects (Place cell.object cell.at)) r (wait_by bundle s timed v) d.1 e

-- the read of a wait
abbrev pub read_by : ℕ → CellId → Chosen → Event
read_by i cell k = event i (Access Read cell Relaxed k.position k.value)

-- the thread with one that waits at a cell
abbrev pub waiter : Held → CellId → Bool → Waiter
waiter s cell timed = record { thread = s.thread; cell = cell; timed = timed }

-- its read is the ending where it races; else it is logged, and the thread waits where it stands
abbrev pub waits_unless : Held → Event → CellId → Bool → Option ℕ → Outcome
waits_unless s e cell timed (Some n) = End [] (race_at s e n)
waits_unless s e cell timed None = went_with (record s { log = e ∷ s.log; seats = record s.seats { waiters = s.seats.waiters ++ waiter s cell timed ∷ [] } }) (lines.Event (length s.log) e ∷ [])

unfoldable pub waits_with : Held → Event → CellId → Bool → Outcome
waits_with s e cell timed = waits_unless s e cell timed (race s.rule s.log e)

-- what it does by the option that is read
wait_option : (bundle : List Item) (s : Held) (timed : Bool) (v : Scalar) (cell : CellId) (k : Chosen) → waiting_at bundle s timed v cell ≢ Stuck → slice_get (options_of s (Loads Relaxed) cell) 0 ≡ Some k
    → (d : Doing) × (waited (numbered bundle) (begun s) (turn s d) timed v cell k ≢ Stuck) × (waiting_at bundle s timed v cell ≡ waited (numbered bundle) (begun s) (turn s d) timed v cell k)
unfolding waiting_at
wait_option bundle s timed v cell k h e =
    let p = numbered bundle in
    let d = on_there (doing_of p s) (λ d. wait_by bundle s timed v d cell) h in
    let same = on_is (slice_get (options_of s (Loads Relaxed) cell) 0) k (waited p (begun s) (turn s d.0) timed v cell) e in
    (d.0, λ stuck. d.2 (same ∙ stuck), on_is (doing_of p s) d.0 (λ d. wait_by bundle s timed v d cell) d.1 ∙ same)

-- both ways of it
abbrev stands_waiting : Program → Held → Doing → Bool → CellId → Event → Outcome
stands_waiting p s d timed cell e = raced (waits_at (turn s d) timed cell (begun s)) (turn s d) e (frames_of s.frames) (race s.rule s.log e)

abbrev goes_past : Program → Held → Doing → Event → Outcome
goes_past p s d e = on (with_some (passed p s.frames.top ((found_another ∷ []) ∷ [])) (onto (turn s d))) (λ fs. raced (begun s) (turn s d) e fs (race s.rule s.log e))

waited_by : (p : Program) (s : Held) (d : Doing) (timed : Bool) (v : Scalar) (cell : CellId) (k : Chosen) (b : Bool) → same_scalar k.value v ≡ b
    → waited p (begun s) (turn s d) timed v cell k ≡ (if b then stands_waiting p s d timed cell (read_by s.thread cell k) else goes_past p s d (read_by s.thread cell k))
unfolding on
waited_by p s d timed v cell k b e =
    ap (λ (b : Bool). if b then stands_waiting p s d timed cell (read_by s.thread cell k) else goes_past p s d (read_by s.thread cell k)) e

wait_raced : (p : Program) (s : Held) (d : Doing) (timed : Bool) (cell : CellId) (e : Event) (o : Option ℕ)
    → raced (waits_at (turn s d) timed cell (begun s)) (turn s d) e (frames_of s.frames) o ≡ waits_unless s e cell timed o
unfolding on went_with
wait_raced p s d timed cell e None =
    ap (λ stacks. Next (record (logged_event e (waits_at (turn s d) timed cell (begun s))) { stacks = stacks })) (set_again s.seats.stacks s.stack (Active s.thread (frames_of s.frames)) (Active s.thread (frames_of s.frames)))
wait_raced p s d timed cell e (Some n) = refl

pub wait_stands : (bundle : List Item) (s : Held) (timed : Bool) (v : Scalar) (cell : CellId) (k : Chosen) → waiting_at bundle s timed v cell ≢ Stuck → slice_get (options_of s (Loads Relaxed) cell) 0 ≡ Some k → same_scalar k.value v ≡ true
    → waiting_at bundle s timed v cell ≡ waits_with s (read_by s.thread cell k) cell timed
unfolding waits_with
wait_stands bundle s timed v cell k h e equal =
    let q = wait_option bundle s timed v cell k h e in
    q.2 ∙ waited_by (numbered bundle) s q.0 timed v cell k true equal ∙ wait_raced (numbered bundle) s q.0 timed cell (read_by s.thread cell k) (race s.rule s.log (read_by s.thread cell k))

pub wait_goes_there : (bundle : List Item) (s : Held) (timed : Bool) (v : Scalar) (cell : CellId) (k : Chosen) → waiting_at bundle s timed v cell ≢ Stuck → slice_get (options_of s (Loads Relaxed) cell) 0 ≡ Some k → same_scalar k.value v ≡ false
    → IsSome (goes_on bundle s.frames.top ((found_another ∷ []) ∷ []))
unfolding goes_on
wait_goes_there bundle s timed v cell k h e other =
    let q = wait_option bundle s timed v cell k h e in
    let o = passed (numbered bundle) s.frames.top ((found_another ∷ []) ∷ []) in
    let x = read_by s.thread cell k in
    let r = on_there (with_some o (onto (turn s q.0))) (λ fs. raced (begun s) (turn s q.0) x fs (race s.rule s.log x)) (λ stuck. q.1 (waited_by (numbered bundle) s q.0 timed v cell k false other ∙ stuck)) in
    onto_there (turn s q.0) o r.0 r.1

pub wait_goes : (bundle : List Item) (s : Held) (timed : Bool) (v : Scalar) (cell : CellId) (k : Chosen) (f : Activation) → waiting_at bundle s timed v cell ≢ Stuck → slice_get (options_of s (Loads Relaxed) cell) 0 ≡ Some k → same_scalar k.value v ≡ false
    → goes_on bundle s.frames.top ((found_another ∷ []) ∷ []) ≡ Some f → waiting_at bundle s timed v cell ≡ logs s (read_by s.thread cell k) (ahead s) (record s.frames { top = f })
unfolding goes_on logs
wait_goes bundle s timed v cell k f h e other way =
    let q = wait_option bundle s timed v cell k h e in
    let x = read_by s.thread cell k in
    let u = turn s q.0 in
    q.2 ∙ waited_by (numbered bundle) s q.0 timed v cell k false other
    ∙ on_is (with_some (passed (numbered bundle) s.frames.top ((found_another ∷ []) ∷ [])) (onto u)) (f ∷ s.frames.below) (λ fs. raced (begun s) u x fs (race s.rule s.log x)) (ap (λ o. with_some o (onto u)) way)
    ∙ raced_is s q.0 x (ahead s) f (race s.rule s.log x)

-- ---- other waiters change nothing of what is kept beside what is seen

waiters_sound : (left : Bool) (thread stack : ℕ) (seats after : Seats) (log : List Event) (ws : List Waiter) → IsSound left thread stack seats log → after ≡ record seats { waiters = ws } → IsSound left thread stack after log
waiters_sound left thread stack seats after log ws h e = subst (λ (x : Seats). IsSound left thread stack x log) (sym e) (record { on_stack = h.on_stack; within = h.within; made = h.made })

pub more_sound : (left : Bool) (thread stack : ℕ) (seats after : Seats) (log : List Event) (w : Waiter) → IsSound left thread stack seats log → after ≡ record seats { waiters = seats.waiters ++ w ∷ [] } → IsSound left thread stack after log
more_sound left thread stack seats after log w h e = waiters_sound left thread stack seats after log (seats.waiters ++ w ∷ []) h e

fewer_by : (o : Option Waiter) (left : Bool) (thread stack : ℕ) (seats after : Seats) (log : List Event) → IsSome o → IsSound left thread stack seats log → IfSome o (λ w. after ≡ record seats { waiters = without (w ∷ []) seats.waiters }) → IsSound left thread stack after log
fewer_by None left thread stack seats after log there h e = cc
fewer_by (Some w) left thread stack seats after log there h e = waiters_sound left thread stack seats after log (without (w ∷ []) seats.waiters) h e

pub fewer_sound : (left : Bool) (thread stack i : ℕ) (seats after : Seats) (log : List Event) → IsSome (find (is_of i) seats.waiters) → IsSound left thread stack seats log
    → IfSome (find (is_of i) seats.waiters) (λ w. after ≡ record seats { waiters = without (w ∷ []) seats.waiters }) → IsSound left thread stack after log
fewer_sound left thread stack i seats after log there h e = fewer_by (find (is_of i) seats.waiters) left thread stack seats after log there h e

-- ---- a thread that waits, and at once does so no more

none_found : (b : Bool) (w : Waiter) (o : Option Waiter) → (if b then Some w else o) ≡ None → (b ≡ false) × (o ≡ None)
none_found true w o h = cc
none_found false w o h = (refl, h)

same_is : (i : ℕ) → (i == i) ≡ true
same_is i = grind arith

flipped : (a b : ℕ) → (a == b) ≡ false → (b == a) ≡ false
flipped a b h = grind arith

pub last_found : (ws : List Waiter) (w : Waiter) → find (is_of w.thread) ws ≡ None → find (is_of w.thread) (ws ++ w ∷ []) ≡ Some w
last_found [] w h = rw (same_is w.thread) refl
last_found (v ∷ ws) w h = let p = none_found (v.thread == w.thread) v (find (is_of w.thread) ws) h in rw p.0 (last_found ws w p.1)

pub last_left : (ws : List Waiter) (w : Waiter) → find (is_of w.thread) ws ≡ None → without (w ∷ []) (ws ++ w ∷ []) ≡ ws
last_left [] w h = rw (same_is w.thread) refl
last_left (v ∷ ws) w h = let p = none_found (v.thread == w.thread) v (find (is_of w.thread) ws) h in rw (flipped v.thread w.thread p.0) (ap (λ xs. v ∷ xs) (last_left ws w p.1))

pub stopped_same : (seats between after : Seats) (w : Waiter) → find (is_of w.thread) seats.waiters ≡ None → between ≡ record seats { waiters = seats.waiters ++ w ∷ [] }
    → IfSome (find (is_of w.thread) between.waiters) (λ v. after ≡ record between { waiters = without (v ∷ []) between.waiters }) → after ≡ seats
stopped_same seats between after w h e f =
    let so : after ≡ record seats { waiters = without (w ∷ []) (seats.waiters ++ w ∷ []) } =
    subst (λ (o : Option Waiter). IfSome o (λ v. after ≡ record seats { waiters = without (v ∷ []) (seats.waiters ++ w ∷ []) })) (last_found seats.waiters w h)
    (subst (λ (x : Seats). IfSome (find (is_of w.thread) x.waiters) (λ v. after ≡ record x { waiters = without (v ∷ []) x.waiters })) e f) in
    so ∙ ap (λ ws. record seats { waiters = ws }) (last_left seats.waiters w h)
