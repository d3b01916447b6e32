-- Laws of the act that starts a thread.
use Rattle.std.specs.Prelude.{◌≡◌, ◌≢◌, ℕ, zero, suc, ◌+◌, ◌<◌, ◌==◌, nat_le, nat_lt, Bool, true, false, ◌||◌, List, [], ◌∷◌, ◌++◌, Option, Some, IsSome, IsSomeAnd, Ok, Err, length, reverse, option_map, slice_get, slice_set, if◌then◌else◌, refl}
use Rattle.std.proofs.Common.{sym, ◌∙◌, ap, subst, arith, add-one, inl, inr}
use Rattle.std.proofs.lemmas.Bool.Decides.{nat_tests, eqb_tells}
use Rattle.ir_tree.specs.declared.items.Item.{Item}
use Rattle.mu_values.specs.declared.scalars.Scalar.{Scalar}
use Rattle.mu_values.specs.declared.scalars.Scalar.TheVariants as scalars
use Rattle.typed_heap.specs.Objects.{HeapObject}
use Rattle.typed_heap.specs.Places.{with_some}
use Rattle.frames.specs.Activations.{Activation}
use Rattle.frames.specs.Chains.{Chain, frames_of}
use Rattle.stacks.specs.declared.entered.Entered.{Entered}
use Rattle.mem_axioms.specs.EventFits.{is_thread, EventFits}
use Rattle.mem_axioms.specs.Lemmas.Fitting.{others-fit, thread-same, thread-made}
use Rattle.mem_axioms.specs.declared.types.Event.{Event}
use Rattle.mem_axioms.specs.declared.types.Kind.TheVariants.{NewThread, Enter}
use Rattle.mem_axioms.specs.declared.types.Rule.{Rule}
use Rattle.mu_model.specs.declared.lines.Line.{Line}
use Rattle.mu_model.specs.declared.lines.Line.TheVariants as lines
use Rattle.mu_model.specs.declared.endings.StepEnd.TheVariants.{Went}
use Rattle.mu_model.specs.declared.endings.Case.{Case}
use Rattle.mu_model.specs.declared.endings.Case.TheVariants.{StackNotReady}
use Rattle.mu_model.specs.declared.endings.Ending.TheVariants.{ThreadsFull}
use Rattle.mu_model.specs.Acts.{Entering, Starts, Doing}
use Rattle.mu_model.specs.Changes.{changed, event}
use Rattle.mu_model.specs.Configuration.{Stack, Ready, Active, Thread}
use Rattle.mu_model.specs.Exceptions.{EnteredFrames}
use Rattle.mu_model.specs.EnteringStacks.{ready, on_stack, entering, started}
use Rattle.mu_model.specs.Frames.{passed}
use Rattle.mu_model.specs.Outcomes.{Outcome, Next, End, Stuck, on, onto, faulted, has_result}
use Rattle.model_numbers.specs.Numbered.{numbered}
use Rattle.seats.specs.Seats.{Seats, IsOn, IsReady, IsReadyFor, bound_to}
use Rattle.run_state.specs.Outcome.{outcome_of}
use Rattle.run_state.specs.Held.{Held, held_stacks}
use Rattle.run_state.specs.Acting.{begun, turn, doing_of, answers, acting, faulting, is_fault, undefined_at, goes_on, objects_end}
use Rattle.run_state.specs.Hand.{IsSound}
use Rattle.run_state.specs.StepLaws.{on_there, on_is, set_again, configuration_left, acting_there, acting_is}
use Rattle.run_state.specs.ActLaws.{onto_is, onto_there}
use Rattle.stack_moves.specs.Entering.{entered_by, frames_at, IsStarted, begins}
use Rattle.stack_moves.specs.EnteringLaws.{set_long, set_changed, moved_low, taken_up}
use Rattle.stack_moves.specs.SwapLaws.{Going, enters_with, enter_ready, enter_there, enter_not_ready, enter_refused, enter_is, other_ready, ready_frames, parts, frames_objects}

-- ---- one thread more

full_so : (n : ℕ) → nat_lt n 64 ≡ false → nat_le 64 n ≡ true
full_so n h = grind (arith, nat_tests, h)

few_so : (n : ℕ) → nat_lt n 64 ≡ true → nat_le 64 n ≡ false
few_so n h = grind (arith, nat_tests, h)

abbrev branch : List Item → Held → Scalar → Scalar → Entering → Doing → Bool → Outcome
branch bundle s sc own e d full =
    if full then faulted (numbered bundle) (begun s) (turn s d) (ThreadsFull s.thread)
    else entering (numbered bundle) (begun s) (turn s d) sc e (λ k r. has_result (numbered bundle) (started (begun s) (turn s d) own k r) (turn s d) (scalars.Thread (length s.seats.threads)))

pub start_full : (bundle : List Item) (s : Held) (sc own : Scalar) (e : Entering) → nat_lt (length s.seats.threads) 64 ≡ false → acting bundle s (Starts sc own e) ≡ faulting bundle s (ThreadsFull s.thread)
unfolding acting faulting
start_full bundle s sc own e full = ap (λ b. on (doing_of (numbered bundle) s) (λ d. branch bundle s sc own e d b)) (full_so (length s.seats.threads) full)

start_go : List Item → Held → Doing → Scalar → Going
start_go bundle s d own k r = has_result (numbered bundle) (started (begun s) (turn s d) own k r) (turn s d) (scalars.Thread (length s.seats.threads))

record StartsAt (bundle : List Item) (s : Held) (sc own : Scalar) (e : Entering) : Type 0 where
  pub doing : Doing
  pub is : acting bundle s (Starts sc own e) ≡ enters_with bundle s doing sc e (start_go bundle s doing own)

start_at : (bundle : List Item) (s : Held) (sc own : Scalar) (e : Entering) → acting bundle s (Starts sc own e) ≢ Stuck → nat_lt (length s.seats.threads) 64 ≡ true → StartsAt bundle s sc own e
unfolding start_go
start_at bundle s sc own e h few =
    let r = acting_there bundle s (Starts sc own e) h in
    record { doing = r.0; is = acting_is bundle s (Starts sc own e) r.0 r.1 ∙ ap (branch bundle s sc own e r.0) (few_so (length s.seats.threads) few) }

-- the thread's results
abbrev pub new_thread : Held → List (List Scalar)
new_thread s = (scalars.Thread (length s.seats.threads) ∷ []) ∷ []

results_there : (bundle : List Item) (s : Held) (d : Doing) (own : Scalar) (k : ℕ) (r : EnteredFrames) → start_go bundle s d own k r ≢ Stuck → IsSome (goes_on bundle s.frames.top (new_thread s))
unfolding start_go goes_on
results_there bundle s d own k r h =
    let o = passed (numbered bundle) s.frames.top (new_thread s) in
    let n = on_there (with_some o (onto (turn s d))) _ h in
    onto_there (turn s d) o n.0 n.1

results_are : (bundle : List Item) (s : Held) (d : Doing) (own : Scalar) (k : ℕ) (r : EnteredFrames) (g : Activation) → goes_on bundle s.frames.top (new_thread s) ≡ Some g → start_go bundle s d own k r ≡ begins s own k r g
unfolding start_go goes_on begins
results_are bundle s d own k r g way =
    let o = passed (numbered bundle) s.frames.top (new_thread s) in
    on_is (with_some o (onto (turn s d))) (g ∷ s.frames.below) _ (onto_is (turn s d) o g way)

module _ (bundle : List Item) (s : Held) (sc own : Scalar) (e : Entering) (h : acting bundle s (Starts sc own e) ≢ Stuck) (few : nat_lt (length s.seats.threads) 64 ≡ true) where
  starting_at : StartsAt bundle s sc own e
  starting_at = start_at bundle s sc own e h few

  abbrev going : Going
  going = start_go bundle s starting_at.doing own

  starting_goes : enters_with bundle s starting_at.doing sc e going ≢ Stuck
  starting_goes = λ stuck. h (starting_at.is ∙ stuck)

  pub start_ready : IsSome (ready (held_stacks s) sc)
  start_ready = enter_ready bundle s starting_at.doing sc e going starting_goes

  pub start_not_ready : ready (held_stacks s) sc ≡ Some (Err StackNotReady) → acting bundle s (Starts sc own e) ≡ End [] (undefined_at s StackNotReady)
  start_not_ready none = starting_at.is ∙ enter_not_ready bundle s starting_at.doing sc e going none

  start_others : (k : ℕ) → sc ≡ scalars.Stack k → k ≢ s.stack → IsReady (slice_get s.seats.stacks k) → ready (held_stacks s) sc ≡ Some (Ok (k, frames_at (slice_get s.seats.stacks k)))
  start_others k is other there =
      ap (ready (held_stacks s)) is ∙ other_ready s.seats.stacks s.stack k (Active s.thread (frames_of s.frames)) (frames_at (slice_get s.seats.stacks k)) other (ready_frames (slice_get s.seats.stacks k) there)

  pub start_looks : (k : ℕ) → sc ≡ scalars.Stack k → k ≢ s.stack → IsReady (slice_get s.seats.stacks k) → IsSome (entered_by bundle (frames_at (slice_get s.seats.stacks k)) e)
  start_looks k is other there = enter_there bundle s starting_at.doing sc e going k (frames_at (slice_get s.seats.stacks k)) starting_goes (start_others k is other there)

  pub start_refuses : (k : ℕ) (q : Case) → sc ≡ scalars.Stack k → k ≢ s.stack → IsReady (slice_get s.seats.stacks k) → entered_by bundle (frames_at (slice_get s.seats.stacks k)) e ≡ Some (Err q) → is_fault q ≡ false
      → acting bundle s (Starts sc own e) ≡ End [] (undefined_at s q)
  start_refuses k q is other there refused plain =
      starting_at.is ∙ enter_refused bundle s starting_at.doing sc e going k (frames_at (slice_get s.seats.stacks k)) q (start_others k is other there) refused plain

  goes_at : (k : ℕ) (r : EnteredFrames) → sc ≡ scalars.Stack k → k ≢ s.stack → IsReady (slice_get s.seats.stacks k) → entered_by bundle (frames_at (slice_get s.seats.stacks k)) e ≡ Some (Ok r)
      → acting bundle s (Starts sc own e) ≡ start_go bundle s starting_at.doing own k r
  goes_at k r is other there way = starting_at.is ∙ enter_is bundle s starting_at.doing sc e going k (frames_at (slice_get s.seats.stacks k)) r (start_others k is other there) way

  pub start_results : (k : ℕ) (r : EnteredFrames) → sc ≡ scalars.Stack k → k ≢ s.stack → IsReady (slice_get s.seats.stacks k) → entered_by bundle (frames_at (slice_get s.seats.stacks k)) e ≡ Some (Ok r)
      → IsSome (goes_on bundle s.frames.top (new_thread s))
  start_results k r is other there way = results_there bundle s starting_at.doing own k r (λ stuck. h (goes_at k r is other there way ∙ stuck))

  pub start_goes : (k : ℕ) (r : EnteredFrames) (g : Activation) → sc ≡ scalars.Stack k → k ≢ s.stack → IsReady (slice_get s.seats.stacks k) → entered_by bundle (frames_at (slice_get s.seats.stacks k)) e ≡ Some (Ok r)
      → goes_on bundle s.frames.top (new_thread s) ≡ Some g → acting bundle s (Starts sc own e) ≡ begins s own k r g
  start_goes k r g is other there way results = goes_at k r is other there way ∙ results_are bundle s starting_at.doing own k r g results

pub few_low : (n : ℕ) → nat_lt n 64 ≡ true → n < 64
few_low n h = grind (arith, nat_tests, h)

pub ruleset starting = (few_low, start_full, start_ready, start_not_ready, start_looks, start_refuses)

-- ---- what an answer says where a thread has started another one

abbrev pub at_thread : Held → ℕ → ℕ → Chain → Seats → List HeapObject → ℕ → List Event → Rule → Held
at_thread s n k fr seats os cells lg rl = record s { thread = n; stack = k; frames = fr; seats = seats; objects = os; cells = cells; log = lg; rule = rl; steps = s.steps + 1 }

answers_at : (s : Held) (n k : ℕ) (fr : Chain) (seats : Seats) (os : List HeapObject) (cells : ℕ) (lg : List Event) (rl : Rule) (ls : List Line) → s.left ≡ true
    → answers (Went ls) (at_thread s n k fr seats os cells lg rl) ≡ Next (parts s seats.threads (slice_set seats.stacks k (Active n (frames_of fr))) seats.waiters os lg rl cells (suc s.steps) (reverse ls))
unfolding answers
answers_at s n k fr seats os cells lg rl ls left =
    ap (outcome_of (Went ls)) (configuration_left (at_thread s n k fr seats os cells lg rl) left)
    ∙ ap (λ m. Next (parts s seats.threads (slice_set seats.stacks k (Active n (frames_of fr))) seats.waiters os lg rl cells m (reverse ls))) (add-one s.steps)

abbrev pub makes : Held → Event
makes s = event s.thread (NewThread (length s.seats.threads))

abbrev pub enters_new : Held → ℕ → Event
enters_new s k = event (length s.seats.threads) (Enter k)

set_apart : {A : Type 0} (xs : List A) (n m : ℕ) (a b : A) → m ≢ n → slice_set (slice_set xs n a) m b ≡ slice_set (slice_set xs m b) n a
set_apart [] n m a b h = refl
set_apart (x ∷ xs) zero zero a b h = absurd (h refl)
set_apart (x ∷ xs) zero (suc m) a b h = refl
set_apart (x ∷ xs) (suc n) zero a b h = refl
set_apart (x ∷ xs) (suc n) (suc m) a b h = ap (λ ys. x ∷ ys) (set_apart xs n m a b (λ e. h (ap suc e)))

changed_last : {A : Type 0} (f : A → A) (xs : List A) (a : A) → changed f (length xs) (xs ++ a ∷ []) ≡ xs ++ f a ∷ []
changed_last f [] a = refl
changed_last f (x ∷ xs) a = ap (λ ys. x ∷ ys) (changed_last f xs a)

pub record Begun (s : Held) (own : Scalar) (k : ℕ) (r : EnteredFrames) (g : Activation) (fr : Chain) (seats : Seats) (os : List HeapObject) (cells : ℕ) (lg : List Event) (rl : Rule) (ls : List Line) : Type 0 where
  pub left : s.left ≡ true
  pub other : k ≢ s.stack
  pub seated : IsStarted s.seats seats s.stack k own (Active s.thread (g ∷ s.frames.below))
  pub frames : frames_of fr ≡ r.frames
  pub objects : os ≡ objects_end s.objects (frames_objects r.ended)
  pub cells_same : cells ≡ s.cells
  pub logged : lg ≡ enters_new s k ∷ makes s ∷ s.log
  pub rule : rl ≡ s.rule
  pub lines : reverse ls ≡ lines.Event (suc (length s.log)) (enters_new s k) ∷ lines.Event (length s.log) (makes s) ∷ []

pub begun_is : (s : Held) (own : Scalar) (k : ℕ) (r : EnteredFrames) (g : Activation) (fr : Chain) (seats : Seats) (os : List HeapObject) (cells : ℕ) (lg : List Event) (rl : Rule) (ls : List Line)
    → Begun s own k r g fr seats os cells lg rl ls → answers (Went ls) (at_thread s (length s.seats.threads) k fr seats os cells lg rl) ≡ begins s own k r g
unfolding begins objects_end
begun_is s own k r g fr seats os cells lg rl ls q =
    let n = length s.seats.threads in
    let m = q.seated in
    let fresh : Option Thread = Some (record { stack = k; own = own }) in
    let ts = changed (option_map (on_stack k)) n (s.seats.threads ++ fresh ∷ []) in
    let here = Active s.thread (g ∷ s.frames.below) in
    let now = Active n r.frames in
    let ss = slice_set (slice_set (held_stacks s) k now) s.stack here in
    let log = enters_new s k ∷ makes s ∷ s.log in
    let told = lines.Event (suc (length s.log)) (enters_new s k) ∷ lines.Event (length s.log) (makes s) ∷ [] in
    let ended = objects_end s.objects (frames_objects r.ended) in
    let same : k ≢ s.stack → s.stack ≢ k = λ h e. h (sym e) in
    let stacks : slice_set seats.stacks k (Active n (frames_of fr)) ≡ ss =
    ap (λ fs. slice_set seats.stacks k (Active n fs)) q.frames ∙ m.stacks now ∙ ap (λ xs. slice_set xs k now) (sym (set_again s.seats.stacks s.stack (Active s.thread (frames_of s.frames)) here))
    ∙ set_apart (held_stacks s) s.stack k here now q.other in
    answers_at s n k fr seats os cells lg rl ls q.left
    ∙ ap (λ ts. Next (parts s ts (slice_set seats.stacks k (Active n (frames_of fr))) seats.waiters os lg rl cells (suc s.steps) (reverse ls))) (m.threads ∙ sym (changed_last (option_map (on_stack k)) s.seats.threads fresh))
    ∙ ap (λ xs. Next (parts s ts xs seats.waiters os lg rl cells (suc s.steps) (reverse ls))) stacks
    ∙ ap (λ ws. Next (parts s ts ss ws os lg rl cells (suc s.steps) (reverse ls))) m.waiters
    ∙ ap (λ os. Next (parts s ts ss s.seats.waiters os lg rl cells (suc s.steps) (reverse ls))) q.objects
    ∙ ap (λ lg. Next (parts s ts ss s.seats.waiters ended lg rl cells (suc s.steps) (reverse ls))) q.logged
    ∙ ap (λ rl. Next (parts s ts ss s.seats.waiters ended log rl cells (suc s.steps) (reverse ls))) q.rule
    ∙ ap (λ c. Next (parts s ts ss s.seats.waiters ended log s.rule c (suc s.steps) (reverse ls))) q.cells_same
    ∙ ap (λ ls. Next (parts s ts ss s.seats.waiters ended log s.rule s.cells (suc s.steps) ls)) q.lines

-- ---- the seat of a thread that starts

long_last : {A : Type 0} (xs : List A) (a : A) → length (xs ++ a ∷ []) ≡ suc (length xs)
long_last [] a = refl
long_last (x ∷ xs) a = ap suc (long_last xs a)

get_last : {A : Type 0} (xs : List A) (a : A) → slice_get (xs ++ a ∷ []) (length xs) ≡ Some a
get_last [] a = refl
get_last (x ∷ xs) a = get_last xs a

pub starts_on : (old new : Seats) (k : ℕ) (own : Scalar) → new.threads ≡ old.threads ++ Some (record { stack = k; own = own }) ∷ [] → IsOn new (length old.threads) k
starts_on old new k own same =
    let fresh : Option Thread = Some (record { stack = k; own = own }) in
    let there : slice_get new.threads (length old.threads) ≡ Some fresh = ap (λ ts. slice_get ts (length old.threads)) same ∙ get_last old.threads fresh in
    subst (λ (o : Option (Option Thread)). IsSomeAnd (with_some o (λ t. t)) (λ (t : Thread). t.stack ≡ k)) (sym there) refl

-- ---- the threads of the log

same_is : (i : ℕ) → (i == i) ≡ true
same_is i = elim (eqb_tells i i) [ inl t ↦ t.0 | inr f ↦ absurd (f.1 refl) ]

or_turned : (a b c : Bool) → (a || (b || c)) ≡ (b || (a || c))
or_turned true true c = refl
or_turned true false c = refl
or_turned false b c = refl

below_last : (n j : ℕ) → ((n == j) || nat_lt j n) ≡ nat_lt j (suc n)
below_last n j =
    elim (eqb_tells n j) [
      | inl e ↦ (let low : nat_lt j (suc n) ≡ true = grind (arith, nat_tests, e.1) in ap (λ b. b || nat_lt j n) e.0 ∙ sym low)
      | inr e ↦ (let same : nat_lt j n ≡ nat_lt j (suc n) = grind (arith, nat_tests, e.1) in ap (λ b. b || nat_lt j n) e.0 ∙ same)
    ]

one_more : (log : List Event) (i n j : ℕ) → is_thread (event i (NewThread n) ∷ log) j ≡ ((n == j) || is_thread log j)
one_more log i n j = or_turned (j == 0) (n == j) _

pub started_sound : (left : Bool) (i n k : ℕ) (old new : Seats) (log lg after : List Event) (own : Scalar) (x : Stack) → IsSound left i n old log → IsStarted old new n k own x → lg ≡ log
    → after ≡ event (length old.threads) (Enter k) ∷ event i (NewThread (length old.threads)) ∷ lg → IsSound left (length old.threads) k new after
started_sound left i n k old new log lg after own x h m same added =
    let count = length old.threads in
    let made = event i (NewThread count) in
    let enter = event count (Enter k) in
    let now : after ≡ enter ∷ made ∷ log = added ∙ ap (λ lg. enter ∷ made ∷ lg) same in
    let many : length new.threads ≡ suc count = ap length m.threads ∙ long_last old.threads (Some (record { stack = k; own = own })) in
    record {
      on_stack = λ e. m.on;
      within = λ e. m.within;
      made = λ j. ap (λ lg. is_thread lg j) now ∙ thread-same (made ∷ log) enter j refl ∙ one_more log i count j ∙ ap (λ b. (count == j) || b) (h.made j) ∙ below_last count j ∙ ap (nat_lt j) (sym many);
    }

not_below : (n : ℕ) → nat_lt n n ≡ false
not_below n = grind (arith, nat_tests)

pub made_fits : (rule : Rule) (objects : List (List Scalar)) (log lg : List Event) (left : Bool) (i k : ℕ) (seats : Seats) → IsSound left i k seats log → lg ≡ log → is_thread log i ≡ true → length seats.threads < 64
    → EventFits rule objects lg (event i (NewThread (length seats.threads)))
made_fits rule objects log lg left i k seats h same made few =
    let n = length seats.threads in
    let fresh : is_thread lg n ≡ false = ap (λ lg. is_thread lg n) same ∙ h.made n ∙ not_below n in
    ((others-fit rule objects lg i).new_thread n).1 (ap (λ lg. is_thread lg i) same ∙ made, fresh, few)

pub new_enters : (rule : Rule) (objects : List (List Scalar)) (lg : List Event) (i n k : ℕ) → EventFits rule objects (event i (NewThread n) ∷ lg) (event n (Enter k))
new_enters rule objects lg i n k = ((others-fit rule objects (event i (NewThread n) ∷ lg) n).enter k).1 ((thread-made lg (event i (NewThread n)) n).1 (inl (same_is n)))

-- ---- how its seat is made

pub begun_seats : (old first second new : Seats) (i n k : ℕ) (own : Scalar) (e : Entered) (x b : Stack) → IsReadyFor (slice_get old.stacks k) e → first ≡ record old { stacks = slice_set old.stacks n x }
    → second ≡ record first { threads = first.threads ++ Some (record { stack = k; own = own }) ∷ []; stacks = changed (bound_to (length first.threads)) k first.stacks }
    → new ≡ record second { stacks = slice_set second.stacks k b } → IsStarted old new n k own x
begun_seats old first second new i n k own e x b ready one two three =
    let fresh : Option Thread = Some (record { stack = k; own = own }) in
    let threads : new.threads ≡ old.threads ++ fresh ∷ [] = ap (λ (s : Seats). s.threads) three ∙ ap (λ (s : Seats). s.threads) two ∙ ap (λ (s : Seats). s.threads ++ fresh ∷ []) one in
    let short : new.stacks ≡ slice_set (slice_set old.stacks n x) k b =
    ap (λ (s : Seats). s.stacks) three ∙ ap (λ (s : Seats). slice_set s.stacks k b) two ∙ set_changed (bound_to (length first.threads)) k first.stacks b ∙ ap (λ (s : Seats). slice_set s.stacks k b) one in
    let low = moved_low old.stacks n k x e ready in
    let long : length new.stacks ≡ length old.stacks = ap length short ∙ set_long (slice_set old.stacks n x) k b ∙ set_long old.stacks n x in
    record {
      threads = threads;
      stacks = λ s. ap (λ ss. slice_set ss k s) short ∙ set_again (slice_set old.stacks n x) k b s;
      waiters = ap (λ (s : Seats). s.waiters) three ∙ ap (λ (s : Seats). s.waiters) two ∙ ap (λ (s : Seats). s.waiters) one;
      on = starts_on old new k own threads;
      within = omega (arith, low, long);
    }

pub begun_up : (old first second : Seats) (j n k : ℕ) (own : Scalar) (e : Entered) (x : Stack) (gs : List Activation) → j ≡ length old.threads → k ≢ n → IsReadyFor (slice_get old.stacks k) e → first ≡ record old { stacks = slice_set old.stacks n x }
    → second ≡ record first { threads = first.threads ++ Some (record { stack = k; own = own }) ∷ []; stacks = changed (bound_to (length first.threads)) k first.stacks }
    → slice_get second.stacks k ≡ Some (Active j gs) → slice_get old.stacks k ≡ Some (Ready gs)
begun_up old first second j n k own e x gs number other ready one two there =
    let count : length first.threads ≡ j = ap (λ (s : Seats). length s.threads) one ∙ sym number in
    let stacks : second.stacks ≡ changed (bound_to j) k (slice_set old.stacks n x) =
    ap (λ (s : Seats). s.stacks) two ∙ ap (λ j. changed (bound_to j) k first.stacks) count ∙ ap (λ (s : Seats). changed (bound_to j) k s.stacks) one in
    taken_up old.stacks j n k x gs e other ready (ap (λ ss. slice_get ss k) (sym stacks) ∙ there)

pub begun_on : (old first second : Seats) (j n k : ℕ) (own : Scalar) (x : Stack) → j ≡ length old.threads → first ≡ record old { stacks = slice_set old.stacks n x }
    → second ≡ record first { threads = first.threads ++ Some (record { stack = k; own = own }) ∷ []; stacks = changed (bound_to (length first.threads)) k first.stacks } → IsOn second j k
begun_on old first second j n k own x number one two =
    let count : length first.threads ≡ j = ap (λ (s : Seats). length s.threads) one ∙ sym number in
    subst (λ j. IsOn second j k) count (starts_on first second k own (ap (λ (s : Seats). s.threads) two))
