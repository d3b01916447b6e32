-- Laws of the acts on stacks, on a thread's own object, and of what a thread tells of itself.
use Rattle.std.specs.Prelude.{◌≡◌, ◌≢◌, ℕ, zero, suc, ◌+◌, ◌<◌, nat_lt, Bool, true, List, [], ◌∷◌, ◌++◌, Option, Some, None, IsSome, IsSomeAnd, Ok, Err, length, flat_map, option_map, slice_get, slice_set, refl}
use Rattle.std.proofs.Common.{sym, ◌∙◌, ap, subst, arith}
use Rattle.ir_tree.specs.declared.items.Item.{Item}
use Rattle.mu_values.specs.declared.scalars.Scalar.{Scalar}
use Rattle.mu_values.specs.declared.scalars.Scalar.TheVariants as scalars
use Rattle.checked_code.specs.declared.blocks.Function.{Function}
use Rattle.checked_code.specs.Checking.{bundle_tables, bundle_functions}
use Rattle.typed_heap.specs.Places.{with_some}
use Rattle.frames.specs.Activations.{Value, Activation}
use Rattle.frames.specs.Chains.{frames_of, nothing_kept}
use Rattle.mem_axioms.specs.declared.types.Kind.TheVariants.{NewStack}
use Rattle.mem_axioms.specs.declared.types.Rule.{Rule}
use Rattle.mem_axioms.specs.declared.types.Event.{Event}
use Rattle.mem_axioms.specs.EventFits.{is_thread, EventFits}
use Rattle.mu_model.specs.declared.lines.Line.TheVariants as lines
use Rattle.mu_model.specs.declared.endings.Case.TheVariants as cases
use Rattle.mu_model.specs.Types.{classes_taken}
use Rattle.mu_model.specs.Configuration.{Stack, Ready, Active, Dead, Thread, Configuration}
use Rattle.mu_model.specs.Acts.{Gives, Tells, TellsOwn, SetsOwn, MakesStack, KillsStack, Doing}
use Rattle.mu_model.specs.Frames.{fresh_frame, passed}
use Rattle.mu_model.specs.Changes.{changed, event, logged, stack_becomes, stack_dies, thread_changes}
use Rattle.mu_model.specs.Outcomes.{Outcome, Next, End, Stuck, on, next, onto, has_results, has_result}
use Rattle.mu_model.specs.EnteringStacks.{ready_at, ready}
use Rattle.mu_model.specs.Step.{with_own, tells_own}
use Rattle.model_numbers.specs.Numbered.{numbered}
use Rattle.seats.specs.Seats.{Seats, seat_of, IsOn, IsReady, IsActiveOrDead}
use Rattle.run_state.specs.Held.{Held, held_stacks}
use Rattle.run_state.specs.Acting.{begun, turn, went_on, went_with, acting, goes_on, undefined_at, objects_end}
use Rattle.run_state.specs.Hand.{IsSound, set_length}
use Rattle.run_state.specs.StepLaws.{set_again, on_there, some_there, get_below, acting_there, acting_is}
use Rattle.run_state.specs.ActLaws.{onto_there, tried_there, tried_is, body, first_is, tries_there, tries_no_body}

-- ---- lists with elements written

-- what is written twice is what is written last, also where another one is written between
set_through : {A : Type 0} (xs : List A) (k n : ℕ) (a b d : A) → slice_set (slice_set (slice_set xs k a) n d) k b ≡ slice_set (slice_set xs n d) k b
set_through [] k n a b d = refl
set_through (x ∷ xs) zero zero a b d = refl
set_through (x ∷ xs) zero (suc n) a b d = refl
set_through (x ∷ xs) (suc k) zero a b d = ap (λ ys. d ∷ ys) (set_again xs k a b)
set_through (x ∷ xs) (suc k) (suc n) a b d = ap (λ ys. x ∷ ys) (set_through xs k n a b d)

get_other : {A : Type 0} (xs : List A) (k n : ℕ) (a : A) → n ≢ k → slice_get (slice_set xs k a) n ≡ slice_get xs n
get_other [] k n a h = refl
get_other (x ∷ xs) zero zero a h = absurd (h refl)
get_other (x ∷ xs) zero (suc n) a h = refl
get_other (x ∷ xs) (suc k) zero a h = refl
get_other (x ∷ xs) (suc k) (suc n) a h = get_other xs k n a (λ e. h (ap suc e))

get_written : {A : Type 0} (xs : List A) (k : ℕ) (a b : A) → slice_get (slice_set xs k a) k ≡ Some b → b ≡ a
get_written [] k a b h = cc
get_written (x ∷ xs) zero a b h = cc
get_written (x ∷ xs) (suc k) a b h = get_written xs k a b h

-- one is written among those that are there, and others stand behind
set_behind : {A : Type 0} (xs ys : List A) (k : ℕ) (a b : A) → k < length xs → slice_set (slice_set xs k a ++ ys) k b ≡ slice_set (xs ++ ys) k b
set_behind [] ys k a b h = absurd (omega (arith, h))
set_behind (x ∷ xs) ys zero a b h = refl
set_behind (x ∷ xs) ys (suc k) a b h = ap (λ zs. x ∷ zs) (set_behind xs ys k a b (omega (arith, h)))

-- ---- results, whatever else was changed

results_there : (bundle : List Item) (s : Held) (d : Doing) (c : Configuration) (vs : List Value) → has_results (numbered bundle) c (turn s d) vs ≢ Stuck → IsSome (goes_on bundle s.frames.top vs)
unfolding goes_on
results_there bundle s d c vs h =
    let r = on_there (with_some (passed (numbered bundle) s.frames.top vs) (onto (turn s d))) _ h in
    onto_there (turn s d) (passed (numbered bundle) s.frames.top vs) r.0 r.1

results_are : (bundle : List Item) (s : Held) (d : Doing) (c : Configuration) (vs : List Value) (f : Activation) → goes_on bundle s.frames.top vs ≡ Some f
    → has_results (numbered bundle) c (turn s d) vs ≡ Next (stack_becomes s.stack (Active s.thread (f ∷ s.frames.below)) c)
unfolding goes_on on
results_are bundle s d c vs f e = ap (λ o. next c (turn s d) (with_some o (onto (turn s d)))) e

-- ---- what a thread tells

pub tells_stack : (bundle : List Item) (s : Held) → acting bundle s Tells ≡ acting bundle s (Gives ((scalars.Stack s.stack ∷ []) ∷ []))
unfolding acting
tells_stack bundle s = refl

seat_there : (o : Option (Option Thread)) (r : Scalar) → IsSomeAnd (with_some o (λ t. t)) (λ (t : Thread). t.own ≡ r) → (t : Thread) × (o ≡ Some (Some t)) × (t.own ≡ r)
seat_there None r h = absurd h
seat_there (Some None) r h = absurd h
seat_there (Some (Some t)) r h = (t, refl, h)

told_by : (bundle : List Item) (s : Held) (d : Doing) (r : Scalar) (o : Option (Option Thread)) → IsSomeAnd (with_some o (λ t. t)) (λ (t : Thread). t.own ≡ r)
    → on o (λ t. on t (tells_own (numbered bundle) (begun s) (turn s d))) ≡ has_result (numbered bundle) (begun s) (turn s d) r
unfolding on
told_by bundle s d r o h =
    let q = seat_there o r h in
    ap (λ (o : Option (Option Thread)). on o (λ t. on t (tells_own (numbered bundle) (begun s) (turn s d)))) q.1 ∙ ap (has_result (numbered bundle) (begun s) (turn s d)) q.2

-- its own object
pub tells_own_object : (bundle : List Item) (s : Held) (r : Scalar) → acting bundle s TellsOwn ≢ Stuck → IsSomeAnd (seat_of s.seats s.thread) (λ t. t.own ≡ r)
    → acting bundle s TellsOwn ≡ acting bundle s (Gives ((r ∷ []) ∷ []))
tells_own_object bundle s r h own =
    let q = acting_there bundle s TellsOwn h in
    acting_is bundle s TellsOwn q.0 q.1 ∙ told_by bundle s q.0 r (slice_get s.seats.threads s.thread) own ∙ sym (acting_is bundle s (Gives ((r ∷ []) ∷ [])) q.0 q.1)

-- the thread in hand is left
pub hand_seated : (thread stack : ℕ) (seats : Seats) → IsOn seats thread stack → IsSome (seat_of seats thread)
hand_seated thread stack seats h = by (seat_of seats thread) h
  where
    by : (o : Option Thread) → IsSomeAnd o (λ (t : Thread). t.stack ≡ stack) → IsSome o
    by None h = absurd h
    by (Some t) h = refl

pub ruleset telling_own = (tells_own_object, hand_seated)

-- ---- its own object is set

-- the threads, where one has another own object
abbrev pub with_other : Scalar → ℕ → Seats → Seats
with_other r i seats = record seats { threads = changed (option_map (with_own r)) i seats.threads }

pub sets_there : (bundle : List Item) (s : Held) (r : Scalar) → acting bundle s (SetsOwn r) ≢ Stuck → IsSome (goes_on bundle s.frames.top [])
sets_there bundle s r h =
    let q = acting_there bundle s (SetsOwn r) h in
    results_there bundle s q.0 (thread_changes s.thread (with_own r) (begun s)) [] q.2

pub sets_is : (bundle : List Item) (s : Held) (r : Scalar) (f : Activation) → acting bundle s (SetsOwn r) ≢ Stuck → goes_on bundle s.frames.top [] ≡ Some f
    → acting bundle s (SetsOwn r) ≡ went_on (record s { frames = record s.frames { top = f }; seats = with_other r s.thread s.seats })
unfolding went_on
sets_is bundle s r f h way =
    let q = acting_there bundle s (SetsOwn r) h in
    let c = thread_changes s.thread (with_own r) (begun s) in
    acting_is bundle s (SetsOwn r) q.0 q.1 ∙ results_are bundle s q.0 c [] f way
    ∙ ap (λ stacks. Next (record c { stacks = stacks })) (set_again s.seats.stacks s.stack (Active s.thread (frames_of s.frames)) (Active s.thread (f ∷ s.frames.below)))

changed_length : {A : Type 0} (g : A → A) (n : ℕ) (xs : List A) → length (changed g n xs) ≡ length xs
changed_length g n [] = refl
changed_length g zero (x ∷ xs) = refl
changed_length g (suc n) (x ∷ xs) = ap suc (changed_length g n xs)

own_seated : (r : Scalar) (i k : ℕ) (ts : List (Option Thread)) → IsSomeAnd (with_some (slice_get ts i) (λ t. t)) (λ (t : Thread). t.stack ≡ k)
    → IsSomeAnd (with_some (slice_get (changed (option_map (with_own r)) i ts) i) (λ t. t)) (λ (t : Thread). t.stack ≡ k)
own_seated r i k [] h = absurd h
own_seated r zero k (None ∷ ts) h = absurd h
own_seated r zero k (Some t ∷ ts) h = h
own_seated r (suc i) k (t ∷ ts) h = own_seated r i k ts h

pub own_sound : (r : Scalar) (left : Bool) (thread stack : ℕ) (seats after : Seats) (log : List Event) → IsSound left thread stack seats log → after ≡ with_other r thread seats → IsSound left thread stack after log
own_sound r left thread stack seats after log h e =
    subst (λ seats. IsSound left thread stack seats log) (sym e)
    (record {
      on_stack = λ e. own_seated r thread stack seats.threads (h.on_stack e);
      within = h.within;
      made = λ i. h.made i ∙ ap (nat_lt i) (sym (changed_length (option_map (with_own r)) thread seats.threads));
    })

pub ruleset setting_own = (sets_there, sets_is, hand_seated, own_sound)

-- ---- a stack that is made

-- the frame of a function that waits for its parameters
abbrev pub waiting_frame : ℕ → List ℕ → Activation
waiting_frame block waits = record { block = block; at = 0; vars = []; fresh = true; waits = waits; handler = None; kept = nothing_kept; objects = [] }

-- with a stack more, that is ready for these classes
abbrev pub with_stack : ℕ → List ℕ → Seats → Seats
with_stack block waits seats = record seats { stacks = seats.stacks ++ Ready (waiting_frame block waits ∷ []) ∷ [] }

abbrev pub stack_event : ℕ → ℕ → Event
stack_event i k = event i (NewStack k)

-- the thread that made it
abbrev pub stack_made : List Item → Held → ℕ → ℕ → Activation → Held
stack_made bundle s f block top =
    record s {
      frames = record s.frames { top = top };
      seats = with_stack block (classes_taken (bundle_tables bundle) f) s.seats;
      log = stack_event s.thread (length s.seats.stacks) ∷ s.log;
    }

-- the configuration with that stack, whose number is given
more_stacks : List Item → Held → ℕ → ℕ → ℕ → Configuration
more_stacks bundle s f block n = logged s.thread (NewStack n) (record (begun s) { stacks = held_stacks s ++ Ready (fresh_frame (numbered bundle) f block ∷ []) ∷ [] })

make_by : List Item → Held → Doing → ℕ → ℕ → ℕ → Outcome
make_by bundle s d f n block = has_result (numbered bundle) (more_stacks bundle s f block n) (turn s d) (scalars.Stack n)

make_go : List Item → Held → Doing → ℕ → ℕ → Outcome
make_go bundle s d f block = make_by bundle s d f (length (held_stacks s)) block

count_held : (s : Held) → length (held_stacks s) ≡ length s.seats.stacks
count_held s = set_length s.seats.stacks s.stack (Active s.thread (frames_of s.frames))

pub makes_stack_there : (bundle : List Item) (s : Held) (f : ℕ) → acting bundle s (MakesStack f) ≢ Stuck → f < length (bundle_functions bundle)
unfolding make_go make_by more_stacks
makes_stack_there bundle s f h = tries_there bundle s (MakesStack f) f (λ d. make_go bundle s d f) (λ d. refl) h

pub makes_without_body : (bundle : List Item) (s : Held) (f : ℕ) (function : Function) → acting bundle s (MakesStack f) ≢ Stuck → slice_get (bundle_functions bundle) f ≡ Some function → function.first ≡ None
    → acting bundle s (MakesStack f) ≡ End [] (undefined_at s cases.NoBody)
unfolding make_go make_by more_stacks
makes_without_body bundle s f function h e none = tries_no_body bundle s (MakesStack f) f function (λ d. make_go bundle s d f) (λ d. refl) h e none

-- of a function with that first block
makes_by : (bundle : List Item) (s : Held) (f block : ℕ) (function : Function) → acting bundle s (MakesStack f) ≢ Stuck → slice_get (bundle_functions bundle) f ≡ Some function → function.first ≡ Some block
    → (d : Doing) × (acting bundle s (MakesStack f) ≡ make_by bundle s d f (length s.seats.stacks) block)
unfolding make_go make_by more_stacks
makes_by bundle s f block function h e first =
    let r = acting_there bundle s (MakesStack f) h in (
      r.0,
      acting_is bundle s (MakesStack f) r.0 r.1 ∙ tried_is (numbered bundle) s r.0 ℕ (body bundle f) (Ok block) (make_go bundle s r.0 f) (first_is bundle f block function e first)
          ∙ ap (λ n. make_by bundle s r.0 f n block) (count_held s),
    )

pub makes_goes : (bundle : List Item) (s : Held) (f block : ℕ) (function : Function) → acting bundle s (MakesStack f) ≢ Stuck → slice_get (bundle_functions bundle) f ≡ Some function → function.first ≡ Some block
    → IsSome (goes_on bundle s.frames.top ((scalars.Stack (length s.seats.stacks) ∷ []) ∷ []))
unfolding make_by
makes_goes bundle s f block function h e first =
    let q = makes_by bundle s f block function h e first in
    results_there bundle s q.0 (more_stacks bundle s f block (length s.seats.stacks)) ((scalars.Stack (length s.seats.stacks) ∷ []) ∷ []) (λ stuck. h (q.1 ∙ stuck))

made_more : (bundle : List Item) (s : Held) (f block : ℕ) (top : Activation) → s.stack < length s.seats.stacks
    → Next (stack_becomes s.stack (Active s.thread (top ∷ s.frames.below)) (more_stacks bundle s f block (length s.seats.stacks)))
    ≡ went_with (stack_made bundle s f block top) (lines.Event (length s.log) (stack_event s.thread (length s.seats.stacks)) ∷ [])
unfolding went_with more_stacks
made_more bundle s f block top low =
    let more = Ready (fresh_frame (numbered bundle) f block ∷ []) ∷ [] in
    ap (λ stacks. Next (record (more_stacks bundle s f block (length s.seats.stacks)) { stacks = stacks }))
    (set_behind s.seats.stacks more s.stack (Active s.thread (frames_of s.frames)) (Active s.thread (top ∷ s.frames.below)) low)

pub makes_is : (bundle : List Item) (s : Held) (f block : ℕ) (function : Function) (top : Activation) → acting bundle s (MakesStack f) ≢ Stuck → slice_get (bundle_functions bundle) f ≡ Some function → function.first ≡ Some block
    → s.stack < length s.seats.stacks → goes_on bundle s.frames.top ((scalars.Stack (length s.seats.stacks) ∷ []) ∷ []) ≡ Some top
    → acting bundle s (MakesStack f) ≡ went_with (stack_made bundle s f block top) (lines.Event (length s.log) (stack_event s.thread (length s.seats.stacks)) ∷ [])
unfolding make_by
makes_is bundle s f block function top h e first low way =
    let q = makes_by bundle s f block function h e first in
    q.1 ∙ results_are bundle s q.0 (more_stacks bundle s f block (length s.seats.stacks)) ((scalars.Stack (length s.seats.stacks) ∷ []) ∷ []) top way
    ∙ made_more bundle s f block top low

pub stack_fits : (rule : Rule) (objects : List (List Scalar)) (lg log : List Event) (i k : ℕ) → lg ≡ log → is_thread log i ≡ true → EventFits rule objects lg (stack_event i k)
stack_fits rule objects lg log i k same made =
    subst (λ log. EventFits rule objects log (stack_event i k)) (sym same) (record { thread = made; child = tt; cell = tt; wake = tt; position = tt })

pub ruleset makes_stack = (makes_stack_there, makes_without_body)

-- ---- a stack that is named by a scalar

ready_some : (ss : List Stack) (n : ℕ) (o : Option Stack) → slice_get ss n ≡ o → IsSome (with_some o (λ s. Some (ready_at n s))) → n < length ss
ready_some ss n None e h = cc
ready_some ss n (Some x) e h = get_below ss n x e

pub stack_there : (s : Held) (n : ℕ) → IsSome (ready (held_stacks s) (scalars.Stack n)) → n < length s.seats.stacks
stack_there s n h =
    let low = ready_some (held_stacks s) n (slice_get (held_stacks s) n) refl h in
    omega (arith, low, count_held s)

not_ready : (n : ℕ) (o : Option Stack) → IsSomeAnd o IsActiveOrDead → with_some o (λ s. Some (ready_at n s)) ≡ Some (Err cases.StackNotReady)
not_ready n None h = absurd h
not_ready n (Some (Ready fs)) h = absurd h
not_ready n (Some (Active j fs)) h = refl
not_ready n (Some Dead) h = refl

active_by : (ss : List Stack) (k n i : ℕ) (fs : List Activation) → n ≡ k → (o : Option Stack) → slice_get (slice_set ss k (Active i fs)) n ≡ o → IsSome (with_some o (λ s. Some (ready_at n s)))
    → with_some o (λ s. Some (ready_at n s)) ≡ Some (Err cases.StackNotReady)
active_by ss k n i fs same None e h = cc
active_by ss k n i fs same (Some x) e h =
    let is : x ≡ Active i fs = get_written ss k (Active i fs) x (ap (slice_get (slice_set ss k (Active i fs))) (sym same) ∙ e) in
    ap (λ x. Some (ready_at n x)) is

-- the thread's own stack is active
pub own_active : (s : Held) (n : ℕ) → IsSome (ready (held_stacks s) (scalars.Stack n)) → n ≡ s.stack → ready (held_stacks s) (scalars.Stack n) ≡ Some (Err cases.StackNotReady)
own_active s n h same = active_by s.seats.stacks s.stack n s.thread (frames_of s.frames) same (slice_get (held_stacks s) n) refl h

pub other_active : (s : Held) (n : ℕ) → n ≢ s.stack → IsSomeAnd (slice_get s.seats.stacks n) IsActiveOrDead → ready (held_stacks s) (scalars.Stack n) ≡ Some (Err cases.StackNotReady)
other_active s n other h =
    ap (λ o. with_some o (λ x. Some (ready_at n x))) (get_other s.seats.stacks s.stack n (Active s.thread (frames_of s.frames)) other) ∙ not_ready n (slice_get s.seats.stacks n) h

pub other_ready : (o : Option Stack) (fs : List Activation) → o ≡ Some (Ready fs) → IsReady o
other_ready o fs e = subst IsReady (sym e) tt

ready_is : (s : Held) (n : ℕ) (fs : List Activation) → n ≢ s.stack → slice_get s.seats.stacks n ≡ Some (Ready fs) → ready (held_stacks s) (scalars.Stack n) ≡ Some (Ok (n, fs))
ready_is s n fs other e =
    ap (λ o. with_some o (λ x. Some (ready_at n x))) (get_other s.seats.stacks s.stack n (Active s.thread (frames_of s.frames)) other ∙ e)

pub ruleset names_stack = (stack_there, own_active, other_active, other_ready)

-- ---- a stack that is killed

-- the thread that killed it
abbrev pub stack_killed : Held → ℕ → List Activation → Activation → Held
stack_killed s n fs top =
    record s {
      frames = record s.frames { top = top };
      seats = record s.seats { stacks = slice_set s.seats.stacks n Dead };
      objects = objects_end s.objects (flat_map (λ (f : Activation). f.objects) fs);
    }

kill_go : List Item → Held → Doing → ℕ × List Activation → Outcome
kill_go bundle s d r = has_results (numbered bundle) (stack_dies r.0 r.1 (begun s)) (turn s d) []

pub kills_named : (bundle : List Item) (s : Held) (x : Scalar) → acting bundle s (KillsStack x) ≢ Stuck → IsSome (ready (held_stacks s) x)
unfolding kill_go
kills_named bundle s x h =
    let r = acting_there bundle s (KillsStack x) h in
    let q = tried_there (numbered bundle) s r.0 (ℕ × List Activation) (ready (held_stacks s) x) (kill_go bundle s r.0) r.2 in
    some_there (ready (held_stacks s) x) q.0 q.1

pub kills_not_ready : (bundle : List Item) (s : Held) (x : Scalar) → acting bundle s (KillsStack x) ≢ Stuck → ready (held_stacks s) x ≡ Some (Err cases.StackNotReady)
    → acting bundle s (KillsStack x) ≡ End [] (undefined_at s cases.StackNotReady)
unfolding kill_go
kills_not_ready bundle s x h e =
    let r = acting_there bundle s (KillsStack x) h in
    acting_is bundle s (KillsStack x) r.0 r.1 ∙ tried_is (numbered bundle) s r.0 (ℕ × List Activation) (ready (held_stacks s) x) (Err cases.StackNotReady) (kill_go bundle s r.0) e

kills_by : (bundle : List Item) (s : Held) (x : Scalar) (n : ℕ) (fs : List Activation) → acting bundle s (KillsStack x) ≢ Stuck → x ≡ scalars.Stack n → n ≢ s.stack → slice_get s.seats.stacks n ≡ Some (Ready fs)
    → (d : Doing) × (acting bundle s (KillsStack x) ≡ kill_go bundle s d (n, fs))
unfolding kill_go
kills_by bundle s x n fs h named other e =
    let r = acting_there bundle s (KillsStack x) h in
    let is : ready (held_stacks s) x ≡ Some (Ok (n, fs)) = ap (ready (held_stacks s)) named ∙ ready_is s n fs other e in
    (r.0, acting_is bundle s (KillsStack x) r.0 r.1 ∙ tried_is (numbered bundle) s r.0 (ℕ × List Activation) (ready (held_stacks s) x) (Ok (n, fs)) (kill_go bundle s r.0) is)

ready_frames : (o : Option Stack) → IsReady o → (fs : List Activation) × (o ≡ Some (Ready fs))
ready_frames None h = absurd h
ready_frames (Some (Ready fs)) h = (fs, refl)
ready_frames (Some (Active i fs)) h = absurd h
ready_frames (Some Dead) h = absurd h

pub kills_goes : (bundle : List Item) (s : Held) (x : Scalar) (n : ℕ) → acting bundle s (KillsStack x) ≢ Stuck → x ≡ scalars.Stack n → n ≢ s.stack → IsReady (slice_get s.seats.stacks n) → IsSome (goes_on bundle s.frames.top [])
unfolding kill_go
kills_goes bundle s x n h named other is =
    let fs = ready_frames (slice_get s.seats.stacks n) is in
    let q = kills_by bundle s x n fs.0 h named other fs.1 in
    results_there bundle s q.0 (stack_dies n fs.0 (begun s)) [] (λ stuck. h (q.1 ∙ stuck))

killed_more : (s : Held) (n : ℕ) (fs : List Activation) (top : Activation) → Next (stack_becomes s.stack (Active s.thread (top ∷ s.frames.below)) (stack_dies n fs (begun s))) ≡ went_on (stack_killed s n fs top)
unfolding went_on objects_end
killed_more s n fs top =
    ap (λ stacks. Next (record (stack_dies n fs (begun s)) { stacks = stacks }))
    (set_through s.seats.stacks s.stack n (Active s.thread (frames_of s.frames)) (Active s.thread (top ∷ s.frames.below)) Dead)

pub kills_is : (bundle : List Item) (s : Held) (x : Scalar) (n : ℕ) (fs : List Activation) (top : Activation) → acting bundle s (KillsStack x) ≢ Stuck → x ≡ scalars.Stack n → n ≢ s.stack → slice_get s.seats.stacks n ≡ Some (Ready fs)
    → goes_on bundle s.frames.top [] ≡ Some top → acting bundle s (KillsStack x) ≡ went_on (stack_killed s n fs top)
unfolding kill_go
kills_is bundle s x n fs top h named other e way =
    let q = kills_by bundle s x n fs h named other e in
    q.1 ∙ results_are bundle s q.0 (stack_dies n fs (begun s)) [] top way ∙ killed_more s n fs top

pub ruleset kills_stack = (kills_named, kills_not_ready)
