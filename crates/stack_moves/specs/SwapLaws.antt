-- Laws of the acts that enter a stack.
use Rattle.std.specs.Prelude.{◌≡◌, ◌≢◌, ℕ, zero, suc, ◌+◌, ◌<◌, true, false, List, [], ◌∷◌, Option, Some, None, IsSome, IsSomeAnd, Ok, Err, length, reverse, option_map, flat_map, slice_get, slice_set, refl}
use Rattle.std.proofs.Common.{sym, ◌∙◌, ap, subst, arith, add-one}
use Rattle.ir_tree.specs.declared.items.Item.{Item}
use Rattle.mu_values.specs.declared.scalars.Scalar.{Scalar}
use Rattle.mu_values.specs.declared.scalars.Scalar.TheVariants as scalars
use Rattle.typed_heap.specs.Objects.{HeapObject}
use Rattle.typed_heap.specs.Places.{with_some}
use Rattle.frames.specs.Activations.{Activation}
use Rattle.frames.specs.Chains.{Chain, frames_of}
use Rattle.mem_axioms.specs.declared.types.Event.{Event}
use Rattle.mem_axioms.specs.declared.types.Kind.TheVariants.{Leave, Enter}
use Rattle.mem_axioms.specs.declared.types.Rule.{Rule}
use Rattle.mu_model.specs.declared.lines.Line.{Line}
use Rattle.mu_model.specs.declared.lines.Line.TheVariants as lines
use Rattle.mu_model.specs.declared.endings.StepEnd.TheVariants.{Went}
use Rattle.mu_model.specs.declared.endings.Case.{Case}
use Rattle.mu_model.specs.declared.endings.Case.TheVariants.{StackNotReady}
use Rattle.mu_model.specs.Acts.{Entering, Swaps, Leaves, Doing}
use Rattle.mu_model.specs.Changes.{changed, event}
use Rattle.futex.specs.declared.waiters.Waiter.{Waiter}
use Rattle.mu_model.specs.Configuration.{Stack, Ready, Active, Dead, Thread, Configuration}
use Rattle.mu_model.specs.Exceptions.{EnteredFrames}
use Rattle.mu_model.specs.EnteringStacks.{ready_at, ready, entered, on_stack, enters, entering, leaving}
use Rattle.mu_model.specs.Outcomes.{Outcome, Next, End, Stuck, tried}
use Rattle.mu_model.specs.Turns.{waiting}
use Rattle.model_numbers.specs.Numbered.{numbered}
use Rattle.seats.specs.Seats.{Seats, IsReady, IsActiveOrDead}
use Rattle.run_state.specs.Outcome.{outcome_of}
use Rattle.run_state.specs.Held.{Held, ahead, held_stacks}
use Rattle.run_state.specs.Acting.{begun, turn, doing_of, answers, acting, is_fault, undefined_at, Awaited, with_awaited, awaited_by, awaits, objects_end}
use Rattle.run_state.specs.StepLaws.{on_there, on_is, some_there, some_of, with_is, set_again, set_there, get_below, configuration_left, acting_there, acting_is}
use Rattle.run_state.specs.ActLaws.{refused_plainly, tried_there, tried_is, waits_by, waits_there}
use Rattle.stack_moves.specs.Entering.{nothing, entered_by, frames_at, IsMoved, swapped, swapped_with, left_dead}
use Rattle.stack_moves.specs.EnteringLaws.{set_other}

-- ---- the stack that is to be entered

ready_so : (ss : List Stack) (k : ℕ) (s : Stack) → slice_get ss k ≡ Some s → ready ss (scalars.Stack k) ≡ Some (ready_at k s)
ready_so ss k s e = with_is (slice_get ss k) s (λ s. Some (ready_at k s)) e

pub own_not_ready : (ss : List Stack) (i n : ℕ) (fs : List Activation) → n < length ss → ready (slice_set ss n (Active i fs)) (scalars.Stack n) ≡ Some (Err StackNotReady)
own_not_ready ss i n fs low = ready_so (slice_set ss n (Active i fs)) n (Active i fs) (set_there ss n (Active i fs) low)

not_ready_by : (k : ℕ) (o : Option Stack) → IsSomeAnd o IsActiveOrDead → with_some o (λ s. Some (ready_at k s)) ≡ Some (Err StackNotReady)
not_ready_by k None h = absurd h
not_ready_by k (Some (Ready fs)) h = absurd h
not_ready_by k (Some (Active i fs)) h = refl
not_ready_by k (Some Dead) h = refl

pub other_not_ready : (ss : List Stack) (n k : ℕ) (s : Stack) → k ≢ n → IsSomeAnd (slice_get ss k) IsActiveOrDead → ready (slice_set ss n s) (scalars.Stack k) ≡ Some (Err StackNotReady)
other_not_ready ss n k s other h = ap (λ o. with_some o (λ s. Some (ready_at k s))) (set_other ss n k s other) ∙ not_ready_by k (slice_get ss k) h

pub other_ready : (ss : List Stack) (n k : ℕ) (s : Stack) (fs : List Activation) → k ≢ n → slice_get ss k ≡ Some (Ready fs) → ready (slice_set ss n s) (scalars.Stack k) ≡ Some (Ok (k, fs))
other_ready ss n k s fs other h = ready_so (slice_set ss n s) k (Ready fs) (set_other ss n k s other ∙ h)

set_low : (ss : List Stack) (n k : ℕ) (s : Stack) → IsSome (slice_get (slice_set ss n s) k) → k < length ss
set_low [] n k s h = cc
set_low (x ∷ ss) n zero s h = omega arith
set_low (x ∷ ss) zero (suc k) s h = let r = some_of (slice_get ss k) h in let low = get_below ss k r.0 r.1 in omega (arith, low)
set_low (x ∷ ss) (suc n) (suc k) s h = let low = set_low ss n k s h in omega (arith, low)

ready_some : (o : Option Stack) (k : ℕ) → IsSome (with_some o (λ s. Some (ready_at k s))) → IsSome o
ready_some None k h = h
ready_some (Some s) k h = refl

pub stack_there : (ss : List Stack) (n k : ℕ) (s : Stack) → IsSome (ready (slice_set ss n s) (scalars.Stack k)) → k < length ss
stack_there ss n k s h = set_low ss n k s (ready_some (slice_get (slice_set ss n s) k) k h)

-- ---- a stack that is looked at

pub frames_are : (o : Option Stack) (fs : List Activation) → o ≡ Some (Ready fs) → frames_at o ≡ fs
unfolding frames_at
frames_are o fs e = ap frames_at e

pub ready_frames : (o : Option Stack) → IsReady o → o ≡ Some (Ready (frames_at o))
unfolding frames_at
ready_frames None h = absurd h
ready_frames (Some (Ready fs)) h = refl
ready_frames (Some (Active i fs)) h = absurd h
ready_frames (Some Dead) h = absurd h

pub is_ready : (o : Option Stack) (fs : List Activation) → o ≡ Some (Ready fs) → IsReady o
is_ready o fs e = subst IsReady (sym e) tt

pub not_both : (o : Option Stack) → IsReady o → IsSomeAnd o IsActiveOrDead → false ≡ true
not_both None h k = absurd h
not_both (Some (Ready fs)) h k = absurd k
not_both (Some (Active i fs)) h k = absurd h
not_both (Some Dead) h k = absurd h

pub ruleset looking = (frames_are, not_both)

pub ruleset targets = (own_not_ready, other_not_ready, stack_there, is_ready)

-- ---- entering

abbrev pub Going : Type 0
Going = ℕ → EnteredFrames → Outcome

abbrev pub enters_with : List Item → Held → Doing → Scalar → Entering → Going → Outcome
enters_with bundle s d sc e go = entering (numbered bundle) (begun s) (turn s d) sc e go

pub enter_ready : (bundle : List Item) (s : Held) (d : Doing) (sc : Scalar) (e : Entering) (go : Going) → enters_with bundle s d sc e go ≢ Stuck → IsSome (ready (held_stacks s) sc)
enter_ready bundle s d sc e go h =
    let p = numbered bundle in
    let r = tried_there p s d (ℕ × List Activation) (ready (held_stacks s) sc) (λ r. tried p (begun s) (turn s d) (entered p r.1 e) (go r.0)) h in
    some_there (ready (held_stacks s) sc) r.0 r.1

enter_at : (bundle : List Item) (s : Held) (d : Doing) (sc : Scalar) (e : Entering) (go : Going) (k : ℕ) (fs : List Activation) → ready (held_stacks s) sc ≡ Some (Ok (k, fs))
    → enters_with bundle s d sc e go ≡ tried (numbered bundle) (begun s) (turn s d) (entered_by bundle fs e) (go k)
unfolding entered_by
enter_at bundle s d sc e go k fs there =
    let p = numbered bundle in
    tried_is p s d (ℕ × List Activation) (ready (held_stacks s) sc) (Ok (k, fs)) (λ r. tried p (begun s) (turn s d) (entered p r.1 e) (go r.0)) there

pub enter_there : (bundle : List Item) (s : Held) (d : Doing) (sc : Scalar) (e : Entering) (go : Going) (k : ℕ) (fs : List Activation) → enters_with bundle s d sc e go ≢ Stuck → ready (held_stacks s) sc ≡ Some (Ok (k, fs))
    → IsSome (entered_by bundle fs e)
enter_there bundle s d sc e go k fs h there =
    let r = tried_there (numbered bundle) s d EnteredFrames (entered_by bundle fs e) (go k) (λ stuck. h (enter_at bundle s d sc e go k fs there ∙ stuck)) in
    some_there (entered_by bundle fs e) r.0 r.1

pub enter_not_ready : (bundle : List Item) (s : Held) (d : Doing) (sc : Scalar) (e : Entering) (go : Going) → ready (held_stacks s) sc ≡ Some (Err StackNotReady)
    → enters_with bundle s d sc e go ≡ End [] (undefined_at s StackNotReady)
enter_not_ready bundle s d sc e go none =
    let p = numbered bundle in
    tried_is p s d (ℕ × List Activation) (ready (held_stacks s) sc) (Err StackNotReady) (λ r. tried p (begun s) (turn s d) (entered p r.1 e) (go r.0)) none

pub enter_refused : (bundle : List Item) (s : Held) (d : Doing) (sc : Scalar) (e : Entering) (go : Going) (k : ℕ) (fs : List Activation) (q : Case) → ready (held_stacks s) sc ≡ Some (Ok (k, fs)) → entered_by bundle fs e ≡ Some (Err q)
    → is_fault q ≡ false → enters_with bundle s d sc e go ≡ End [] (undefined_at s q)
enter_refused bundle s d sc e go k fs q there refused plain =
    enter_at bundle s d sc e go k fs there ∙ tried_is (numbered bundle) s d EnteredFrames (entered_by bundle fs e) (Err q) (go k) refused ∙ refused_plainly (numbered bundle) s d q plain

pub enter_is : (bundle : List Item) (s : Held) (d : Doing) (sc : Scalar) (e : Entering) (go : Going) (k : ℕ) (fs : List Activation) (r : EnteredFrames) → ready (held_stacks s) sc ≡ Some (Ok (k, fs)) → entered_by bundle fs e ≡ Some (Ok r)
    → enters_with bundle s d sc e go ≡ go k r
enter_is bundle s d sc e go k fs r there way = enter_at bundle s d sc e go k fs there ∙ tried_is (numbered bundle) s d EnteredFrames (entered_by bundle fs e) (Ok r) (go k) way

-- ---- a swap

swap_go : Held → Doing → Activation → Going
swap_go s d f k r = Next (enters s.thread k r (leaving (turn s d) f (begun s)))

-- the frame waits, and another stack is entered
record SwapsAt (bundle : List Item) (s : Held) (sc : Scalar) (cs : List ℕ) (e : Entering) : Type 0 where
  pub doing : Doing
  pub awaited : Awaited
  pub waits : awaits bundle s.frames.top cs ≡ Some awaited
  pub is : acting bundle s (Swaps sc cs e) ≡ enters_with bundle s doing sc e (swap_go s doing (with_awaited s.frames.top awaited))

swap_at : (bundle : List Item) (s : Held) (sc : Scalar) (cs : List ℕ) (e : Entering) → acting bundle s (Swaps sc cs e) ≢ Stuck → SwapsAt bundle s sc cs e
unfolding swap_go awaits
swap_at bundle s sc cs e h =
    let r = acting_there bundle s (Swaps sc cs e) h in
    let go : Activation → Outcome = λ f. enters_with bundle s r.0 sc e (swap_go s r.0 f) in
    let f = on_there (waiting (turn s r.0) cs) go r.2 in
    let w = waits_there r.0.exceptional r.0.kept s.frames.top f.0 cs f.1 in
    record {
      doing = r.0;
      awaited = w.0;
      waits = with_is (doing_of (numbered bundle) s) r.0 (awaited_by cs) r.1 ∙ w.1;
      is =
          acting_is bundle s (Swaps sc cs e) r.0 r.1
          ∙ on_is (waiting (turn s r.0) cs) (with_awaited s.frames.top w.0) go (waits_by r.0.exceptional r.0.kept s.frames.top cs w.0 w.1);
    }

module _ (bundle : List Item) (s : Held) (sc : Scalar) (cs : List ℕ) (e : Entering) (h : acting bundle s (Swaps sc cs e) ≢ Stuck) where
  at : SwapsAt bundle s sc cs e
  at = swap_at bundle s sc cs e h

  pub swap_awaits : IsSome (awaits bundle s.frames.top cs)
  swap_awaits = some_there (awaits bundle s.frames.top cs) at.awaited at.waits

  going : enters_with bundle s at.doing sc e (swap_go s at.doing (with_awaited s.frames.top at.awaited)) ≢ Stuck
  going = λ stuck. h (at.is ∙ stuck)

  pub swap_ready : IsSome (ready (held_stacks s) sc)
  swap_ready = enter_ready bundle s at.doing sc e (swap_go s at.doing (with_awaited s.frames.top at.awaited)) going

  pub swap_enters : (k : ℕ) (fs : List Activation) → ready (held_stacks s) sc ≡ Some (Ok (k, fs)) → IsSome (entered_by bundle fs e)
  swap_enters k fs there = enter_there bundle s at.doing sc e (swap_go s at.doing (with_awaited s.frames.top at.awaited)) k fs going there

  pub swap_not_ready : ready (held_stacks s) sc ≡ Some (Err StackNotReady) → acting bundle s (Swaps sc cs e) ≡ End [] (undefined_at s StackNotReady)
  swap_not_ready none = at.is ∙ enter_not_ready bundle s at.doing sc e (swap_go s at.doing (with_awaited s.frames.top at.awaited)) none

  pub swap_refused : (k : ℕ) (fs : List Activation) (q : Case) → ready (held_stacks s) sc ≡ Some (Ok (k, fs)) → entered_by bundle fs e ≡ Some (Err q) → is_fault q ≡ false → acting bundle s (Swaps sc cs e) ≡ End [] (undefined_at s q)
  swap_refused k fs q there refused plain = at.is ∙ enter_refused bundle s at.doing sc e (swap_go s at.doing (with_awaited s.frames.top at.awaited)) k fs q there refused plain

  pub swap_is : (k : ℕ) (fs : List Activation) (r : EnteredFrames) (w : Awaited) → ready (held_stacks s) sc ≡ Some (Ok (k, fs)) → entered_by bundle fs e ≡ Some (Ok r) → awaits bundle s.frames.top cs ≡ Some w
      → acting bundle s (Swaps sc cs e) ≡ swapped s (with_awaited s.frames.top w) k r
  unfolding swap_go swapped
  swap_is k fs r w there way await =
      let same : at.awaited ≡ w = let found = at.waits in cc in
      at.is ∙ enter_is bundle s at.doing sc e (swap_go s at.doing (with_awaited s.frames.top at.awaited)) k fs r there way ∙ ap (λ w. swap_go s at.doing (with_awaited s.frames.top w) k r) same

  -- the same of another stack that is ready
  others : (k : ℕ) → sc ≡ scalars.Stack k → k ≢ s.stack → IsReady (slice_get s.seats.stacks k) → ready (held_stacks s) sc ≡ Some (Ok (k, frames_at (slice_get s.seats.stacks k)))
  others k is other there =
      ap (ready (held_stacks s)) is ∙ other_ready s.seats.stacks s.stack k (Active s.thread (frames_of s.frames)) (frames_at (slice_get s.seats.stacks k)) other (ready_frames (slice_get s.seats.stacks k) there)

  pub swap_looks : (k : ℕ) → sc ≡ scalars.Stack k → k ≢ s.stack → IsReady (slice_get s.seats.stacks k) → IsSome (entered_by bundle (frames_at (slice_get s.seats.stacks k)) e)
  swap_looks k is other there = swap_enters k (frames_at (slice_get s.seats.stacks k)) (others k is other there)

  pub swap_refuses : (k : ℕ) (q : Case) → sc ≡ scalars.Stack k → k ≢ s.stack → IsReady (slice_get s.seats.stacks k) → entered_by bundle (frames_at (slice_get s.seats.stacks k)) e ≡ Some (Err q) → is_fault q ≡ false
      → acting bundle s (Swaps sc cs e) ≡ End [] (undefined_at s q)
  swap_refuses k q is other there refused plain = swap_refused k (frames_at (slice_get s.seats.stacks k)) q (others k is other there) refused plain

  pub swap_goes : (k : ℕ) (r : EnteredFrames) (w : Awaited) → sc ≡ scalars.Stack k → k ≢ s.stack → IsReady (slice_get s.seats.stacks k) → entered_by bundle (frames_at (slice_get s.seats.stacks k)) e ≡ Some (Ok r)
      → awaits bundle s.frames.top cs ≡ Some w → acting bundle s (Swaps sc cs e) ≡ swapped s (with_awaited s.frames.top w) k r
  swap_goes k r w is other there way await = swap_is k (frames_at (slice_get s.seats.stacks k)) r w (others k is other there) way await

pub ruleset swapping = (swap_ready, swap_not_ready, swap_looks, swap_refuses)

-- ---- what an answer says where a thread has moved

-- the configuration of a thread in hand, of its parts
abbrev pub parts : Held → List (Option Thread) → List Stack → List Waiter → List HeapObject → List Event → Rule → ℕ → ℕ → List Line → Configuration
parts s ts ss ws os lg rl cells steps ls =
    record {
      threads = ts;
      stacks = ss;
      objects = os;
      log = lg;
      watched = s.watched;
      waiters = ws;
      client = s.client;
      picks = ahead s;
      cells = cells;
      steps = steps;
      budget = s.budget;
      rule = rl;
      lines = ls;
    }

abbrev pub at_stack : Held → ℕ → Chain → Seats → List HeapObject → ℕ → List Event → Rule → Held
at_stack s k fr seats os cells lg rl = record s { stack = k; frames = fr; seats = seats; objects = os; cells = cells; log = lg; rule = rl; steps = s.steps + 1 }

answers_at : (s : Held) (k : ℕ) (fr : Chain) (seats : Seats) (os : List HeapObject) (cells : ℕ) (lg : List Event) (rl : Rule) (ls : List Line) → s.left ≡ true
    → answers (Went ls) (at_stack s k fr seats os cells lg rl) ≡ Next (parts s seats.threads (slice_set seats.stacks k (Active s.thread (frames_of fr))) seats.waiters os lg rl cells (suc s.steps) (reverse ls))
unfolding answers
answers_at s k fr seats os cells lg rl ls left =
    ap (outcome_of (Went ls)) (configuration_left (at_stack s k fr seats os cells lg rl) left)
    ∙ ap (λ n. Next (parts s seats.threads (slice_set seats.stacks k (Active s.thread (frames_of fr))) seats.waiters os lg rl cells n (reverse ls))) (add-one s.steps)

-- What a move of the thread in hand comes to: its former stack became x, and the objects, the log and the lines are these now.
pub record Moved (s : Held) (x : Stack) (k : ℕ) (r : EnteredFrames) (ended : List HeapObject) (log : List Event) (told : List Line) (fr : Chain) (seats : Seats) (os : List HeapObject) (cells : ℕ) (lg : List Event) (rl : Rule) (ls : List Line) : Type 0 where
  pub left : s.left ≡ true
  pub seated : IsMoved s.seats seats s.thread s.stack k x
  pub frames : frames_of fr ≡ r.frames
  pub objects : os ≡ ended
  pub cells_same : cells ≡ s.cells
  pub logged : lg ≡ log
  pub rule : rl ≡ s.rule
  pub lines : reverse ls ≡ told

abbrev moved_stacks : Held → Stack → ℕ → EnteredFrames → List Stack
moved_stacks s x k r = slice_set (slice_set (held_stacks s) s.stack x) k (Active s.thread r.frames)

abbrev moved_outcome : Held → Stack → ℕ → EnteredFrames → List HeapObject → List Event → List Line → Outcome
moved_outcome s x k r ended log told = Next (parts s (changed (option_map (on_stack k)) s.thread s.seats.threads) (moved_stacks s x k r) s.seats.waiters ended log s.rule s.cells (suc s.steps) told)

moved_is : (s : Held) (x : Stack) (k : ℕ) (r : EnteredFrames) (ended : List HeapObject) (log : List Event) (told : List Line) (fr : Chain) (seats : Seats) (os : List HeapObject) (cells : ℕ) (lg : List Event) (rl : Rule) (ls : List Line)
    → Moved s x k r ended log told fr seats os cells lg rl ls → answers (Went ls) (at_stack s k fr seats os cells lg rl) ≡ moved_outcome s x k r ended log told
moved_is s x k r ended log told fr seats os cells lg rl ls q =
    let i = s.thread in
    let m = q.seated in
    let ts = changed (option_map (on_stack k)) i s.seats.threads in
    let now = Active i r.frames in
    let ss = moved_stacks s x k r in
    let stacks : slice_set seats.stacks k (Active i (frames_of fr)) ≡ ss =
    ap (λ fs. slice_set seats.stacks k (Active i fs)) q.frames ∙ m.stacks now ∙ ap (λ xs. slice_set xs k now) (sym (set_again s.seats.stacks s.stack (Active i (frames_of s.frames)) x)) in
    answers_at s k fr seats os cells lg rl ls q.left
    ∙ ap (λ ts. Next (parts s ts (slice_set seats.stacks k (Active i (frames_of fr))) seats.waiters os lg rl cells (suc s.steps) (reverse ls))) m.threads
    ∙ ap (λ xs. Next (parts s ts xs seats.waiters os lg rl cells (suc s.steps) (reverse ls))) stacks
    ∙ ap (λ ws. Next (parts s ts ss ws os lg rl cells (suc s.steps) (reverse ls))) m.waiters
    ∙ ap (λ os. Next (parts s ts ss s.seats.waiters os lg rl cells (suc s.steps) (reverse ls))) q.objects
    ∙ ap (λ lg. Next (parts s ts ss s.seats.waiters ended lg rl cells (suc s.steps) (reverse ls))) q.logged
    ∙ ap (λ rl. Next (parts s ts ss s.seats.waiters ended log rl cells (suc s.steps) (reverse ls))) q.rule
    ∙ ap (λ n. Next (parts s ts ss s.seats.waiters ended log s.rule n (suc s.steps) (reverse ls))) q.cells_same
    ∙ ap (λ ls. Next (parts s ts ss s.seats.waiters ended log s.rule s.cells (suc s.steps) ls)) q.lines

abbrev pub entry : Held → ℕ → Event
entry s k = event s.thread (Enter k)

abbrev pub leaves : Held → Event
leaves s = event s.thread (Leave s.stack)

abbrev pub frames_objects : List Activation → List ℕ
frames_objects fs = flat_map (λ (f : Activation). f.objects) fs

pub two_told : (first second : Event) (number count : ℕ) (ls : List Line) → number ≡ count → ls ≡ lines.Event number first ∷ lines.Event (number + 1) second ∷ []
    → reverse ls ≡ lines.Event (suc count) second ∷ lines.Event count first ∷ []
two_told first second number count ls same told =
    ap reverse told ∙ ap (λ n. lines.Event n second ∷ lines.Event number first ∷ []) (add-one number) ∙ ap (λ n. lines.Event (suc n) second ∷ lines.Event n first ∷ []) same

pub one_told : (first : Event) (number count : ℕ) (ls : List Line) → number ≡ count → ls ≡ lines.Event number first ∷ [] → reverse ls ≡ lines.Event count first ∷ []
one_told first number count ls same told = ap reverse told ∙ ap (λ n. lines.Event n first ∷ []) same

-- a thread that moves to another stack, which is ready from then on
pub swapped_with_is : (s : Held) (f : Activation) (k : ℕ) (r : EnteredFrames) (fr : Chain) (seats : Seats) (os : List HeapObject) (cells : ℕ) (lg : List Event) (rl : Rule) (ls : List Line)
    → Moved s (Ready (f ∷ s.frames.below)) k r (objects_end s.objects (frames_objects r.ended)) (entry s k ∷ leaves s ∷ s.log) (reverse ls) fr seats os cells lg rl ls
    → answers (Went ls) (at_stack s k fr seats os cells lg rl) ≡ swapped_with s f k r ls
unfolding swapped_with objects_end
swapped_with_is s f k r fr seats os cells lg rl ls q = moved_is s (Ready (f ∷ s.frames.below)) k r (objects_end s.objects (frames_objects r.ended)) (entry s k ∷ leaves s ∷ s.log) (reverse ls) fr seats os cells lg rl ls q

-- with the lines of a swap
pub swapped_lines : (s : Held) (f : Activation) (k : ℕ) (r : EnteredFrames) (number : ℕ) (ls : List Line) → number ≡ length s.log → ls ≡ lines.Event number (leaves s) ∷ lines.Event (number + 1) (entry s k) ∷ [] → swapped_with s f k r ls ≡ swapped s f k r
unfolding swapped swapped_with
swapped_lines s f k r number ls count told =
    ap (λ l. Next (record (enters s.thread k r (leaving (turn s nothing) f (begun s))) { lines = l })) (two_told (leaves s) (entry s k) number (length s.log) ls count told)

-- ---- a stack that is left for good

left_go : Held → Going
left_go s k r = left_dead s k r

record LeavesAt (bundle : List Item) (s : Held) (sc : Scalar) (e : Entering) : Type 0 where
  pub doing : Doing
  pub is : acting bundle s (Leaves sc e) ≡ enters_with bundle s doing sc e (left_go s)

leave_at : (bundle : List Item) (s : Held) (sc : Scalar) (e : Entering) → acting bundle s (Leaves sc e) ≢ Stuck → LeavesAt bundle s sc e
unfolding left_go left_dead
leave_at bundle s sc e h = let r = acting_there bundle s (Leaves sc e) h in record { doing = r.0; is = acting_is bundle s (Leaves sc e) r.0 r.1 }

module _ (bundle : List Item) (s : Held) (sc : Scalar) (e : Entering) (h : acting bundle s (Leaves sc e) ≢ Stuck) where
  leaving_at : LeavesAt bundle s sc e
  leaving_at = leave_at bundle s sc e h

  leaving_goes : enters_with bundle s leaving_at.doing sc e (left_go s) ≢ Stuck
  leaving_goes = λ stuck. h (leaving_at.is ∙ stuck)

  pub leave_ready : IsSome (ready (held_stacks s) sc)
  leave_ready = enter_ready bundle s leaving_at.doing sc e (left_go s) leaving_goes

  pub leave_not_ready : ready (held_stacks s) sc ≡ Some (Err StackNotReady) → acting bundle s (Leaves sc e) ≡ End [] (undefined_at s StackNotReady)
  leave_not_ready none = leaving_at.is ∙ enter_not_ready bundle s leaving_at.doing sc e (left_go s) none

  leave_others : (k : ℕ) → sc ≡ scalars.Stack k → k ≢ s.stack → IsReady (slice_get s.seats.stacks k) → ready (held_stacks s) sc ≡ Some (Ok (k, frames_at (slice_get s.seats.stacks k)))
  leave_others k is other there =
      ap (ready (held_stacks s)) is ∙ other_ready s.seats.stacks s.stack k (Active s.thread (frames_of s.frames)) (frames_at (slice_get s.seats.stacks k)) other (ready_frames (slice_get s.seats.stacks k) there)

  pub leave_looks : (k : ℕ) → sc ≡ scalars.Stack k → k ≢ s.stack → IsReady (slice_get s.seats.stacks k) → IsSome (entered_by bundle (frames_at (slice_get s.seats.stacks k)) e)
  leave_looks k is other there = enter_there bundle s leaving_at.doing sc e (left_go s) k (frames_at (slice_get s.seats.stacks k)) leaving_goes (leave_others k is other there)

  pub leave_refuses : (k : ℕ) (q : Case) → sc ≡ scalars.Stack k → k ≢ s.stack → IsReady (slice_get s.seats.stacks k) → entered_by bundle (frames_at (slice_get s.seats.stacks k)) e ≡ Some (Err q) → is_fault q ≡ false
      → acting bundle s (Leaves sc e) ≡ End [] (undefined_at s q)
  leave_refuses k q is other there refused plain =
      leaving_at.is ∙ enter_refused bundle s leaving_at.doing sc e (left_go s) k (frames_at (slice_get s.seats.stacks k)) q (leave_others k is other there) refused plain

  pub leave_goes : (k : ℕ) (r : EnteredFrames) → sc ≡ scalars.Stack k → k ≢ s.stack → IsReady (slice_get s.seats.stacks k) → entered_by bundle (frames_at (slice_get s.seats.stacks k)) e ≡ Some (Ok r)
      → acting bundle s (Leaves sc e) ≡ left_dead s k r
  unfolding left_go
  leave_goes k r is other there way = leaving_at.is ∙ enter_is bundle s leaving_at.doing sc e (left_go s) k (frames_at (slice_get s.seats.stacks k)) r (leave_others k is other there) way

pub ruleset leaving_stack = (leave_ready, leave_not_ready, leave_looks, leave_refuses)

pub left_is : (s : Held) (k : ℕ) (r : EnteredFrames) (fr : Chain) (seats : Seats) (os : List HeapObject) (cells : ℕ) (lg : List Event) (rl : Rule) (ls : List Line)
    → Moved s Dead k r (objects_end (objects_end s.objects (frames_objects (frames_of s.frames))) (frames_objects r.ended)) (entry s k ∷ s.log) (lines.Event (length s.log) (entry s k) ∷ []) fr seats os cells lg rl ls
    → answers (Went ls) (at_stack s k fr seats os cells lg rl) ≡ left_dead s k r
unfolding left_dead objects_end
left_is s k r fr seats os cells lg rl ls q =
    moved_is s Dead k r (objects_end (objects_end s.objects (frames_objects (frames_of s.frames))) (frames_objects r.ended)) (entry s k ∷ s.log) (lines.Event (length s.log) (entry s k) ∷ []) fr seats os cells lg rl ls q
