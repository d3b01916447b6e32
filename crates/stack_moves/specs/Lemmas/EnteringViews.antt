-- Lemmas of stacks that are entered, over the view of a state and its parts.
use Rattle.std.proofs.Common.{◌≡◌, ◌≢◌, ℕ, suc, ◌+◌, ◌*◌, ◌<◌, ◌≤◌, true, List, [], ◌∷◌, Option, Some, None, IsSome, IfSome, IsSomeAnd, Result, Ok, Err, IfOk, length, reverse, slice_get, option_map, take, drop, refl, sym, ◌∙◌, ap, subst, arith}
use Rattle.ir_tree.specs.declared.items.Item.{Item}
use Rattle.mu_values.specs.declared.scalars.Scalar.{Scalar}
use Rattle.mu_values.specs.declared.scalars.Scalar.TheVariants as scalars
use Rattle.checked_code.specs.Checking.{bundle_blocks}
use Rattle.typed_heap.specs.Objects.{HeapObject}
use Rattle.frames.specs.Activations.{Value, Goal, Activation}
use Rattle.frames.specs.Chains.{Chain, frames_of, stands}
use Rattle.frames.specs.FrameOf.{frame_of, goal_of}
use Rattle.frames.specs.Handlers.{first_handler}
use Rattle.frames.specs.declared.frame.Frame.{Frame}
use Rattle.frames.specs.declared.frame.Handler.{Handler}
use Rattle.stacks.specs.declared.entered.Entered.{Entered}
use Rattle.mem_axioms.specs.declared.types.Event.{Event}
use Rattle.mem_axioms.specs.declared.types.Rule.{Rule}
use Rattle.mu_model.specs.declared.lines.Line.{Line}
use Rattle.mu_model.specs.declared.lines.Line.TheVariants as lines
use Rattle.mu_model.specs.declared.endings.StepEnd.{StepEnd}
use Rattle.mu_model.specs.declared.endings.StepEnd.TheVariants.{Went}
use Rattle.mu_model.specs.declared.endings.Case.{Case}
use Rattle.mu_model.specs.declared.endings.Case.TheVariants.{StackTypes}
use Rattle.mu_model.specs.Acts.{Entering, Passes, ThrowsInto, Swaps, Leaves}
use Rattle.mu_model.specs.Configuration.{Stack, Ready, Dead}
use Rattle.mu_model.specs.Exceptions.{EnteredFrames}
use Rattle.mu_model.specs.Outcomes.{Stuck}
use Rattle.seats.specs.Seats.{Seats, IsReady, IsReadyFor}
use Rattle.step_forms.specs.Asked.{entering_of}
use Rattle.step_forms.specs.declared.entering.Entering as asked
use Rattle.step_forms.specs.declared.entering.Entering.TheVariants as asked_to
use Rattle.run_state.specs.Held.{Held}
use Rattle.run_state.specs.Acting.{answers, acting, goes_on, gets, Awaited, with_awaited, awaits, objects_end}
use Rattle.run_state.specs.StepLaws.{some_of, some_there, with_there, get_below}
use Rattle.run_state.specs.ActLaws.{gets_there}
use Rattle.run_state.specs.Passing.{handled}
use Rattle.stack_moves.specs.declared.arriving.Arrival.{Arrival}
use Rattle.stack_moves.specs.Entering.{entered_by, landed, arrives, handed, frames_at, IsMoved, swapped_with, left_dead}
use Rattle.stack_moves.specs.EnteringLaws.{values_there, values_enter, thrown_there, thrown_enters, misfits, takes_so}
use Rattle.stack_moves.specs.SwapLaws.{at_stack, entry, leaves, frames_objects, one_told, Moved, ready_frames, frames_are, swap_awaits, swap_looks, swap_goes, swapped_with_is, swapped_lines, leave_looks, leave_goes, left_is}

-- ---- values that a stack is entered with

pub passes_there : (bundle : List Item) (c : Chain) (f : Activation) (cs : List ℕ) (vs : List Value) → cs ≡ c.top.waits → IsSome (entered_by bundle (frames_of c) (Passes cs vs)) → f ≡ c.top → IsSome (goes_on bundle f vs)
passes_there bundle c f cs vs same h top = subst (λ f. IsSome (goes_on bundle f vs)) (sym top) (values_there bundle c.top c.below cs vs h same)

pub passes_land : (bundle : List Item) (c : Chain) (f : Activation) (cs : List ℕ) (vs out : List Value) (block at : ℕ) → cs ≡ c.top.waits → f ≡ c.top → goes_on bundle f vs ≡ Some (stands f block at out)
    → entered_by bundle (frames_of c) (Passes cs vs) ≡ option_map Ok (landed (frames_of c) 0 block at out)
passes_land bundle c f cs vs out block at same top way =
    values_enter bundle c.top (stands c.top block at out) c.below cs vs same (subst (λ f. goes_on bundle f vs ≡ Some (stands f block at out)) top way)

-- ---- an exception that a stack is entered with

handler_some : (o : Option Handler) (g : Goal) → option_map goal_of o ≡ Some g → IsSome o
handler_some None g h = cc
handler_some (Some h) g e = refl

pub thrown_handler : (bundle : List Item) (fs : List Activation) (e : Scalar) (n : ℕ) (x : Frame) → IsSome (entered_by bundle fs (ThrowsInto e)) → first_handler fs ≡ Some n → slice_get fs n ≡ Some (frame_of x) → IsSome x.handler
thrown_handler bundle fs e n x h first there =
    let r = thrown_there bundle fs e n h first in
    let same : r.0 ≡ frame_of x = let found = r.2 in cc in
    handler_some x.handler r.1 (sym (ap (λ (f : Activation). f.handler) same) ∙ r.3)

pub thrown_block : (bundle : List Item) (fs : List Activation) (e : Scalar) (n block : ℕ) (out : List Value) (x : Frame) → IsSome (entered_by bundle fs (ThrowsInto e)) → first_handler fs ≡ Some n → slice_get fs n ≡ Some (frame_of x)
    → IsSomeAnd x.handler (λ h. goal_of h ≡ record { block = block; values = out }) → block < length (bundle_blocks bundle)
thrown_block bundle fs e n block out x h first there goal =
    let r = thrown_there bundle fs e n h first in
    let g : Goal = record { block = block; values = out } in
    let same : r.0 ≡ frame_of x = let found = r.2 in cc in
    let is : option_map goal_of x.handler ≡ Some g = handled x.handler g goal in
    let found : Some r.1 ≡ Some g = sym r.3 ∙ ap (λ (f : Activation). f.handler) same ∙ is in
    let aim : r.1 ≡ g = cc in
    gets_there bundle r.0 g e (subst (λ g. IsSome (gets bundle r.0 g e)) aim r.4)

pub thrown_lands : (bundle : List Item) (fs : List Activation) (e : Scalar) (n block : ℕ) (out taken : List Value) (x : Frame) → first_handler fs ≡ Some n → slice_get fs n ≡ Some (frame_of x)
    → IsSomeAnd x.handler (λ h. goal_of h ≡ record { block = block; values = out }) → ((f : Activation) → gets bundle f (record { block = block; values = out }) e ≡ Some (stands f block 0 taken))
    → entered_by bundle fs (ThrowsInto e) ≡ option_map Ok (landed fs n block 0 taken)
thrown_lands bundle fs e n block out taken x first there goal got =
    let g : Goal = record { block = block; values = out } in
    thrown_enters bundle fs e n block 0 (frame_of x) g taken first there (handled x.handler g goal) (got (frame_of x))

-- ---- a stack that is entered so

pub lands_by : (o : Option (Result EnteredFrames Case)) (r : Option EnteredFrames) → o ≡ option_map Ok r → IsSome o → (w : EnteredFrames) × (r ≡ Some w) × (o ≡ Some (Ok w))
lands_by o None e h = let no : o ≡ None = e in cc
lands_by o (Some w) e h = (w, refl, e)

pub landed_low : (fs : List Activation) (n block at : ℕ) (vs : List Value) → IsSome (landed fs n block at vs) → n < length fs
landed_low fs n block at vs h =
    let go : Activation → Option EnteredFrames = λ f. Some (record { frames = stands f block at vs ∷ drop (suc n) fs; ended = take n fs }) in
    let r = some_of (landed fs n block at vs) h in
    let f = with_there (slice_get fs n) go r.0 r.1 in
    get_below fs n f.0 f.1

pub lands_low : (s v : Held) (to : ℕ) (fr : Chain) (a : Arrival) (vs : List Value) → v ≡ s → slice_get v.seats.stacks to ≡ Some (Ready (frames_of fr)) → IsSome (arrives a (frames_at (slice_get s.seats.stacks to)) vs) → a.above < length (frames_of fr)
lands_low s v to fr a vs view there h =
    let seen : slice_get s.seats.stacks to ≡ Some (Ready (frames_of fr)) = ap (λ (s : Held). slice_get s.seats.stacks to) (sym view) ∙ there in
    landed_low (frames_of fr) a.above a.place.block a.place.at vs (subst (λ fs. IsSome (arrives a fs vs)) (frames_are (slice_get s.seats.stacks to) (frames_of fr) seen) h)

pub no_misfit : (bundle : List Item) (fs : List Activation) (e : asked.Entering) (a : Arrival) (cs : List ℕ) (vs ws : List Value) → entered_by bundle fs (entering_of e cs vs) ≡ option_map Ok (arrives a fs ws) → IsSome (entered_by bundle fs (entering_of e cs vs))
    → e ≢ asked_to.Misfits
no_misfit bundle fs e a cs vs ws lands there = λ same.
    let l = lands_by (entered_by bundle fs (entering_of e cs vs)) (arrives a fs ws) lands there in
    let no : entered_by bundle fs (entering_of e cs vs) ≡ Some (Err StackTypes) = ap (λ e. entered_by bundle fs (entering_of e cs vs)) same ∙ misfits bundle fs in
    let is = l.2 in
    cc

pub lands_there : (bundle : List Item) (fs : List Activation) (e : Entering) (a : Arrival) (ws : List Value) → entered_by bundle fs e ≡ option_map Ok (arrives a fs ws) → IsSome (entered_by bundle fs e) → IsSome (arrives a fs ws)
lands_there bundle fs e a ws lands there = let l = lands_by (entered_by bundle fs e) (arrives a fs ws) lands there in some_there (arrives a fs ws) l.0 l.1

pub ready_takes : (bundle : List Item) (o : Option Stack) (e : Entering) (h : Entered) (a : Arrival) (ws : List Value) → IsReady o → entered_by bundle (frames_at o) e ≡ option_map Ok (arrives a (frames_at o) ws) → IsSome (entered_by bundle (frames_at o) e) → handed h ≡ e
    → IsReadyFor o h
ready_takes bundle o e h a ws ready lands there same =
    let l = lands_by (entered_by bundle (frames_at o) e) (arrives a (frames_at o) ws) lands there in
    let takes = takes_so bundle (frames_at o) h l.0 (ap (entered_by bundle (frames_at o)) same ∙ l.2) in
    subst (λ o. IsReadyFor o h) (sym (ready_frames o ready)) takes

-- ---- what is counted

pub counts_one : (n : ℕ) (log lg after : List Event) (e : Event) → n ≡ length log → lg ≡ log → after ≡ e ∷ lg → n + 1 ≡ length after
counts_one n log lg after e count same added =
    let long : length after ≡ suc (length log) = ap length added ∙ ap (λ (l : List Event). suc (length l)) same in
    omega (arith, count, long)

pub counts_two : (n : ℕ) (log lg after : List Event) (first second : Event) → n ≡ length log → lg ≡ log → after ≡ second ∷ first ∷ lg → n + 2 ≡ length after
counts_two n log lg after first second count same added =
    let long : length after ≡ suc (suc (length log)) = ap length added ∙ ap (λ (l : List Event). suc (suc (length l))) same in
    omega (arith, count, long)

pub low_one : (n m : ℕ) → n ≤ 100 * m → n + 1 ≤ 100 * (m + 1)
low_one n m h = omega (arith, h)

pub low_two : (n m : ℕ) → n ≤ 100 * m → n + 2 ≤ 100 * (m + 1)
low_two n m h = omega (arith, h)

pub steps_low : (s v : Held) → v ≡ s → s.steps < s.budget → v.steps + 1 ≤ v.budget
steps_low s v view h =
    let steps : v.steps ≡ s.steps = ap (λ (s : Held). s.steps) view in
    let budget : v.budget ≡ s.budget = ap (λ (s : Held). s.budget) view in
    omega (arith, steps, budget, h)

-- ---- a thread that swaps

pub swaps_so : (s v : Held) (w : Awaited) (to : ℕ) (a : Arrival) (vs : List Value) (f1 f2 f3 : Chain) (seats : Seats) (os : List HeapObject) (cells : ℕ) (lg after : List Event) (rl kept : Rule) (ls : List Line)
    → v ≡ s → s.left ≡ true → f1 ≡ record v.frames { top = with_awaited v.frames.top w } → slice_get v.seats.stacks to ≡ Some (Ready (frames_of f2)) → IsMoved v.seats seats v.thread v.stack to (Ready (frames_of f1))
    → arrives a (frames_of f2) vs ≡ Some (record { frames = frames_of f3; ended = take a.above (frames_of f2) }) → os ≡ objects_end v.objects (frames_objects (take a.above (frames_of f2))) → cells ≡ v.cells
    → lg ≡ v.log → rl ≡ v.rule → after ≡ entry v to ∷ leaves v ∷ lg → kept ≡ rl
    → IfSome (arrives a (frames_at (slice_get s.seats.stacks to)) vs) (λ r. answers (Went ls) (at_stack v to f3 seats os cells after kept) ≡ swapped_with s (with_awaited s.frames.top w) to r ls)
swaps_so s v w to a vs f1 f2 f3 seats os cells lg after rl kept ls view left waits ready seated arrived objects same log rule added still =
    let r : EnteredFrames = record { frames = frames_of f3; ended = take a.above (frames_of f2) } in
    let f = with_awaited v.frames.top w in
    let on : v.left ≡ true = ap (λ (s : Held). s.left) view ∙ left in
    let q : Moved v (Ready (f ∷ v.frames.below)) to r (objects_end v.objects (frames_objects r.ended)) (entry v to ∷ leaves v ∷ v.log) (reverse ls) f3 seats os cells after kept ls = record {
      left = on;
      seated = subst (λ fr. IsMoved v.seats seats v.thread v.stack to (Ready (frames_of fr))) waits seated;
      frames = refl;
      objects = objects;
      cells_same = same;
      logged = added ∙ ap (λ lg. entry v to ∷ leaves v ∷ lg) log;
      rule = still ∙ rule;
      lines = refl;
    } in
    let is = swapped_with_is v f to r f3 seats os cells after kept ls q in
    let found : arrives a (frames_at (slice_get v.seats.stacks to)) vs ≡ Some r = ap (λ fs. arrives a fs vs) (frames_are (slice_get v.seats.stacks to) (frames_of f2) ready) ∙ arrived in
    let main : IfSome (arrives a (frames_at (slice_get v.seats.stacks to)) vs) (λ r. answers (Went ls) (at_stack v to f3 seats os cells after kept) ≡ swapped_with v (with_awaited v.frames.top w) to r ls) =
    subst (λ o. IfSome o (λ r. answers (Went ls) (at_stack v to f3 seats os cells after kept) ≡ swapped_with v (with_awaited v.frames.top w) to r ls)) (sym found) is in
    subst (λ (s : Held). IfSome (arrives a (frames_at (slice_get s.seats.stacks to)) vs) (λ r. answers (Went ls) (at_stack v to f3 seats os cells after kept) ≡ swapped_with s (with_awaited s.frames.top w) to r ls)) view main

pub awaits_at : (bundle : List Item) (s v : Held) (sc : Scalar) (cs ds : List ℕ) (e : Entering) (f : Activation) → v ≡ s → acting bundle s (Swaps sc cs e) ≢ Stuck → f ≡ v.frames.top → ds ≡ cs → IsSome (awaits bundle f ds)
awaits_at bundle s v sc cs ds e f view h top same =
    let at : f ≡ s.frames.top = top ∙ ap (λ (x : Held). x.frames.top) view in
    subst (λ f. IsSome (awaits bundle f ds)) (sym at) (subst (λ ds. IsSome (awaits bundle s.frames.top ds)) (sym same) (swap_awaits bundle s sc cs e h))

pub swap_answered : {E : Type 0} (bundle : List Item) (s v t : Held) (to : ℕ) (cs ds : List ℕ) (e : Entering) (a : Arrival) (ws : List Value) (f : Activation) (w : Awaited) (number : ℕ) (ls : List Line) (r : Result StepEnd E) → v ≡ s → acting bundle s (Swaps (scalars.Stack to) cs e) ≢ Stuck
    → to ≢ s.stack → IsReady (slice_get s.seats.stacks to) → entered_by bundle (frames_at (slice_get s.seats.stacks to)) e ≡ option_map Ok (arrives a (frames_at (slice_get s.seats.stacks to)) ws)
    → f ≡ v.frames.top → ds ≡ cs → awaits bundle f ds ≡ Some w
    → number ≡ length v.log → ls ≡ lines.Event number (leaves v) ∷ lines.Event (number + 1) (entry v to) ∷ []
    → IfOk r (λ end. IfSome (arrives a (frames_at (slice_get s.seats.stacks to)) ws) (λ r. answers end t ≡ swapped_with s (with_awaited s.frames.top w) to r ls))
    → IfOk r (λ end. answers end t ≡ acting bundle s (Swaps (scalars.Stack to) cs e))
swap_answered bundle s v t to cs ds e a ws f w number ls (Err q) view h other ready lands top same await count told so = tt
swap_answered bundle s v t to cs ds e a ws f w number ls (Ok end) view h other ready lands top same await count told so =
    let fs = frames_at (slice_get s.seats.stacks to) in
    let at : f ≡ s.frames.top = top ∙ ap (λ (x : Held). x.frames.top) view in
    let awaited : awaits bundle s.frames.top cs ≡ Some w = ap (λ f. awaits bundle f cs) (sym at) ∙ ap (awaits bundle f) (sym same) ∙ await in
    let l = lands_by (entered_by bundle fs e) (arrives a fs ws) lands (swap_looks bundle s (scalars.Stack to) cs e h to refl other ready) in
    let is : answers end t ≡ swapped_with s (with_awaited s.frames.top w) to l.0 ls = subst (λ o. IfSome o (λ r. answers end t ≡ swapped_with s (with_awaited s.frames.top w) to r ls)) l.1 so in
    let counted : number ≡ length s.log = count ∙ ap (λ (s : Held). length s.log) view in
    let lined : ls ≡ lines.Event number (leaves s) ∷ lines.Event (number + 1) (entry s to) ∷ [] = told ∙ ap (λ (s : Held). lines.Event number (leaves s) ∷ lines.Event (number + 1) (entry s to) ∷ []) view in
    is ∙ swapped_lines s (with_awaited s.frames.top w) to l.0 number ls counted lined ∙ sym (swap_goes bundle s (scalars.Stack to) cs e h to l.0 w refl other ready l.2 awaited)

-- ---- a thread that leaves its stack for good

pub dies_so : (s v : Held) (to : ℕ) (a : Arrival) (vs : List Value) (ended f2 f3 : Chain) (seats : Seats) (ds os : List HeapObject) (some cells number : ℕ) (lg after : List Event) (rl kept : Rule) (ls : List Line)
    → v ≡ s → s.left ≡ true → frames_of ended ≡ frames_of v.frames → slice_get v.seats.stacks to ≡ Some (Ready (frames_of f2)) → IsMoved v.seats seats v.thread v.stack to Dead
    → arrives a (frames_of f2) vs ≡ Some (record { frames = frames_of f3; ended = take a.above (frames_of f2) }) → ds ≡ objects_end v.objects (frames_objects (frames_of ended))
    → os ≡ objects_end ds (frames_objects (take a.above (frames_of f2))) → some ≡ v.cells → cells ≡ some
    → lg ≡ v.log → rl ≡ v.rule → after ≡ entry v to ∷ lg → kept ≡ rl → number ≡ length v.log → ls ≡ lines.Event number (entry v to) ∷ []
    → IfSome (arrives a (frames_at (slice_get s.seats.stacks to)) vs) (λ r. answers (Went ls) (at_stack v to f3 seats os cells after kept) ≡ left_dead s to r)
dies_so s v to a vs ended f2 f3 seats ds os some cells number lg after rl kept ls view left died ready seated arrived dead objects few same log rule added still count told =
    let r : EnteredFrames = record { frames = frames_of f3; ended = take a.above (frames_of f2) } in
    let on : v.left ≡ true = ap (λ (s : Held). s.left) view ∙ left in
    let q : Moved v Dead to r (objects_end (objects_end v.objects (frames_objects (frames_of v.frames))) (frames_objects r.ended)) (entry v to ∷ v.log) (lines.Event (length v.log) (entry v to) ∷ []) f3 seats os cells after kept ls = record {
      left = on;
      seated = seated;
      frames = refl;
      objects = objects ∙ ap (λ ds. objects_end ds (frames_objects r.ended)) (dead ∙ ap (λ fs. objects_end v.objects (frames_objects fs)) died);
      cells_same = same ∙ few;
      logged = added ∙ ap (λ lg. entry v to ∷ lg) log;
      rule = still ∙ rule;
      lines = one_told (entry v to) number (length v.log) ls count told;
    } in
    let is = left_is v to r f3 seats os cells after kept ls q in
    let found : arrives a (frames_at (slice_get v.seats.stacks to)) vs ≡ Some r = ap (λ fs. arrives a fs vs) (frames_are (slice_get v.seats.stacks to) (frames_of f2) ready) ∙ arrived in
    let main : IfSome (arrives a (frames_at (slice_get v.seats.stacks to)) vs) (λ r. answers (Went ls) (at_stack v to f3 seats os cells after kept) ≡ left_dead v to r) =
    subst (λ o. IfSome o (λ r. answers (Went ls) (at_stack v to f3 seats os cells after kept) ≡ left_dead v to r)) (sym found) is in
    subst (λ (s : Held). IfSome (arrives a (frames_at (slice_get s.seats.stacks to)) vs) (λ r. answers (Went ls) (at_stack v to f3 seats os cells after kept) ≡ left_dead s to r)) view main

pub leave_answered : {E : Type 0} (bundle : List Item) (s t : Held) (to : ℕ) (e : Entering) (a : Arrival) (ws : List Value) (r : Result StepEnd E) → acting bundle s (Leaves (scalars.Stack to) e) ≢ Stuck
    → to ≢ s.stack → IsReady (slice_get s.seats.stacks to) → entered_by bundle (frames_at (slice_get s.seats.stacks to)) e ≡ option_map Ok (arrives a (frames_at (slice_get s.seats.stacks to)) ws)
    → IfOk r (λ end. IfSome (arrives a (frames_at (slice_get s.seats.stacks to)) ws) (λ r. answers end t ≡ left_dead s to r))
    → IfOk r (λ end. answers end t ≡ acting bundle s (Leaves (scalars.Stack to) e))
leave_answered bundle s t to e a ws (Err q) h other ready lands so = tt
leave_answered bundle s t to e a ws (Ok end) h other ready lands so =
    let fs = frames_at (slice_get s.seats.stacks to) in
    let l = lands_by (entered_by bundle fs e) (arrives a fs ws) lands (leave_looks bundle s (scalars.Stack to) e h to refl other ready) in
    let is : answers end t ≡ left_dead s to l.0 = subst (λ o. IfSome o (λ r. answers end t ≡ left_dead s to r)) l.1 so in
    is ∙ sym (leave_goes bundle s (scalars.Stack to) e h to l.0 refl other ready l.2)
