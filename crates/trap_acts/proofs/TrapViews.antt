-- Lemmas of traps, over the view of a state and its parts.
use Rattle.std.proofs.Common.{◌≡◌, ◌≢◌, ℕ, zero, suc, ◌+◌, ◌<◌, Bool, true, false, List, [], ◌∷◌, ◌++◌, Option, Some, None, IsSome, IfSome, IfNone, IsSomeAnd, Result, Ok, Err, IfOk, OnOk, OnErr, fold, length, map, reverse, slice_get, slice_set, option_map, take, refl, sym, ◌∙◌, ap, subst, add-one}
use Rattle.std.proofs.lemmas.List.{reverse-append}
use Rattle.ir_tree.specs.declared.items.Item.{Item}
use Rattle.mu_values.specs.Slots.{TypedValues}
use Rattle.typed_heap.specs.Objects.{HeapObject}
use Rattle.typed_heap.specs.Places.{with_some}
use Rattle.frames.specs.Activations.{Value, Activation}
use Rattle.frames.specs.Chains.{Chain, frames_of}
use Rattle.mem_axioms.specs.declared.types.Event.{Event}
use Rattle.mem_axioms.specs.declared.types.Kind.TheVariants.{Leave, Enter}
use Rattle.mem_axioms.specs.declared.types.Rule.{Rule}
use Rattle.mu_model.specs.declared.lines.Line.{Line}
use Rattle.mu_model.specs.declared.lines.Line.TheVariants as lines
use Rattle.mu_model.specs.declared.lines.Note.{Note}
use Rattle.mu_model.specs.declared.lines.Note.TheVariants.{Exited}
use Rattle.mu_model.specs.declared.endings.StepEnd.{StepEnd}
use Rattle.mu_model.specs.declared.endings.StepEnd.TheVariants.{Went, Ended}
use Rattle.mu_values.specs.declared.scalars.Scalar.{Scalar}
use Rattle.mu_values.specs.declared.scalars.Scalar.TheVariants as scalars
use Rattle.check_tables.specs.declared.tables.Tables.{Tables}
use Rattle.checked_code.specs.Checking.{bundle_tables}
use Rattle.client_hooks.specs.declared.plan.Plan.{Plan}
use Rattle.client_hooks.specs.Plans.{planned, end_planned}
use Rattle.client_hooks.specs.Replies.{edit_of}
use Rattle.client_hooks.specs.Traps.{Trap}
use Rattle.client_hooks.specs.Ways.{Way}
use Rattle.mu_model.specs.declared.endings.Case.{Case}
use Rattle.mu_model.specs.declared.endings.Case.TheVariants.{StackNotReady}
use Rattle.mu_model.specs.declared.endings.Ending.{Ending}
use Rattle.mu_model.specs.declared.endings.Ending.TheVariants as endings
use Rattle.mu_model.specs.Acts.{Entering}
use Rattle.mu_model.specs.Operands.{scalar_in}
use Rattle.mu_model.specs.Traps.{entering_of, watch}
use Rattle.mu_model.specs.Changes.{changed, event, noted, thread_ends}
use Rattle.mu_model.specs.Clients.{Classed, Client, Exit, Rebind, Edit, Reply, Resume, Stop, With}
use Rattle.mu_model.specs.Configuration.{Stack, Ready, Active, Dead, Thread, Configuration}
use Rattle.mu_model.specs.Edits.{edited}
use Rattle.mu_model.specs.Exceptions.{EnteredFrames}
use Rattle.model_numbers.specs.Numbered.{numbered}
use Rattle.mu_model.specs.EnteringStacks.{on_stack, enters, leaving, ready}
use Rattle.mu_model.specs.Outcomes.{Outcome, Next, End, Asks, Stuck}
use Rattle.seats.specs.Seats.{Seats, IsOn, IsReady, IsReadyFor, WaitsFor, left_ready}
use Rattle.stacks.specs.declared.entered.Entered.{Entered}
use Rattle.run_state.specs.Held.{Held, held_stacks}
use Rattle.run_state.specs.Acting.{answers, told, trapping, undefined_at, begun, turn, Awaited, with_awaited, awaits, objects_end}
use Rattle.run_state.specs.Hand.{IsSound, ended_sound, logged_sound}
use Rattle.run_state.specs.StepLaws.{set_again, set_there, set_same}
use Rattle.stack_moves.specs.declared.arriving.Arrival.{Arrival}
use Rattle.stack_moves.specs.declared.arriving.Found.{Found}
use Rattle.stack_moves.specs.declared.arriving.Found.TheVariants.{Lands, Refused}
use Rattle.stack_moves.specs.Entering.{nothing, entered_by, arrives, found, IsPlain, frames_at, IsMoved, swapped_with}
use Rattle.stack_moves.specs.Editing.{after_edit, IsMade}
use Rattle.trap_acts.specs.Trapping.{Change, waiting_frames, seen, note_of, left_with, changed_by, replying, answering, past, entering_then}
use Rattle.stack_moves.specs.SwapLaws.{at_stack, entry, leaves, frames_objects, Moved, swapped_with_is}
use Rattle.stack_moves.specs.EnteringLaws.{swapped_sound, waits_there}
use Rattle.trap_acts.specs.TrapLaws.{answers_ended, reply_exits, reply_stops, trap_answered, trap_replies, edit_refuses, edit_goes, edit_replies, made_is, resume_enters, resume_goes, resume_refuses, rebind_looks, rebind_goes, rebind_refuses, rebind_not_ready}
use Rattle.stack_moves.specs.Lemmas.EnteringViews.{landed_low, lands_by, lands_there, lands_low, swaps_so}

-- ---- a frame that waits for a moment

pub chain_is : (c d : Chain) → frames_of c ≡ frames_of d → c ≡ d
chain_is c d h =
    let top : c.top ≡ d.top = cc in
    let below : c.below ≡ d.below = cc in
    ap (λ f. record { top = f; below = c.below }) top ∙ ap (λ fs. record { top = d.top; below = fs }) below

wait_is : (v w : Awaited) → v.waits ≡ w.waits → v.handler ≡ w.handler → v.kept ≡ w.kept → v ≡ w
wait_is v w a b c =
    ap (λ cs. record { waits = cs; handler = v.handler; kept = v.kept }) a ∙ ap (λ h. record { waits = w.waits; handler = h; kept = v.kept }) b ∙ ap (λ k. record { waits = w.waits; handler = w.handler; kept = k }) c

-- the frames in hand then
shown_is : (s v : Held) (w : Awaited) (f1 : Chain) → v ≡ s → f1 ≡ record v.frames { top = with_awaited v.frames.top w } → f1 ≡ waiting_frames s w
shown_is s v w f1 view waits = waits ∙ ap (λ (s : Held). waiting_frames s w) view

pub edit_shown : (bundle : List Item) (e : Edit) (s v : Held) (w : Awaited) (f1 : Chain) → v ≡ s → f1 ≡ record v.frames { top = with_awaited v.frames.top w } → IsSome (edited (numbered bundle) e (frames_of (waiting_frames s w)))
    → IsSome (edited (numbered bundle) e (frames_of f1))
edit_shown bundle e s v w f1 view waits h = subst (λ (f : Chain). IsSome (edited (numbered bundle) e (frames_of f))) (sym (shown_is s v w f1 view waits)) h

pub refused_shown : (bundle : List Item) (e : Edit) (s v : Held) (w : Awaited) (f1 : Chain) (o : Option Case) → v ≡ s → f1 ≡ record v.frames { top = with_awaited v.frames.top w } → IfSome o (λ k. edited (numbered bundle) e (frames_of f1) ≡ Some (Err k))
    → IfSome o (λ k. edited (numbered bundle) e (frames_of (waiting_frames s w)) ≡ Some (Err k))
refused_shown bundle e s v w f1 o view waits h = subst (λ (f : Chain). IfSome o (λ k. edited (numbered bundle) e (frames_of f) ≡ Some (Err k))) (shown_is s v w f1 view waits) h

pub goes_shown : (bundle : List Item) (e : Edit) (s v : Held) (w : Awaited) (f1 : Chain) (o : Option Case) → v ≡ s → f1 ≡ record v.frames { top = with_awaited v.frames.top w } → IfNone o (IsMade bundle e (frames_of f1)) → IfNone o (IsMade bundle e (frames_of (waiting_frames s w)))
goes_shown bundle e s v w f1 o view waits h = subst (λ (f : Chain). IfNone o (IsMade bundle e (frames_of f))) (shown_is s v w f1 view waits) h

pub edit_made : (bundle : List Item) (e : Edit) (s v : Held) (w : Awaited) (f1 : Chain) → v ≡ s → f1 ≡ record v.frames { top = with_awaited v.frames.top w } → IsMade bundle e (frames_of (waiting_frames s w)) → IsMade bundle e (frames_of f1)
edit_made bundle e s v w f1 view waits h = subst (λ (f : Chain). IsMade bundle e (frames_of f)) (sym (shown_is s v w f1 view waits)) h

-- and after an edit
after_shown : (bundle : List Item) (e : Edit) (s v : Held) (w : Awaited) (f1 : Chain) (gs : List Activation) → v ≡ s → f1 ≡ record v.frames { top = with_awaited v.frames.top w } → gs ≡ (after_edit bundle e (frames_of f1)).frames
    → gs ≡ (after_edit bundle e (frames_of (waiting_frames s w))).frames
after_shown bundle e s v w f1 gs view waits is = is ∙ ap (λ (f : Chain). (after_edit bundle e (frames_of f)).frames) (shown_is s v w f1 view waits)

pub looks_there : (bundle : List Item) (d : Edit) (s v : Held) (w : Awaited) (f1 : Chain) (gs : List Activation) (e : Entering) → v ≡ s → f1 ≡ record v.frames { top = with_awaited v.frames.top w } → gs ≡ (after_edit bundle d (frames_of f1)).frames
    → IsSome (entered_by bundle (after_edit bundle d (frames_of (waiting_frames s w))).frames e) → IsSome (entered_by bundle gs e)
looks_there bundle d s v w f1 gs e view waits is h = subst (λ gs. IsSome (entered_by bundle gs e)) (sym (after_shown bundle d s v w f1 gs view waits is)) h

pub looks_so : {E : Type 0} (bundle : List Item) (d : Edit) (s v : Held) (w : Awaited) (f1 : Chain) (gs : List Activation) (e : Entering) (vs : List Value) (q : Result Found E) → v ≡ s → f1 ≡ record v.frames { top = with_awaited v.frames.top w }
    → gs ≡ (after_edit bundle d (frames_of f1)).frames → IfOk q (λ r. entered_by bundle gs e ≡ found r gs vs)
    → IfOk q (λ r. entered_by bundle (after_edit bundle d (frames_of (waiting_frames s w))).frames e ≡ found r (after_edit bundle d (frames_of (waiting_frames s w))).frames vs)
looks_so bundle d s v w f1 gs e vs q view waits is h = subst (λ gs. IfOk q (λ r. entered_by bundle gs e ≡ found r gs vs)) (after_shown bundle d s v w f1 gs view waits is) h

pub wait_again : (f0 f1 f2 : Chain) (w0 w2 : Awaited) → f1 ≡ record f0 { top = with_awaited f0.top w0 } → record f2 { top = with_awaited f2.top w2 } ≡ f1 → w2 ≡ w0
wait_again f0 f1 f2 w0 w2 first before =
    let same : record f2 { top = with_awaited f2.top w2 } ≡ record f0 { top = with_awaited f0.top w0 } = before ∙ first in
    wait_is w2 w0 (ap (λ (c : Chain). c.top.waits) same) (ap (λ (c : Chain). c.top.handler) same) (ap (λ (c : Chain). c.top.kept) same)

-- ---- a stack that is shown

-- the frames that come back from the seats
pub shown_frames : (s0 s1 s2 : Seats) (k i : ℕ) (f1 f2 : Chain) → k < length s0.stacks → s1 ≡ record s0 { stacks = slice_set s0.stacks k (Active i (frames_of f1)) } → s2 ≡ s1 → slice_get s2.stacks k ≡ Some (Active i (frames_of f2)) → f2 ≡ f1
shown_frames s0 s1 s2 k i f1 f2 low first same there =
    let here : slice_get s2.stacks k ≡ Some (Active i (frames_of f1)) = ap (λ (s : Seats). slice_get s.stacks k) (same ∙ first) ∙ set_there s0.stacks k (Active i (frames_of f1)) low in
    let both : Some (Active i (frames_of f2)) ≡ Some (Active i (frames_of f1)) = sym there ∙ here in
    let frames : frames_of f2 ≡ frames_of f1 = cc in
    chain_is f2 f1 frames

-- the seats then
pub shown_seats : (s0 s1 s2 s3 : Seats) (k i : ℕ) (f1 f : Chain) → s1 ≡ record s0 { stacks = slice_set s0.stacks k (Active i (frames_of f1)) } → s2 ≡ s1 → s3 ≡ record s2 { stacks = slice_set s2.stacks k (Active i (frames_of f)) }
    → slice_get s0.stacks k ≡ Some (Active i (frames_of f)) → s3 ≡ s0
shown_seats s0 s1 s2 s3 k i f1 f first same last there =
    last ∙ ap (λ (s : Seats). record s { stacks = slice_set s.stacks k (Active i (frames_of f)) }) (same ∙ first)
    ∙ ap (λ ss. record s0 { stacks = ss }) (set_again s0.stacks k (Active i (frames_of f1)) (Active i (frames_of f)) ∙ set_same s0.stacks k (Active i (frames_of f)) there)

-- what is seen while it is shown
pub shown_there : (s0 s1 : Seats) (k i : ℕ) (f1 : Chain) → k < length s0.stacks → s1 ≡ record s0 { stacks = slice_set s0.stacks k (Active i (frames_of f1)) } → slice_get s1.stacks k ≡ Some (Active i (frames_of f1))
shown_there s0 s1 k i f1 low first = ap (λ (s : Seats). slice_get s.stacks k) first ∙ set_there s0.stacks k (Active i (frames_of f1)) low

-- by the thread that the client is told
pub shown_by : (s0 s1 : Seats) (k i j : ℕ) (f1 : Chain) → k < length s0.stacks → s1 ≡ record s0 { stacks = slice_set s0.stacks k (Active i (frames_of f1)) } → i ≡ j → slice_get s1.stacks k ≡ Some (Active j (frames_of f1))
shown_by s0 s1 k i j f1 low first thread = shown_there s0 s1 k i f1 low first ∙ ap (λ i. Some (Active i (frames_of f1))) thread

-- ---- answers, once the watchpoints and the client have changed

changes : List ℕ → Client → Outcome → Outcome
changes ws k (Next c) = Next (record c { watched = ws; client = k })
changes ws k (End ls e) = End ls e
changes ws k (Asks view go) = Asks view go
changes ws k Stuck = Stuck

went_changed : (ls : List Line) (t : Held) (ws : List ℕ) (k : Client) → answers (Went ls) (record t { watched = ws; client = k }) ≡ changes ws k (answers (Went ls) t)
unfolding answers changes
went_changed ls t ws k = refl

answers_changed : (end : StepEnd) (t : Held) (c : Configuration) (ws : List ℕ) (k : Client) → answers end t ≡ Next c → answers end (record t { watched = ws; client = k }) ≡ Next (record c { watched = ws; client = k })
unfolding answers changes
answers_changed (Went ls) t c ws k h = went_changed ls t ws k ∙ ap (changes ws k) h
answers_changed (Ended ls e) t c ws k h = cc

lines_then : (x : Change) (e : Line) (ls : List Line) → ls ≡ x.lines ++ e ∷ [] → reverse ls ≡ e ∷ reverse x.lines
lines_then x e ls h = ap reverse h ∙ reverse-append x.lines (e ∷ [])

-- which watchpoints are enabled then
pub enabled_so : (s v : Held) (ns ms : List ℕ) (ws : List (ℕ × Bool)) → v ≡ s → ns ≡ v.watched → ms ≡ fold watch ns ws → ms ≡ fold watch s.watched ws
enabled_so s v ns ms ws view same made = made ∙ ap (λ ns. fold watch ns ws) (same ∙ ap (λ (s : Held). s.watched) view)

-- the thread left its stack with edited frames, and then it swaps
pub swapped_edited : (v : Held) (w : EnteredFrames) (c : Chain) (os : List HeapObject) (k : ℕ) (r : EnteredFrames) (ls : List Line) → frames_of c ≡ w.frames → os ≡ objects_end v.objects (frames_objects w.ended)
    → swapped_with (record v { frames = c; objects = os }) c.top k r ls ≡ Next (record (enters v.thread k r (left_with v w)) { lines = reverse ls })
unfolding swapped_with objects_end
swapped_edited v w c os k r ls frames objects =
    let go : Configuration → Outcome = λ g. Next (record (enters v.thread k r g) { lines = reverse ls }) in
    let n : Held = record v { frames = c; objects = os } in
    let now : Stack = Ready (frames_of c) in
    ap (λ ss. go (record (leaving (turn n nothing) c.top (begun n)) { stacks = ss }))
    (set_again v.seats.stacks v.stack (Active v.thread (frames_of c)) now ∙ sym (set_again v.seats.stacks v.stack (Active v.thread (frames_of v.frames)) now))
    ∙ ap (λ fs. go (record (left_with v (record w { frames = fs })) { objects = os })) frames ∙ ap (λ os. go (record (left_with v w) { objects = os })) objects

-- another stack is entered, and then the answer's changes are made
pub entered_then : (how : Way) (end : StepEnd) (s t : Held) (w : EnteredFrames) (x : Change) (k number : ℕ) (r : EnteredFrames) (ls : List Line) (ws : List ℕ) (client : Client) → answers end t ≡ Next (record (enters s.thread k r (left_with s w)) { lines = reverse ls }) → ws ≡ x.watched → client ≡ how.past s.client
    → number ≡ length s.log → ls ≡ x.lines ++ lines.Event (number + 1) (entry s k) ∷ [] → answers end (record t { watched = ws; client = client }) ≡ past how s (entering_then s w x k r)
unfolding past entering_then
entered_then how end s t w x k number r ls ws client h enabled gone count told =
    let c : Configuration = enters s.thread k r (left_with s w) in
    let number_is : number + 1 ≡ suc (length s.log) = add-one number ∙ ap suc count in
    ap (λ ns. answers end (record t { watched = ns; client = client })) enabled ∙ answers_changed end t (record c { lines = reverse ls }) x.watched client h ∙ ap (λ k. Next (record c { lines = reverse ls; watched = x.watched; client = k })) gone
    ∙ ap (λ l. Next (record c { lines = l; watched = x.watched; client = how.past s.client })) (lines_then x (lines.Event (number + 1) (entry s k)) ls told)
    ∙ ap (λ n. Next (record c { lines = lines.Event n (entry s k) ∷ reverse x.lines; watched = x.watched; client = how.past s.client })) number_is

-- ---- the trapped stack goes on

same_seat : (ts : List (Option Thread)) (i k : ℕ) → IsSomeAnd (with_some (slice_get ts i) (λ t. t)) (λ (t : Thread). t.stack ≡ k) → changed (option_map (on_stack k)) i ts ≡ ts
same_seat [] i k h = refl
same_seat (None ∷ ts) zero k h = absurd h
same_seat (Some t ∷ ts) zero k h = ap (λ n. Some (record t { stack = n }) ∷ ts) (sym h)
same_seat (t ∷ ts) (suc i) k h = ap (λ ts. t ∷ ts) (same_seat ts i k h)

-- it stays on its stack
stays_on : (seats : Seats) (i k : ℕ) (x : Stack) → IsOn seats i k → k < length seats.stacks → IsMoved seats seats i k k x
stays_on seats i k x h low = record { threads = sym (same_seat seats.threads i k h); stacks = λ s. sym (set_again seats.stacks k x s); waiters = refl; on = h; within = low }

-- what the frames are once the edit is made
pub edited_is : (bundle : List Item) (s v : Held) (e : Edit) (w u : Awaited) (f1 f2 : Chain) → v ≡ s → f1 ≡ v.frames → u ≡ w → frames_of f2 ≡ (after_edit bundle e (frames_of (record f1 { top = with_awaited f1.top u }))).frames
    → frames_of f2 ≡ (after_edit bundle e (frames_of (waiting_frames s w))).frames
edited_is bundle s v e w u f1 f2 view same waits is =
    is ∙ ap (λ (f : Chain). (after_edit bundle e (frames_of (record f { top = with_awaited f.top u }))).frames) same ∙ ap (λ (u : Awaited). (after_edit bundle e (frames_of (waiting_frames v u))).frames) waits
    ∙ ap (λ (s : Held). (after_edit bundle e (frames_of (waiting_frames s w))).frames) view

pub edited_ends : (bundle : List Item) (s v : Held) (e : Edit) (w u : Awaited) (f1 : Chain) (before os : List HeapObject) → v ≡ s → f1 ≡ v.frames → u ≡ w → before ≡ v.objects → os ≡ objects_end before (frames_objects (after_edit bundle e (frames_of (record f1 { top = with_awaited f1.top u }))).ended)
    → os ≡ objects_end v.objects (frames_objects (after_edit bundle e (frames_of (waiting_frames s w))).ended)
edited_ends bundle s v e w u f1 before os view same waits former is =
    is ∙ ap (λ os. objects_end os (frames_objects (after_edit bundle e (frames_of (record f1 { top = with_awaited f1.top u }))).ended)) former
    ∙ ap (λ (f : Chain). objects_end v.objects (frames_objects (after_edit bundle e (frames_of (record f { top = with_awaited f.top u }))).ended)) same
    ∙ ap (λ (u : Awaited). objects_end v.objects (frames_objects (after_edit bundle e (frames_of (waiting_frames v u))).ended)) waits
    ∙ ap (λ (z : Held). objects_end v.objects (frames_objects (after_edit bundle e (frames_of (waiting_frames z w))).ended)) view

pub made_in : (bundle : List Item) (s v : Held) (e : Edit) (w u : Awaited) (f1 : Chain) → v ≡ s → f1 ≡ v.frames → u ≡ w → IsMade bundle e (frames_of (waiting_frames s w)) → IsMade bundle e (frames_of (record f1 { top = with_awaited f1.top u }))
made_in bundle s v e w u f1 view same waits h =
    let is : record f1 { top = with_awaited f1.top u } ≡ waiting_frames s w =
    ap (λ (f : Chain). record f { top = with_awaited f.top u }) same ∙ ap (λ (u : Awaited). waiting_frames v u) waits ∙ ap (λ (s : Held). waiting_frames s w) view in
    subst (λ (f : Chain). IsMade bundle e (frames_of f)) (sym is) h

pub on_same : (s0 s1 : Seats) (i k : ℕ) → s1 ≡ s0 → IsOn s0 i k → IsOn s1 i k
on_same s0 s1 i k same h = subst (λ (s : Seats). IsOn s i k) (sym same) h

pub low_same : (s0 s1 : Seats) (k : ℕ) → s1 ≡ s0 → k < length s0.stacks → k < length s1.stacks
low_same s0 s1 k same h = subst (λ (s : Seats). k < length s.stacks) (sym same) h

pub takes_same : (s v : Held) (s1 : Seats) (to : ℕ) (e : Entered) → v ≡ s → s1 ≡ v.seats → IsReadyFor (slice_get s.seats.stacks to) e → IsReadyFor (slice_get s1.stacks to) e
takes_same s v s1 to e view same h = subst (λ (q : Seats). IsReadyFor (slice_get q.stacks to) e) (sym (same ∙ ap (λ (s : Held). s.seats) view)) h

pub lands_same : (s v : Held) (s1 : Seats) (to : ℕ) (fr : Chain) (a : Arrival) (vs : List Value) → v ≡ s → s1 ≡ v.seats → slice_get s1.stacks to ≡ Some (Ready (frames_of fr)) → IsSome (arrives a (frames_at (slice_get s.seats.stacks to)) vs) → a.above < length (frames_of fr)
lands_same s v s1 to fr a vs view same there h = lands_low s v to fr a vs view (ap (λ (s : Seats). slice_get s.stacks to) (sym same) ∙ there) h

pub moved_from : (old same new : Seats) (i n k : ℕ) (left : Stack) → same ≡ old → IsMoved same new i n k left → IsMoved old new i n k left
moved_from old same new i n k left e h = subst (λ (s : Seats). IsMoved s new i n k left) e h

pub lands_low_own : (w : EnteredFrames) (fr : Chain) (a : Arrival) (vs : List Value) → frames_of fr ≡ w.frames → IsSome (arrives a w.frames vs) → a.above < length (frames_of fr)
lands_low_own w fr a vs is h = landed_low (frames_of fr) a.above a.place.block a.place.at vs (subst (λ fs. IsSome (arrives a fs vs)) (sym is) h)

pub resumed_so : (how : Way) (s v : Held) (w : EnteredFrames) (x : Change) (a : Arrival) (vs : List Value) (f2 f3 : Chain) (seats : Seats) (ds os : List HeapObject) (some cells number : ℕ) (lg after : List Event) (rl rest : Rule) (ls : List Line) (ws : List ℕ) (client : Client)
    → v ≡ s → s.left ≡ true → IsOn v.seats v.thread v.stack → v.stack < length v.seats.stacks → frames_of f2 ≡ w.frames → seats ≡ v.seats → ds ≡ objects_end v.objects (frames_objects w.ended) → some ≡ v.cells
    → arrives a (frames_of f2) vs ≡ Some (record { frames = frames_of f3; ended = take a.above (frames_of f2) }) → os ≡ objects_end ds (frames_objects (take a.above (frames_of f2))) → cells ≡ some
    → lg ≡ v.log → rl ≡ v.rule → after ≡ entry v v.stack ∷ leaves v ∷ lg → rest ≡ rl → ws ≡ x.watched → client ≡ how.past v.client → number ≡ length v.log → ls ≡ x.lines ++ lines.Event (number + 1) (entry v v.stack) ∷ []
    → IfSome (arrives a w.frames vs) (λ r. answers (Went ls) (record (at_stack v v.stack f3 seats os cells after rest) { watched = ws; client = client }) ≡ past how s (entering_then s w x s.stack r))
resumed_so how s v w x a vs f2 f3 seats ds os some cells number lg after rl rest ls ws client view left seated within edit same_seats ended few arrived objects same log rule added still enabled gone count told =
    let r : EnteredFrames = record { frames = frames_of f3; ended = take a.above (frames_of f2) } in
    let n : Held = record v { frames = f2; objects = ds } in
    let q : Moved n (Ready (f2.top ∷ f2.below)) v.stack r (objects_end ds (frames_objects r.ended)) (entry v v.stack ∷ leaves v ∷ v.log) (reverse ls) f3 seats os cells after rest ls = record {
      left = ap (λ (s : Held). s.left) view ∙ left;
      seated = subst (λ ss. IsMoved v.seats ss v.thread v.stack v.stack (Ready (frames_of f2))) (sym same_seats) (stays_on v.seats v.thread v.stack (Ready (frames_of f2)) seated within);
      frames = refl;
      objects = objects;
      cells_same = same ∙ few;
      logged = added ∙ ap (λ lg. entry v v.stack ∷ leaves v ∷ lg) log;
      rule = still ∙ rule;
      lines = refl;
    } in
    let is = swapped_with_is n f2.top v.stack r f3 seats os cells after rest ls q in
    let t : Held = at_stack v v.stack f3 seats os cells after rest in
    let done = entered_then how (Went ls) v t w x v.stack number r ls ws client (is ∙ swapped_edited v w f2 ds v.stack r ls edit ended) enabled gone count told in
    let found : arrives a w.frames vs ≡ Some r = ap (λ fs. arrives a fs vs) (sym edit) ∙ arrived in
    let main : IfSome (arrives a w.frames vs) (λ r. answers (Went ls) (record t { watched = ws; client = client }) ≡ past how v (entering_then v w x v.stack r)) =
    subst (λ o. IfSome o (λ r. answers (Went ls) (record t { watched = ws; client = client }) ≡ past how v (entering_then v w x v.stack r))) (sym found) done in
    subst (λ (s : Held). IfSome (arrives a w.frames vs) (λ r. answers (Went ls) (record t { watched = ws; client = client }) ≡ past how s (entering_then s w x s.stack r))) view main

-- two events that make no thread
pub stays_sound : (left : Bool) (i k : ℕ) (seats same : Seats) (log lg after : List Event) → IsSound left i k seats log → left ≡ true → same ≡ seats → lg ≡ log → after ≡ event i (Enter k) ∷ event i (Leave k) ∷ lg → IsSound left i k same after
stays_sound left i k seats same log lg after h on is still added =
    subst (λ (s : Seats). IsSound left i k s after) (sym is) (swapped_sound left i k k seats seats log lg after Dead h (stays_on seats i k Dead (h.on_stack on) (h.within on)) still added)

-- ---- the thread ends, and its stack stays ready

changed_here : {A : Type 0} (f : A → A) (n : ℕ) (xs : List A) (a : A) → changed f n (slice_set xs n a) ≡ slice_set xs n (f a)
changed_here f n [] a = refl
changed_here f zero (x ∷ xs) a = refl
changed_here f (suc n) (x ∷ xs) a = ap (λ ys. x ∷ ys) (changed_here f n xs a)

-- what the thread in hand leaves behind
gone_with : Held → Chain → Seats → List HeapObject → ℕ → List Event → Rule → List ℕ → Client → ℕ → Held
gone_with v rest seats os cells lg rl ws k steps = record v { left = false; frames = rest; seats = seats; objects = os; cells = cells; log = lg; rule = rl; watched = ws; client = k; steps = steps }

-- its seats then
seats_then : Held → EnteredFrames → Seats
seats_then v w = record v.seats { threads = slice_set v.seats.threads v.thread None; stacks = slice_set (held_stacks v) v.stack (Ready w.frames) }

seats_exited : (v : Held) (w : EnteredFrames) (f2 : Chain) (s0 s1 s2 : Seats) → frames_of f2 ≡ w.frames → s0 ≡ v.seats → s1 ≡ record s0 { stacks = slice_set s0.stacks v.stack (Active v.thread (frames_of f2)) }
    → s2 ≡ record s1 { threads = slice_set s1.threads v.thread None; stacks = changed left_ready v.stack s1.stacks } → s2 ≡ seats_then v w
unfolding seats_then
seats_exited v w f2 s0 s1 s2 edit same first second =
    let now = Ready w.frames in
    second ∙ ap (λ (s : Seats). record s { threads = slice_set s.threads v.thread None; stacks = changed left_ready v.stack s.stacks }) first
    ∙ ap (λ (s : Seats). record s { threads = slice_set s.threads v.thread None; stacks = changed left_ready v.stack (slice_set s.stacks v.stack (Active v.thread (frames_of f2))) }) same
    ∙ ap (λ fs. record v.seats { threads = slice_set v.seats.threads v.thread None; stacks = changed left_ready v.stack (slice_set v.seats.stacks v.stack (Active v.thread fs)) }) edit
    ∙ ap (λ ss. record v.seats { threads = slice_set v.seats.threads v.thread None; stacks = ss })
    (changed_here left_ready v.stack v.seats.stacks (Active v.thread w.frames) ∙ sym (set_again v.seats.stacks v.stack (Active v.thread (frames_of v.frames)) now))

exit_is : (how : Way) (v : Held) (w : EnteredFrames) (x : Change) (rest : Chain) (ls : List Line) → reverse ls ≡ lines.Note (Exited v.thread) ∷ reverse x.lines
    → answers (Went ls) (gone_with v rest (seats_then v w) (objects_end v.objects (frames_objects w.ended)) v.cells (leaves v ∷ v.log) v.rule x.watched (how.past v.client) (suc v.steps))
    ≡ Next (record (noted (Exited v.thread) (thread_ends v.thread (changed_by v w x))) { client = how.past v.client })
unfolding answers gone_with seats_then objects_end
exit_is how v w x rest ls told = ap (λ l. Next (record (noted (Exited v.thread) (thread_ends v.thread (changed_by v w x))) { client = how.past v.client; lines = l })) told

pub exited_so : (how : Way) (bundle : List Item) (s v : Held) (w : EnteredFrames) (x : Change) (f2 rest : Chain) (s0 s1 s2 : Seats) (os : List HeapObject) (cells : ℕ) (lg after : List Event) (rl still : Rule) (ls : List Line) (ws : List ℕ) (client : Client)
    → v ≡ s → replying bundle s w x Exit ≢ Stuck → frames_of f2 ≡ w.frames → os ≡ objects_end v.objects (frames_objects w.ended) → cells ≡ v.cells → s0 ≡ v.seats → s1 ≡ record s0 { stacks = slice_set s0.stacks v.stack (Active v.thread (frames_of f2)) }
    → s2 ≡ record s1 { threads = slice_set s1.threads v.thread None; stacks = changed left_ready v.stack s1.stacks } → lg ≡ v.log → rl ≡ v.rule → after ≡ leaves v ∷ lg → still ≡ rl → ws ≡ x.watched → client ≡ how.past v.client
    → ls ≡ x.lines ++ lines.Note (Exited v.thread) ∷ []
    → answers (Went ls) (record v { left = false; frames = rest; seats = s2; objects = os; cells = cells; log = after; rule = still; watched = ws; client = client; steps = v.steps + 1 }) ≡ past how s (replying bundle s w x Exit)
unfolding gone_with
exited_so how bundle s v w x f2 rest s0 s1 s2 os cells lg after rl still ls ws client view there edit ended few same first second log rule added stays enabled gone told =
    let go : Seats → List HeapObject → ℕ → List Event → Rule → Client → ℕ → Outcome = λ seats os cells lg rl k n. answers (Went ls) (gone_with v rest seats os cells lg rl x.watched k n) in
    let dead = objects_end v.objects (frames_objects w.ended) in
    let done : go s2 os cells after still client (v.steps + 1) ≡ Next (record (noted (Exited v.thread) (thread_ends v.thread (changed_by v w x))) { client = how.past v.client }) =
    ap (λ seats. go seats os cells after still client (v.steps + 1)) (seats_exited v w f2 s0 s1 s2 edit same first second)
    ∙ ap (λ os. go (seats_then v w) os cells after still client (v.steps + 1)) ended
    ∙ ap (λ cells. go (seats_then v w) dead cells after still client (v.steps + 1)) few
    ∙ ap (λ lg. go (seats_then v w) dead v.cells lg still client (v.steps + 1)) (added ∙ ap (λ lg. leaves v ∷ lg) log)
    ∙ ap (λ rl. go (seats_then v w) dead v.cells (leaves v ∷ v.log) rl client (v.steps + 1)) (stays ∙ rule)
    ∙ ap (λ k. go (seats_then v w) dead v.cells (leaves v ∷ v.log) v.rule k (v.steps + 1)) gone
    ∙ ap (go (seats_then v w) dead v.cells (leaves v ∷ v.log) v.rule (how.past v.client)) (add-one v.steps)
    ∙ exit_is how v w x rest ls (lines_then x (lines.Note (Exited v.thread)) ls told) in
    let here : replying bundle v w x Exit ≢ Stuck = subst (λ (s : Held). replying bundle s w x Exit ≢ Stuck) (sym view) there in
    ap (λ ns. answers (Went ls) (gone_with v rest s2 os cells after still ns client (v.steps + 1))) enabled ∙ done ∙ sym (reply_exits how bundle v w x here) ∙ ap (λ (s : Held). past how s (replying bundle s w x Exit)) view

-- nobody is in hand then, and as many threads were made
pub gone_sound : (left : Bool) (i k : ℕ) (seats s0 s1 s2 : Seats) (fs : List Activation) (log lg after : List Event) → IsSound left i k seats log → s0 ≡ seats → s1 ≡ record s0 { stacks = slice_set s0.stacks k (Active i fs) }
    → s2 ≡ record s1 { threads = slice_set s1.threads i None; stacks = changed left_ready k s1.stacks } → lg ≡ log → after ≡ event i (Leave k) ∷ lg → IsSound false i k s2 after
gone_sound left i k seats s0 s1 s2 fs log lg after h same first second still added =
    let threads : s2.threads ≡ slice_set seats.threads i None =
    ap (λ (s : Seats). s.threads) second ∙ ap (λ (s : Seats). slice_set s.threads i None) (first ∙ ap (λ (s : Seats). record s { stacks = slice_set s.stacks k (Active i fs) }) same) in
    logged_sound false i k s2 log lg after (event i (Leave k)) (ended_sound left i k i seats s2 log h threads) still added (λ j. refl)

-- what the stack waits for after the edit
pub waits_edited : (bundle : List Item) (s v : Held) (e : Edit) (w : Awaited) (f1 : Chain) (ws : List ℕ) → v ≡ s → f1 ≡ v.frames → IsSomeAnd (slice_get (after_edit bundle e (frames_of (record f1 { top = with_awaited f1.top w }))).frames 0) (λ f. f.waits ≡ ws)
    → IsSomeAnd (slice_get (after_edit bundle e (frames_of (waiting_frames s w))).frames 0) (λ f. f.waits ≡ ws)
waits_edited bundle s v e w f1 ws view same h =
    let is : record f1 { top = with_awaited f1.top w } ≡ waiting_frames s w = ap (λ (f : Chain). record f { top = with_awaited f.top w }) same ∙ ap (λ (s : Held). waiting_frames s w) view in
    subst (λ (f : Chain). IsSomeAnd (slice_get (after_edit bundle e (frames_of f)).frames 0) (λ f. f.waits ≡ ws)) is h

pub top_waits : (c : Chain) (fs : List Activation) (ws : List ℕ) → frames_of c ≡ fs → IsSomeAnd (slice_get fs 0) (λ f. f.waits ≡ ws) → c.top.waits ≡ ws
top_waits c fs ws is h = subst (λ fs. IsSomeAnd (slice_get fs 0) (λ f. f.waits ≡ ws)) (sym is) h

pub waits_of : (c : Chain) (fs : List Activation) (ws ts : List ℕ) → frames_of c ≡ fs → ws ≡ c.top.waits → ts ≡ ws → IsSomeAnd (slice_get fs 0) (λ f. f.waits ≡ ts)
waits_of c fs ws ts is waits copied = subst (λ fs. IsSomeAnd (slice_get fs 0) (λ f. f.waits ≡ ts)) is (sym (copied ∙ waits))

pub exit_waits : (s0 s1 s2 : Seats) (i k : ℕ) (c : Chain) (cs : List ℕ) → k < length s0.stacks → s1 ≡ s0 → s2 ≡ record s1 { stacks = slice_set s1.stacks k (Active i (frames_of c)) } → c.top.waits ≡ cs → WaitsFor (slice_get s2.stacks k) cs
exit_waits s0 s1 s2 i k c cs low same first waits =
    subst (λ (s : Seats). WaitsFor (slice_get s.stacks k) cs) (sym (first ∙ ap (λ (s : Seats). record s { stacks = slice_set s.stacks k (Active i (frames_of c)) }) same)) (waits_there s0.stacks i k c cs low waits)

-- ---- what a client is shown

-- frames and seats that are as before
pub held_again : (i k : ℕ) (fr f0 : Chain) (left : Bool) (seats s0 : Seats) (os : List HeapObject) (lg : List Event) (ws : List ℕ) (cl : Client) (ps : List ℕ) (skip : ℕ) (rl : Rule) (cells steps budget : ℕ) (s : Held) → fr ≡ f0 → seats ≡ s0
    → record { thread = i; stack = k; frames = f0; left = left; seats = s0; objects = os; log = lg; watched = ws; client = cl; picks = ps; skip = skip; rule = rl; cells = cells; steps = steps; budget = budget } ≡ s
    → record { thread = i; stack = k; frames = fr; left = left; seats = seats; objects = os; log = lg; watched = ws; client = cl; picks = ps; skip = skip; rule = rl; cells = cells; steps = steps; budget = budget } ≡ s
held_again i k fr f0 left seats s0 os lg ws cl ps skip rl cells steps budget s frames same view =
    ap (λ (fr : Chain). record { thread = i; stack = k; frames = fr; left = left; seats = seats; objects = os; log = lg; watched = ws; client = cl; picks = ps; skip = skip; rule = rl; cells = cells; steps = steps; budget = budget }) frames
    ∙ ap (λ (seats : Seats). record { thread = i; stack = k; frames = f0; left = left; seats = seats; objects = os; log = lg; watched = ws; client = cl; picks = ps; skip = skip; rule = rl; cells = cells; steps = steps; budget = budget }) same ∙ view

pub frames_back_again : (f0 f1 f2 f3 : Chain) (w1 : Awaited) → record f1 { top = with_awaited f1.top w1 } ≡ f0 → f2 ≡ f1 → f3 ≡ record f2 { top = with_awaited f2.top w1 } → f3 ≡ f0
frames_back_again f0 f1 f2 f3 w1 before same after = after ∙ ap (λ (f : Chain). record f { top = with_awaited f.top w1 }) same ∙ before

view_is : (s v : Held) (view : Trap) (w : Awaited) (f1 : Chain) → v ≡ s → view.thread ≡ s.thread → view.asked ≡ w.waits → f1 ≡ record v.frames { top = with_awaited v.frames.top w }
    → record { thread = view.thread; watchpoint = view.watchpoint; asked = view.asked; frames = frames_of f1 } ≡ seen s view.watchpoint w
view_is s v view w f1 same thread asked waits =
    let frames : f1 ≡ waiting_frames s w = waits ∙ ap (λ (s : Held). waiting_frames s w) same in
    ap (λ i. record { thread = i; watchpoint = view.watchpoint; asked = view.asked; frames = frames_of f1 }) thread ∙ ap (λ cs. record { thread = s.thread; watchpoint = view.watchpoint; asked = cs; frames = frames_of f1 }) asked
    ∙ ap (λ (fr : Chain). record { thread = s.thread; watchpoint = view.watchpoint; asked = w.waits; frames = frames_of fr }) frames

pub seen_so : {E : Type 0} (how : Way) (r : Result (Option Plan) E) (p : Tables) (s v : Held) (view : Trap) (w : Awaited) (f1 : Chain) → v ≡ s → view.thread ≡ s.thread → view.asked ≡ w.waits → f1 ≡ record v.frames { top = with_awaited v.frames.top w }
    → IfOk r (λ plan. option_map planned plan ≡ how.answer p (record { thread = view.thread; watchpoint = view.watchpoint; asked = view.asked; frames = frames_of f1 }) v.client)
    → IfOk r (λ plan. option_map planned plan ≡ how.answer p (seen s view.watchpoint w) s.client)
seen_so how r p s v view w f1 same thread asked waits h =
    subst (λ k. IfOk r (λ plan. option_map planned plan ≡ how.answer p (seen s view.watchpoint w) k)) (ap (λ (s : Held). s.client) same)
    (subst (λ z. IfOk r (λ plan. option_map planned plan ≡ how.answer p z v.client)) (view_is s v view w f1 same thread asked waits) h)

-- ---- a stack that is looked at for a reply

pub low_in : (s v : Held) → v ≡ s → v.stack < length v.seats.stacks → s.stack < length s.seats.stacks
low_in s v view low = subst (λ (s : Held). s.stack < length s.seats.stacks) view low

pub edited_again : (bundle : List Item) (s t : Held) (w u : Awaited) (e : Edit) → t ≡ s → u ≡ w → IsMade bundle e (frames_of (waiting_frames s w)) → IsMade bundle e (frames_of (waiting_frames t u))
edited_again bundle s t w u e same waits h = subst (λ (t : Held). IsMade bundle e (frames_of (waiting_frames t u))) (sym same) (subst (λ (u : Awaited). IsMade bundle e (frames_of (waiting_frames s u))) (sym waits) h)

pub left_again : (bundle : List Item) (s t : Held) (w u : Awaited) (e : Edit) → t ≡ s → u ≡ w → after_edit bundle e (frames_of (waiting_frames t u)) ≡ after_edit bundle e (frames_of (waiting_frames s w))
left_again bundle s t w u e same waits = ap (λ (t : Held). after_edit bundle e (frames_of (waiting_frames t u))) same ∙ ap (λ (u : Awaited). after_edit bundle e (frames_of (waiting_frames s u))) waits

pub lands_again : (bundle : List Item) (s t : Held) (w u : Awaited) (d : Edit) (e : Entering) (r : Found) (a : Arrival) (vs : List Value) → t ≡ s → u ≡ w
    → entered_by bundle (after_edit bundle d (frames_of (waiting_frames s w))).frames e ≡ found r (after_edit bundle d (frames_of (waiting_frames s w))).frames vs → r ≡ Lands a
    → IsSome (entered_by bundle (after_edit bundle d (frames_of (waiting_frames s w))).frames e) → IsSome (arrives a (after_edit bundle d (frames_of (waiting_frames t u))).frames vs)
lands_again bundle s t w u d e r a vs same waits is lands there =
    let fs = (after_edit bundle d (frames_of (waiting_frames s w))).frames in
    let here = lands_there bundle fs e a vs (is ∙ ap (λ r. found r fs vs) lands) there in
    subst (λ (q : EnteredFrames). IsSome (arrives a q.frames vs)) (sym (left_again bundle s t w u d same waits)) here

some_by : {A : Type 0} (P : A → Type 0) (o : Option A) (a : A) → o ≡ Some a → IfSome o P → P a
some_by P o a e h = subst (λ o. IfSome o P) e h

pub resume_answered : {E : Type 0} (how : Way) (bundle : List Item) (s t n : Held) (w u : Awaited) (d : Edit) (x y : Change) (v : With TypedValues Classed) (e : Entering) (r : Found) (a : Arrival) (vs : List Value) (q : Result StepEnd E) → t ≡ s → u ≡ w → y ≡ x
    → replying bundle s (after_edit bundle d (frames_of (waiting_frames s w))) x (Resume v) ≢ Stuck → s.stack < length s.seats.stacks → entering_of (bundle_tables bundle) v ≡ Some e
    → entered_by bundle (after_edit bundle d (frames_of (waiting_frames s w))).frames e ≡ found r (after_edit bundle d (frames_of (waiting_frames s w))).frames vs → r ≡ Lands a
    → IfOk q (λ end. IfSome (arrives a (after_edit bundle d (frames_of (waiting_frames t u))).frames vs) (λ r. answers end n ≡ past how t (entering_then t (after_edit bundle d (frames_of (waiting_frames t u))) y t.stack r)))
    → IfOk q (λ end. answers end n ≡ past how s (replying bundle s (after_edit bundle d (frames_of (waiting_frames s w))) x (Resume v)))
resume_answered how bundle s t n w u d x y v e r a vs (Err q) same waits alike there low brings is lands h = tt
resume_answered how bundle s t n w u d x y v e r a vs (Ok end) same waits alike there low brings is lands h =
    let k = after_edit bundle d (frames_of (waiting_frames s w)) in
    let l = lands_by (entered_by bundle k.frames e) (arrives a k.frames vs) (is ∙ ap (λ r. found r k.frames vs) lands) (resume_enters bundle s k x v there e low brings) in
    let one = subst (λ (q : EnteredFrames). IfSome (arrives a q.frames vs) (λ r. answers end n ≡ past how t (entering_then t q x t.stack r))) (left_again bundle s t w u d same waits)
    (subst (λ (y : Change). IfSome (arrives a (after_edit bundle d (frames_of (waiting_frames t u))).frames vs) (λ r. answers end n ≡ past how t (entering_then t (after_edit bundle d (frames_of (waiting_frames t u))) y t.stack r))) alike h) in
    let two = subst (λ (t : Held). IfSome (arrives a k.frames vs) (λ r. answers end n ≡ past how t (entering_then t k x t.stack r))) same one in
    some_by (λ r. answers end n ≡ past how s (entering_then s k x s.stack r)) (arrives a k.frames vs) l.0 l.1 two ∙ ap (past how s) (sym (resume_goes bundle s k x v there e l.0 low brings l.2))

pub resume_ended : (how : Way) (bundle : List Item) (s t n : Held) (w : EnteredFrames) (x : Change) (v : With TypedValues Classed) (e : Entering) (r : Found) (k : Case) (vs : List Value) (ending : Ending) → t ≡ s → replying bundle s w x (Resume v) ≢ Stuck
    → s.stack < length s.seats.stacks → entering_of (bundle_tables bundle) v ≡ Some e → entered_by bundle w.frames e ≡ found r w.frames vs → IsPlain r → r ≡ Refused k → ending ≡ undefined_at t k
    → answers (Ended x.lines ending) n ≡ past how s (replying bundle s w x (Resume v))
resume_ended how bundle s t n w x v e r k vs ending same there low brings is plain refused told =
    answers_ended n x.lines x.lines ending (undefined_at s k) refl (told ∙ ap (λ (s : Held). undefined_at s k) same)
    ∙ sym (resume_refuses bundle s w x v there how e k low brings (is ∙ ap (λ r. found r w.frames vs) refused) (subst IsPlain refused plain))

pub rebind_answered : {E : Type 0} (how : Way) (bundle : List Item) (s v0 n : Held) (w : EnteredFrames) (x : Change) (c : Classed) (v : With TypedValues Classed) (sc : Scalar) (k : ℕ) (e : Entering) (r : Found) (a : Arrival) (vs : List Value) (q : Result StepEnd E) → v0 ≡ s
    → replying bundle s w x (Rebind c v) ≢ Stuck → scalar_in (Some c.1) ≡ Some sc → sc ≡ scalars.Stack k → k ≢ s.stack → IsReady (slice_get s.seats.stacks k) → entering_of (bundle_tables bundle) v ≡ Some e
    → entered_by bundle (frames_at (slice_get v0.seats.stacks k)) e ≡ found r (frames_at (slice_get v0.seats.stacks k)) vs → r ≡ Lands a
    → IfOk q (λ end. IfSome (arrives a (frames_at (slice_get s.seats.stacks k)) vs) (λ r. answers end n ≡ past how s (entering_then s w x k r))) → IfOk q (λ end. answers end n ≡ past how s (replying bundle s w x (Rebind c v)))
rebind_answered how bundle s v0 n w x c v sc k e r a vs (Err q) view there named stack other ready brings is lands h = tt
rebind_answered how bundle s v0 n w x c v sc k e r a vs (Ok end) view there named stack other ready brings at lands h =
    let is = subst (λ (s : Held). entered_by bundle (frames_at (slice_get s.seats.stacks k)) e ≡ found r (frames_at (slice_get s.seats.stacks k)) vs) view at in
    let fs = frames_at (slice_get s.seats.stacks k) in
    let name : scalar_in (Some c.1) ≡ Some (scalars.Stack k) = named ∙ ap Some stack in
    let l = lands_by (entered_by bundle fs e) (arrives a fs vs) (is ∙ ap (λ r. found r fs vs) lands) (rebind_looks bundle s w x c v there k e name other ready brings) in
    some_by (λ r. answers end n ≡ past how s (entering_then s w x k r)) (arrives a fs vs) l.0 l.1 h ∙ ap (past how s) (sym (rebind_goes bundle s w x c v there k e l.0 name other ready brings l.2))

pub rebind_ended : (how : Way) (bundle : List Item) (s v0 n : Held) (w : EnteredFrames) (x : Change) (c : Classed) (v : With TypedValues Classed) (sc : Scalar) (k : ℕ) (e : Entering) (r : Found) (q : Case) (vs : List Value) (ending : Ending) → v0 ≡ s
    → replying bundle s w x (Rebind c v) ≢ Stuck → scalar_in (Some c.1) ≡ Some sc → sc ≡ scalars.Stack k → k ≢ s.stack → IsReady (slice_get s.seats.stacks k) → entering_of (bundle_tables bundle) v ≡ Some e
    → entered_by bundle (frames_at (slice_get v0.seats.stacks k)) e ≡ found r (frames_at (slice_get v0.seats.stacks k)) vs → IsPlain r → r ≡ Refused q → ending ≡ undefined_at s q
    → answers (Ended x.lines ending) n ≡ past how s (replying bundle s w x (Rebind c v))
rebind_ended how bundle s v0 n w x c v sc k e r q vs ending view there named stack other ready brings at plain refused told =
    let is = subst (λ (s : Held). entered_by bundle (frames_at (slice_get s.seats.stacks k)) e ≡ found r (frames_at (slice_get s.seats.stacks k)) vs) view at in
    let fs = frames_at (slice_get s.seats.stacks k) in
    answers_ended n x.lines x.lines ending (undefined_at s q) refl told
    ∙ sym (rebind_refuses bundle s w x c v there how k e q (named ∙ ap Some stack) other ready brings (is ∙ ap (λ r. found r fs vs) refused) (subst IsPlain refused plain))

pub rebind_unready : (how : Way) (bundle : List Item) (s n : Held) (w : EnteredFrames) (x : Change) (c : Classed) (v : With TypedValues Classed) (sc : Scalar) (ending : Ending) → replying bundle s w x (Rebind c v) ≢ Stuck → scalar_in (Some c.1) ≡ Some sc
    → sc ≢ scalars.Stack s.stack → ready (held_stacks s) sc ≡ Some (Err StackNotReady) → ending ≡ undefined_at s StackNotReady → answers (Ended x.lines ending) n ≡ past how s (replying bundle s w x (Rebind c v))
rebind_unready how bundle s n w x c v sc ending there named other none told =
    answers_ended n x.lines x.lines ending (undefined_at s StackNotReady) refl told ∙ sym (rebind_not_ready bundle s w x c v there how sc named other none)

-- the lines of a trap, with what is recorded
pub taken_lines : (s v : Held) (number : ℕ) (ls : List Line) (note : Note) (notes : List Note) → v ≡ s → number ≡ length v.log → ls ≡ lines.Event number (leaves v) ∷ lines.Note note ∷ map lines.Note notes
    → ls ≡ lines.Event (length s.log) (leaves s) ∷ lines.Note note ∷ map lines.Note notes
taken_lines s v number ls note notes view count told =
    told ∙ ap (λ n. lines.Event n (leaves v) ∷ lines.Note note ∷ map lines.Note notes) count ∙ ap (λ (s : Held). lines.Event (length s.log) (leaves s) ∷ lines.Note note ∷ map lines.Note notes) view

pub take_there : (bundle : List Item) (s : Held) (w : Awaited) (e : Edit) (ns : List ℕ) (ls ms : List Line) (r : Reply TypedValues Classed) → ls ≡ ms → answering bundle s w e (record { watched = ns; lines = ms }) r ≢ Stuck
    → answering bundle s w e (record { watched = ns; lines = ls }) r ≢ Stuck
take_there bundle s w e ns ls ms r same h = subst (λ ls. answering bundle s w e (record { watched = ns; lines = ls }) r ≢ Stuck) (sym same) h

pub take_answered : {E : Type 0} (how : Way) (bundle : List Item) (s n : Held) (w : Awaited) (e : Edit) (ns : List ℕ) (ls ms : List Line) (r : Reply TypedValues Classed) (q : Result StepEnd E) → ls ≡ ms
    → IfOk q (λ end. answers end n ≡ past how s (answering bundle s w e (record { watched = ns; lines = ls }) r)) → IfOk q (λ end. answers end n ≡ past how s (answering bundle s w e (record { watched = ns; lines = ms }) r))
take_answered how bundle s n w e ns ls ms r q same h = subst (λ ls. IfOk q (λ end. answers end n ≡ past how s (answering bundle s w e (record { watched = ns; lines = ls }) r))) same h

-- the same where nothing is recorded
pub misuse_lines : (s v : Held) (number : ℕ) (ls : List Line) (note : Note) (notes : List Note) → v ≡ s → number ≡ length v.log → ls ≡ lines.Event number (leaves v) ∷ lines.Note note ∷ map lines.Note notes → notes ≡ []
    → ls ≡ lines.Event (length s.log) (leaves s) ∷ lines.Note note ∷ []
misuse_lines s v number ls note notes view count told none =
    told ∙ ap (λ n. lines.Event n (leaves v) ∷ lines.Note note ∷ map lines.Note notes) count ∙ ap (λ ns. lines.Event (length v.log) (leaves v) ∷ lines.Note note ∷ map lines.Note ns) none
    ∙ ap (λ (s : Held). lines.Event (length s.log) (leaves s) ∷ lines.Note note ∷ []) view

pub stop_answered : (how : Way) (bundle : List Item) (s n : Held) (w : EnteredFrames) (x : Change) (r : Reply TypedValues Classed) (ls : List Line) → replying bundle s w x r ≢ Stuck → r ≡ Stop → ls ≡ x.lines → answers (Ended ls endings.Stop) n ≡ past how s (replying bundle s w x r)
stop_answered how bundle s n w x r ls there stops told =
    let here : replying bundle s w x Stop ≢ Stuck = subst (λ r. replying bundle s w x r ≢ Stuck) stops there in
    answers_ended n ls x.lines endings.Stop endings.Stop told refl ∙ sym (reply_stops how bundle s w x here) ∙ ap (λ r. past how s (replying bundle s w x r)) (sym stops)

-- ---- another stack is entered, once the frames are edited

-- what the top frame waits for as it is
own_wait : Activation → Awaited
own_wait f = record { waits = f.waits; handler = f.handler; kept = f.kept }

pub rebound_so : (how : Way) (s v : Held) (w : EnteredFrames) (x : Change) (to : ℕ) (a : Arrival) (vs : List Value) (f2 f3 f4 : Chain) (same after_seats : Seats) (ds os : List HeapObject) (some cells number : ℕ) (lg after : List Event) (rl rest : Rule) (ls : List Line) (ws : List ℕ) (client : Client)
    → v ≡ s → s.left ≡ true → frames_of f2 ≡ w.frames → same ≡ v.seats → ds ≡ objects_end v.objects (frames_objects w.ended) → some ≡ v.cells
    → slice_get same.stacks to ≡ Some (Ready (frames_of f3)) → IsMoved same after_seats v.thread v.stack to (Ready (frames_of f2))
    → arrives a (frames_of f3) vs ≡ Some (record { frames = frames_of f4; ended = take a.above (frames_of f3) }) → os ≡ objects_end ds (frames_objects (take a.above (frames_of f3))) → cells ≡ some
    → lg ≡ v.log → rl ≡ v.rule → after ≡ entry v to ∷ leaves v ∷ lg → rest ≡ rl → ws ≡ x.watched → client ≡ how.past v.client → number ≡ length v.log → ls ≡ x.lines ++ lines.Event (number + 1) (entry v to) ∷ []
    → IfSome (arrives a (frames_at (slice_get s.seats.stacks to)) vs) (λ r. answers (Went ls) (record (at_stack v to f4 after_seats os cells after rest) { watched = ws; client = client }) ≡ past how s (entering_then s w x to r))
unfolding own_wait
rebound_so how s v w x to a vs f2 f3 f4 same after_seats ds os some cells number lg after rl rest ls ws client view left edit same_seats ended few ready seated arrived objects cells_same log rule added still enabled gone count told =
    let n : Held = record v { frames = f2; objects = ds; cells = some } in
    let there : slice_get v.seats.stacks to ≡ Some (Ready (frames_of f3)) = ap (λ (s : Seats). slice_get s.stacks to) (sym same_seats) ∙ ready in
    let moved = subst (λ (s : Seats). IsMoved s after_seats v.thread v.stack to (Ready (frames_of f2))) same_seats seated in
    let swaps = swaps_so n n (own_wait f2.top) to a vs f2 f3 f4 after_seats os cells lg after rl rest ls refl (ap (λ (s : Held). s.left) view ∙ left) refl there moved arrived objects cells_same log rule added still in
    let t : Held = at_stack v to f4 after_seats os cells after rest in
    let main : IfSome (arrives a (frames_at (slice_get v.seats.stacks to)) vs) (λ r. answers (Went ls) (record t { watched = ws; client = client }) ≡ past how v (entering_then v w x to r)) =
    mapped (λ r. answers (Went ls) t ≡ swapped_with n f2.top to r ls) (λ r. answers (Went ls) (record t { watched = ws; client = client }) ≡ past how v (entering_then v w x to r)) (arrives a (frames_at (slice_get v.seats.stacks to)) vs)
    (λ r h. entered_then how (Went ls) v t w x to number r ls ws client (h ∙ swapped_few r ∙ swapped_edited v w f2 ds to r ls edit ended) enabled gone count told) swaps in
    subst (λ (s : Held). IfSome (arrives a (frames_at (slice_get s.seats.stacks to)) vs) (λ r. answers (Went ls) (record t { watched = ws; client = client }) ≡ past how s (entering_then s w x to r))) view main
  where
    mapped : (P Q : EnteredFrames → Type 0) (o : Option EnteredFrames) → ((r : EnteredFrames) → P r → Q r) → IfSome o P → IfSome o Q
    mapped P Q None go h = tt
    mapped P Q (Some r) go h = go r h

    swapped_few : (r : EnteredFrames) → swapped_with (record v { frames = f2; objects = ds; cells = some }) f2.top to r ls ≡ swapped_with (record v { frames = f2; objects = ds }) f2.top to r ls
    swapped_few r = ap (λ n. swapped_with (record v { frames = f2; objects = ds; cells = n }) f2.top to r ls) few

-- ---- the whole trap

pub awaits_in : (bundle : List Item) (s v : Held) (f : Activation) (cs ds : List ℕ) (w : Awaited) → v ≡ s → f ≡ v.frames.top → ds ≡ cs → awaits bundle f ds ≡ Some w → awaits bundle s.frames.top cs ≡ Some w
awaits_in bundle s v f cs ds w view top same h = ap (λ f. awaits bundle f cs) (sym (top ∙ ap (λ (s : Held). s.frames.top) view)) ∙ ap (awaits bundle f) (sym same) ∙ h

pub answer_in : (how : Way) (bundle : List Item) (p : Tables) (view : Trap) (s : Held) (w : Awaited) (i : ℕ) (wp : Option ℕ) (cs : List ℕ) (o : Option Plan) (plan : Plan) → option_map planned o ≡ how.answer view.tables (seen s view.watchpoint w) s.client
    → view ≡ record { tables = p; thread = i; watchpoint = wp; asked = cs } → p ≡ bundle_tables bundle → o ≡ Some plan → Some (planned plan) ≡ how.answer (bundle_tables bundle) (seen s wp w) s.client
answer_in how bundle p view s w i wp cs o plan h is tables there =
    ap (option_map planned) (sym there) ∙ h ∙ ap (λ (v : Trap). how.answer v.tables (seen s v.watchpoint w) s.client) is ∙ ap (λ p. how.answer p (seen s wp w) s.client) tables

-- what the answer changes
plan_change : Held → Note → Plan → Change
plan_change s note plan = record { watched = fold watch s.watched plan.watches; lines = lines.Event (length s.log) (leaves s) ∷ lines.Note note ∷ map lines.Note plan.notes }

pub trap_there : (how : Way) (bundle : List Item) (s t : Held) (wp : Option ℕ) (cs : List ℕ) (w u : Awaited) (note : Note) (plan : Plan) → told how bundle s.client (trapping bundle s wp cs) ≢ Stuck → t ≡ s → u ≡ w → awaits bundle s.frames.top cs ≡ Some w
    → Some (planned plan) ≡ how.answer (bundle_tables bundle) (seen s wp w) s.client → note ≡ note_of s wp
    → answering bundle t u (edit_of plan.edit) (record { watched = fold watch t.watched plan.watches; lines = lines.Event (length t.log) (leaves t) ∷ lines.Note note ∷ map lines.Note plan.notes }) (end_planned plan.end) ≢ Stuck
unfolding plan_change
trap_there how bundle s t wp cs w u note plan h same waits awaited answer noted =
    let here = trap_replies how bundle s wp cs h w (planned plan) awaited answer in
    subst (λ (t : Held). answering bundle t u (edit_of plan.edit) (plan_change t note plan) (end_planned plan.end) ≢ Stuck) (sym same)
    (subst (λ u. answering bundle s u (edit_of plan.edit) (plan_change s note plan) (end_planned plan.end) ≢ Stuck) (sym waits) (subst (λ n. answering bundle s w (edit_of plan.edit) (plan_change s n plan) (end_planned plan.end) ≢ Stuck) (sym noted) here))

pub trap_taken : {E : Type 0} (how : Way) (bundle : List Item) (s t n : Held) (wp : Option ℕ) (cs : List ℕ) (w u : Awaited) (note : Note) (plan : Plan) (q : Result StepEnd E) → told how bundle s.client (trapping bundle s wp cs) ≢ Stuck → t ≡ s → u ≡ w → awaits bundle s.frames.top cs ≡ Some w
    → Some (planned plan) ≡ how.answer (bundle_tables bundle) (seen s wp w) s.client → note ≡ note_of s wp
    → IfOk q (λ end. answers end n ≡ past how t (answering bundle t u (edit_of plan.edit) (record { watched = fold watch t.watched plan.watches; lines = lines.Event (length t.log) (leaves t) ∷ lines.Note note ∷ map lines.Note plan.notes }) (end_planned plan.end)))
    → IfOk q (λ end. answers end n ≡ told how bundle s.client (trapping bundle s wp cs))
unfolding plan_change
trap_taken how bundle s t n wp cs w u note plan (Err q) h same waits awaited answer noted so = tt
trap_taken how bundle s t n wp cs w u note plan (Ok end) h same waits awaited answer noted so =
    so ∙ ap (λ (t : Held). past how t (answering bundle t u (edit_of plan.edit) (plan_change t note plan) (end_planned plan.end))) same ∙ ap (λ u. past how s (answering bundle s u (edit_of plan.edit) (plan_change s note plan) (end_planned plan.end))) waits
    ∙ ap (λ n. past how s (answering bundle s w (edit_of plan.edit) (plan_change s n plan) (end_planned plan.end))) noted ∙ sym (trap_answered how bundle s wp cs h w (planned plan) awaited answer)

-- ---- the edit, and then the reply

pub edit_ended : (how : Way) (bundle : List Item) (s t n : Held) (w : Awaited) (e : Edit) (x : Change) (r : Reply TypedValues Classed) (k : Case) (ending : Ending) → t ≡ s → answering bundle s w e x r ≢ Stuck → edited (numbered bundle) e (frames_of (waiting_frames s w)) ≡ Some (Err k)
    → ending ≡ undefined_at t k → answers (Ended x.lines ending) n ≡ past how s (answering bundle s w e x r)
edit_ended how bundle s t n w e x r k ending same there refused told =
    answers_ended n x.lines x.lines ending (undefined_at s k) refl (told ∙ ap (λ (s : Held). undefined_at s k) same) ∙ sym (edit_refuses bundle s w e x r there how k refused)

pub reply_there : (bundle : List Item) (s t : Held) (w u : Awaited) (e : Edit) (x y : Change) (r : Reply TypedValues Classed) → t ≡ s → u ≡ w → y ≡ x → answering bundle s w e x r ≢ Stuck → IsMade bundle e (frames_of (waiting_frames s w))
    → replying bundle t (after_edit bundle e (frames_of (waiting_frames t u))) y r ≢ Stuck
reply_there bundle s t w u e x y r same waits alike there goes =
    subst (λ (q : EnteredFrames). replying bundle t q y r ≢ Stuck) (sym (left_again bundle s t w u e same waits))
    (subst (λ (t : Held). replying bundle t (after_edit bundle e (frames_of (waiting_frames s w))) y r ≢ Stuck) (sym same)
    (subst (λ (y : Change). replying bundle s (after_edit bundle e (frames_of (waiting_frames s w))) y r ≢ Stuck) (sym alike) (edit_replies bundle s w e x r there goes)))

pub edit_answered : {E : Type 0} (how : Way) (bundle : List Item) (s t n : Held) (w u : Awaited) (e : Edit) (x y : Change) (r : Reply TypedValues Classed) (q : Result StepEnd E) → t ≡ s → u ≡ w → y ≡ x → answering bundle s w e x r ≢ Stuck → IsMade bundle e (frames_of (waiting_frames s w))
    → IfOk q (λ end. answers end n ≡ past how t (replying bundle t (after_edit bundle e (frames_of (waiting_frames t u))) y r)) → IfOk q (λ end. answers end n ≡ past how s (answering bundle s w e x r))
edit_answered how bundle s t n w u e x y r (Err q) same waits alike there goes h = tt
edit_answered how bundle s t n w u e x y r (Ok end) same waits alike there goes h =
    h ∙ ap (λ (y : Change). past how t (replying bundle t (after_edit bundle e (frames_of (waiting_frames t u))) y r)) alike ∙ ap (λ (q : EnteredFrames). past how t (replying bundle t q x r)) (left_again bundle s t w u e same waits) ∙ ap (λ (t : Held). past how t (replying bundle t (after_edit bundle e (frames_of (waiting_frames s w))) x r)) same
    ∙ ap (past how s) (sym (edit_goes bundle s w e x r there goes))

-- ---- frames that are edited in their seat

pub made_shown : (bundle : List Item) (e : Edit) (s0 s1 : Seats) (k i : ℕ) (f1 : Chain) → k < length s0.stacks → s1 ≡ record s0 { stacks = slice_set s0.stacks k (Active i (frames_of f1)) } → IsMade bundle e (frames_of f1)
    → (fs : List Activation) → slice_get s1.stacks k ≡ Some (Active i fs) → IsMade bundle e fs
made_shown bundle e s0 s1 k i f1 low first made fs there =
    let both : Some (Active i (frames_of f1)) ≡ Some (Active i fs) = sym (shown_there s0 s1 k i f1 low first) ∙ there in
    let same : frames_of f1 ≡ fs = cc in
    subst (IsMade bundle e) same made

-- the frames come back as they were put there
pub back_frames : (s0 s1 s2 : Seats) (k i : ℕ) (fs gs hs : List Activation) → k < length s0.stacks → s1 ≡ record s0 { stacks = slice_set s0.stacks k (Active i fs) } → s2 ≡ record s1 { stacks = slice_set s1.stacks k (Active i gs) } → slice_get s2.stacks k ≡ Some (Active i hs) → hs ≡ gs
back_frames s0 s1 s2 k i fs gs hs low first second there =
    let stacks : s2.stacks ≡ slice_set s0.stacks k (Active i gs) = ap (λ (s : Seats). s.stacks) second ∙ ap (λ (s : Seats). slice_set s.stacks k (Active i gs)) first ∙ set_again s0.stacks k (Active i fs) (Active i gs) in
    let here : slice_get s2.stacks k ≡ Some (Active i gs) = ap (λ ss. slice_get ss k) stacks ∙ set_there s0.stacks k (Active i gs) low in
    let both : Some (Active i hs) ≡ Some (Active i gs) = sym there ∙ here in
    cc

-- and the seats are as before
pub back_seats : (s0 s1 s2 s3 : Seats) (k i : ℕ) (fs gs hs : List Activation) → s1 ≡ record s0 { stacks = slice_set s0.stacks k (Active i fs) } → s2 ≡ record s1 { stacks = slice_set s1.stacks k (Active i gs) } → s3 ≡ record s2 { stacks = slice_set s2.stacks k (Active i hs) }
    → slice_get s0.stacks k ≡ Some (Active i hs) → s3 ≡ s0
back_seats s0 s1 s2 s3 k i fs gs hs first second third there =
    third ∙ ap (λ (s : Seats). record s { stacks = slice_set s.stacks k (Active i hs) }) second ∙ ap (λ (s : Seats). record s { stacks = slice_set (slice_set s.stacks k (Active i gs)) k (Active i hs) }) first
    ∙ ap (λ ss. record s0 { stacks = ss })
    (ap (λ ss. slice_set ss k (Active i hs)) (set_again s0.stacks k (Active i fs) (Active i gs)) ∙ set_again s0.stacks k (Active i gs) (Active i hs) ∙ set_same s0.stacks k (Active i hs) there)

module _ (bundle : List Item) (e : Edit) (s0 s1 s2 : Seats) (k i : ℕ) (f1 : Chain) (low : k < length s0.stacks) (first : s1 ≡ record s0 { stacks = slice_set s0.stacks k (Active i (frames_of f1)) }) (made : IsMade bundle e (frames_of f1)) where
  abbrev after : EnteredFrames
  after = after_edit bundle e (frames_of f1)

  shown : slice_get s1.stacks k ≡ Some (Active i (frames_of f1))
  shown = shown_there s0 s1 k i f1 low first

  goes : edited (numbered bundle) e (frames_of f1) ≡ Some (Ok after)
  goes = made_is bundle e (frames_of f1) made

  on_first : IsOn s0 i k → IsOn s1 i k
  on_first on = on_same (record s0 { stacks = slice_set s0.stacks k (Active i (frames_of f1)) }) s1 i k first on

  pub seat_on : {A E : Type 0} (q : Result A E) → OnOk q ((fs : List Activation) (r : EnteredFrames) → slice_get s1.stacks k ≡ Some (Active i fs) → edited (numbered bundle) e fs ≡ Some (Ok r) → s2 ≡ record s1 { stacks = slice_set s1.stacks k (Active i r.frames) })
      → OnErr q (s2 ≡ s1) → IsOn s0 i k → IsOn s2 i k
  seat_on (Ok a) h same on = on_same (record s1 { stacks = slice_set s1.stacks k (Active i after.frames) }) s2 i k (h (frames_of f1) after shown goes) (on_first on)
  seat_on (Err x) h same on = on_same s1 s2 i k same (on_first on)

  pub seat_frames : {A E : Type 0} (q : Result A E) (hs : List Activation) → OnOk q ((fs : List Activation) (r : EnteredFrames) → slice_get s1.stacks k ≡ Some (Active i fs) → edited (numbered bundle) e fs ≡ Some (Ok r) → s2 ≡ record s1 { stacks = slice_set s1.stacks k (Active i r.frames) })
      → slice_get s2.stacks k ≡ Some (Active i hs) → OnOk q (hs ≡ (after_edit bundle e (frames_of f1)).frames)
  seat_frames (Ok a) hs h there = back_frames s0 s1 s2 k i (frames_of f1) after.frames hs low first (h (frames_of f1) after shown goes) there
  seat_frames (Err x) hs h there = tt

  pub seat_objects : {A E : Type 0} (members : A → List ℕ) (q : Result A E) → IfOk q (λ a. (fs : List Activation) (r : EnteredFrames) → slice_get s1.stacks k ≡ Some (Active i fs) → edited (numbered bundle) e fs ≡ Some (Ok r) → members a ≡ frames_objects r.ended)
      → IfOk q (λ a. members a ≡ frames_objects (after_edit bundle e (frames_of f1)).ended)
  seat_objects members (Ok a) h = h (frames_of f1) after shown goes
  seat_objects members (Err x) h = tt

  pub seat_same : {A E : Type 0} (q : Result A E) (f2 : Chain) → OnErr q (s2 ≡ s1) → slice_get s2.stacks k ≡ Some (Active i (frames_of f2)) → OnErr q (frames_of f2 ≡ frames_of f1)
  seat_same (Ok a) f2 h there = tt
  seat_same (Err x) f2 h there = ap frames_of (shown_frames s0 s1 s2 k i f1 f2 low first h there)

  pub seat_back : {A E : Type 0} (q : Result A E) (s3 : Seats) (f : Chain) → OnOk q ((fs : List Activation) (r : EnteredFrames) → slice_get s1.stacks k ≡ Some (Active i fs) → edited (numbered bundle) e fs ≡ Some (Ok r) → s2 ≡ record s1 { stacks = slice_set s1.stacks k (Active i r.frames) })
      → OnErr q (s2 ≡ s1) → s3 ≡ record s2 { stacks = slice_set s2.stacks k (Active i (frames_of f)) } → slice_get s0.stacks k ≡ Some (Active i (frames_of f)) → s3 ≡ s0
  seat_back (Ok a) s3 f h same last there = back_seats s0 s1 s2 s3 k i (frames_of f1) after.frames (frames_of f) first (h (frames_of f1) after shown goes) last there
  seat_back (Err x) s3 f h same last there = shown_seats s0 s1 s2 s3 k i f1 f first same last there
