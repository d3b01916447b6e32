-- Laws of traps and watchpoints.
use Rattle.std.specs.Prelude.{◌≡◌, ◌≢◌, ℕ, ◌<◌, Bool, true, false, List, [], ◌∷◌, ◌++◌, Option, Some, None, IsSome, IsSomeAnd, Result, Ok, Err, IsOk, fold, length, map, reverse, option_map, bytes_eq, flat_map, slice_get, slice_set, if◌then◌else◌, refl}
use Rattle.std.proofs.Common.{sym, ◌∙◌, ap, subst}
use Rattle.std.proofs.lemmas.List.{reverse-reverse, reverse-append}
use Rattle.ir_tree.specs.declared.items.Item.{Item}
use Rattle.mu_values.specs.declared.scalars.Scalar.{Scalar}
use Rattle.mu_values.specs.declared.scalars.Scalar.TheVariants as scalars
use Rattle.mu_values.specs.Slots.{TypedValues}
use Rattle.checked_code.specs.Checking.{bundle_tables}
use Rattle.typed_heap.specs.Objects.{HeapObject}
use Rattle.typed_heap.specs.Places.{with_some}
use Rattle.frames.specs.Activations.{Goal, Activation}
use Rattle.frames.specs.Chains.{frames_of}
use Rattle.mem_axioms.specs.declared.types.Kind.TheVariants.{Leave}
use Rattle.mu_model.specs.declared.lines.Line.{Line}
use Rattle.mu_model.specs.declared.lines.Line.TheVariants as lines
use Rattle.mu_model.specs.declared.lines.Note.{Note}
use Rattle.mu_model.specs.declared.lines.Note.TheVariants.{Exited}
use Rattle.mu_model.specs.declared.endings.StepEnd.TheVariants.{Ended}
use Rattle.mu_model.specs.declared.endings.Case.{Case}
use Rattle.mu_model.specs.declared.endings.Case.TheVariants as cases
use Rattle.mu_model.specs.declared.endings.Ending.{Ending}
use Rattle.mu_model.specs.declared.endings.Ending.TheVariants as endings
use Rattle.mu_model.specs.Clients.{Client, Classed, With, Reply, Resume, Rebind, Exit, Stop, Answer, Edit, no_edit}
use Rattle.mu_model.specs.Acts.{Entering, Goes, Traps, Watches, Chooses, Doing, Program}
use Rattle.mu_model.specs.Changes.{event, noted, thread_ends}
use Rattle.mu_model.specs.Configuration.{Stack, Ready, Active, Configuration}
use Rattle.mu_model.specs.Types.{classes_given}
use Rattle.mu_model.specs.Frames.{fresh_frame}
use Rattle.mu_model.specs.Exceptions.{EnteredFrames, body_or_case}
use Rattle.mu_model.specs.EnteringStacks.{ready, ready_at, entered, enters, entering, leaving}
use Rattle.mu_model.specs.Operands.{scalar_in}
use Rattle.mu_model.specs.Outcomes.{Outcome, Next, End, Asks, Stuck, on, tried, unless_refused, refused}
use Rattle.mu_model.specs.Run.{with_client}
use Rattle.mu_model.specs.Traps as traps
use Rattle.mu_model.specs.Edits.{popped, pushed_on, pushed, with_frames, edited_by, edited}
use Rattle.mu_model.specs.Traps.{is_watched, watch, taken, enters_by, edits, replied, answered, trapped}
use Rattle.mu_model.specs.Turns.{Turn, waiting}
use Rattle.model_numbers.specs.Numbered.{numbered}
use Rattle.seats.specs.Seats.{IsReady}
use Rattle.client_hooks.specs.Ways.{Way}
use Rattle.run_state.specs.Held.{Held, held_stacks}
use Rattle.run_state.specs.Acting.{begun, turn, doing_of, told, answers, acting, trapping, is_fault, undefined_at, Awaited, with_awaited, awaited_by, awaits, objects_end}
use Rattle.run_state.specs.StepLaws.{told_so, on_there, on_is, some_there, some_of, with_is, set_again, set_there}
use Rattle.run_state.specs.ActLaws.{goes_is, waits_by, waits_there}
use Rattle.stack_moves.specs.Editing.{kept, made_of, after_edit, IsMade}
use Rattle.stack_moves.specs.Entering.{nothing, entered_by, frames_at}
use Rattle.trap_acts.specs.Trapping.{Change, waiting_frames, seen, note_of, changed_by, replying, answering, past, entering_then}
use Rattle.stack_moves.specs.EnteringLaws.{set_other}
use Rattle.stack_moves.specs.SwapLaws.{ready_frames}

-- ---- acts by which the client may be asked

-- a trap asks the client
pub trap_asks : (bundle : List Item) (s : Held) (cs : List ℕ) → acting bundle s (Traps cs) ≡ trapping bundle s None cs
unfolding acting trapping
trap_asks bundle s cs = refl

met_by : (bundle : List Item) (s : Held) (n : ℕ) (cs : List ℕ) (g : Goal) (o : Option Doing) (b : Bool) → is_watched n s.watched ≡ b
    → on o (λ d. traps.meets_watchpoint (numbered bundle) (begun s) (turn s d) n cs g) ≡ on o (λ d. if b then trapped (numbered bundle) (begun s) (turn s d) (Some n) cs else traps.goes (begun s) (turn s d) g)
unfolding on
met_by bundle s n cs g None b e = refl
met_by bundle s n cs g (Some d) b e = ap (λ b. if b then trapped (numbered bundle) (begun s) (turn s d) (Some n) cs else traps.goes (begun s) (turn s d) g) e

-- so does a watchpoint that is enabled; else the thread goes to the block
pub watch_asks : (bundle : List Item) (s : Held) (n : ℕ) (cs : List ℕ) (g : Goal) → is_watched n s.watched ≡ true → acting bundle s (Watches n cs g) ≡ trapping bundle s (Some n) cs
unfolding acting trapping
watch_asks bundle s n cs g e = met_by bundle s n cs g (doing_of (numbered bundle) s) true e

pub watch_goes : (bundle : List Item) (s : Held) (n : ℕ) (cs : List ℕ) (g : Goal) → is_watched n s.watched ≡ false → acting bundle s (Watches n cs g) ≡ acting bundle s (Goes g)
unfolding acting
watch_goes bundle s n cs g e = met_by bundle s n cs g (doing_of (numbered bundle) s) false e

chosen_by : (bundle : List Item) (s : Held) (n : ℕ) (disabled enabled : Goal) (o : Option Doing) (b : Bool) → is_watched n s.watched ≡ b
    → on o (λ d. traps.chooses (begun s) (turn s d) n disabled enabled) ≡ on o (λ d. if b then traps.goes (begun s) (turn s d) enabled else traps.goes (begun s) (turn s d) disabled)
unfolding on
chosen_by bundle s n disabled enabled None b e = refl
chosen_by bundle s n disabled enabled (Some d) b e = ap (λ b. if b then traps.goes (begun s) (turn s d) enabled else traps.goes (begun s) (turn s d) disabled) e

pub choice_enabled : (bundle : List Item) (s : Held) (n : ℕ) (disabled enabled : Goal) → is_watched n s.watched ≡ true → acting bundle s (Chooses n disabled enabled) ≡ acting bundle s (Goes enabled)
unfolding acting
choice_enabled bundle s n disabled enabled e = chosen_by bundle s n disabled enabled (doing_of (numbered bundle) s) true e

pub choice_disabled : (bundle : List Item) (s : Held) (n : ℕ) (disabled enabled : Goal) → is_watched n s.watched ≡ false → acting bundle s (Chooses n disabled enabled) ≡ acting bundle s (Goes disabled)
unfolding acting
choice_disabled bundle s n disabled enabled e = chosen_by bundle s n disabled enabled (doing_of (numbered bundle) s) false e

pub watch_asks_so : (how : Way) (bundle : List Item) (s : Held) (k : Client) (n : ℕ) (cs : List ℕ) (g : Goal) → is_watched n s.watched ≡ true → told how bundle k (acting bundle s (Watches n cs g)) ≢ Stuck → told how bundle k (trapping bundle s (Some n) cs) ≢ Stuck
watch_asks_so how bundle s k n cs g e h = λ stuck. h (ap (told how bundle k) (watch_asks bundle s n cs g e) ∙ stuck)

pub watch_goes_so : (how : Way) (bundle : List Item) (s : Held) (k : Client) (n : ℕ) (cs : List ℕ) (g : Goal) → is_watched n s.watched ≡ false → told how bundle k (acting bundle s (Watches n cs g)) ≢ Stuck → acting bundle s (Goes g) ≢ Stuck
watch_goes_so how bundle s k n cs g e h = λ stuck. h (ap (told how bundle k) (watch_goes bundle s n cs g e ∙ stuck))

pub ruleset meeting = (watch_asks, watch_goes, watch_asks_so, watch_goes_so, goes_is, told_so)

pub choice_enabled_so : (bundle : List Item) (s : Held) (n : ℕ) (disabled enabled : Goal) → is_watched n s.watched ≡ true → acting bundle s (Chooses n disabled enabled) ≢ Stuck → acting bundle s (Goes enabled) ≢ Stuck
choice_enabled_so bundle s n disabled enabled e h = λ stuck. h (choice_enabled bundle s n disabled enabled e ∙ stuck)

pub choice_disabled_so : (bundle : List Item) (s : Held) (n : ℕ) (disabled enabled : Goal) → is_watched n s.watched ≡ false → acting bundle s (Chooses n disabled enabled) ≢ Stuck → acting bundle s (Goes disabled) ≢ Stuck
choice_disabled_so bundle s n disabled enabled e h = λ stuck. h (choice_disabled bundle s n disabled enabled e ∙ stuck)

pub ruleset choosing = (choice_enabled, choice_disabled, choice_enabled_so, choice_disabled_so, goes_is)

-- what an ending answers
pub answers_ended : (s : Held) (ls ms : List Line) (e f : Ending) → ls ≡ ms → e ≡ f → answers (Ended ls e) s ≡ End ms f
unfolding answers
answers_ended s ls ms e f same is = ap (λ ls. End ls e) same ∙ ap (End ms) is

-- ---- a trap

past_stuck : (how : Way) (s : Held) → past how s Stuck ≡ Stuck
unfolding past
past_stuck how s = refl

past_end : (how : Way) (s : Held) (ls : List Line) (e : Ending) → past how s (End ls e) ≡ End ls e
unfolding past
past_end how s ls e = refl

past_there : (how : Way) (s : Held) (o : Outcome) → past how s o ≢ Stuck → o ≢ Stuck
past_there how s o h = λ e. h (ap (past how s) e ∙ past_stuck how s)

-- the lines of an answer, newest first
lines_taken : (n : ℕ) (e : Line) (note : Line) (ls : List Line) → reverse (e ∷ note ∷ ls) ≡ reverse ls ++ note ∷ e ∷ []
lines_taken n e note ls = reverse-append (e ∷ note ∷ []) ls

-- what an answer changes
abbrev pub change_of : Held → Note → List (ℕ × Bool) → List Note → Change
change_of s note watches notes = record { watched = fold watch s.watched watches; lines = lines.Event (length s.log) (event s.thread (Leave s.stack)) ∷ lines.Note note ∷ map lines.Note notes }

taken_is : (s : Held) (w : Awaited) (note : Note) (a : Answer)
    → taken a (noted note (leaving (turn s nothing) (with_awaited s.frames.top w) (begun s))) ≡ changed_by s (kept (frames_of (waiting_frames s w))) (change_of s note a.watches a.notes)
taken_is s w note a =
    ap (λ ls. record (leaving (turn s nothing) (with_awaited s.frames.top w) (begun s)) { watched = fold watch s.watched a.watches; lines = ls })
    (sym (lines_taken (length s.log) (lines.Event (length s.log) (event s.thread (Leave s.stack))) (lines.Note note) (map lines.Note a.notes)))

-- ---- the edit of an answer

edits_is : (s : Held) (fs : List Activation) (q : EnteredFrames) (x : Change) (d : Doing) → edits (turn s d) q (changed_by s (kept fs) x) ≡ changed_by s q x
edits_is s fs q x d = ap (λ ss. record (changed_by s q x) { stacks = ss }) (set_again (held_stacks s) s.stack (Ready fs) (Ready q.frames))

tried_same : {A : Type 0} (p : Program) (c : Configuration) (u : Turn) (o : Option (Result A Case)) (go away : A → Outcome) → ((a : A) → go a ≡ away a) → tried p c u o go ≡ tried p c u o away
unfolding tried on
tried_same p c u None go away h = refl
tried_same p c u (Some (Err k)) go away h = refl
tried_same p c u (Some (Ok a)) go away h = h a

answered_is : (p : Program) (s : Held) (d : Doing) (w : Awaited) (note : Note) (a : Answer)
    → answered p (noted note (leaving (turn s nothing) (with_awaited s.frames.top w) (begun s))) (turn s d) (frames_of (waiting_frames s w)) (Some a)
    ≡ tried p (changed_by s (kept (frames_of (waiting_frames s w))) (change_of s note a.watches a.notes)) (turn s d) (edited p a.edit (frames_of (waiting_frames s w)))
    (λ q. replied p (changed_by s q (change_of s note a.watches a.notes)) (turn s d) a.reply)
answered_is p s d w note a =
    let fs = frames_of (waiting_frames s w) in
    let x = change_of s note a.watches a.notes in
    ap (λ c. tried p c (turn s d) (edited p a.edit fs) (λ q. replied p (edits (turn s d) q c) (turn s d) a.reply)) (taken_is s w note a)
    ∙ tried_same p (changed_by s (kept fs) x) (turn s d) (edited p a.edit fs) (λ q. replied p (edits (turn s d) q (changed_by s (kept fs) x)) (turn s d) a.reply) (λ q. replied p (changed_by s q x) (turn s d) a.reply)
    (λ q. ap (λ c. replied p c (turn s d) a.reply) (edits_is s fs q x d))

-- the client is asked where the top frame waits
record TrapsAt (how : Way) (bundle : List Item) (s : Held) (watchpoint : Option ℕ) (cs : List ℕ) : Type 0 where
  pub doing : Doing
  pub there : doing_of (numbered bundle) s ≡ Some doing
  pub awaited : Awaited
  pub waits : awaits bundle s.frames.top cs ≡ Some awaited
  pub classes : awaited.waits ≡ cs
  pub is : told how bundle s.client (trapping bundle s watchpoint cs)
      ≡ past how s (answered (numbered bundle) (noted (note_of s watchpoint) (leaving (turn s nothing) (with_awaited s.frames.top awaited) (begun s))) (turn s doing) (frames_of (waiting_frames s awaited)) (how.answer (bundle_tables bundle) (seen s watchpoint awaited) s.client))

awaited_classes : (o : Option (Option Goal)) (ks : Option TypedValues) (cs : List ℕ) (w : Awaited) → with_some o (λ h. with_some ks (λ k. Some (record { waits = cs; handler = h; kept = k }))) ≡ Some w → w.waits ≡ cs
awaited_classes None ks cs w h = cc
awaited_classes (Some o) None cs w h = cc
awaited_classes (Some o) (Some k) cs w h =
    let is : Awaited = record { waits = cs; handler = o; kept = k } in
    let same : is ≡ w = cc in
    ap (λ (w : Awaited). w.waits) (sym same)

asked_of : List Item → Held → Option ℕ → List ℕ → Doing → Activation → Outcome
asked_of bundle s watchpoint cs d f =
    Asks (record { thread = s.thread; watchpoint = watchpoint; asked = cs; frames = f ∷ s.frames.below }) (answered (numbered bundle) (noted (note_of s watchpoint) (leaving (turn s nothing) f (begun s))) (turn s d) (f ∷ s.frames.below))

trap_at : (how : Way) (bundle : List Item) (s : Held) (watchpoint : Option ℕ) (cs : List ℕ) → told how bundle s.client (trapping bundle s watchpoint cs) ≢ Stuck → TrapsAt how bundle s watchpoint cs
unfolding trapping awaits past asked_of
trap_at how bundle s watchpoint cs h =
    let p = numbered bundle in
    let r = on_there (doing_of p s) (λ d. trapped p (begun s) (turn s d) watchpoint cs) (λ e. h (ap (told how bundle s.client) e)) in
    let f = on_there (waiting (turn s r.0) cs) (asked_of bundle s watchpoint cs r.0) r.2 in
    let w = waits_there r.0.exceptional r.0.kept s.frames.top f.0 cs f.1 in
    let same : w.0.waits ≡ cs = awaited_classes r.0.exceptional r.0.kept cs w.0 w.1 in
    let asks : trapping bundle s watchpoint cs ≡ asked_of bundle s watchpoint cs r.0 (with_awaited s.frames.top w.0) =
    on_is (doing_of p s) r.0 (λ d. trapped p (begun s) (turn s d) watchpoint cs) r.1
    ∙ on_is (waiting (turn s r.0) cs) (with_awaited s.frames.top w.0) (asked_of bundle s watchpoint cs r.0) (waits_by r.0.exceptional r.0.kept s.frames.top cs w.0 w.1) in
    record {
      doing = r.0;
      there = r.1;
      awaited = w.0;
      waits = with_is (doing_of p s) r.0 (awaited_by cs) r.1 ∙ w.1;
      classes = same;
      is =
          ap (told how bundle s.client) asks
          ∙ ap (λ asked. with_client (how.past s.client) (answered p (noted (note_of s watchpoint) (leaving (turn s nothing) (with_awaited s.frames.top w.0) (begun s))) (turn s r.0) (frames_of (waiting_frames s w.0))
          (how.answer (bundle_tables bundle) (record { thread = s.thread; watchpoint = watchpoint; asked = asked; frames = with_awaited s.frames.top w.0 ∷ s.frames.below }) s.client))) (sym same);
    }

module _ (how : Way) (bundle : List Item) (s : Held) (watchpoint : Option ℕ) (cs : List ℕ) (h : told how bundle s.client (trapping bundle s watchpoint cs) ≢ Stuck) where
  at : TrapsAt how bundle s watchpoint cs
  at = trap_at how bundle s watchpoint cs h

  pub trap_awaits : IsSome (awaits bundle s.frames.top cs)
  trap_awaits = some_there (awaits bundle s.frames.top cs) at.awaited at.waits

  same_wait : (w : Awaited) → awaits bundle s.frames.top cs ≡ Some w → at.awaited ≡ w
  same_wait w e = let found = at.waits in cc

  pub trap_waits : (w : Awaited) → awaits bundle s.frames.top cs ≡ Some w → w.waits ≡ cs
  trap_waits w e = ap (λ (w : Awaited). w.waits) (sym (same_wait w e)) ∙ at.classes

  answered_so : (w : Awaited) (o : Option Answer) → awaits bundle s.frames.top cs ≡ Some w → o ≡ how.answer (bundle_tables bundle) (seen s watchpoint w) s.client
      → told how bundle s.client (trapping bundle s watchpoint cs) ≡ past how s (answered (numbered bundle) (noted (note_of s watchpoint) (leaving (turn s nothing) (with_awaited s.frames.top w) (begun s))) (turn s at.doing) (frames_of (waiting_frames s w)) o)
  answered_so w o e answer =
      at.is
      ∙ ap (λ w. past how s (answered (numbered bundle) (noted (note_of s watchpoint) (leaving (turn s nothing) (with_awaited s.frames.top w) (begun s))) (turn s at.doing) (frames_of (waiting_frames s w)) (how.answer (bundle_tables bundle) (seen s watchpoint w) s.client))) (same_wait w e)
      ∙ ap (λ o. past how s (answered (numbered bundle) (noted (note_of s watchpoint) (leaving (turn s nothing) (with_awaited s.frames.top w) (begun s))) (turn s at.doing) (frames_of (waiting_frames s w)) o)) (sym answer)

  pub trap_misused : (w : Awaited) → awaits bundle s.frames.top cs ≡ Some w → None ≡ how.answer (bundle_tables bundle) (seen s watchpoint w) s.client
      → told how bundle s.client (trapping bundle s watchpoint cs) ≡ End (lines.Event (length s.log) (event s.thread (Leave s.stack)) ∷ lines.Note (note_of s watchpoint) ∷ []) (undefined_at s cases.ClientMisuse)
  unfolding past
  trap_misused w e answer = answered_so w None e answer

  pub trap_answered : (w : Awaited) (a : Answer) → awaits bundle s.frames.top cs ≡ Some w → Some a ≡ how.answer (bundle_tables bundle) (seen s watchpoint w) s.client
      → told how bundle s.client (trapping bundle s watchpoint cs) ≡ past how s (answering bundle s w a.edit (change_of s (note_of s watchpoint) a.watches a.notes) a.reply)
  unfolding answering
  trap_answered w a e answer =
      let p = numbered bundle in
      let fs = frames_of (waiting_frames s w) in
      let x = change_of s (note_of s watchpoint) a.watches a.notes in
      answered_so w (Some a) e answer ∙ ap (past how s) (answered_is p s at.doing w (note_of s watchpoint) a)
      ∙ ap (past how s) (sym (on_is (doing_of p s) at.doing (λ d. tried p (changed_by s (kept fs) x) (turn s d) (edited p a.edit fs) (λ q. replied p (changed_by s q x) (turn s d) a.reply)) at.there))

  pub trap_replies : (w : Awaited) (a : Answer) → awaits bundle s.frames.top cs ≡ Some w → Some a ≡ how.answer (bundle_tables bundle) (seen s watchpoint w) s.client
      → answering bundle s w a.edit (change_of s (note_of s watchpoint) a.watches a.notes) a.reply ≢ Stuck
  trap_replies w a e answer = past_there how s (answering bundle s w a.edit (change_of s (note_of s watchpoint) a.watches a.notes) a.reply) (λ stuck. h (trap_answered w a e answer ∙ stuck))

pub trapped_asks : (how : Way) (bundle : List Item) (s : Held) (k : Client) (cs : List ℕ) → told how bundle k (acting bundle s (Traps cs)) ≢ Stuck → told how bundle k (trapping bundle s None cs) ≢ Stuck
trapped_asks how bundle s k cs h = λ stuck. h (ap (told how bundle k) (trap_asks bundle s cs) ∙ stuck)

pub ruleset asking = (trap_awaits, trap_waits, trap_misused, trap_answered, trap_replies)

-- ---- a reply

reply_at : (bundle : List Item) (s : Held) (w : EnteredFrames) (x : Change) (r : Reply TypedValues Classed) → replying bundle s w x r ≢ Stuck
    → (d : Doing) × (replying bundle s w x r ≡ replied (numbered bundle) (changed_by s w x) (turn s d) r)
unfolding replying
reply_at bundle s w x r h =
    let q = on_there (doing_of (numbered bundle) s) (λ d. replied (numbered bundle) (changed_by s w x) (turn s d) r) h in
    (q.0, on_is (doing_of (numbered bundle) s) q.0 (λ d. replied (numbered bundle) (changed_by s w x) (turn s d) r) q.1)

pub reply_stops : (how : Way) (bundle : List Item) (s : Held) (w : EnteredFrames) (x : Change) → replying bundle s w x Stop ≢ Stuck → past how s (replying bundle s w x Stop) ≡ End x.lines endings.Stop
unfolding past
reply_stops how bundle s w x h = let q = reply_at bundle s w x Stop h in ap (past how s) q.1 ∙ ap (λ ls. End ls endings.Stop) (reverse-reverse x.lines)

pub reply_exits : (how : Way) (bundle : List Item) (s : Held) (w : EnteredFrames) (x : Change) → replying bundle s w x Exit ≢ Stuck
    → past how s (replying bundle s w x Exit) ≡ Next (record (noted (Exited s.thread) (thread_ends s.thread (changed_by s w x))) { client = how.past s.client })
unfolding past
reply_exits how bundle s w x h = let q = reply_at bundle s w x Exit h in ap (past how s) q.1

-- ---- a stack that is entered by a reply

reply_refused : (p : Program) (s : Held) (w : EnteredFrames) (x : Change) (d : Doing) (k : Case) → is_fault k ≡ false → refused p (changed_by s w x) (turn s d) k ≡ End (reverse (reverse x.lines)) (undefined_at s k)
reply_refused p s w x d cases.DivideByZero h = cc
reply_refused p s w x d cases.NullAccess h = cc
reply_refused p s w x d cases.OutOfRange h = refl
reply_refused p s w x d cases.BadCast h = refl
reply_refused p s w x d cases.DeadCell h = refl
reply_refused p s w x d cases.DataRace h = refl
reply_refused p s w x d cases.StackNotReady h = refl
reply_refused p s w x d cases.StackTypes h = refl
reply_refused p s w x d cases.Uncaught h = refl
reply_refused p s w x d cases.NullCall h = refl
reply_refused p s w x d cases.NoBody h = refl
reply_refused p s w x d cases.ClientMisuse h = refl

tries_there : {A : Type 0} (p : Program) (c : Configuration) (u : Turn) (o : Option (Result A Case)) (go : A → Outcome) → tried p c u o go ≢ Stuck → (r : Result A Case) × (o ≡ Some r)
unfolding tried
tries_there p c u o go h = let r = on_there o (unless_refused p c u go) h in (r.0, r.1)

tries_is : {A : Type 0} (p : Program) (c : Configuration) (u : Turn) (o : Option (Result A Case)) (r : Result A Case) (go : A → Outcome) → o ≡ Some r → tried p c u o go ≡ unless_refused p c u go r
unfolding tried
tries_is p c u o r go e = on_is o r (unless_refused p c u go) e

-- ---- an edit that is refused, and one that is made

abbrev refusing : Case → Option (Result EnteredFrames Case)
refusing k = Some (Err k)

plain_is : (j k : Case) → refusing j ≡ refusing k → is_fault j ≡ false → is_fault k ≡ false
plain_is j k h plain = let same : j ≡ k = cc in subst (λ k. is_fault k ≡ false) same plain

pushed_plain_by : (p : Program) (f : ℕ) (r : EnteredFrames) (t : Activation) (fs : List Activation) (b : Option (Option ℕ)) (fits : Bool) (k : Case) → bytes_eq (classes_given p.tables f) t.waits ≡ fits
    → option_map (with_frames r) (option_map (pushed_on p f t fs) (body_or_case b)) ≡ Some (Err k) → is_fault k ≡ false
pushed_plain_by p f r t fs None fits k same h = cc
pushed_plain_by p f r t fs (Some None) fits k same h = plain_is cases.NoBody k h refl
pushed_plain_by p f r t fs (Some (Some b)) fits k same h =
    fitting fits (ap (λ (x : Bool). Some (with_frames r (if x then Ok (fresh_frame p f b ∷ t ∷ fs) else Err cases.StackTypes))) (sym same) ∙ h)
  where
    fitting : (fits : Bool) → Some (with_frames r (if fits then Ok (fresh_frame p f b ∷ t ∷ fs) else Err cases.StackTypes)) ≡ Some (Err k) → is_fault k ≡ false
    fitting true h = cc
    fitting false h = plain_is cases.StackTypes k h refl

edited_plain_by : (p : Program) (push : Option ℕ) (o : Option EnteredFrames) (k : Case) → edited_by p push o ≡ Some (Err k) → is_fault k ≡ false
edited_plain_by p push None k h = plain_is cases.ClientMisuse k h refl
edited_plain_by p None (Some r) k h = cc
edited_plain_by p (Some f) (Some r) k h = on_frames r.frames h
  where
    on_frames : (fs : List Activation) → option_map (with_frames r) (pushed p f fs) ≡ Some (Err k) → is_fault k ≡ false
    on_frames [] h = cc
    on_frames (t ∷ fs) h = pushed_plain_by p f r t fs (p.body f) (bytes_eq (classes_given p.tables f) t.waits) k refl h

-- a case of an edit is no fault
edited_plain : (p : Program) (e : Edit) (fs : List Activation) (k : Case) → edited p e fs ≡ Some (Err k) → is_fault k ≡ false
edited_plain p e fs k h = edited_plain_by p e.push (popped e.pop fs) k h

made_is_by : (o : Option (Result EnteredFrames Case)) → IsSomeAnd o IsOk → o ≡ Some (Ok (made_of o))
made_is_by None h = absurd h
made_is_by (Some (Err k)) h = cc
made_is_by (Some (Ok r)) h = refl

pub made_is : (bundle : List Item) (e : Edit) (fs : List Activation) → IsMade bundle e fs → edited (numbered bundle) e fs ≡ Some (Ok (after_edit bundle e fs))
unfolding after_edit
made_is bundle e fs h = made_is_by (edited (numbered bundle) e fs) h

no_edit_goes : (bundle : List Item) (f : Activation) (fs : List Activation) → edited (numbered bundle) no_edit (f ∷ fs) ≡ Some (Ok (kept (f ∷ fs)))
no_edit_goes bundle f fs = refl

-- no edit is never refused, and changes nothing
pub no_edit_made : (bundle : List Item) (e : Edit) (f : Activation) (fs : List Activation) → e ≡ no_edit → IsMade bundle e (f ∷ fs)
no_edit_made bundle e f fs same = subst (λ e. IsMade bundle e (f ∷ fs)) (sym same) refl

pub no_edit_after : (bundle : List Item) (e : Edit) (f : Activation) (fs : List Activation) → e ≡ no_edit → after_edit bundle e (f ∷ fs) ≡ kept (f ∷ fs)
unfolding after_edit
no_edit_after bundle e f fs same = ap (λ e. after_edit bundle e (f ∷ fs)) same

-- nor do objects end where none are told
pub none_end : (os : List HeapObject) (w : EnteredFrames) (fs : List Activation) → w ≡ kept fs → os ≡ objects_end os (flat_map (λ (f : Activation). f.objects) w.ended)
unfolding objects_end
none_end os w fs same = ap (λ (w : EnteredFrames). objects_end os (flat_map (λ (f : Activation). f.objects) w.ended)) (sym same)

pub ruleset unedited = (no_edit_made, no_edit_after, none_end)

module _ (bundle : List Item) (s : Held) (w : Awaited) (e : Edit) (x : Change) (r : Reply TypedValues Classed) (h : answering bundle s w e x r ≢ Stuck) where
  abbrev now : List Activation
  now = frames_of (waiting_frames s w)

  abbrev trying : Doing → Outcome
  trying d = tried (numbered bundle) (changed_by s (kept now) x) (turn s d) (edited (numbered bundle) e now) (λ q. replied (numbered bundle) (changed_by s q x) (turn s d) r)

  answer_at : (d : Doing) × (doing_of (numbered bundle) s ≡ Some d) × (answering bundle s w e x r ≡ trying d)
  unfolding answering
  answer_at = let q = on_there (doing_of (numbered bundle) s) trying h in (q.0, q.1, on_is (doing_of (numbered bundle) s) q.0 trying q.1)

  pub edit_there : IsSome (edited (numbered bundle) e now)
  edit_there =
      let p = numbered bundle in
      let q = tries_there p (changed_by s (kept now) x) (turn s answer_at.0) (edited p e now) (λ q. replied p (changed_by s q x) (turn s answer_at.0) r) (λ stuck. h (answer_at.2 ∙ stuck)) in
      some_there (edited p e now) q.0 q.1

  pub edit_refuses : (how : Way) (k : Case) → edited (numbered bundle) e now ≡ Some (Err k) → past how s (answering bundle s w e x r) ≡ End x.lines (undefined_at s k)
  edit_refuses how k refuses =
      let p = numbered bundle in
      let c = changed_by s (kept now) x in
      ap (past how s) (answer_at.2 ∙ tries_is p c (turn s answer_at.0) (edited p e now) (Err k) (λ q. replied p (changed_by s q x) (turn s answer_at.0) r) refuses ∙ reply_refused p s (kept now) x answer_at.0 k (edited_plain p e now k refuses))
      ∙ past_end how s (reverse (reverse x.lines)) (undefined_at s k) ∙ ap (λ ls. End ls (undefined_at s k)) (reverse-reverse x.lines)

  pub edit_goes : IsMade bundle e now → answering bundle s w e x r ≡ replying bundle s (after_edit bundle e now) x r
  unfolding replying
  edit_goes goes =
      let p = numbered bundle in
      let q = after_edit bundle e now in
      answer_at.2 ∙ tries_is p (changed_by s (kept now) x) (turn s answer_at.0) (edited p e now) (Ok q) (λ q. replied p (changed_by s q x) (turn s answer_at.0) r) (made_is bundle e now goes)
      ∙ sym (on_is (doing_of p s) answer_at.0 (λ d. replied p (changed_by s q x) (turn s d) r) answer_at.1)

  pub edit_replies : IsMade bundle e now → replying bundle s (after_edit bundle e now) x r ≢ Stuck
  edit_replies goes = λ stuck. h (edit_goes goes ∙ stuck)

pub ruleset editing = (edit_there, edit_refuses, edit_goes, edit_replies)

-- a scalar is entered with what an answer brings
unfoldable pub entering_so : List Item → Held → EnteredFrames → Change → Doing → Scalar → Entering → Outcome
entering_so bundle s w x d sc e = entering (numbered bundle) (changed_by s w x) (turn s d) sc e (λ k r. Next (enters s.thread k r (changed_by s w x)))

enters_at : (bundle : List Item) (s : Held) (w : EnteredFrames) (x : Change) (d : Doing) (sc : Scalar) (v : With TypedValues Classed) → enters_by (numbered bundle) (changed_by s w x) (turn s d) sc v ≢ Stuck
    → (e : Entering) × (traps.entering_of (bundle_tables bundle) v ≡ Some e) × (enters_by (numbered bundle) (changed_by s w x) (turn s d) sc v ≡ entering_so bundle s w x d sc e)
unfolding entering_so
enters_at bundle s w x d sc v h =
    let go : Entering → Outcome = λ e. entering (numbered bundle) (changed_by s w x) (turn s d) sc e (λ k r. Next (enters s.thread k r (changed_by s w x))) in
    let e = on_there (traps.entering_of (bundle_tables bundle) v) go h in
    (e.0, e.1, on_is (traps.entering_of (bundle_tables bundle) v) e.0 go e.1)

-- the stacks then: the trapped one is ready
abbrev pub stacks_then : Held → EnteredFrames → List Stack
stacks_then s w = slice_set (held_stacks s) s.stack (Ready w.frames)

enter_there : (bundle : List Item) (s : Held) (w : EnteredFrames) (x : Change) (d : Doing) (sc : Scalar) (e : Entering) (k : ℕ) (fs : List Activation) → entering_so bundle s w x d sc e ≢ Stuck → ready (stacks_then s w) sc ≡ Some (Ok (k, fs))
    → IsSome (entered_by bundle fs e)
unfolding entering_so entered_by
enter_there bundle s w x d sc e k fs h there =
    let p = numbered bundle in
    let c = changed_by s w x in
    let go : ℕ × List Activation → Outcome = λ r. tried p c (turn s d) (entered p r.1 e) (λ q. Next (enters s.thread r.0 q c)) in
    let r = tries_there p c (turn s d) (entered p fs e) (λ q. Next (enters s.thread k q c)) (λ stuck. h (tries_is p c (turn s d) (ready (stacks_then s w) sc) (Ok (k, fs)) go there ∙ stuck)) in
    some_there (entered p fs e) r.0 r.1

enter_at : (bundle : List Item) (s : Held) (w : EnteredFrames) (x : Change) (d : Doing) (sc : Scalar) (e : Entering) (k : ℕ) (fs : List Activation) (r : Result EnteredFrames Case) → ready (stacks_then s w) sc ≡ Some (Ok (k, fs)) → entered_by bundle fs e ≡ Some r
    → entering_so bundle s w x d sc e ≡ unless_refused (numbered bundle) (changed_by s w x) (turn s d) (λ q. Next (enters s.thread k q (changed_by s w x))) r
unfolding entering_so entered_by
enter_at bundle s w x d sc e k fs r there way =
    let p = numbered bundle in
    let c = changed_by s w x in
    let go : ℕ × List Activation → Outcome = λ r. tried p c (turn s d) (entered p r.1 e) (λ q. Next (enters s.thread r.0 q c)) in
    tries_is p c (turn s d) (ready (stacks_then s w) sc) (Ok (k, fs)) go there ∙ tries_is p c (turn s d) (entered p fs e) r (λ q. Next (enters s.thread k q c)) way

enter_ready : (bundle : List Item) (s : Held) (w : EnteredFrames) (x : Change) (d : Doing) (sc : Scalar) (e : Entering) → entering_so bundle s w x d sc e ≢ Stuck → IsSome (ready (stacks_then s w) sc)
unfolding entering_so
enter_ready bundle s w x d sc e h =
    let p = numbered bundle in
    let c = changed_by s w x in
    let r = tries_there p c (turn s d) (ready (stacks_then s w) sc) (λ r. tried p c (turn s d) (entered p r.1 e) (λ q. Next (enters s.thread r.0 q c))) h in
    some_there (ready (stacks_then s w) sc) r.0 r.1

not_ready : (bundle : List Item) (s : Held) (w : EnteredFrames) (x : Change) (d : Doing) (sc : Scalar) (e : Entering) → ready (stacks_then s w) sc ≡ Some (Err cases.StackNotReady) → entering_so bundle s w x d sc e ≡ End (reverse (reverse x.lines)) (undefined_at s cases.StackNotReady)
unfolding entering_so
not_ready bundle s w x d sc e none =
    let p = numbered bundle in
    let c = changed_by s w x in
    tries_is p c (turn s d) (ready (stacks_then s w) sc) (Err cases.StackNotReady) (λ r. tried p c (turn s d) (entered p r.1 e) (λ q. Next (enters s.thread r.0 q c))) none

-- the trapped stack is ready then, and another one is as it was
own_ready : (s : Held) (w : EnteredFrames) → s.stack < length s.seats.stacks → ready (stacks_then s w) (scalars.Stack s.stack) ≡ Some (Ok (s.stack, w.frames))
own_ready s w low =
    let now = Ready w.frames in
    with_is (slice_get (stacks_then s w) s.stack) now (λ k. Some (ready_at s.stack k))
    (ap (λ xs. slice_get xs s.stack) (set_again s.seats.stacks s.stack (Active s.thread (frames_of s.frames)) now) ∙ set_there s.seats.stacks s.stack now low)

other_same : (s : Held) (w : EnteredFrames) (sc : Scalar) → sc ≢ scalars.Stack s.stack → ready (stacks_then s w) sc ≡ ready (held_stacks s) sc
other_same s w (scalars.Stack k) other = ap (λ o. with_some o (λ x. Some (ready_at k x))) (set_other (held_stacks s) s.stack k (Ready w.frames) (λ e. other (ap scalars.Stack e)))
other_same s w (scalars.Int a b) other = refl
other_same s w scalars.Null other = refl
other_same s w (scalars.Object a) other = refl
other_same s w (scalars.Place a b) other = refl
other_same s w (scalars.Func a) other = refl
other_same s w (scalars.Thread a) other = refl

-- ---- the trapped stack is entered again

module _ (bundle : List Item) (s : Held) (w : EnteredFrames) (x : Change) (v : With TypedValues Classed) (h : replying bundle s w x (Resume v) ≢ Stuck) where
  resume_at : (d : Doing) × (replying bundle s w x (Resume v) ≡ enters_by (numbered bundle) (changed_by s w x) (turn s d) (scalars.Stack s.stack) v)
  resume_at = reply_at bundle s w x (Resume v) h

  resume_with : (e : Entering) × (traps.entering_of (bundle_tables bundle) v ≡ Some e) × (replying bundle s w x (Resume v) ≡ entering_so bundle s w x resume_at.0 (scalars.Stack s.stack) e)
  resume_with =
      let q = enters_at bundle s w x resume_at.0 (scalars.Stack s.stack) v (λ stuck. h (resume_at.1 ∙ stuck)) in
      (q.0, q.1, resume_at.1 ∙ q.2)

  pub resume_brings : IsSome (traps.entering_of (bundle_tables bundle) v)
  resume_brings = some_there (traps.entering_of (bundle_tables bundle) v) resume_with.0 resume_with.1

  resume_is : (e : Entering) → traps.entering_of (bundle_tables bundle) v ≡ Some e → replying bundle s w x (Resume v) ≡ entering_so bundle s w x resume_at.0 (scalars.Stack s.stack) e
  resume_is e brings =
      let same : resume_with.0 ≡ e = let found = resume_with.1 in cc in
      resume_with.2 ∙ ap (entering_so bundle s w x resume_at.0 (scalars.Stack s.stack)) same

  pub resume_enters : (e : Entering) → s.stack < length s.seats.stacks → traps.entering_of (bundle_tables bundle) v ≡ Some e → IsSome (entered_by bundle w.frames e)
  resume_enters e low brings =
      enter_there bundle s w x resume_at.0 (scalars.Stack s.stack) e s.stack w.frames (λ stuck. h (resume_is e brings ∙ stuck)) (own_ready s w low)

  pub resume_refuses : (how : Way) (e : Entering) (k : Case) → s.stack < length s.seats.stacks → traps.entering_of (bundle_tables bundle) v ≡ Some e → entered_by bundle w.frames e ≡ Some (Err k) → is_fault k ≡ false
      → past how s (replying bundle s w x (Resume v)) ≡ End x.lines (undefined_at s k)
  resume_refuses how e k low brings refused plain =
      ap (past how s)
      (resume_is e brings ∙ enter_at bundle s w x resume_at.0 (scalars.Stack s.stack) e s.stack w.frames (Err k) (own_ready s w low) refused ∙ reply_refused (numbered bundle) s w x resume_at.0 k plain)
      ∙ past_end how s (reverse (reverse x.lines)) (undefined_at s k) ∙ ap (λ ls. End ls (undefined_at s k)) (reverse-reverse x.lines)

  pub resume_goes : (e : Entering) (r : EnteredFrames) → s.stack < length s.seats.stacks → traps.entering_of (bundle_tables bundle) v ≡ Some e → entered_by bundle w.frames e ≡ Some (Ok r)
      → replying bundle s w x (Resume v) ≡ entering_then s w x s.stack r
  unfolding entering_then
  resume_goes e r low brings way =
      resume_is e brings ∙ enter_at bundle s w x resume_at.0 (scalars.Stack s.stack) e s.stack w.frames (Ok r) (own_ready s w low) way

pub ruleset resuming = (resume_brings, resume_enters, resume_refuses, resume_goes)

-- ---- a stack is entered that a value names

module _ (bundle : List Item) (s : Held) (w : EnteredFrames) (x : Change) (t : Classed) (v : With TypedValues Classed) (h : replying bundle s w x (Rebind t v) ≢ Stuck) where
  rebind_at : (d : Doing) × (sc : Scalar) × (scalar_in (Some t.1) ≡ Some sc) × (replying bundle s w x (Rebind t v) ≡ enters_by (numbered bundle) (changed_by s w x) (turn s d) sc v)
  rebind_at =
      let q = reply_at bundle s w x (Rebind t v) h in
      let go : Scalar → Outcome = λ sc. enters_by (numbered bundle) (changed_by s w x) (turn s q.0) sc v in
      let sc = on_there (scalar_in (Some t.1)) go (λ stuck. h (q.1 ∙ stuck)) in
      (q.0, sc.0, sc.1, q.1 ∙ on_is (scalar_in (Some t.1)) sc.0 go sc.1)

  pub rebind_names : IsSome (scalar_in (Some t.1))
  rebind_names = some_there (scalar_in (Some t.1)) rebind_at.1 rebind_at.2

  rebind_with : (e : Entering) × (traps.entering_of (bundle_tables bundle) v ≡ Some e) × (replying bundle s w x (Rebind t v) ≡ entering_so bundle s w x rebind_at.0 rebind_at.1 e)
  rebind_with =
      let q = enters_at bundle s w x rebind_at.0 rebind_at.1 v (λ stuck. h (rebind_at.3 ∙ stuck)) in
      (q.0, q.1, rebind_at.3 ∙ q.2)

  pub rebind_brings : IsSome (traps.entering_of (bundle_tables bundle) v)
  rebind_brings = some_there (traps.entering_of (bundle_tables bundle) v) rebind_with.0 rebind_with.1

  rebind_is : (sc : Scalar) (e : Entering) → scalar_in (Some t.1) ≡ Some sc → traps.entering_of (bundle_tables bundle) v ≡ Some e → replying bundle s w x (Rebind t v) ≡ entering_so bundle s w x rebind_at.0 sc e
  rebind_is sc e named brings =
      let same : rebind_with.0 ≡ e = let found = rebind_with.1 in cc in
      let stack : rebind_at.1 ≡ sc = let found = rebind_at.2 in cc in
      rebind_with.2 ∙ ap (entering_so bundle s w x rebind_at.0 rebind_at.1) same ∙ ap (λ sc. entering_so bundle s w x rebind_at.0 sc e) stack

  -- the trapped stack itself
  rebind_back_by : (q : (d : Doing) × (doing_of (numbered bundle) s ≡ Some d)) → scalar_in (Some t.1) ≡ Some (scalars.Stack s.stack) → replying bundle s w x (Rebind t v) ≡ replying bundle s w x (Resume v)
  unfolding replying
  rebind_back_by q named =
      let p = numbered bundle in
      let c = changed_by s w x in
      on_is (doing_of p s) q.0 (λ d. replied p c (turn s d) (Rebind t v)) q.1 ∙ on_is (scalar_in (Some t.1)) (scalars.Stack s.stack) (λ sc. enters_by p c (turn s q.0) sc v) named
      ∙ sym (on_is (doing_of p s) q.0 (λ d. replied p c (turn s d) (Resume v)) q.1)

  pub rebind_back : scalar_in (Some t.1) ≡ Some (scalars.Stack s.stack) → replying bundle s w x (Rebind t v) ≡ replying bundle s w x (Resume v)
  unfolding replying
  rebind_back named =
      let q = on_there (doing_of (numbered bundle) s) (λ d. replied (numbered bundle) (changed_by s w x) (turn s d) (Rebind t v)) h in
      rebind_back_by (q.0, q.1) named

  pub rebind_resumes : scalar_in (Some t.1) ≡ Some (scalars.Stack s.stack) → replying bundle s w x (Resume v) ≢ Stuck
  rebind_resumes named = λ stuck. h (rebind_back named ∙ stuck)

  pub rebind_ready : (sc : Scalar) → scalar_in (Some t.1) ≡ Some sc → sc ≢ scalars.Stack s.stack → IsSome (ready (held_stacks s) sc)
  rebind_ready sc named other =
      let r = enter_ready bundle s w x rebind_at.0 sc rebind_with.0 (λ stuck. h (rebind_is sc rebind_with.0 named rebind_with.1 ∙ stuck)) in
      let k = some_of (ready (stacks_then s w) sc) r in
      some_there (ready (held_stacks s) sc) k.0 (sym (other_same s w sc other) ∙ k.1)

  pub rebind_not_ready : (how : Way) (sc : Scalar) → scalar_in (Some t.1) ≡ Some sc → sc ≢ scalars.Stack s.stack → ready (held_stacks s) sc ≡ Some (Err cases.StackNotReady)
      → past how s (replying bundle s w x (Rebind t v)) ≡ End x.lines (undefined_at s cases.StackNotReady)
  rebind_not_ready how sc named other none =
      ap (past how s) (rebind_is sc rebind_with.0 named rebind_with.1 ∙ not_ready bundle s w x rebind_at.0 sc rebind_with.0 (other_same s w sc other ∙ none)) ∙ past_end how s (reverse (reverse x.lines)) (undefined_at s cases.StackNotReady)
      ∙ ap (λ ls. End ls (undefined_at s cases.StackNotReady)) (reverse-reverse x.lines)

  -- another stack that is ready
  others : (k : ℕ) → k ≢ s.stack → IsReady (slice_get s.seats.stacks k) → ready (stacks_then s w) (scalars.Stack k) ≡ Some (Ok (k, frames_at (slice_get s.seats.stacks k)))
  others k other there =
      let fs = frames_at (slice_get s.seats.stacks k) in
      let at : slice_get (stacks_then s w) k ≡ Some (Ready fs) =
      set_other (held_stacks s) s.stack k (Ready w.frames) other ∙ set_other s.seats.stacks s.stack k (Active s.thread (frames_of s.frames)) other ∙ ready_frames (slice_get s.seats.stacks k) there in
      with_is (slice_get (stacks_then s w) k) (Ready fs) (λ y. Some (ready_at k y)) at

  pub rebind_looks : (k : ℕ) (e : Entering) → scalar_in (Some t.1) ≡ Some (scalars.Stack k) → k ≢ s.stack → IsReady (slice_get s.seats.stacks k) → traps.entering_of (bundle_tables bundle) v ≡ Some e
      → IsSome (entered_by bundle (frames_at (slice_get s.seats.stacks k)) e)
  rebind_looks k e named other there brings =
      enter_there bundle s w x rebind_at.0 (scalars.Stack k) e k (frames_at (slice_get s.seats.stacks k)) (λ stuck. h (rebind_is (scalars.Stack k) e named brings ∙ stuck)) (others k other there)

  pub rebind_refuses : (how : Way) (k : ℕ) (e : Entering) (q : Case) → scalar_in (Some t.1) ≡ Some (scalars.Stack k) → k ≢ s.stack → IsReady (slice_get s.seats.stacks k) → traps.entering_of (bundle_tables bundle) v ≡ Some e
      → entered_by bundle (frames_at (slice_get s.seats.stacks k)) e ≡ Some (Err q) → is_fault q ≡ false → past how s (replying bundle s w x (Rebind t v)) ≡ End x.lines (undefined_at s q)
  rebind_refuses how k e q named other there brings refused plain =
      ap (past how s)
      (rebind_is (scalars.Stack k) e named brings ∙ enter_at bundle s w x rebind_at.0 (scalars.Stack k) e k (frames_at (slice_get s.seats.stacks k)) (Err q) (others k other there) refused
      ∙ reply_refused (numbered bundle) s w x rebind_at.0 q plain) ∙ past_end how s (reverse (reverse x.lines)) (undefined_at s q)
      ∙ ap (λ ls. End ls (undefined_at s q)) (reverse-reverse x.lines)

  pub rebind_goes : (k : ℕ) (e : Entering) (r : EnteredFrames) → scalar_in (Some t.1) ≡ Some (scalars.Stack k) → k ≢ s.stack → IsReady (slice_get s.seats.stacks k) → traps.entering_of (bundle_tables bundle) v ≡ Some e
      → entered_by bundle (frames_at (slice_get s.seats.stacks k)) e ≡ Some (Ok r) → replying bundle s w x (Rebind t v) ≡ entering_then s w x k r
  unfolding entering_then
  rebind_goes k e r named other there brings way =
      rebind_is (scalars.Stack k) e named brings ∙ enter_at bundle s w x rebind_at.0 (scalars.Stack k) e k (frames_at (slice_get s.seats.stacks k)) (Ok r) (others k other there) way

pub ruleset rebinding = (rebind_names, rebind_brings, rebind_back, rebind_resumes, rebind_ready, rebind_not_ready, rebind_looks, rebind_refuses, rebind_goes)
