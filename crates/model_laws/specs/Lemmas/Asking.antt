-- The client is asked, and each answer that fits is good.
use Rattle.std.specs.Prelude.{◌≡◌, ◌≢◌, ◌⊎◌, ◌≤◌, ◌<◌, ◌==◌, ℕ, Bool, true, false, List, [], ◌∷◌, ◌++◌, Option, Some, None, IsSomeAnd, length, slice_get, Result, Ok, Err, IfOk, bytes_eq, option_map, refl, if◌then◌else◌}
use Rattle.std.proofs.Common.{sym, ◌∙◌, ap, subst, inl, inr, arith}
use Rattle.std.proofs.Math.ListN.{length-set}
use Rattle.std.proofs.lemmas.Bool.Decides.{eqb_tells}
use Rattle.std.proofs.lemmas.Option.{slice_get_within}
use Rattle.std.proofs.lemmas.List.Elements.{All-nil, All-cons}
use Rattle.mu_values.specs.declared.scalars.Scalar.{Scalar}
use Rattle.mu_values.specs.declared.scalars.Scalar.TheVariants as scalars
use Rattle.check_tables.specs.Types.{stackref, ref_void}
use Rattle.mem_axioms.specs.EventFits.{is_thread}
use Rattle.std.specs.Prelude.{All}
use Rattle.mu_model.specs.Acts as acts
use Rattle.mu_model.specs.Clients as clients
use Rattle.frames.specs.Activations.{Activation, Goal, Value}
use Rattle.model_laws.specs.Lemmas.Basics.{and_then, set_same, some_is}
use Rattle.model_laws.specs.Lemmas.FrameLaws.{WaitsFor, waiting_fits}
use Rattle.model_laws.specs.Lemmas.Keeps.{Going, at_place, on_good, on_settles, world_set}
use Rattle.model_laws.specs.Lemmas.Moving.{Moving, ends_good, entered_fits, enters_good, left_moving, left_same, owned_aside, parts_ended, parts_stack, ready_fits}
use Rattle.model_laws.specs.Lemmas.Editing.{edited_fits}
use Rattle.model_laws.specs.Lemmas.Fitting.{Grows, scalars_more, values_more}
use Rattle.model_laws.specs.Lemmas.Turning.{Turned, ended_grows, goes_good}
use Rattle.model_laws.specs.ActsFit.{ActFits, EnteringFits}
use Rattle.model_laws.specs.ClientsFit.{AnswerFits, ReplyFits, WithFits}
use Rattle.model_laws.specs.FramesFit.{ActiveFit, BelowWait, FrameWaits, FreshOrWaits, ReadyFit, StackFits, waits_for}
use Rattle.model_laws.specs.Places.{Places}
use Rattle.model_laws.specs.Programs.{IsTyped}
use Rattle.model_laws.specs.Values.{TypedFit, world}
use Rattle.model_laws.specs.WellTyped.{GoesWell, Settles}
use Rattle.mu_model.specs.Acts.{Entering, Misfits, Passes, Program, ThrowsInto}
use Rattle.mu_model.specs.Answers.{typed}
use Rattle.mu_model.specs.Changes.{noted, stack_becomes}
use Rattle.mu_model.specs.Edits.{popped, pushed, pushed_on, with_frames, push_by, edited, edited_by}
use Rattle.mu_model.specs.Types.{classes_given}
use Rattle.mu_model.specs.Clients.{Answer, Edit, Classed, Exit, Pass, Rebind, Reply, Resume, Throw, With}
use Rattle.mu_model.specs.Configuration.{Active, Configuration, Dead, Ready, Stack, Thread}
use Rattle.mu_model.specs.EnteringStacks.{values_entered, entered, entering, enters, leaving, ready, ready_at}
use Rattle.mu_model.specs.Exceptions.{EnteredFrames, body_or_case, unwinding}
use Rattle.model_laws.specs.Unwinding.{caught_by, unwinding_more}
use Rattle.mu_model.specs.Frames.{caught, fresh_frame, passed}
use Rattle.mu_model.specs.Operands.{scalar_in}
use Rattle.mu_model.specs.Outcomes.{Next, Outcome, refused, tried, unless_refused}
use Rattle.mu_model.specs.Traps.{answered, edits, entering_of, enters_by, goes, is_watched, replied, taken, trap_note, trapped, meets_watchpoint}
use Rattle.mu_model.specs.Turns.{Turn, waiting}
use Rattle.mu_model.specs.Types.{type_graph}
use Rattle.mu_model.specs.declared.endings.Case.{Case}
use Rattle.mu_model.specs.declared.endings.Case.TheVariants.{ClientMisuse, DivideByZero, NoBody, NullAccess, StackNotReady, StackTypes, Uncaught}
use Rattle.mu_model.specs.declared.lines.Line.{Line}
use Rattle.mu_values.specs.Slots.{TypedValues}
use Rattle.typed_heap.specs.Fits.{ScalarFits, ScalarsFit, ValueFits, World}
use Rattle.typed_heap.specs.Objects.{leaf_classes}
use Rattle.typed_heap.specs.Places.{with_some}

-- cases that are no faults
abbrev pub IsHard : Case → Type 0
IsHard DivideByZero = ⊥
IsHard NullAccess = ⊥
IsHard _ = Unit {0}

ready_hard : (ss : List Stack) (s : Scalar) (k : Case) → ready ss s ≡ Some (Err k) → IsHard k
ready_hard ss scalars.Null k e = let same : StackNotReady ≡ k = cc in subst IsHard same tt
ready_hard ss (scalars.Stack n) k e = by (slice_get ss n) e
  where
    by : (o : Option Stack) → with_some o (λ s. Some (ready_at n s)) ≡ Some (Err k) → IsHard k
    by None e = cc
    by (Some (Ready fs)) e = cc
    by (Some (Active j fs)) e = let same : StackNotReady ≡ k = cc in subst IsHard same tt
    by (Some Dead) e = let same : StackNotReady ≡ k = cc in subst IsHard same tt
ready_hard ss _ k e = cc

unwinding_hard : (p : Program) (e : Scalar) (fs : List Activation) (k : Case) → unwinding p e fs ≡ Some (Err k) → IsHard k
unwinding_hard p e [] k q = let same : Uncaught ≡ k = cc in subst IsHard same tt
unwinding_hard p e (f ∷ fs) k q = by f.handler (unwinding p e fs) (sym (unwinding_more p e f fs) ∙ q) (unwinding_hard p e fs k)
  where
    arrives : (o : Option Activation) → with_some {B = Result EnteredFrames Case} o (λ h. Some (Ok (record { frames = h ∷ fs; ended = [] }))) ≡ Some (Err k) → IsHard k
    arrives None q = cc
    arrives (Some h) q = cc

    by : (o : Option Goal) (lower : Option (Result EnteredFrames Case)) → caught_by p e f fs o lower ≡ Some (Err k) → (lower ≡ Some (Err k) → IsHard k) → IsHard k
    by (Some g) lower q rest = arrives (caught p f g e) q
    by None None q rest = cc
    by None (Some (Err x)) q rest = rest q
    by None (Some (Ok r)) q rest = cc

bound_hard : (p : Program) (f : Activation) (fs : List Activation) (cs : List ℕ) (vs : List Value) (k : Case) → values_entered p f fs cs vs ≡ Some (Err k) → IsHard k
bound_hard p f fs cs vs k q = by (bytes_eq cs f.waits) (passed p f vs) q
  where
    by : (b : Bool) (o : Option Activation) → (if b then with_some {B = Result EnteredFrames Case} o (λ g. Some (Ok (record { frames = g ∷ fs; ended = [] }))) else Some (Err StackTypes)) ≡ Some (Err k) → IsHard k
    by true None q = cc
    by true (Some g) q = cc
    by false o q = let same : StackTypes ≡ k = cc in subst IsHard same tt

entered_hard : (p : Program) (fs : List Activation) (e : Entering) (k : Case) → entered p fs e ≡ Some (Err k) → IsHard k
entered_hard p [] (Passes cs vs) k q = cc
entered_hard p (f ∷ fs) (Passes cs vs) k q = bound_hard p f fs cs vs k q
entered_hard p [] (ThrowsInto e) k q = unwinding_hard p e [] k q
entered_hard p (f ∷ fs) (ThrowsInto e) k q = unwinding_hard p e (f ∷ fs) k q
entered_hard p [] Misfits k q = let same : StackTypes ≡ k = cc in subst IsHard same tt
entered_hard p (f ∷ fs) Misfits k q = let same : StackTypes ≡ k = cc in subst IsHard same tt

-- the values that frames keep
kept_of : (p : Program) (t : Places) (w : World) (f : Activation) → FrameWaits p t w f → TypedFit (type_graph p.tables) w f.kept
kept_of p t w f h = by f.fresh h
  where
    by : (b : Bool) → FreshOrWaits p t w f b → TypedFit (type_graph p.tables) w f.kept
    by true k = subst (TypedFit (type_graph p.tables) w) (sym k.kept) tt
    by false k = k.kept_fit

all_kept : (p : Program) (t : Places) (w : World) (rs : List ℕ) (fs : List Activation) → BelowWait p t w rs fs → All (λ (f : Activation). TypedFit (type_graph p.tables) w f.kept) fs
all_kept p t w rs [] h = All-nil (λ (f : Activation). TypedFit (type_graph p.tables) w f.kept)
all_kept p t w rs (f ∷ fs) h = All-cons (λ (f : Activation). TypedFit (type_graph p.tables) w f.kept) f fs (kept_of p t w f h.0) (all_kept p t w (t.results f.block) fs h.2)

module _ (p : Program) (t : Places) (typed : IsTyped p t) where
  hard_good : (c : Configuration) (u : Turn) (k : Case) → IsHard k → Settles p t (refused p c u k)
  hard_good c u DivideByZero h = absurd h
  hard_good c u NullAccess h = absurd h
  hard_good c u _ h = tt

  hard_tried : {A : Type 0} (c : Configuration) (u : Turn) (o : Option (Result A Case)) (go : A → Outcome) (Q : A → Type 0) → IsSomeAnd o (λ r. IfOk r Q) → ((k : Case) → o ≡ Some (Err k) → IsHard k) →
      ((a : A) → Q a → Settles p t (go a)) → Settles p t (tried p c u o go)
  unfolding tried
  hard_tried {A} c u o go Q h hard good = on_settles p t o _ (λ r. IfOk r Q) h by
    where
      by : (r : Result A Case) → o ≡ Some r → IfOk r Q → Settles p t (unless_refused p c u go r)
      by (Err k) q fit = hard_good c u k (hard k q)
      by (Ok a) q fit = good a fit

  -- a thread that is on no stack enters one
  moving_enters : (c : Configuration) (u : Turn) (s : Scalar) (e : Entering) → Moving p t c u.thread → ScalarFits (type_graph p.tables) (world p.tables c) (stackref p.tables.types) s → EnteringFits p.tables (world p.tables c) e →
      Settles p t (entering p c u s e (λ k r. Next (enters u.thread k r c)))
  moving_enters c u s e m hs he =
      hard_tried c u _ _ (λ x. slice_get c.stacks x.0 ≡ Some (Ready x.1)) (ready_fits p t typed c s hs) (ready_hard c.stacks s) (λ x there.
      hard_tried c u _ _ (λ (en : EnteredFrames). ActiveFit p t (world p.tables c) en.frames) (entered_fits p t typed (world p.tables c) m.parts.globals x.1 e (at_place (StackFits p t (world p.tables c)) c.stacks x.0 (Ready x.1) m.parts.stacks there) he) (entered_hard p x.1 e) (λ r fit.
      enters_good p t typed c u.thread x.0 x.1 r m there fit))

  -- ---- what an answer stands for

  -- a value of a class of one scalar
  one_scalar : (w : World) (c : ℕ) (v : Value) → leaf_classes (type_graph p.tables) c ≡ c ∷ [] → ValueFits (type_graph p.tables) w c v → IsSomeAnd (scalar_in (Some v)) (ScalarFits (type_graph p.tables) w c)
  one_scalar w c v leaf h = by v (subst (λ ls. ScalarsFit (type_graph p.tables) w ls v) leaf h)
    where
      by : (v : Value) → ScalarsFit (type_graph p.tables) w (c ∷ []) v → IsSomeAnd (scalar_in (Some v)) (ScalarFits (type_graph p.tables) w c)
      by [] h = absurd h
      by (s ∷ []) h = h.0
      by (s ∷ r ∷ ss) h = absurd h.1

  entering_fits : (w : World) (a : With TypedValues Classed) → WithFits (type_graph p.tables) w a → IsSomeAnd (entering_of p.tables a) (EnteringFits p.tables w)
  entering_fits w (Pass vs) h = h
  entering_fits w (Throw v) h = elim (eqb_tells v.0 (ref_void p.tables.types)) [
    | inl r ↦ subst (λ b. IsSomeAnd (if b then with_some (scalar_in (Some v.1)) (λ e. Some (ThrowsInto e)) else Some Misfits) (EnteringFits p.tables w)) (sym r.0)
        (and_then (scalar_in (Some v.1)) (λ e. Some (ThrowsInto e)) (ScalarFits (type_graph p.tables) w (ref_void p.tables.types)) (EnteringFits p.tables w) (one_scalar w (ref_void p.tables.types) v.1 typed.types.ref_void.leaf (subst (λ c. ValueFits (type_graph p.tables) w c v.1) r.1 h)) (λ s k. k))
    | inr r ↦ subst (λ b. IsSomeAnd (if b then with_some (scalar_in (Some v.1)) (λ e. Some (ThrowsInto e)) else Some Misfits) (EnteringFits p.tables w)) (sym r.0) tt
  ]

  -- ---- answers

  enters_by_good : (c : Configuration) (u : Turn) (s : Scalar) (a : With TypedValues Classed) → Moving p t c u.thread → ScalarFits (type_graph p.tables) (world p.tables c) (stackref p.tables.types) s → WithFits (type_graph p.tables) (world p.tables c) a →
      Settles p t (enters_by p c u s a)
  enters_by_good c u s a m hs h = on_settles p t (entering_of p.tables a) _ (EnteringFits p.tables (world p.tables c)) (entering_fits (world p.tables c) a h) (λ e q fit. moving_enters c u s e m hs fit)

  replied_good : (c : Configuration) (u : Turn) (a : Reply TypedValues Classed) → Moving p t c u.thread → u.stack < length c.stacks → ReplyFits p.tables (world p.tables c) a → Settles p t (replied p c u a)
  replied_good c u (Resume a) m own h = enters_by_good c u (scalars.Stack u.stack) a m (some_is _ _ _ typed.types.stackref.definition own) h
  replied_good c u (Rebind x a) m own h =
      on_settles p t (scalar_in (Some x.1)) _ (ScalarFits (type_graph p.tables) (world p.tables c) (stackref p.tables.types))
      (one_scalar (world p.tables c) (stackref p.tables.types) x.1 typed.types.stackref.leaf (subst (λ k. ValueFits (type_graph p.tables) (world p.tables c) k x.1) h.0 h.1)) (λ s q fit. enters_by_good c u s a m fit h.2)
  replied_good c u Exit m own h = ends_good p t typed c u.thread _ m
  replied_good c u clients.Stop m own h = tt

  -- records and watches do not matter
  other_moving : (c : Configuration) (i : ℕ) (ls : List Line) (ws : List ℕ) → Moving p t c i → Moving p t (record c { lines = ls; watched = ws }) i
  other_moving c i ls ws m = record {
    parts = record { globals = m.parts.globals; stacks = m.parts.stacks; objects = m.parts.objects; log = record { events = m.parts.log.events; sound = m.parts.log.sound; follows = m.parts.log.follows; threads = m.parts.log.threads }; threads = m.parts.threads; waiters = m.parts.waiters; client = m.parts.client; steps = m.parts.steps };
    owners = m.owners;
    thread = m.thread;
    there = m.there;
    awake = m.awake;
    known = m.known;
    most = m.most;
  }

  -- ---- edits

  -- the trapped stack has other frames, and is ready as before
  edits_moving : (c : Configuration) (u : Turn) (fs : List Activation) (r : EnteredFrames) → Moving p t c u.thread → slice_get c.stacks u.stack ≡ Some (Ready fs) → ReadyFit p t (world p.tables c) r.frames → Moving p t (edits u r c) u.thread
  edits_moving c u fs r m there fit =
      let d = stack_becomes u.stack (Ready r.frames) c in
      record {
        parts = parts_ended p t d r.ended typed (parts_stack p t c u.stack u.thread (Ready fs) (Ready r.frames) m.parts there tt m.awake fit);
        owners = owned_aside c.threads c.stacks u.stack u.thread fs (Ready r.frames) m.owners there tt;
        thread = m.thread;
        there = m.there;
        awake = m.awake;
        known = m.known;
        most = m.most;
      }

  edits_grow : (c : Configuration) (u : Turn) (r : EnteredFrames) → Grows (world p.tables c) (world p.tables (edits u r c))
  edits_grow c u r = subst (λ w. Grows w (world p.tables (edits u r c))) (world_set p.tables c u.stack (Ready r.frames)) (ended_grows p t typed (stack_becomes u.stack (Ready r.frames) c) r.ended)

  with_more : (w v : World) (a : With TypedValues Classed) → Grows w v → WithFits (type_graph p.tables) w a → WithFits (type_graph p.tables) v a
  with_more w v (Pass vs) g h = values_more (type_graph p.tables) w v vs.types vs.values g h
  with_more w v (Throw x) g h = scalars_more (type_graph p.tables) w v (leaf_classes (type_graph p.tables) x.0) x.1 g h

  reply_more : (w v : World) (a : Reply TypedValues Classed) → Grows w v → ReplyFits p.tables w a → ReplyFits p.tables v a
  reply_more w v (Resume a) g h = with_more w v a g h
  reply_more w v (Rebind x a) g h = (h.0, scalars_more (type_graph p.tables) w v (leaf_classes (type_graph p.tables) x.0) x.1 g h.1, with_more w v a g h.2)
  reply_more w v Exit g h = tt
  reply_more w v clients.Stop g h = tt

  edited_hard : (e : Edit) (fs : List Activation) (k : Case) → edited p e fs ≡ Some (Err k) → IsHard k
  edited_hard e fs k q = by (popped e.pop fs) q
    where
      case_on : (b : Bool) (gs hs : List Activation) (k : Case) → (if b then Ok gs else Err StackTypes) ≡ Err k → IsHard k
      case_on true gs hs k q = cc
      case_on false gs hs k q = let same : StackTypes ≡ k = cc in subst IsHard same tt

      body_hard : (o : Option (Option ℕ)) (k : Case) → body_or_case o ≡ Some (Err k) → IsHard k
      body_hard None k q = cc
      body_hard (Some None) k q = let same : NoBody ≡ k = cc in subst IsHard same tt
      body_hard (Some (Some b)) k q = cc

      pushed_hard : (f : ℕ) (fs : List Activation) (k : Case) → pushed p f fs ≡ Some (Err k) → IsHard k
      pushed_hard f [] k q = cc
      pushed_hard f (x ∷ fs) k q = body (body_or_case (p.body f)) refl q
        where
          body : (o : Option (Result ℕ Case)) → body_or_case (p.body f) ≡ o → option_map (pushed_on p f x fs) o ≡ Some (Err k) → IsHard k
          body None is q = cc
          body (Some (Err j)) is q = let same : j ≡ k = cc in body_hard (p.body f) k (is ∙ ap (λ j. Some (Err j)) same)
          body (Some (Ok b)) is q = let here : pushed_on p f x fs (Ok b) ≡ Err k = cc in case_on (bytes_eq (classes_given p.tables f) x.waits) (fresh_frame p f b ∷ x ∷ fs) fs k here

      with_hard : (r : EnteredFrames) (o : Option (Result (List Activation) Case)) → (o ≡ Some (Err k) → IsHard k) → option_map (with_frames r) o ≡ Some (Err k) → IsHard k
      with_hard r None h q = cc
      with_hard r (Some (Err j)) h q = let same : j ≡ k = cc in h (ap (λ j. Some (Err j)) same)
      with_hard r (Some (Ok gs)) h q = cc

      further : (push : Option ℕ) (r : EnteredFrames) → push_by p push r ≡ Some (Err k) → IsHard k
      further None r q = cc
      further (Some f) r q = with_hard r (pushed p f r.frames) (pushed_hard f r.frames k) q

      by : (o : Option EnteredFrames) → edited_by p e.push o ≡ Some (Err k) → IsHard k
      by None q = let same : ClientMisuse ≡ k = cc in subst IsHard same tt
      by (Some r) q = further e.push r q

  answered_good : (c : Configuration) (u : Turn) (fs : List Activation) (a : Option Answer) → Moving p t c u.thread → slice_get c.stacks u.stack ≡ Some (Ready fs) → ReadyFit p t (world p.tables c) fs → AnswerFits p.tables (world p.tables c) a → Settles p t (answered p c u fs a)
  answered_good c u fs None m there ready h = tt
  answered_good c u fs (Some a) m there ready h =
      let d = taken a c in
      hard_tried d u (edited p a.edit fs) _ (λ (r : EnteredFrames). ReadyFit p t (world p.tables c) r.frames) (edited_fits p t typed (world p.tables c) a.edit fs h.0 ready) (edited_hard a.edit fs) (λ r fit.
      replied_good (edits u r d) u a.reply (edits_moving d u fs r (other_moving c u.thread d.lines d.watched m) there fit)
      (omega (arith, length-set c.stacks u.stack (Ready r.frames), slice_get_within c.stacks u.stack (Ready fs) there)) (reply_more (world p.tables c) (world p.tables (edits u r d)) a.reply (edits_grow d u r) h.1))

  pub trapped_good : (c : Configuration) (u : Turn) (n : Option ℕ) (cs : List ℕ) (th : Thread) → Going p t c u → Turned p t (world p.tables c) u → slice_get c.threads u.thread ≡ Some (Some th) → is_thread c.log u.thread ≡ true →
      with_some u.doing.act (waits_for p.tables) ≡ Some cs → GoesWell p t (world p.tables c) (trapped p c u n cs)
  trapped_good c u n cs th g k there known waits =
      on_good p t (world p.tables c) (waiting u cs) _ (WaitsFor p t (world p.tables c) (t.results u.top.block) cs) (waiting_fits p t typed (world p.tables c) g.fits.globals u cs k.top k.doing k.does waits) (λ f q fit. (
        shown f fit,
        λ a ha.
            let d = leaving u f c in
            let e = noted (trap_note u n) d in
            let same : world p.tables c ≡ world p.tables e = left_same p t typed c u f in
            let moving = other_moving d u.thread e.lines d.watched (left_moving p t typed c u f th g there known (fit.waits, fit.results) k.below) in
            let ready : ReadyFit p t (world p.tables c) (f ∷ u.below) = (fit.waits, subst (λ rs. BelowWait p t (world p.tables c) rs u.below) (sym fit.results) k.below) in
            answered_good e u (f ∷ u.below) a moving (set_same c.stacks u.stack (Ready (f ∷ u.below)) (Active u.thread g.frames) g.there) (subst (λ w. ReadyFit p t w (f ∷ u.below)) same ready) (subst (λ w. AnswerFits p.tables w a) same ha),
      ))
    where
      shown : (f : Activation) → WaitsFor p t (world p.tables c) (t.results u.top.block) cs f → All (λ (f : Activation). TypedFit (type_graph p.tables) (world p.tables c) f.kept) (f ∷ u.below)
      shown f fit = All-cons (λ (f : Activation). TypedFit (type_graph p.tables) (world p.tables c) f.kept) f u.below (kept_of p t (world p.tables c) f fit.waits) (all_kept p t (world p.tables c) (t.results u.top.block) u.below k.below)

  pub watches_good : (c : Configuration) (u : Turn) (n : ℕ) (cs : List ℕ) (goal : Goal) (th : Thread) → Going p t c u → Turned p t (world p.tables c) u → slice_get c.threads u.thread ≡ Some (Some th) → is_thread c.log u.thread ≡ true →
      u.doing.act ≡ Some (acts.Watches n cs goal) → ActFits p t (world p.tables c) u.top.block u.top.at (acts.Watches n cs goal) → GoesWell p t (world p.tables c) (meets_watchpoint p c u n cs goal)
  watches_good c u n cs goal th g k there known act h = by (is_watched n c.watched)
    where
      by : (b : Bool) → GoesWell p t (world p.tables c) (if b then trapped p c u (Some n) cs else goes c u goal)
      by true = trapped_good c u (Some n) cs th g k there known (ap (λ o. with_some o (waits_for p.tables)) act)
      by false = goes_good p t typed (world p.tables c) c u goal g k h.1
