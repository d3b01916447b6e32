-- Acts of a well typed configuration are good: results, control and returns.
use Rattle.std.specs.Prelude.{◌≡◌, ◌≢◌, ◌⊎◌, ◌≤◌, ◌<◌, ℕ, zero, suc, List, [], ◌∷◌, ◌++◌, Option, Some, None, IsSomeAnd, All, flat_map, Result, Ok, Err, IfOk, refl}
use Rattle.std.proofs.Common.{sym, ◌∙◌, ap, subst, arith}
use Rattle.std.proofs.lemmas.List.Elements.{All-cons, All-head, All-tail, All-weaker}
use Rattle.mu_values.specs.declared.scalars.Scalar.{Scalar}
use Rattle.mu_values.specs.declared.scalars.Scalar.TheVariants.{Null}
use Rattle.check_tables.specs.Types.{ref_void}
use Rattle.mem_axioms.specs.Sound.{IsSound}
use Rattle.std.specs.Prelude.{fold}
use Rattle.mu_model.specs.Acts as acts
use Rattle.frames.specs.Activations.{Activation, Goal, Value}
use Rattle.model_laws.specs.Lemmas.Basics.{and_then, some_is, some_of}
use Rattle.model_laws.specs.Lemmas.Fitting.{Grows, globals_more, values_more}
use Rattle.model_laws.specs.Lemmas.FrameLaws.{StandsFor, WaitsFor, active_unwinds, arrived_fits, called_fits, caught_fits, given_fits, passed_fits, waiting_fits}
use Rattle.model_laws.specs.Lemmas.Growing.{active_more, below_more, die_at, die_initial, logged_more, object_more, stack_more, thread_more}
use Rattle.model_laws.specs.Lemmas.Keeps.{Going, next_good, on_good}
use Rattle.model_laws.specs.ActsFit.{ActFits, IsFunction}
use Rattle.model_laws.specs.FramesFit.{ActiveFit, BelowWait, StackFits, Stands, waits_for}
use Rattle.model_laws.specs.LogFits.{LoggedFits, ObjectFits}
use Rattle.model_laws.specs.Places.{GoalFits, HandlerFits, Places}
use Rattle.model_laws.specs.Programs.{DoingFits, IsTyped}
use Rattle.model_laws.specs.ThreadsFit.{ThreadFits}
use Rattle.model_laws.specs.Values.{ValuesFit, world}
use Rattle.model_laws.specs.WellTyped.{GoesWell, WellTyped}
use Rattle.mu_model.specs.Acts.{Program}
use Rattle.mu_model.specs.Answers.{typed}
use Rattle.mu_model.specs.Changes.{changed, frames_end}
use Rattle.mu_model.specs.Configuration.{Configuration}
use Rattle.mu_model.specs.Exceptions.{EnteredFrames, body_or_case, calls, replaces, returns, throws}
use Rattle.mu_model.specs.Frames.{arrived, called}
use Rattle.mu_model.specs.Outcomes.{Outcome, excepted, faulted, has_results, has_result, onto, refused, tried, unless_refused}
use Rattle.mu_model.specs.Step.{performed}
use Rattle.mu_model.specs.Traps.{goes}
use Rattle.mu_model.specs.Turns.{Turn}
use Rattle.mu_model.specs.Types.{type_graph, classes_taken, classes_given}
use Rattle.mu_model.specs.declared.endings.Case.{Case}
use Rattle.mu_model.specs.declared.endings.Case.TheVariants.{DivideByZero, NullAccess}
use Rattle.mu_model.specs.declared.endings.Ending.{Ending}
use Rattle.mu_values.specs.Slots.{TypedValues}
use Rattle.typed_heap.specs.Fits.{ScalarFits, World}
use Rattle.typed_heap.specs.Objects.{HeapObject, killed}
use Rattle.typed_heap.specs.Places.{with_some}

-- the top frame stands where its instruction does what fits, and those below wait
pub record Turned (p : Program) (t : Places) (w : World) (u : Turn) : Type 0 where
  pub top : Stands p t w u.top
  pub below : BelowWait p t w (t.results u.top.block) u.below
  pub doing : DoingFits p t w u.top.block u.top.at u.doing
  pub does : p.doing u.top.block u.top.at u.top.vars ≡ Some u.doing

module _ (p : Program) (t : Places) (typed : IsTyped p t) where
  -- its new top frame stands in a function that gives the same
  pub onto_fits : (w : World) (u : Turn) (o : Option Activation) → BelowWait p t w (t.results u.top.block) u.below → IsSomeAnd o (StandsFor p t w (t.results u.top.block)) → IsSomeAnd (with_some o (onto u)) (ActiveFit p t w)
  onto_fits w u o below h = and_then o (onto u) (StandsFor p t w (t.results u.top.block)) (ActiveFit p t w) h (λ f s. (s.stands, subst (λ rs. BelowWait p t w rs u.below) (sym s.results) below))

  pub given_good : (v : World) (c : Configuration) (u : Turn) (gs : List ℕ) (vs : List Value) → Going p t c u → Stands p t (world p.tables c) u.top → BelowWait p t (world p.tables c) (t.results u.top.block) u.below →
      t.gives u.top.block u.top.at ≡ Some gs → ValuesFit (type_graph p.tables) (world p.tables c) gs vs → GoesWell p t v (has_results p c u vs)
  given_good v c u gs vs g top below gives fit = next_good p t v c u _ g (onto_fits (world p.tables c) u _ below (given_fits p t typed (world p.tables c) g.fits.globals u.top gs vs top gives fit))

  pub gives_good : (v : World) (c : Configuration) (u : Turn) (vs : List Value) → Going p t c u → Turned p t (world p.tables c) u → ActFits p t (world p.tables c) u.top.block u.top.at (acts.Gives vs) → GoesWell p t v (performed p c u (acts.Gives vs))
  gives_good v c u vs g k h =
      let r : (gs : List ℕ) × (t.gives u.top.block u.top.at ≡ Some gs) × ValuesFit (type_graph p.tables) (world p.tables c) gs vs = some_of _ (λ gs. ValuesFit (type_graph p.tables) (world p.tables c) gs vs) h in
      given_good v c u r.0 vs g k.top k.below r.1 r.2

  null_fits : (w : World) → ScalarFits (type_graph p.tables) w (ref_void p.tables.types) Null
  null_fits w = some_is _ _ _ typed.types.ref_void.definition tt

  pub faulted_good : (v : World) (c : Configuration) (u : Turn) (e : Ending) → Going p t c u → Turned p t (world p.tables c) u → GoesWell p t v (faulted p c u e)
  faulted_good v c u e g k = on_good p t v u.doing.exceptional _ (HandlerFits p t (world p.tables c) u.top.block) k.doing.exceptional (λ o q h. by o h)
    where
      by : (o : Option Goal) → HandlerFits p t (world p.tables c) u.top.block o → GoesWell p t v (excepted p c u e o)
      by None h = tt
      by (Some goal) h = next_good p t v c u _ g (onto_fits (world p.tables c) u _ k.below (caught_fits p t typed (world p.tables c) g.fits.globals u.top u.top.block goal Null h (null_fits (world p.tables c))))

  pub refused_good : (v : World) (c : Configuration) (u : Turn) (e : Case) → Going p t c u → Turned p t (world p.tables c) u → GoesWell p t v (refused p c u e)
  refused_good v c u DivideByZero g k = faulted_good v c u _ g k
  refused_good v c u NullAccess g k = faulted_good v c u _ g k
  refused_good v c u _ g k = tt

  pub tried_good : {A : Type 0} (v : World) (c : Configuration) (u : Turn) (o : Option (Result A Case)) (go : A → Outcome) (Q : A → Type 0) → Going p t c u → Turned p t (world p.tables c) u →
      IsSomeAnd o (λ r. IfOk r Q) → ((a : A) → o ≡ Some (Ok a) → Q a → GoesWell p t v (go a)) → GoesWell p t v (tried p c u o go)
  unfolding tried
  tried_good {A} v c u o go Q g k h go_good = on_good p t v o _ (λ r. IfOk r Q) h by
    where
      by : (r : Result A Case) → o ≡ Some r → IfOk r Q → GoesWell p t v (unless_refused p c u go r)
      by (Err e) q fit = refused_good v c u e g k
      by (Ok a) q fit = go_good a q fit

  pub goes_good : (v : World) (c : Configuration) (u : Turn) (goal : Goal) → Going p t c u → Turned p t (world p.tables c) u → GoalFits p t (world p.tables c) u.top.block goal → GoesWell p t v (goes c u goal)
  goes_good v c u goal g k h = next_good p t v c u (with_some (Some (arrived u.top goal)) (onto u)) g (onto_fits (world p.tables c) u (Some (arrived u.top goal)) k.below (arrived_fits p t typed (world p.tables c) g.fits.globals u.top u.top.block goal h))

  pub body_fits : (f : ℕ) → IsFunction p f → IsSomeAnd (body_or_case (p.body f)) (λ r. IfOk r (λ b. p.body f ≡ Some (Some b)))
  body_fits f h = by (p.body f) h
    where
      by : (o : Option (Option ℕ)) → IsSomeAnd o (λ b. Unit {0}) → IsSomeAnd (body_or_case o) (λ r. IfOk r (λ b. o ≡ Some (Some b)))
      by None h = absurd h
      by (Some None) h = tt
      by (Some (Some b)) h = refl

  pub calls_good : (v : World) (c : Configuration) (u : Turn) (f : ℕ) (vs : List Value) → Going p t c u → Turned p t (world p.tables c) u → u.doing.act ≡ Some (acts.Calls f vs) → ActFits p t (world p.tables c) u.top.block u.top.at (acts.Calls f vs) →
      GoesWell p t v (calls p c u f vs)
  calls_good v c u f vs g k act h =
      tried_good v c u _ _ (λ b. p.body f ≡ Some (Some b)) g k (body_fits f h.2) (λ b same at.
      next_good p t v c u _ g (and_then _ _ (WaitsFor p t (world p.tables c) (t.results u.top.block) (classes_given p.tables f)) _
      (waiting_fits p t typed (world p.tables c) g.fits.globals u (classes_given p.tables f) k.top k.doing k.does (ap (λ o. with_some o (waits_for p.tables)) act)) (λ x fit.
      let s = called_fits p t typed (world p.tables c) g.fits.globals f b vs at h.0 in
      (s.stands, (fit.waits, fit.classes ∙ sym s.results, subst (λ rs. BelowWait p t (world p.tables c) rs u.below) (sym fit.results) k.below)))))

  -- ---- frames that end

  pub ended_grows : (c : Configuration) (fs : List Activation) → Grows (world p.tables c) (world p.tables (frames_end fs c))
  ended_grows c fs = record { objects = λ n o e. die_at c.objects (flat_map (λ (f : Activation). f.objects) fs) n o e; signatures = refl; stacks = omega arith; threads = omega arith }

  dies_fit : (w : World) (os : List HeapObject) (n : ℕ) → All (ObjectFits (type_graph p.tables) w) os → All (ObjectFits (type_graph p.tables) w) (changed killed n os)
  dies_fit w [] n h = h
  dies_fit w (o ∷ os) zero h = All-cons (ObjectFits (type_graph p.tables) w) (killed o) os (All-head (ObjectFits (type_graph p.tables) w) o os h) (All-tail (ObjectFits (type_graph p.tables) w) o os h)
  dies_fit w (o ∷ os) (suc n) h = All-cons (ObjectFits (type_graph p.tables) w) o (changed killed n os) (All-head (ObjectFits (type_graph p.tables) w) o os h) (dies_fit w os n (All-tail (ObjectFits (type_graph p.tables) w) o os h))

  pub die_fit : (w : World) (os : List HeapObject) (ns : List ℕ) → All (ObjectFits (type_graph p.tables) w) os → All (ObjectFits (type_graph p.tables) w) (fold (λ qs n. changed killed n qs) os ns)
  die_fit w os [] h = h
  die_fit w os (n ∷ ns) h = die_fit w (changed killed n os) ns (dies_fit w os n h)

  pub ended_fits : (c : Configuration) (fs : List Activation) → WellTyped p t c → WellTyped p t (frames_end fs c)
  ended_fits c fs h =
      let w = world p.tables c in
      let v = world p.tables (frames_end fs c) in
      let g : Grows w v = ended_grows c fs in
      let ns = flat_map (λ (f : Activation). f.objects) fs in
      record {
        globals = globals_more p.tables w v g h.globals;
        stacks = All-weaker (StackFits p t w) (StackFits p t v) (λ s. stack_more p t w v g s) c.stacks h.stacks;
        owners = h.owners;
        objects = die_fit v c.objects ns (All-weaker (ObjectFits (type_graph p.tables) w) (ObjectFits (type_graph p.tables) v) (λ o. object_more p t w v g o) c.objects h.objects);
        log = record {
          events = All-weaker (LoggedFits (type_graph p.tables) w) (LoggedFits (type_graph p.tables) v) (λ e. logged_more p t w v g e) c.log h.log.events;
          sound = subst (λ os. IsSound c.rule os c.log) (sym (die_initial c.objects ns)) h.log.sound;
          follows = h.log.follows;
          threads = h.log.threads;
        };
        threads = All-weaker (ThreadFits p.tables w) (ThreadFits p.tables v) (λ o. thread_more p t w v g o) c.threads h.threads;
        waiters = h.waiters;
        most = h.most;
        client = h.client;
        steps = h.steps;
      }

  ended_going : (c : Configuration) (u : Turn) (fs : List Activation) → Going p t c u → Going p t (frames_end fs c) u
  ended_going c u fs g = record { fits = ended_fits c fs g.fits; frames = g.frames; there = g.there; awake = g.awake }

  -- back to the frame below
  pub returned_good : (v : World) (c : Configuration) (u : Turn) (vs : TypedValues) (f : Activation) (fs : List Activation) → Going p t c u → Turned p t (world p.tables c) u → u.below ≡ f ∷ fs →
      ValuesFit (type_graph p.tables) (world p.tables c) (t.results u.top.block) vs.values → GoesWell p t v (returns p c u vs (f ∷ fs))
  returned_good v c u vs f fs g k e fit =
      let w = world p.tables (frames_end (u.top ∷ []) c) in
      let more : Grows (world p.tables c) w = ended_grows c (u.top ∷ []) in
      let wait : BelowWait p t (world p.tables c) (t.results u.top.block) (f ∷ fs) = subst (BelowWait p t (world p.tables c) (t.results u.top.block)) e k.below in
      let late : BelowWait p t w (t.results u.top.block) (f ∷ fs) = below_more p t (world p.tables c) w more (t.results u.top.block) (f ∷ fs) wait in
      let g' = ended_going c u (u.top ∷ []) g in
      let values : ValuesFit (type_graph p.tables) w f.waits vs.values = subst (λ cs. ValuesFit (type_graph p.tables) w cs vs.values) (sym late.1) (values_more (type_graph p.tables) (world p.tables c) w (t.results u.top.block) vs.values more fit) in
      next_good p t v (frames_end (u.top ∷ []) c) u _ g' (and_then _ _ (StandsFor p t w (t.results f.block)) _ (passed_fits p t typed w g'.fits.globals f _ late.0 values) (λ x s. (s.stands, subst (λ rs. BelowWait p t w rs fs) (sym s.results) late.2)))

  pub replaces_good : (v : World) (c : Configuration) (u : Turn) (f : ℕ) (vs : List Value) → Going p t c u → Turned p t (world p.tables c) u → ActFits p t (world p.tables c) u.top.block u.top.at (acts.Replaces f vs) → GoesWell p t v (replaces p c u f vs)
  replaces_good v c u f vs g k h =
      let w = world p.tables (frames_end (u.top ∷ []) c) in
      let more : Grows (world p.tables c) w = ended_grows c (u.top ∷ []) in
      let g' = ended_going c u (u.top ∷ []) g in
      tried_good v c u _ _ (λ b. p.body f ≡ Some (Some b)) g k (body_fits f h.2) (λ b same at.
      let s = called_fits p t typed w g'.fits.globals f b vs at (values_more (type_graph p.tables) (world p.tables c) w (classes_taken p.tables f) vs more h.0) in
      next_good p t v (frames_end (u.top ∷ []) c) u (onto u (called p f vs b)) g' (s.stands, subst (λ rs. BelowWait p t w rs u.below) (sym h.1 ∙ sym s.results) (below_more p t (world p.tables c) w more (t.results u.top.block) u.below k.below)))

  pub throws_good : (v : World) (c : Configuration) (u : Turn) (e : Scalar) → Going p t c u → Turned p t (world p.tables c) u → ScalarFits (type_graph p.tables) (world p.tables c) (ref_void p.tables.types) e → GoesWell p t v (throws p c u e)
  throws_good v c u e g k h =
      tried_good v c u _ _ (λ (r : EnteredFrames). ActiveFit p t (world p.tables c) r.frames) g k
      (active_unwinds p t typed (world p.tables c) g.fits.globals e (u.top ∷ u.below) h (k.top, k.below)) (λ r same fit.
      next_good p t v (frames_end r.ended c) u (Some r.frames) (ended_going c u r.ended g) (active_more p t (world p.tables c) (world p.tables (frames_end r.ended c)) (ended_grows c r.ended) r.frames fit))
