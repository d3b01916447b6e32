-- Stacks that are left and entered.
use Rattle.std.specs.Prelude.{◌≡◌, ◌≢◌, ◌⊎◌, ◌≤◌, ◌<◌, ◌==◌, ℕ, Bool, true, false, nat_lt, List, [], ◌∷◌, ◌++◌, Option, Some, None, IsSomeAnd, All, length, slice_get, slice_set, flat_map, Ok, Err, IfOk, bytes_eq, refl, if◌then◌else◌}
use Rattle.std.proofs.Common.{sym, ◌∙◌, ap, subst, inl, inr, arith}
use Rattle.std.proofs.Math.ListN.{length-set}
use Rattle.std.proofs.lemmas.Bool.{cases_eq}
use Rattle.std.proofs.lemmas.List.Elements.{All-set, All-weaker}
use Rattle.std.proofs.lemmas.Slice.Eq.{bytes_eq-Decides}
use Rattle.mu_values.specs.declared.scalars.Scalar.{Scalar}
use Rattle.mu_values.specs.declared.scalars.Scalar.TheVariants as scalars
use Rattle.type_definitions.specs.declared.definition.TypeDef.TheVariants as types
use Rattle.check_tables.specs.Types.{stackref}
use Rattle.mem_axioms.specs.EventFits.{is_thread}
use Rattle.mem_axioms.specs.Sound.{IsSound}
use Rattle.mem_axioms.specs.declared.types.Kind.{Kind}
use Rattle.mem_axioms.specs.declared.types.Kind.TheVariants as kinds
use Rattle.std.specs.Prelude.{option_map}
use Rattle.mu_model.specs.Acts as acts
use Rattle.frames.specs.Activations.{Activation, Value}
use Rattle.model_laws.specs.Lemmas.Basics.{and_then, changed_set, set_cases, set_other, set_same, some_at, some_below, some_is}
use Rattle.model_laws.specs.Lemmas.Fitting.{Grows, globals_more}
use Rattle.model_laws.specs.Lemmas.FrameLaws.{StandsFor, WaitsFor, passed_fits, ready_unwinds, waiting_fits}
use Rattle.model_laws.specs.Lemmas.Growing.{active_more, die_initial, logged_more, object_more, stack_more, thread_more}
use Rattle.model_laws.specs.Lemmas.Happening.{IsPlain, other_races, plain_fits, plain_kind, plain_other, plain_same}
use Rattle.model_laws.specs.Lemmas.Keeps.{Going, IsFree, at_place, log_event, on_good, waiters_set, waiters_thread, world_set}
use Rattle.model_laws.specs.Lemmas.Turning.{Turned, die_fit, ended_grows, tried_good}
use Rattle.model_laws.specs.ActsFit.{ActFits, EnteringFits}
use Rattle.model_laws.specs.ClientsFit.{ClientFits}
use Rattle.model_laws.specs.FramesFit.{ActiveFit, BelowWait, FrameWaits, ReadyFit, StackFits, waits_for}
use Rattle.model_laws.specs.LogFits.{LogFits, LoggedFits, ObjectFits}
use Rattle.model_laws.specs.Places.{Places}
use Rattle.model_laws.specs.Programs.{IsTyped}
use Rattle.model_laws.specs.ThreadsFit.{IsActiveOn, IsOn, Owned, ThreadFits, WaitersFit, is_waiting}
use Rattle.model_laws.specs.Values.{HasGlobals, ValuesFit, world}
use Rattle.model_laws.specs.WellTyped.{GoesWell, WellTyped}
use Rattle.mu_model.specs.Acts.{Entering, Misfits, Passes, Program, ThrowsInto}
use Rattle.mu_model.specs.Answers.{typed}
use Rattle.mu_model.specs.Changes.{changed, event, frames_end, logged, stack_becomes, stack_dies}
use Rattle.mu_model.specs.Configuration.{Active, Configuration, Dead, Ready, Stack, Thread}
use Rattle.mu_model.specs.EnteringStacks.{values_entered, entered, entering, enters, swaps_killing, leaving, most_threads, on_stack, ready, ready_at, swaps}
use Rattle.mu_model.specs.Exceptions.{EnteredFrames, finishes}
use Rattle.mu_model.specs.Frames.{passed}
use Rattle.mu_model.specs.Outcomes.{Outcome}
use Rattle.mu_model.specs.Turns.{Turn, waiting}
use Rattle.mu_model.specs.Types.{type_graph}
use Rattle.mu_model.specs.declared.endings.Case.TheVariants.{StackTypes}
use Rattle.mu_model.specs.declared.lines.Line.{Line}
use Rattle.mu_model.specs.declared.lines.Note.{Note}
use Rattle.typed_heap.specs.Fits.{DefinitionFits, ScalarFits, World, signature_classes}
use Rattle.typed_heap.specs.Places.{with_some}

-- ---- all but the owners

pub record PartsFit (p : Program) (t : Places) (c : Configuration) : Type 0 where
  pub globals : HasGlobals p.tables (world p.tables c)
  pub stacks : All (StackFits p t (world p.tables c)) c.stacks
  pub objects : All (ObjectFits (type_graph p.tables) (world p.tables c)) c.objects
  pub log : LogFits p c
  pub threads : All (ThreadFits p.tables (world p.tables c)) c.threads
  pub waiters : WaitersFit p c.threads c.stacks c.waiters
  pub client : ClientFits p.tables c.client
  pub steps : c.steps ≤ c.budget

pub parts_of : (p : Program) (t : Places) (c : Configuration) → WellTyped p t c → PartsFit p t c
parts_of p t c h = record { globals = h.globals; stacks = h.stacks; objects = h.objects; log = h.log; threads = h.threads; waiters = h.waiters; client = h.client; steps = h.steps }

pub whole : (p : Program) (t : Places) (c : Configuration) → PartsFit p t c → Owned c.threads c.stacks → length c.threads ≤ most_threads → WellTyped p t c
whole p t c h o most = record { globals = h.globals; stacks = h.stacks; owners = o; objects = h.objects; log = h.log; threads = h.threads; waiters = h.waiters; most = most; client = h.client; steps = h.steps }

-- a thread is on no stack, or ends
pub record OwnedBut (ts : List (Option Thread)) (ss : List Stack) (i : ℕ) : Type 0 where
  pub stacks : (j : ℕ) (t : Thread) → j ≢ i → slice_get ts j ≡ Some (Some t) → IsSomeAnd (slice_get ss t.stack) (IsActiveOn j)
  pub threads : (j k : ℕ) (fs : List Activation) → slice_get ss k ≡ Some (Active j fs) → (j ≢ i) × IsSomeAnd (slice_get ts j) (IsOn k)

abbrev pub IsOff : Stack → Type 0
IsOff (Ready fs) = Unit {0}
IsOff (Active i fs) = ⊥
IsOff Dead = Unit {0}

pub one_stack : (o : Option (Option Thread)) (k m : ℕ) → IsSomeAnd o (IsOn k) → IsSomeAnd o (IsOn m) → k ≡ m
one_stack None k m h j = absurd h
one_stack (Some None) k m h j = absurd h
one_stack (Some (Some t)) k m h j = sym h ∙ j

pub owned_off : (ts : List (Option Thread)) (ss : List Stack) (k i : ℕ) (old : List Activation) (new : Stack) → Owned ts ss → slice_get ss k ≡ Some (Active i old) → IsOff new → OwnedBut ts (slice_set ss k new) i
owned_off ts ss k i old new o there off = record {
  stacks = λ j t n e. upon j t.stack n (cases_eq k t.stack) (o.stacks j t e);
  threads = λ j m gs e. by j m gs (set_cases ss k m new (Active j gs) e);
}
  where
    upon : (j m : ℕ) → j ≢ i → (k ≡ m) ⊎ (k ≡ m → ⊥) → IsSomeAnd (slice_get ss m) (IsActiveOn j) → IsSomeAnd (slice_get (slice_set ss k new) m) (IsActiveOn j)
    upon j m other (inl e) h = absurd (other (sym (some_at _ (IsActiveOn j) (Active i old) there (subst (λ n. IsSomeAnd (slice_get ss n) (IsActiveOn j)) (sym e) h))))
    upon j m other (inr n) h = subst (λ x. IsSomeAnd x (IsActiveOn j)) (sym (set_other ss k m new n)) h

    by : (j m : ℕ) (gs : List Activation) → ((k ≡ m) × (Active j gs ≡ new)) ⊎ ((k ≢ m) × (slice_get ss m ≡ Some (Active j gs))) → (j ≢ i) × IsSomeAnd (slice_get ts j) (IsOn m)
    by j m gs (inl r) = absurd (subst IsOff (sym r.1) off)
    by j m gs (inr r) =
        let here = o.threads j m gs r.1 in
        ((λ e. r.0 (one_stack (slice_get ts i) k m (o.threads i k old there) (subst (λ n. IsSomeAnd (slice_get ts n) (IsOn m)) e here))), here)

-- a stack that is on no thread stays so
pub owned_aside : (ts : List (Option Thread)) (ss : List Stack) (k i : ℕ) (old : List Activation) (new : Stack) → OwnedBut ts ss i → slice_get ss k ≡ Some (Ready old) → IsOff new → OwnedBut ts (slice_set ss k new) i
owned_aside ts ss k i old new o there off = record {
  stacks = λ j t n e. upon j t.stack (cases_eq k t.stack) (o.stacks j t n e);
  threads = λ j m gs e. by j m gs (set_cases ss k m new (Active j gs) e);
}
  where
    upon : (j m : ℕ) → (k ≡ m) ⊎ (k ≡ m → ⊥) → IsSomeAnd (slice_get ss m) (IsActiveOn j) → IsSomeAnd (slice_get (slice_set ss k new) m) (IsActiveOn j)
    upon j m (inl e) h = absurd (some_at _ (IsActiveOn j) (Ready old) there (subst (λ n. IsSomeAnd (slice_get ss n) (IsActiveOn j)) (sym e) h))
    upon j m (inr n) h = subst (λ x. IsSomeAnd x (IsActiveOn j)) (sym (set_other ss k m new n)) h

    by : (j m : ℕ) (gs : List Activation) → ((k ≡ m) × (Active j gs ≡ new)) ⊎ ((k ≢ m) × (slice_get ss m ≡ Some (Active j gs))) → (j ≢ i) × IsSomeAnd (slice_get ts j) (IsOn m)
    by j m gs (inl r) = absurd (subst IsOff (sym r.1) off)
    by j m gs (inr r) = o.threads j m gs r.1

pub owned_on : (ts : List (Option Thread)) (ss : List Stack) (k i : ℕ) (th : Thread) (old fs : List Activation) → OwnedBut ts ss i → slice_get ts i ≡ Some (Some th) → slice_get ss k ≡ Some (Ready old) →
    Owned (slice_set ts i (Some (record th { stack = k }))) (slice_set ss k (Active i fs))
owned_on ts ss k i th old fs o here there = record {
  stacks = λ j t e. upon j t (set_cases ts i j (Some (record th { stack = k })) (Some t) e);
  threads = λ j m gs e. by j m gs (set_cases ss k m (Active i fs) (Active j gs) e);
}
  where
    away : (j m : ℕ) → (k ≡ m) ⊎ (k ≡ m → ⊥) → IsSomeAnd (slice_get ss m) (IsActiveOn j) → IsSomeAnd (slice_get (slice_set ss k (Active i fs)) m) (IsActiveOn j)
    away j m (inl e) h = absurd (some_at _ (IsActiveOn j) (Ready old) there (subst (λ n. IsSomeAnd (slice_get ss n) (IsActiveOn j)) (sym e) h))
    away j m (inr n) h = subst (λ x. IsSomeAnd x (IsActiveOn j)) (sym (set_other ss k m (Active i fs) n)) h

    upon : (j : ℕ) (t : Thread) → ((i ≡ j) × (Some t ≡ Some (record th { stack = k }))) ⊎ ((i ≢ j) × (slice_get ts j ≡ Some (Some t))) → IsSomeAnd (slice_get (slice_set ss k (Active i fs)) t.stack) (IsActiveOn j)
    upon j t (inl r) =
        let stack : k ≡ t.stack = cc in
        some_is _ (IsActiveOn j) (Active i fs) (ap (λ n. slice_get (slice_set ss k (Active i fs)) n) (sym stack) ∙ set_same ss k (Active i fs) (Ready old) there) r.0
    upon j t (inr r) = away j t.stack (cases_eq k t.stack) (o.stacks j t (λ e. r.0 (sym e)) r.1)

    by : (j m : ℕ) (gs : List Activation) → ((k ≡ m) × (Active j gs ≡ Active i fs)) ⊎ ((k ≢ m) × (slice_get ss m ≡ Some (Active j gs))) → IsSomeAnd (slice_get (slice_set ts i (Some (record th { stack = k }))) j) (IsOn m)
    by j m gs (inl r) =
        let same : i ≡ j = cc in
        subst (λ n. IsSomeAnd (slice_get (slice_set ts i (Some (record th { stack = k }))) n) (IsOn m)) same (some_is _ (IsOn m) (Some (record th { stack = k })) (set_same ts i (Some (record th { stack = k })) (Some th) here) r.0)
    by j m gs (inr r) =
        let h = o.threads j m gs r.1 in
        subst (λ x. IsSomeAnd x (IsOn m)) (sym (set_other ts i j (Some (record th { stack = k })) (λ e. h.0 (sym e)))) h.1

pub owned_gone : (ts : List (Option Thread)) (ss : List Stack) (i : ℕ) → OwnedBut ts ss i → Owned (slice_set ts i None) ss
owned_gone ts ss i o = record {
  stacks = λ j t e. upon j t (set_cases ts i j None (Some t) e);
  threads = λ j m gs e. (let h = o.threads j m gs e in subst (λ x. IsSomeAnd x (IsOn m)) (sym (set_other ts i j None (λ e. h.0 (sym e)))) h.1);
}
  where
    upon : (j : ℕ) (t : Thread) → ((i ≡ j) × (Some t ≡ None)) ⊎ ((i ≢ j) × (slice_get ts j ≡ Some (Some t))) → IsSomeAnd (slice_get ss t.stack) (IsActiveOn j)
    upon j t (inl r) = cc
    upon j t (inr r) = o.stacks j t (λ e. r.0 (sym e)) r.1

-- ---- changes of the parts

module _ (p : Program) (t : Places) where
  pub parts_stack : (c : Configuration) (k i : ℕ) (old new : Stack) → PartsFit p t c → slice_get c.stacks k ≡ Some old → IsFree i old → is_waiting c.waiters i ≡ false → StackFits p t (world p.tables c) new → PartsFit p t (stack_becomes k new c)
  parts_stack c k i old new h there free awake fit =
      let same : world p.tables c ≡ world p.tables (stack_becomes k new c) = sym (world_set p.tables c k new) in
      record {
        globals = subst (HasGlobals p.tables) same h.globals;
        stacks = subst (λ v. All (StackFits p t v) (slice_set c.stacks k new)) same (All-set (StackFits p t (world p.tables c)) c.stacks k new fit h.stacks);
        objects = subst (λ v. All (ObjectFits (type_graph p.tables) v) c.objects) same h.objects;
        log = record { events = subst (λ v. All (LoggedFits (type_graph p.tables) v) c.log) same h.log.events; sound = h.log.sound; follows = h.log.follows; threads = h.log.threads };
        threads = subst (λ v. All (ThreadFits p.tables v) c.threads) same h.threads;
        waiters = waiters_set p c.threads c.stacks k i old new c.waiters there free awake h.waiters;
        client = h.client;
        steps = h.steps;
      }

  pub parts_thread : (c : Configuration) (i : ℕ) (o : Option Thread) → PartsFit p t c → is_waiting c.waiters i ≡ false → ThreadFits p.tables (world p.tables c) o → PartsFit p t (record c { threads = slice_set c.threads i o })
  parts_thread c i o h awake fit =
      let d = record c { threads = slice_set c.threads i o } in
      let long : length c.threads ≡ length (slice_set c.threads i o) = sym (length-set c.threads i o) in
      let same : world p.tables c ≡ world p.tables d = ap (λ n. record { objects = c.objects; signatures = signature_classes p.tables; stacks = length c.stacks; threads = n }) long in
      record {
        globals = subst (HasGlobals p.tables) same h.globals;
        stacks = subst (λ v. All (StackFits p t v) c.stacks) same h.stacks;
        objects = subst (λ v. All (ObjectFits (type_graph p.tables) v) c.objects) same h.objects;
        log = record { events = subst (λ v. All (LoggedFits (type_graph p.tables) v) c.log) same h.log.events; sound = h.log.sound; follows = h.log.follows; threads = λ j. h.log.threads j ∙ ap (nat_lt j) long };
        threads = subst (λ v. All (ThreadFits p.tables v) (slice_set c.threads i o)) same (All-set (ThreadFits p.tables (world p.tables c)) c.threads i o fit h.threads);
        waiters = waiters_thread p c.threads c.stacks i o c.waiters awake h.waiters;
        client = h.client;
        steps = h.steps;
      }

  pub parts_logged : (c : Configuration) (i : ℕ) (k : Kind) → PartsFit p t c → IsPlain k → is_thread c.log i ≡ true → PartsFit p t (logged i k c)
  parts_logged c i k h plain is = record {
    globals = h.globals;
    stacks = h.stacks;
    objects = h.objects;
    log = log_event p c (event i k) h.log (plain_fits c.rule _ c.log i k plain is) (other_races c.rule c.log i k (plain_other k plain)) (plain_kind (type_graph p.tables) (world p.tables c) k plain) (plain_same c.log i k plain);
    threads = h.threads;
    waiters = h.waiters;
    client = h.client;
    steps = h.steps;
  }

  -- what it writes does not matter
  pub parts_written : (c : Configuration) (ls : List Line) → PartsFit p t c → PartsFit p t (record c { lines = ls })
  parts_written c ls h = record { globals = h.globals; stacks = h.stacks; objects = h.objects; log = record { events = h.log.events; sound = h.log.sound; follows = h.log.follows; threads = h.log.threads }; threads = h.threads; waiters = h.waiters; client = h.client; steps = h.steps }

  pub parts_ended : (c : Configuration) (fs : List Activation) → IsTyped p t → PartsFit p t c → PartsFit p t (frames_end fs c)
  parts_ended c fs typed h =
      let w = world p.tables c in
      let v = world p.tables (frames_end fs c) in
      let g : Grows w v = ended_grows p t typed c fs in
      let ns = flat_map (λ (f : Activation). f.objects) fs in
      record {
        globals = globals_more p.tables w v g h.globals;
        stacks = All-weaker (StackFits p t w) (StackFits p t v) (λ s. stack_more p t w v g s) c.stacks h.stacks;
        objects = die_fit p t typed v c.objects ns (All-weaker (ObjectFits (type_graph p.tables) w) (ObjectFits (type_graph p.tables) v) (λ o. object_more p t w v g o) c.objects h.objects);
        log = record {
          events = All-weaker (LoggedFits (type_graph p.tables) w) (LoggedFits (type_graph p.tables) v) (λ e. logged_more p t w v g e) c.log h.log.events;
          sound = subst (λ os. IsSound c.rule os c.log) (sym (die_initial c.objects ns)) h.log.sound;
          follows = h.log.follows;
          threads = h.log.threads;
        };
        threads = All-weaker (ThreadFits p.tables w) (ThreadFits p.tables v) (λ o. thread_more p t w v g o) c.threads h.threads;
        waiters = h.waiters;
        client = h.client;
        steps = h.steps;
      }

-- ---- a thread that is on no stack

pub record Moving (p : Program) (t : Places) (c : Configuration) (i : ℕ) : Type 0 where
  pub parts : PartsFit p t c
  pub owners : OwnedBut c.threads c.stacks i
  pub thread : Thread
  pub there : slice_get c.threads i ≡ Some (Some thread)
  pub awake : is_waiting c.waiters i ≡ false
  pub known : is_thread c.log i ≡ true
  pub most : length c.threads ≤ most_threads

module _ (p : Program) (t : Places) (typed : IsTyped p t) where
  -- it enters a stack that is ready
  pub enters_good : (c : Configuration) (i k : ℕ) (old : List Activation) (r : EnteredFrames) → Moving p t c i → slice_get c.stacks k ≡ Some (Ready old) → ActiveFit p t (world p.tables c) r.frames → WellTyped p t (enters i k r c)
  enters_good c i k old r m there fit =
      subst (λ ts. WellTyped p t (frames_end r.ended (logged i (kinds.Enter k) (stack_becomes k (Active i r.frames) (record c { threads = ts }))))) (sym moves)
      (whole p t _ all (owned_on c.threads c.stacks k i m.thread old r.frames m.owners m.there there) (omega (arith, m.most, length-set c.threads i (Some upon))))
    where
      upon : Thread
      upon = record m.thread { stack = k }

      moves : changed (option_map (on_stack k)) i c.threads ≡ slice_set c.threads i (Some upon)
      moves = changed_set (option_map (on_stack k)) c.threads i (Some m.thread) m.there

      c1 : Configuration
      c1 = record c { threads = slice_set c.threads i (Some upon) }

      same : world p.tables c ≡ world p.tables c1
      same = ap (λ n. record { objects = c.objects; signatures = signature_classes p.tables; stacks = length c.stacks; threads = n }) (sym (length-set c.threads i (Some upon)))

      parts1 : PartsFit p t c1
      parts1 = parts_thread p t c i (Some upon) m.parts m.awake (at_place (ThreadFits p.tables (world p.tables c)) c.threads i (Some m.thread) m.parts.threads m.there)

      all : PartsFit p t (frames_end r.ended (logged i (kinds.Enter k) (stack_becomes k (Active i r.frames) c1)))
      all =
          let parts2 = parts_stack p t c1 k i (Ready old) (Active i r.frames) parts1 there tt m.awake (subst (λ w. ActiveFit p t w r.frames) same fit) in
          let parts3 = parts_logged p t (stack_becomes k (Active i r.frames) c1) i (kinds.Enter k) parts2 tt m.known in
          parts_ended p t (logged i (kinds.Enter k) (stack_becomes k (Active i r.frames) c1)) r.ended typed parts3

  -- it ends
  pub ends_good : (c : Configuration) (i : ℕ) (ls : List Line) → Moving p t c i → WellTyped p t (record c { threads = slice_set c.threads i None; lines = ls })
  ends_good c i ls m =
      whole p t _ (parts_written p t _ ls (parts_thread p t c i None m.parts m.awake tt)) (owned_gone c.threads c.stacks i m.owners) (omega (arith, m.most, length-set c.threads i nothing))
    where
      nothing : Option Thread
      nothing = None

  -- ---- a stack that is entered

  pub ready_fits : (c : Configuration) (s : Scalar) → ScalarFits (type_graph p.tables) (world p.tables c) (stackref p.tables.types) s → IsSomeAnd (ready c.stacks s) (λ r. IfOk r (λ x. slice_get c.stacks x.0 ≡ Some (Ready x.1)))
  ready_fits c s h = by s (some_at _ (λ d. DefinitionFits (type_graph p.tables) (world p.tables c) d s) types.StackRef typed.types.stackref.definition h)
    where
      at : (k : ℕ) (x : Stack) → slice_get c.stacks k ≡ Some x → IfOk (ready_at k x) (λ x. slice_get c.stacks x.0 ≡ Some (Ready x.1))
      at k (Ready fs) e = e
      at k (Active i fs) e = tt
      at k Dead e = tt

      by : (s : Scalar) → DefinitionFits (type_graph p.tables) (world p.tables c) types.StackRef s → IsSomeAnd (ready c.stacks s) (λ r. IfOk r (λ x. slice_get c.stacks x.0 ≡ Some (Ready x.1)))
      by scalars.Null h = tt
      by (scalars.Stack k) h =
          let x = some_below c.stacks k h in
          and_then (slice_get c.stacks k) _ (λ s. slice_get c.stacks k ≡ Some s) _ (some_is _ _ x.0 x.1 x.1) (λ s e. at k s e)
      by _ h = absurd h

  bound_fits : (w : World) → HasGlobals p.tables w → (f : Activation) (fs : List Activation) (cs : List ℕ) (vs : List Value) → ReadyFit p t w (f ∷ fs) → ValuesFit (type_graph p.tables) w cs vs → IsSomeAnd (values_entered p f fs cs vs) (λ r. IfOk r (λ (en : EnteredFrames). ActiveFit p t w en.frames))
  bound_fits w globals f fs cs vs h fit = by (bytes_eq cs f.waits) refl
    where
      by : (b : Bool) → bytes_eq cs f.waits ≡ b → IsSomeAnd (if b then with_some (passed p f vs) (λ g. Some (Ok (record { frames = g ∷ fs; ended = [] }))) else Some (Err StackTypes)) (λ r. IfOk r (λ (en : EnteredFrames). ActiveFit p t w en.frames))
      by false e = tt
      by true e =
          let same : cs ≡ f.waits = (bytes_eq-Decides cs f.waits).0 e in
          and_then (passed p f vs) _ (StandsFor p t w (t.results f.block)) _ (passed_fits p t typed w globals f vs h.0 (subst (λ ks. ValuesFit (type_graph p.tables) w ks vs) same fit)) (λ g s. (s.stands, subst (λ rs. BelowWait p t w rs fs) (sym s.results) h.1))

  pub entered_fits : (w : World) → HasGlobals p.tables w → (fs : List Activation) (e : Entering) → ReadyFit p t w fs → EnteringFits p.tables w e → IsSomeAnd (entered p fs e) (λ r. IfOk r (λ (en : EnteredFrames). ActiveFit p t w en.frames))
  entered_fits w globals [] e h fit = absurd h
  entered_fits w globals (f ∷ fs) (Passes cs vs) h fit = bound_fits w globals f fs cs vs h fit
  entered_fits w globals (f ∷ fs) (ThrowsInto e) h fit = ready_unwinds p t typed w globals e (f ∷ fs) fit h
  entered_fits w globals (f ∷ fs) Misfits h fit = tt

  pub entering_good : (v : World) (c : Configuration) (u : Turn) (s : Scalar) (e : Entering) (go : ℕ → EnteredFrames → Outcome) → Going p t c u → Turned p t (world p.tables c) u → ScalarFits (type_graph p.tables) (world p.tables c) (stackref p.tables.types) s → EnteringFits p.tables (world p.tables c) e →
      ((k : ℕ) (old : List Activation) (r : EnteredFrames) → slice_get c.stacks k ≡ Some (Ready old) → ActiveFit p t (world p.tables c) r.frames → GoesWell p t v (go k r)) → GoesWell p t v (entering p c u s e go)
  entering_good v c u s e go g k hs he good =
      tried_good p t typed v c u _ _ (λ x. slice_get c.stacks x.0 ≡ Some (Ready x.1)) g k (ready_fits c s hs) (λ x same there.
      tried_good p t typed v c u _ _ (λ (en : EnteredFrames). ActiveFit p t (world p.tables c) en.frames) g k (entered_fits (world p.tables c) g.fits.globals x.1 e (at_place (StackFits p t (world p.tables c)) c.stacks x.0 (Ready x.1) g.fits.stacks there) he) (λ r same' fit.
      good x.0 x.1 r there fit))

  -- ---- the stack that is left

  abbrev pub WaitsForAny : World → List ℕ → Activation → Type 0
  WaitsForAny w rs f = FrameWaits p t w f × (t.results f.block ≡ rs)

  pub left_moving : (c : Configuration) (u : Turn) (f : Activation) (th : Thread) → Going p t c u → slice_get c.threads u.thread ≡ Some (Some th) → is_thread c.log u.thread ≡ true → WaitsForAny (world p.tables c) (t.results u.top.block) f → BelowWait p t (world p.tables c) (t.results u.top.block) u.below → Moving p t (leaving u f c) u.thread
  left_moving c u f th g there known h below =
      let stack = Ready (f ∷ u.below) in
      let parts1 = parts_stack p t c u.stack u.thread (Active u.thread g.frames) stack (parts_of p t c g.fits) g.there refl g.awake (h.0, subst (λ rs. BelowWait p t (world p.tables c) rs u.below) (sym h.1) below) in
      record {
        parts = parts_logged p t (stack_becomes u.stack stack c) u.thread (kinds.Leave u.stack) parts1 tt known;
        owners = owned_off c.threads c.stacks u.stack u.thread g.frames stack g.fits.owners g.there tt;
        thread = th;
        there = there;
        awake = g.awake;
        known = known;
        most = g.fits.most;
      }

  dead_moving : (c : Configuration) (u : Turn) (fs : List Activation) (th : Thread) → Going p t c u → slice_get c.threads u.thread ≡ Some (Some th) → is_thread c.log u.thread ≡ true → Moving p t (stack_dies u.stack fs c) u.thread
  dead_moving c u fs th g there known = record {
    parts = parts_ended p t (stack_becomes u.stack Dead c) fs typed (parts_stack p t c u.stack u.thread (Active u.thread g.frames) Dead (parts_of p t c g.fits) g.there refl g.awake tt);
    owners = owned_off c.threads c.stacks u.stack u.thread g.frames Dead g.fits.owners g.there tt;
    thread = th;
    there = there;
    awake = g.awake;
    known = known;
    most = g.fits.most;
  }

  -- what a frame that was left with does not depend on the stack that is left
  pub left_same : (c : Configuration) (u : Turn) (f : Activation) → world p.tables c ≡ world p.tables (leaving u f c)
  left_same c u f = sym (world_set p.tables c u.stack (Ready (f ∷ u.below)))

  -- a stack that is ready is not the one that is left
  pub other_stack : (c : Configuration) (u : Turn) (k : ℕ) (old : List Activation) (new : Stack) → Going p t c u → slice_get c.stacks k ≡ Some (Ready old) → slice_get (slice_set c.stacks u.stack new) k ≡ Some (Ready old)
  other_stack c u k old new g there = set_other c.stacks u.stack k new (λ e. not_both (slice_get c.stacks k) there (ap (slice_get c.stacks) (sym e) ∙ g.there)) ∙ there
    where
      not_both : (o : Option Stack) → o ≡ Some (Ready old) → o ≡ Some (Active u.thread g.frames) → ⊥
      not_both o a b = cc

  pub swaps_good : (v : World) (c : Configuration) (u : Turn) (s : Scalar) (cs : List ℕ) (e : Entering) (th : Thread) → Going p t c u → Turned p t (world p.tables c) u → slice_get c.threads u.thread ≡ Some (Some th) → is_thread c.log u.thread ≡ true →
      u.doing.act ≡ Some (acts.Swaps s cs e) → ActFits p t (world p.tables c) u.top.block u.top.at (acts.Swaps s cs e) → GoesWell p t v (swaps p c u s cs e)
  swaps_good v c u s cs e th g k there known act h =
      on_good p t v (waiting u cs) _ (WaitsFor p t (world p.tables c) (t.results u.top.block) cs) (waiting_fits p t typed (world p.tables c) g.fits.globals u cs k.top k.doing k.does (ap (λ o. with_some o (waits_for p.tables)) act)) (λ f q fit.
      entering_good v c u s e _ g k h.0 h.2 (λ n old r at frames.
      enters_good (leaving u f c) u.thread n old r (left_moving c u f th g there known (fit.waits, fit.results) k.below) (other_stack c u n old (Ready (f ∷ u.below)) g at) (subst (λ w. ActiveFit p t w r.frames) (left_same c u f) frames)))

  pub leaves_good : (v : World) (c : Configuration) (u : Turn) (s : Scalar) (e : Entering) (th : Thread) → Going p t c u → Turned p t (world p.tables c) u → slice_get c.threads u.thread ≡ Some (Some th) → is_thread c.log u.thread ≡ true →
      ActFits p t (world p.tables c) u.top.block u.top.at (acts.Leaves s e) → GoesWell p t v (swaps_killing p c u s e)
  leaves_good v c u s e th g k there known h = entering_good v c u s e _ g k h.0 h.1 (λ n old r at frames.
      let d = stack_dies u.stack (u.top ∷ u.below) c in
      enters_good d u.thread n old r (dead_moving c u (u.top ∷ u.below) th g there known) (other_stack c u n old Dead g at)
      (active_more p t (world p.tables (stack_becomes u.stack Dead c)) (world p.tables d) (ended_grows p t typed (stack_becomes u.stack Dead c) (u.top ∷ u.below)) r.frames (subst (λ w. ActiveFit p t w r.frames) (sym (world_set p.tables c u.stack Dead)) frames)))

  pub finishes_good : (v : World) (c : Configuration) (u : Turn) (n : Note) (th : Thread) → Going p t c u → slice_get c.threads u.thread ≡ Some (Some th) → is_thread c.log u.thread ≡ true → GoesWell p t v (finishes c u n)
  finishes_good v c u n th g there known = ends_good (stack_dies u.stack (u.top ∷ u.below) c) u.thread _ (dead_moving c u (u.top ∷ u.below) th g there known)
