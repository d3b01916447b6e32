-- Parts of a well typed configuration, where stacks, threads and the log change.
use Rattle.std.specs.Prelude.{◌≡◌, ◌≢◌, ◌⊎◌, ◌≤◌, ◌<◌, ◌==◌, ◌||◌, ℕ, Bool, true, false, List, [], ◌∷◌, ◌++◌, Option, Some, None, IsSomeAnd, All, length, slice_get, slice_set, map, refl}
use Rattle.std.proofs.Common.{sym, ◌∙◌, ap, subst, inl, inr}
use Rattle.std.proofs.Math.ListN.{length-set}
use Rattle.std.proofs.lemmas.Bool.{cases_eq, false≢true}
use Rattle.std.proofs.lemmas.Bool.Decides.{eqb_tells}
use Rattle.std.proofs.lemmas.List.Elements.{All-set, All-cons, All-get_or}
use Rattle.std.proofs.lemmas.Option.{slice_get_within, get_or_from_slice_get}
use Rattle.mem_axioms.specs.EventFits.{is_thread, EventFits}
use Rattle.mem_axioms.specs.Sound.{IsSound}
use Rattle.mem_axioms.specs.Races.{race}
use Rattle.mem_axioms.specs.declared.types.Event.{Event}
use Rattle.mem_axioms.specs.declared.types.Rule.{Rule}
use Rattle.mem_axioms.specs.declared.types.Kind.{Kind}
use Rattle.mem_axioms.specs.declared.types.Kind.TheVariants as kinds
use Rattle.mem_axioms.specs.Lemmas.Growing.{sound-more}
use Rattle.check_tables.specs.declared.tables.Tables.{Tables}
use Rattle.mu_values.specs.declared.scalars.Scalar.{Scalar}
use Rattle.frames.specs.Activations.{Activation}
use Rattle.model_laws.specs.Lemmas.Basics.{set_cases, set_other, set_same, some_at, some_is, some_more}
use Rattle.model_laws.specs.FramesFit.{ActiveFit, StackFits}
use Rattle.model_laws.specs.LogFits.{EachFollows, KindFollows, LogFits, LoggedFits, ObjectFits}
use Rattle.model_laws.specs.Places.{Places}
use Rattle.model_laws.specs.ThreadsFit.{IsActiveOn, IsAtWait, IsOn, Owned, ThreadAtWait, ThreadFits, WaitersFit, is_waiting}
use Rattle.model_laws.specs.Values.{HasGlobals, world}
use Rattle.model_laws.specs.WellTyped.{GoesWell, Settles, WellTyped}
use Rattle.mu_model.specs.Acts.{Program}
use Rattle.mu_model.specs.Changes.{event, logged, logged_event, stack_becomes}
use Rattle.futex.specs.declared.waiters.Waiter.{Waiter}
use Rattle.mu_model.specs.Configuration.{Active, Configuration, Dead, Ready, Stack, Thread}
use Rattle.mu_model.specs.Outcomes.{Outcome, next, on}
use Rattle.mu_model.specs.Turns.{Turn}
use Rattle.mu_model.specs.Types.{type_graph}
use Rattle.typed_heap.specs.Fits.{World, fits, signature_classes}
use Rattle.typed_heap.specs.Objects.{HeapObject}

pub at_place : {A : Type 0} (P : A → Type 0) (xs : List A) (i : ℕ) (x : A) → All P xs → slice_get xs i ≡ Some x → P x
at_place P xs i x h e = subst P (get_or_from_slice_get xs i x x e) (All-get_or P xs i x (slice_get_within xs i x e) h)

-- ---- stacks

pub world_set : (p : Tables) (c : Configuration) (k : ℕ) (s : Stack) → world p (stack_becomes k s c) ≡ world p c
world_set p c k s = ap (λ n. record { objects = c.objects; signatures = signature_classes p; stacks = n; threads = length c.threads }) (length-set c.stacks k s)

-- a stack stays on its thread
pub owned_set : (ts : List (Option Thread)) (ss : List Stack) (k i : ℕ) (old fs : List Activation) → Owned ts ss → slice_get ss k ≡ Some (Active i old) → Owned ts (slice_set ss k (Active i fs))
owned_set ts ss k i old fs o there = record {
  stacks = λ j t e. upon j t.stack (cases_eq k t.stack) (o.stacks j t e);
  threads = λ j m gs e. by j m gs (set_cases ss k m (Active i fs) (Active j gs) e);
}
  where
    upon : (j m : ℕ) → (k ≡ m) ⊎ (k ≡ m → ⊥) → IsSomeAnd (slice_get ss m) (IsActiveOn j) → IsSomeAnd (slice_get (slice_set ss k (Active i fs)) m) (IsActiveOn j)
    upon j m (inl e) h =
        let same : i ≡ j = some_at _ (IsActiveOn j) (Active i old) there (subst (λ n. IsSomeAnd (slice_get ss n) (IsActiveOn j)) (sym e) h) in
        some_is _ _ (Active i fs) (ap (λ n. slice_get (slice_set ss k (Active i fs)) n) (sym e) ∙ set_same ss k (Active i fs) (Active i old) there) same
    upon j m (inr n) h = subst (λ x. IsSomeAnd x (IsActiveOn j)) (sym (set_other ss k m (Active i fs) n)) h

    by : (j m : ℕ) (gs : List Activation) → ((k ≡ m) × (Active j gs ≡ Active i fs)) ⊎ ((k ≢ m) × (slice_get ss m ≡ Some (Active j gs))) → IsSomeAnd (slice_get ts j) (IsOn m)
    by j m gs (inl r) = let same : j ≡ i = cc in subst (λ n. IsSomeAnd (slice_get ts n) (IsOn m)) (sym same) (subst (λ n. IsSomeAnd (slice_get ts i) (IsOn n)) r.0 (o.threads i k old there))
    by j m gs (inr r) = o.threads j m gs r.1

-- ---- waiters

-- no thread but i waits on the stack
abbrev pub IsFree : ℕ → Stack → Type 0
IsFree i (Ready fs) = Unit {0}
IsFree i (Active j fs) = j ≡ i
IsFree i Dead = Unit {0}

free_waits : (p : Program) (w : Waiter) (i : ℕ) (s : Stack) → IsFree i s → IsAtWait p w s → w.thread ≡ i
free_waits p w i (Ready fs) f h = absurd h
free_waits p w i (Active j []) f h = absurd h
free_waits p w i (Active j (x ∷ fs)) f h = sym h.0 ∙ f
free_waits p w i Dead f h = absurd h

or_false : (a b : Bool) → (a || b) ≡ false → (a ≡ false) × (b ≡ false)
or_false false b e = (refl, e)
or_false true b e = cc

pub waiters_set : (p : Program) (ts : List (Option Thread)) (ss : List Stack) (k i : ℕ) (old new : Stack) (ws : List Waiter) → slice_get ss k ≡ Some old → IsFree i old → is_waiting ws i ≡ false →
    WaitersFit p ts ss ws → WaitersFit p ts (slice_set ss k new) ws
waiters_set p ts ss k i old new [] there free none h = tt
waiters_set p ts ss k i old new (w ∷ ws) there free none h =
    (some_more _ (ThreadAtWait p ss w) (ThreadAtWait p (slice_set ss k new) w) one h.0, h.1, waiters_set p ts ss k i old new ws there free (or_false (w.thread == i) (is_waiting ws i) none).1 h.2)
  where
    other : w.thread ≡ i → ⊥
    other e = elim (eqb_tells w.thread i) [ inl r ↦ false≢true (sym (or_false (w.thread == i) (is_waiting ws i) none).0 ∙ r.0) | inr r ↦ r.1 e ]

    at : (m : ℕ) → (k ≡ m) ⊎ (k ≡ m → ⊥) → IsSomeAnd (slice_get ss m) (IsAtWait p w) → IsSomeAnd (slice_get (slice_set ss k new) m) (IsAtWait p w)
    at m (inl e) h = absurd (other (free_waits p w i old free (some_at _ (IsAtWait p w) old there (subst (λ n. IsSomeAnd (slice_get ss n) (IsAtWait p w)) (sym e) h))))
    at m (inr n) h = subst (λ x. IsSomeAnd x (IsAtWait p w)) (sym (set_other ss k m new n)) h

    one : (o : Option Thread) → ThreadAtWait p ss w o → ThreadAtWait p (slice_set ss k new) w o
    one None h = h
    one (Some t) h = at t.stack (cases_eq k t.stack) h

pub waiters_thread : (p : Program) (ts : List (Option Thread)) (ss : List Stack) (i : ℕ) (o : Option Thread) (ws : List Waiter) → is_waiting ws i ≡ false →
    WaitersFit p ts ss ws → WaitersFit p (slice_set ts i o) ss ws
waiters_thread p ts ss i o [] none h = tt
waiters_thread p ts ss i o (w ∷ ws) none h =
    (subst (λ x. IsSomeAnd x (ThreadAtWait p ss w)) (sym (set_other ts i w.thread o other)) h.0, h.1, waiters_thread p ts ss i o ws (or_false (w.thread == i) (is_waiting ws i) none).1 h.2)
  where
    other : i ≡ w.thread → ⊥
    other e = elim (eqb_tells w.thread i) [ inl r ↦ false≢true (sym (or_false (w.thread == i) (is_waiting ws i) none).0 ∙ r.0) | inr r ↦ r.1 (sym e) ]

-- ---- the log

-- what an event that fits asks of its kind stands in the rule that it follows its past
follows : (rule : Rule) (objects : List (List Scalar)) (log : List Event) (thread : ℕ) (k : Kind) → EventFits rule objects log (event thread k) → KindFollows log k
follows rule objects log thread (kinds.Access mode cell order position value) h = tt
follows rule objects log thread (kinds.Fence o) h = tt
follows rule objects log thread (kinds.NewStack n) h = tt
follows rule objects log thread (kinds.NewThread n) h = h.child.0
follows rule objects log thread (kinds.Leave n) h = tt
follows rule objects log thread (kinds.Enter n) h = tt
follows rule objects log thread (kinds.Wake cell n) h = tt
follows rule objects log thread (kinds.Woken n) h = h.wake

-- the parts of a log that one more event keeps
pub sound_event : (c : Configuration) (e : Event) → IsSound c.rule (map (λ (o : HeapObject). o.initial) c.objects) c.log → EachFollows c.log → EventFits c.rule (map (λ (o : HeapObject). o.initial) c.objects) c.log e →
    race c.rule c.log e ≡ None → IsSound c.rule (map (λ (o : HeapObject). o.initial) c.objects) (e ∷ c.log) × EachFollows (e ∷ c.log)
sound_event c e sound each fits none =
    (sound-more c.rule (map (λ (o : HeapObject). o.initial) c.objects) c.log e fits none sound, (fits.thread, follows c.rule (map (λ (o : HeapObject). o.initial) c.objects) c.log e.thread e.kind fits, each))

-- an event that fits, races with none and makes no thread
pub log_event : (p : Program) (c : Configuration) (e : Event) → LogFits p c → EventFits c.rule (map (λ (o : HeapObject). o.initial) c.objects) c.log e → race c.rule c.log e ≡ None → LoggedFits (type_graph p.tables) (world p.tables c) e →
    ((i : ℕ) → is_thread (e ∷ c.log) i ≡ is_thread c.log i) → LogFits p (logged_event e c)
log_event p c e h fits none logged same =
    let r = sound_event c e h.sound h.follows fits none in
    record { events = All-cons (LoggedFits (type_graph p.tables) (world p.tables c)) e c.log logged h.events; sound = r.0; follows = r.1; threads = λ i. same i ∙ h.threads i }

-- ---- what goes on

pub on_good : {A : Type 0} (p : Program) (t : Places) (v : World) (o : Option A) (go : A → Outcome) (Q : A → Type 0) → IsSomeAnd o Q → ((a : A) → o ≡ Some a → Q a → GoesWell p t v (go a)) → GoesWell p t v (on o go)
unfolding on
on_good p t v None go Q h good = absurd h
on_good p t v (Some a) go Q h good = good a refl h

pub on_settles : {A : Type 0} (p : Program) (t : Places) (o : Option A) (go : A → Outcome) (Q : A → Type 0) → IsSomeAnd o Q → ((a : A) → o ≡ Some a → Q a → Settles p t (go a)) → Settles p t (on o go)
unfolding on
on_settles p t None go Q h good = absurd h
on_settles p t (Some a) go Q h good = good a refl h

-- ---- the thread whose turn it is goes on with these frames

pub record Going (p : Program) (t : Places) (c : Configuration) (u : Turn) : Type 0 where
  pub fits : WellTyped p t c
  -- its stack
  pub frames : List Activation
  pub there : slice_get c.stacks u.stack ≡ Some (Active u.thread frames)
  pub awake : is_waiting c.waiters u.thread ≡ false

pub next_fits : (p : Program) (t : Places) (c : Configuration) (u : Turn) (fs : List Activation) → Going p t c u → ActiveFit p t (world p.tables c) fs → WellTyped p t (stack_becomes u.stack (Active u.thread fs) c)
next_fits p t c u fs g h =
    let same : world p.tables c ≡ world p.tables (stack_becomes u.stack (Active u.thread fs) c) = sym (world_set p.tables c u.stack (Active u.thread fs)) in
    record {
      globals = subst (HasGlobals p.tables) same g.fits.globals;
      stacks = subst (λ v. All (StackFits p t v) (slice_set c.stacks u.stack (Active u.thread fs))) same (All-set (StackFits p t (world p.tables c)) c.stacks u.stack (Active u.thread fs) h g.fits.stacks);
      owners = owned_set c.threads c.stacks u.stack u.thread g.frames fs g.fits.owners g.there;
      objects = subst (λ v. All (ObjectFits (type_graph p.tables) v) c.objects) same g.fits.objects;
      log = record { events = subst (λ v. All (LoggedFits (type_graph p.tables) v) c.log) same g.fits.log.events; sound = g.fits.log.sound; follows = g.fits.log.follows; threads = g.fits.log.threads };
      threads = subst (λ v. All (ThreadFits p.tables v) c.threads) same g.fits.threads;
      waiters = waiters_set p c.threads c.stacks u.stack u.thread (Active u.thread g.frames) (Active u.thread fs) c.waiters g.there refl g.awake g.fits.waiters;
      most = g.fits.most;
      client = g.fits.client;
      steps = g.fits.steps;
    }

pub next_good : (p : Program) (t : Places) (w : World) (c : Configuration) (u : Turn) (o : Option (List Activation)) → Going p t c u → IsSomeAnd o (ActiveFit p t (world p.tables c)) → GoesWell p t w (next c u o)
next_good p t w c u o g h = on_good p t w o _ (ActiveFit p t (world p.tables c)) h (λ fs e fit. next_fits p t c u fs g fit)
