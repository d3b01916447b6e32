-- Threads that are started.
use Rattle.std.specs.Prelude.{◌≡◌, ◌≢◌, ◌⊎◌, ◌≤◌, ◌<◌, ◌==◌, ◌||◌, ◌+◌, ℕ, suc, Bool, true, false, nat_lt, nat_le, List, [], ◌∷◌, ◌++◌, Option, Some, IsSomeAnd, length, flat_map, slice_get, map, refl, if◌then◌else◌}
use Rattle.std.proofs.Common.{sym, ◌∙◌, ap, subst, inl, inr, arith, length-append}
use Rattle.std.proofs.Math.ListN.{length-set}
use Rattle.std.proofs.lemmas.Bool.Decides.{eqb_tells, nat_tests}
use Rattle.std.proofs.lemmas.List.Elements.{All-cons, All-push, All-weaker}
use Rattle.std.proofs.lemmas.Option.{slice_get_within}
use Rattle.mu_values.specs.declared.scalars.Scalar.{Scalar}
use Rattle.mu_values.specs.declared.scalars.Scalar.TheVariants as scalars
use Rattle.check_tables.specs.Types.{threadref, ref_void}
use Rattle.mem_axioms.specs.EventFits.{is_thread}
use Rattle.mem_axioms.specs.declared.types.Event.{Event}
use Rattle.mem_axioms.specs.declared.types.Kind.TheVariants as kinds
use Rattle.mem_axioms.specs.Sound.{IsSound}
use Rattle.std.specs.Prelude.{option_map}
use Rattle.mu_model.specs.Acts as acts
use Rattle.frames.specs.Activations.{Activation}
use Rattle.model_laws.specs.Lemmas.Basics.{changed_set, last_is, set_other, some_is, some_of}
use Rattle.model_laws.specs.Lemmas.Fitting.{Grows, globals_more, one_fits, scalar_more}
use Rattle.model_laws.specs.Lemmas.Growing.{active_more, die_at, logged_more, object_more, stack_more, thread_more}
use Rattle.model_laws.specs.Lemmas.Happening.{other_races}
use Rattle.model_laws.specs.Lemmas.Keeps.{Going, sound_event}
use Rattle.model_laws.specs.Lemmas.Moving.{Moving, OwnedBut, PartsFit, entering_good, enters_good}
use Rattle.model_laws.specs.Lemmas.Owners.{first_and, later_good, push_cases}
use Rattle.model_laws.specs.Lemmas.Turning.{Turned, faulted_good}
use Rattle.model_laws.specs.ActsFit.{ActFits}
use Rattle.model_laws.specs.FramesFit.{ActiveFit, StackFits}
use Rattle.model_laws.specs.LogFits.{EachFollows, LoggedFits, ObjectFits}
use Rattle.model_laws.specs.Places.{Places}
use Rattle.model_laws.specs.Programs.{IsTyped}
use Rattle.model_laws.specs.ThreadsFit.{IsOn, Owned, ThreadAtWait, ThreadFits, WaitersFit, is_waiting}
use Rattle.model_laws.specs.Values.{world}
use Rattle.model_laws.specs.WellTyped.{GoesWell}
use Rattle.mu_model.specs.Acts.{Entering, Program}
use Rattle.mu_model.specs.Answers.{typed}
use Rattle.mu_model.specs.Changes.{changed, event, logged}
use Rattle.futex.specs.declared.waiters.Waiter.{Waiter}
use Rattle.mu_model.specs.Configuration.{Active, Configuration, Ready, Stack, Thread}
use Rattle.mu_model.specs.EnteringStacks.{entering, most_threads, on_stack, started, starts}
use Rattle.mu_model.specs.Exceptions.{EnteredFrames}
use Rattle.mu_model.specs.Outcomes.{faulted, has_results, has_result}
use Rattle.mu_model.specs.Turns.{Turn}
use Rattle.mu_model.specs.Types.{type_graph}
use Rattle.mu_model.specs.declared.endings.Ending.TheVariants.{ThreadsFull}
use Rattle.typed_heap.specs.Fits.{ScalarFits, World}
use Rattle.typed_heap.specs.Objects.{HeapObject}

some_within : {A : Type 0} (xs : List A) (n : ℕ) (P : A → Type 0) → IsSomeAnd (slice_get xs n) P → n < length xs
some_within xs n P h = let r : (x : _) × (slice_get xs n ≡ Some x) × P x = some_of _ P h in slice_get_within xs n r.0 r.1

waiters_thread_more : (p : Program) (ts rest : List (Option Thread)) (ss : List Stack) (ws : List Waiter) → WaitersFit p ts ss ws → WaitersFit p (ts ++ rest) ss ws
waiters_thread_more p ts rest ss [] h = tt
waiters_thread_more p ts rest ss (w ∷ ws) h = (first_and ts rest w.thread (ThreadAtWait p ss w) h.0, h.1, waiters_thread_more p ts rest ss ws h.2)

-- a thread that is new does not wait
new_awake : (p : Program) (ts : List (Option Thread)) (ss : List Stack) (ws : List Waiter) → WaitersFit p ts ss ws → is_waiting ws (length ts) ≡ false
new_awake p ts ss [] h = refl
new_awake p ts ss (w ∷ ws) h =
    elim (eqb_tells w.thread (length ts)) [
      | inl r ↦ absurd (omega (arith, r.1, some_within ts w.thread (ThreadAtWait p ss w) h.0))
      | inr r ↦ subst (λ b. (b || is_waiting ws (length ts)) ≡ false) (sym r.0) (new_awake p ts ss ws h.2)
    ]

new_but : (ts : List (Option Thread)) (ss : List Stack) (th : Thread) → Owned ts ss → OwnedBut (ts ++ Some th ∷ []) ss (length ts)
new_but ts ss th o = record {
  stacks = λ j t n e. elim (push_cases ts (Some th) (Some t) j e) [ inl r ↦ o.stacks j t r | inr r ↦ absurd (n r.0) ];
  threads = λ j k fs e. (let h = o.threads j k fs e in let low = some_within ts j (IsOn k) h in ((λ z. omega (arith, z, low)), first_and ts (Some th ∷ []) j (IsOn k) h));
}

-- the threads that a log knows, with one more
known_more : (log : List Event) (i n thread : ℕ) → is_thread log i ≡ nat_lt i n → is_thread (event thread (kinds.NewThread n) ∷ log) i ≡ nat_lt i (suc n)
known_more log i n thread h = grind (arith, nat_tests, h)

self_not : (n : ℕ) → nat_lt n n ≡ false
self_not n = grind (arith, nat_tests)

self_below : (n : ℕ) → nat_lt n (suc n) ≡ true
self_below n = grind (arith, nat_tests)

module _ (p : Program) (t : Places) (typed : IsTyped p t) where
  -- a thread that is made is on no stack
  module _ (c : Configuration) (u : Turn) (own : Scalar) (k : ℕ) (th : Thread) (g : Going p t c u) (there : slice_get c.threads u.thread ≡ Some (Some th)) (known : is_thread c.log u.thread ≡ true) (few : length c.threads < most_threads)
      (fit : ScalarFits (type_graph p.tables) (world p.tables c) (ref_void p.tables.types) own) where
    abbrev n : ℕ
    n = length c.threads

    abbrev upon : Thread
    upon = record { stack = k; own = own }

    abbrev made : Configuration
    made = logged u.thread (kinds.NewThread n) (record c { threads = c.threads ++ Some upon ∷ [] })

    long : length made.threads ≡ suc n
    long = omega (arith, length-append c.threads (Some upon ∷ []))

    more : Grows (world p.tables c) (world p.tables made)
    more = record { objects = λ i o e. some_is _ _ o e refl; signatures = refl; stacks = omega arith; threads = omega (arith, long) }

    not_yet : is_thread c.log n ≡ false
    not_yet = g.fits.log.threads n ∙ self_not (length c.threads)

    all_known : (i : ℕ) → is_thread made.log i ≡ nat_lt i (length made.threads)
    all_known i = known_more c.log i n u.thread (g.fits.log.threads i) ∙ ap (nat_lt i) (sym long)

    event_kept : IsSound c.rule (map (λ (o : HeapObject). o.initial) c.objects) (event u.thread (kinds.NewThread n) ∷ c.log) × EachFollows (event u.thread (kinds.NewThread n) ∷ c.log)
    event_kept = sound_event c (event u.thread (kinds.NewThread n)) g.fits.log.sound g.fits.log.follows (record { thread = known; child = (not_yet, few); cell = tt; wake = tt; position = tt }) (other_races c.rule c.log u.thread (kinds.NewThread n) tt)

    made_parts : PartsFit p t made
    made_parts =
        let w = world p.tables c in
        let x = world p.tables made in
        let f = g.fits in
        let e = event u.thread (kinds.NewThread n) in
        record {
          globals = globals_more p.tables w x more f.globals;
          stacks = All-weaker (StackFits p t w) (StackFits p t x) (λ s. stack_more p t w x more s) c.stacks f.stacks;
          objects = All-weaker (ObjectFits (type_graph p.tables) w) (ObjectFits (type_graph p.tables) x) (λ o. object_more p t w x more o) c.objects f.objects;
          log = record {
            events = All-cons (LoggedFits (type_graph p.tables) x) e c.log tt (All-weaker (LoggedFits (type_graph p.tables) w) (LoggedFits (type_graph p.tables) x) (λ q. logged_more p t w x more q) c.log f.log.events);
            sound = event_kept.0;
            follows = event_kept.1;
            threads = all_known;
          };
          threads = All-push (ThreadFits p.tables x) c.threads (Some upon) (All-weaker (ThreadFits p.tables w) (ThreadFits p.tables x) (λ o. thread_more p t w x more o) c.threads f.threads) (scalar_more (type_graph p.tables) w x _ own more fit);
          waiters = waiters_thread_more p c.threads (Some upon ∷ []) c.stacks c.waiters f.waiters;
          client = f.client;
          steps = f.steps;
        }

    made_moving : Moving p t made n
    made_moving = record {
      parts = made_parts;
      owners = new_but c.threads c.stacks upon g.fits.owners;
      thread = upon;
      there = last_is c.threads (Some upon);
      awake = new_awake p c.threads c.stacks c.waiters g.fits.waiters;
      known = all_known n ∙ ap (nat_lt n) long ∙ self_below (length c.threads);
      most = omega (arith, long, few);
    }

    moves_size : length (changed (option_map (on_stack k)) n made.threads) ≡ length made.threads
    moves_size = ap length (changed_set (option_map (on_stack k)) made.threads n (Some upon) (last_is c.threads (Some upon))) ∙ length-set made.threads n (Some upon)

    start_good : (v : World) (old : List Activation) (r : EnteredFrames) → Turned p t (world p.tables c) u → slice_get c.stacks k ≡ Some (Ready old) → ActiveFit p t (world p.tables c) r.frames → t.gives u.top.block u.top.at ≡ Some (threadref p.tables.types ∷ []) →
        GoesWell p t v (has_results p (started c u own k r) u ((scalars.Thread n ∷ []) ∷ []))
    start_good v old r turn at frames gives =
        let d = started c u own k r in
        let h = enters_good p t typed made n k old r made_moving at (active_more p t (world p.tables c) (world p.tables made) more r.frames frames) in
        let size : length d.threads ≡ suc n = moves_size ∙ long in
        let later : Grows (world p.tables c) (world p.tables d) = record { objects = λ i o e. die_at c.objects (flat_map (λ (f : Activation). f.objects) r.ended) i o e; signatures = refl; stacks = omega (arith, length-set c.stacks k (Active n r.frames)); threads = omega (arith, size) } in
        let stays = set_other c.stacks k u.stack (Active n r.frames) (λ same. other (slice_get c.stacks k) at (ap (slice_get c.stacks) same ∙ g.there)) ∙ g.there in
        later_good p t typed v c d u (threadref p.tables.types ∷ []) ((scalars.Thread n ∷ []) ∷ []) later (record { fits = h; frames = g.frames; there = stays; awake = g.awake }) turn gives
        (one_fits (type_graph p.tables) (world p.tables d) (threadref p.tables.types) (scalars.Thread n) typed.types.threadref.leaf (some_is _ _ _ typed.types.threadref.definition (omega (arith, size))))
      where
        other : (o : Option Stack) → o ≡ Some (Ready old) → o ≡ Some (Active u.thread g.frames) → ⊥
        other o a b = cc

  pub starts_good : (v : World) (c : Configuration) (u : Turn) (s own : Scalar) (e : Entering) (th : Thread) → Going p t c u → Turned p t (world p.tables c) u → slice_get c.threads u.thread ≡ Some (Some th) → is_thread c.log u.thread ≡ true →
      ActFits p t (world p.tables c) u.top.block u.top.at (acts.Starts s own e) → GoesWell p t v (starts p c u s own e)
  starts_good v c u s own e th g turn there known h = by (nat_le most_threads (length c.threads)) refl
    where
      by : (b : Bool) → nat_le most_threads (length c.threads) ≡ b → GoesWell p t v (if b then faulted p c u (ThreadsFull u.thread) else entering p c u s e (λ k r. has_results p (started c u own k r) u ((scalars.Thread (length c.threads) ∷ []) ∷ [])))
      by true q = faulted_good p t typed v c u _ g turn
      by false q =
          let few : length c.threads < most_threads = grind (arith, nat_tests) in
          entering_good p t typed v c u s e _ g turn h.0 h.2 (λ k old r at frames. start_good c u own k th g there known few h.1 v old r turn at frames h.3)
