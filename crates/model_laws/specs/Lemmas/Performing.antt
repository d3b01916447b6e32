-- A step of a well typed configuration is never stuck, and what follows is well typed again.
use Rattle.std.specs.Prelude.{◌≡◌, ◌≤◌, ◌<◌, ◌==◌, ◌+◌, ◌||◌, ℕ, zero, suc, Bool, true, false, not, List, [], ◌∷◌, Option, Some, None, IsSomeAnd, length, filter, find, slice_get, Result, Ok, Err, IfOk, option_map, refl, if◌then◌else◌}
use Rattle.std.proofs.Common.{sym, ◌∙◌, ap, subst, inl, inr, arith, cond}
use Rattle.std.proofs.lemmas.Bool.Decides.{eqb_tells}
use Rattle.std.proofs.lemmas.Option.{slice_get_within}
use Rattle.mu_base.specs.declared.order.Order.{Order}
use Rattle.mu_values.specs.declared.scalars.Scalar.{Scalar}
use Rattle.mu_values.specs.declared.scalars.Scalar.TheVariants as scalars
use Rattle.check_tables.specs.Types.{stackref, ref_void}
use Rattle.mem_axioms.specs.declared.types.Kind.TheVariants as kinds
use Rattle.mu_model.specs.Acts as acts
use Rattle.frames.specs.Activations.{Activation, Goal}
use Rattle.model_laws.specs.Lemmas.Accessing.{accesses_good, pick_below}
use Rattle.model_laws.specs.Lemmas.Asking.{trapped_good, watches_good}
use Rattle.model_laws.specs.Lemmas.Basics.{some_below, some_is}
use Rattle.model_laws.specs.Lemmas.Fitting.{one_fits}
use Rattle.model_laws.specs.Lemmas.Keeps.{at_place, on_good}
use Rattle.model_laws.specs.Lemmas.Making.{makes_good, makes_hybrid_good, makes_own_good}
use Rattle.model_laws.specs.Lemmas.Moving.{finishes_good, leaves_good, parts_logged, parts_of, swaps_good, whole}
use Rattle.model_laws.specs.Lemmas.Owners.{kills_stack_good, makes_stack_good, sets_own_good}
use Rattle.model_laws.specs.Lemmas.Placing.{HasTurn, Placed, has_place}
use Rattle.model_laws.specs.Lemmas.Starting.{starts_good}
use Rattle.model_laws.specs.Lemmas.Turning.{calls_good, given_good, gives_good, goes_good, refused_good, replaces_good, returned_good, throws_good, tried_good}
use Rattle.model_laws.specs.Lemmas.Waiting.{times_out_good, waits_good}
use Rattle.model_laws.specs.Lemmas.Waking.{wakes_good}
use Rattle.model_laws.specs.AccessesFit.{Gives}
use Rattle.model_laws.specs.ActsFit.{ActFits, FoundFits}
use Rattle.model_laws.specs.FramesFit.{waits_for}
use Rattle.model_laws.specs.Places.{Places}
use Rattle.model_laws.specs.Programs.{IsTyped}
use Rattle.model_laws.specs.ThreadsFit.{ThreadFits, is_waiting}
use Rattle.model_laws.specs.Values.{ValuesFit, world}
use Rattle.model_laws.specs.WellTyped.{GoesWell, WellTyped}
use Rattle.mu_model.specs.Acts.{Act, Program}
use Rattle.mu_threads.specs.Picks.{pick}
use Rattle.mu_model.specs.Changes.{logged}
use Rattle.futex.specs.declared.waiters.Waiter.{Waiter}
use Rattle.mu_model.specs.Configuration.{Active, Configuration, Thread}
use Rattle.mu_model.specs.Exceptions.{returns}
use Rattle.mu_model.specs.Objects.{cast_any}
use Rattle.mu_model.specs.Outcomes.{End, has_result, or_case, tried}
use Rattle.mu_model.specs.Step.{is_blocked, performed, picked, picking_thread, runnable, step, ends_or_picks, threads_from, turned, turns}
use Rattle.mu_model.specs.Traps.{chooses, goes, is_watched}
use Rattle.mu_model.specs.Turns.{Turn, turn_of}
use Rattle.mu_model.specs.Types.{class_definition, type_graph}
use Rattle.futex.specs.Waiting.{is_of}
use Rattle.mu_model.specs.declared.endings.Ending.TheVariants.{Budget}
use Rattle.mu_model.specs.declared.lines.Note.TheVariants.{Exited, Returned}
use Rattle.mu_values.specs.Slots.{TypedValues}
use Rattle.typed_heap.specs.Fits.{ScalarFits, World}
use Rattle.typed_heap.specs.Places.{find_place, move, with_some}
use Rattle.typed_heap.specs.declared.faults.PlaceFault.{PlaceFault}

module _ (p : Program) (t : Places) (typed : IsTyped p t) where
  returns_good : (v : World) (c : Configuration) (u : Turn) (vs : TypedValues) → HasTurn p t c u → ActFits p t (world p.tables c) u.top.block u.top.at (acts.Returns vs) → GoesWell p t v (returns p c u vs u.below)
  returns_good v c u vs k h = by u.below refl
    where
      by : (fs : List Activation) → u.below ≡ fs → GoesWell p t v (returns p c u vs fs)
      by [] e = finishes_good p t typed v c u (Returned u.thread vs) k.thread k.going k.there k.known
      by (f ∷ fs) e = returned_good p t typed v c u vs f fs k.going k.turned e h.1

  or_case_fits : {A : Type 0} (r : Option (Result A PlaceFault)) (P : A → Type 0) → IsSomeAnd r (λ x. IfOk x P) → IsSomeAnd (option_map or_case r) (λ x. IfOk x P)
  or_case_fits None P h = h
  or_case_fits (Some (Err e)) P h = tt
  or_case_fits (Some (Ok a)) P h = h

  found_good : (v : World) (c : Configuration) (u : Turn) (r : Option (Result Scalar PlaceFault)) → HasTurn p t c u → FoundFits p t (world p.tables c) u.top.block u.top.at r → GoesWell p t v (tried p c u (option_map or_case r) (has_result p c u))
  found_good v c u r k h =
      tried_good p t typed v c u (option_map or_case r) (has_result p c u) (ScalarFits (type_graph p.tables) (world p.tables c) h.class) k.going k.turned (or_case_fits r (ScalarFits (type_graph p.tables) (world p.tables c) h.class) h.found) (λ s same fit.
      given_good p t typed v c u (h.class ∷ []) ((s ∷ []) ∷ []) k.going k.turned.top k.turned.below h.gives (one_fits (type_graph p.tables) (world p.tables c) h.class s h.leaf fit))

  fences_good : (v : World) (c : Configuration) (u : Turn) (o : Order) → HasTurn p t c u → Gives t u.top.block u.top.at [] → GoesWell p t v (performed p c u (acts.Fences o))
  fences_good v c u o k h =
      let d = logged u.thread (kinds.Fence o) c in
      let parts = parts_logged p t c u.thread (kinds.Fence o) (parts_of p t c k.going.fits) tt k.known in
      given_good p t typed v d u [] [] (record { fits = whole p t d parts k.going.fits.owners k.going.fits.most; frames = k.going.frames; there = k.going.there; awake = k.going.awake }) k.turned.top k.turned.below h tt

  tells_good : (v : World) (c : Configuration) (u : Turn) → HasTurn p t c u → Gives t u.top.block u.top.at (stackref p.tables.types ∷ []) → GoesWell p t v (performed p c u acts.Tells)
  tells_good v c u k h =
      given_good p t typed v c u _ _ k.going k.turned.top k.turned.below h
      (one_fits (type_graph p.tables) (world p.tables c) (stackref p.tables.types) (scalars.Stack u.stack) typed.types.stackref.leaf (some_is _ _ _ typed.types.stackref.definition (slice_get_within c.stacks u.stack (Active u.thread k.going.frames) k.going.there)))

  tells_own_good : (v : World) (c : Configuration) (u : Turn) → HasTurn p t c u → Gives t u.top.block u.top.at (ref_void p.tables.types ∷ []) → GoesWell p t v (performed p c u acts.TellsOwn)
  tells_own_good v c u k h =
      on_good p t v (slice_get c.threads u.thread) _ (λ o. o ≡ Some k.thread) (some_is _ (λ o. o ≡ Some k.thread) (Some k.thread) k.there refl) (λ o q same.
      on_good p t v o _ (λ x. x ≡ k.thread) (some_is o (λ x. x ≡ k.thread) k.thread same refl) (λ x r is.
      given_good p t typed v c u _ ((x.own ∷ []) ∷ []) k.going k.turned.top k.turned.below h
      (subst (λ (x : Thread). ValuesFit (type_graph p.tables) (world p.tables c) (ref_void p.tables.types ∷ []) ((x.own ∷ []) ∷ [])) (sym is)
      (one_fits (type_graph p.tables) (world p.tables c) (ref_void p.tables.types) k.thread.own typed.types.ref_void.leaf (at_place (ThreadFits p.tables (world p.tables c)) c.threads u.thread (Some k.thread) k.going.fits.threads k.there)))))

  chooses_good : (v : World) (c : Configuration) (u : Turn) (n : ℕ) (a b : Goal) → HasTurn p t c u → ActFits p t (world p.tables c) u.top.block u.top.at (acts.Chooses n a b) → GoesWell p t v (chooses c u n a b)
  chooses_good v c u n a b k h = by (is_watched n c.watched)
    where
      by : (x : Bool) → GoesWell p t v (if x then goes c u b else goes c u a)
      by true = goes_good p t typed v c u b k.going k.turned h.1
      by false = goes_good p t typed v c u a k.going k.turned h.0

  pub performed_good : (c : Configuration) (u : Turn) (a : Act) → u.doing.act ≡ Some a → HasTurn p t c u → ActFits p t (world p.tables c) u.top.block u.top.at a → GoesWell p t (world p.tables c) (performed p c u a)
  performed_good c u (acts.Gives vs) does k h = gives_good p t typed (world p.tables c) c u vs k.going k.turned h
  performed_good c u (acts.Faults e) does k h = refused_good p t typed (world p.tables c) c u e k.going k.turned
  performed_good c u (acts.Goes g) does k h = goes_good p t typed (world p.tables c) c u g k.going k.turned h
  performed_good c u (acts.Calls f vs) does k h = calls_good p t typed (world p.tables c) c u f vs k.going k.turned does h
  performed_good c u (acts.Replaces f vs) does k h = replaces_good p t typed (world p.tables c) c u f vs k.going k.turned h
  performed_good c u (acts.Returns vs) does k h = returns_good (world p.tables c) c u vs k h
  performed_good c u (acts.Throws e) does k h = throws_good p t typed (world p.tables c) c u e k.going k.turned h
  performed_good c u (acts.Casts d s) does k h = found_good (world p.tables c) c u (cast_any p.tables c.objects (class_definition p.tables d) s) k h
  performed_good c u (acts.Finds way s) does k h = found_good (world p.tables c) c u (find_place (type_graph p.tables) c.objects (move (type_graph p.tables) way) s) k h
  performed_good c u (acts.Accesses a cell) does k h = accesses_good p t typed (world p.tables c) c u a cell k.going k.turned k.known h
  performed_good c u (acts.Fences r) does k h = fences_good (world p.tables c) c u r k h.0
  performed_good c u (acts.Chooses n a b) does k h = chooses_good (world p.tables c) c u n a b k h
  performed_good c u (acts.Swaps s cs e) does k h = swaps_good p t typed (world p.tables c) c u s cs e k.thread k.going k.turned k.there k.known does h
  performed_good c u (acts.Leaves s e) does k h = leaves_good p t typed (world p.tables c) c u s e k.thread k.going k.turned k.there k.known h
  performed_good c u acts.Tells does k h = tells_good (world p.tables c) c u k h
  performed_good c u acts.Exits does k h = finishes_good p t typed (world p.tables c) c u (Exited u.thread) k.thread k.going k.there k.known
  performed_good c u acts.TellsOwn does k h = tells_own_good (world p.tables c) c u k h
  performed_good c u (acts.Makes x) does k h = makes_good p t typed (world p.tables c) c u x k.going k.turned h
  performed_good c u (acts.MakesHybrid x n) does k h = makes_hybrid_good p t typed (world p.tables c) c u x n k.going k.turned h
  performed_good c u (acts.MakesOwn x) does k h = makes_own_good p t typed (world p.tables c) c u x k.going k.turned h
  performed_good c u (acts.Traps cs) does k h = trapped_good p t typed c u None cs k.thread k.going k.turned k.there k.known (ap (λ o. with_some o (waits_for p.tables)) does)
  performed_good c u (acts.Watches n cs g) does k h = watches_good p t typed c u n cs g k.thread k.going k.turned k.there k.known does h
  performed_good c u (acts.Starts s r e) does k h = starts_good p t typed (world p.tables c) c u s r e k.thread k.going k.turned k.there k.known h
  performed_good c u (acts.MakesStack f) does k h = makes_stack_good p t typed (world p.tables c) c u f k.thread k.going k.turned k.there k.known h
  performed_good c u (acts.KillsStack s) does k h = kills_stack_good p t typed (world p.tables c) c u s k.going k.turned h
  performed_good c u (acts.SetsOwn r) does k h = sets_own_good p t typed (world p.tables c) c u r k.thread k.going k.turned k.there h
  performed_good c u (acts.Waits b v cell) does k h = waits_good p t typed (world p.tables c) c u b v cell k.thread k.going k.turned k.there k.known does h
  performed_good c u (acts.Wakes n cell) does k h = wakes_good p t typed (world p.tables c) c u n cell k h

  none_among : (ws : List Waiter) (i : ℕ) → find (is_of i) ws ≡ None → is_waiting ws i ≡ false
  none_among [] i e = refl
  none_among (w ∷ ws) i e = by (w.thread == i) refl e (none_among ws i)
    where
      by : (b : Bool) → (w.thread == i) ≡ b → cond b (Some w) (find (is_of i) ws) ≡ None → (find (is_of i) ws ≡ None → is_waiting ws i ≡ false) → (b || is_waiting ws i) ≡ false
      by true q e k = cc
      by false q e k = k e

  turns_good : (c : Configuration) (i : ℕ) (th : Thread) → WellTyped p t c → slice_get c.threads i ≡ Some (Some th) → GoesWell p t (world p.tables c) (turns p c i)
  turns_good c i th h there = on_good p t (world p.tables c) (turn_of p c i) _ (λ u. Placed p t c u × (u.thread ≡ i)) (has_place p t typed c i th h there) (λ u q k. by u k (find (is_of i) c.waiters) refl)
    where
      by : (u : Turn) → Placed p t c u × (u.thread ≡ i) → (y : Option Waiter) → find (is_of i) c.waiters ≡ y → GoesWell p t (world p.tables c) (turned p c y u)
      by u k (Some w) ey = times_out_good p t typed (world p.tables c) c u w th u.below h k.0.turned k.0.stands (subst (λ n. slice_get c.threads n ≡ Some (Some th)) (sym k.1) there) (subst (λ n. find (is_of n) c.waiters ≡ Some w) (sym k.1) ey)
      by u k None ey =
          let turn : HasTurn p t c u = record {
            going = record { fits = h; frames = u.top ∷ u.below; there = k.0.stands; awake = none_among c.waiters u.thread (subst (λ n. find (is_of n) c.waiters ≡ None) (sym k.1) ey) };
            turned = k.0.turned;
            thread = k.0.thread;
            there = k.0.there;
            known = k.0.known;
          } in
          on_good p t (world p.tables c) u.doing.act _ (ActFits p t (world p.tables c) u.top.block u.top.at) k.0.turned.doing.act (λ a q fit. performed_good c u a q turn fit)

  -- ---- the pick of a thread

  filter_at : {A : Type 0} (q : A → Bool) (xs : List A) (n : ℕ) (x : A) → slice_get (filter q xs) n ≡ Some x → (m : ℕ) × (slice_get xs m ≡ Some x)
  filter_at q [] n x e = cc
  filter_at q (y ∷ ys) n x e = by (q y) n e (λ m k. filter_at q ys m x k)
    where
      by : (b : Bool) (n : ℕ) → slice_get (if b then y ∷ filter q ys else filter q ys) n ≡ Some x → ((m : ℕ) → slice_get (filter q ys) m ≡ Some x → (l : ℕ) × (slice_get ys l ≡ Some x)) → (m : ℕ) × (slice_get (y ∷ ys) m ≡ Some x)
      by true zero e k = (0, e)
      by true (suc n) e k = let r = k n e in (suc r.0, r.1)
      by false n e k = let r = k n e in (suc r.0, r.1)

  left_at : (k : ℕ) (ts : List (Option Thread)) (m i : ℕ) → slice_get (threads_from k ts) m ≡ Some i → (j : ℕ) × (th : Thread) × (i ≡ k + j) × (slice_get ts j ≡ Some (Some th))
  left_at k [] m i e = cc
  left_at k (None ∷ ts) m i e = let r = left_at (suc k) ts m i e in (suc r.0, r.1, omega (arith, r.2), r.3)
  left_at k (Some th ∷ ts) zero i e = let same : k ≡ i = cc in (0, th, omega (arith, same), refl)
  left_at k (Some th ∷ ts) (suc m) i e = let r = left_at (suc k) ts m i e in (suc r.0, r.1, omega (arith, r.2), r.3)

  runnable_at : (c : Configuration) (n i : ℕ) → slice_get (runnable c) n ≡ Some i → (th : Thread) × (slice_get c.threads i ≡ Some (Some th))
  runnable_at c n i e =
      let m = filter_at (λ i. not (is_blocked c.waiters i)) (threads_from 0 c.threads) n i e in
      let r = left_at 0 c.threads m.0 i m.1 in
      let same : i ≡ r.0 = omega (arith, r.2) in
      (r.1, ap (slice_get c.threads) same ∙ r.3)

  picked_fits : (c : Configuration) (ps : List ℕ) → WellTyped p t c → suc c.steps ≤ c.budget → WellTyped p t (picked c ps)
  picked_fits c ps h s = record {
    globals = h.globals;
    stacks = h.stacks;
    owners = h.owners;
    objects = h.objects;
    log = record { events = h.log.events; sound = h.log.sound; follows = h.log.follows; threads = h.log.threads };
    threads = h.threads;
    waiters = h.waiters;
    most = h.most;
    client = h.client;
    steps = s;
  }

  picking_good : (c : Configuration) (is : List ℕ) → WellTyped p t c → suc c.steps ≤ c.budget → 0 < length is → ((n i : ℕ) → slice_get is n ≡ Some i → (th : Thread) × (slice_get c.threads i ≡ Some (Some th))) → GoesWell p t (world p.tables c) (picking_thread p c is)
  picking_good c is h s some each =
      let k = pick (length is) c.picks in
      let first = some_below is k.0 (pick_below (length is) c.picks some) in
      on_good p t (world p.tables c) (slice_get is k.0) _ (λ i. i ≡ first.0) (some_is _ (λ i. i ≡ first.0) first.0 first.1 refl) (λ i q same.
      let th = each k.0 i q in
      turns_good (picked c k.1) i th.0 (picked_fits c k.1 h s) th.1)

  pub step_good : (c : Configuration) → WellTyped p t c → GoesWell p t (world p.tables c) (step p c)
  step_good c h = by (threads_from 0 c.threads) (runnable c) (runnable_at c)
    where
      by : (ts is : List ℕ) → ((n i : ℕ) → slice_get is n ≡ Some i → (th : Thread) × (slice_get c.threads i ≡ Some (Some th))) → GoesWell p t (world p.tables c) (ends_or_picks p c ts is)
      by [] is each = tt
      by (x ∷ ts) [] each = tt
      by (x ∷ ts) (i ∷ is) each = elim (eqb_tells c.steps c.budget) [
        | inl r ↦ subst (λ b. GoesWell p t (world p.tables c) (if b then End [] (Budget c.steps) else picking_thread p c (i ∷ is))) (sym r.0) tt
        | inr r ↦ subst (λ b. GoesWell p t (world p.tables c) (if b then End [] (Budget c.steps) else picking_thread p c (i ∷ is))) (sym r.0) (picking_good c (i ∷ is) h (omega (arith, h.steps, r.1)) (omega arith) each)
      ]
