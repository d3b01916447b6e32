-- What a step logs is printable: it names stacks that exist, with orders of its kind.
use Rattle.std.specs.Prelude.{◌≡◌, ◌≤◌, ◌<◌, ◌==◌, ◌+◌, ◌++◌, ℕ, zero, suc, Bool, true, false, nat_le, List, [], ◌∷◌, Option, Some, None, All, Result, Ok, Err, length, filter, find, fold, flat_map, slice_get, refl, if◌then◌else◌}
use Rattle.std.proofs.Common.{sym, ◌∙◌, ap, subst, arith, length-append}
use Rattle.std.proofs.Math.ListN.{length-set}
use Rattle.std.proofs.lemmas.Bool.Decides.{nat_tests}
use Rattle.std.proofs.lemmas.List.Elements.{All-cons, All-nil, All-head, All-tail, All-weaker, All-push}
use Rattle.std.proofs.lemmas.Option.{slice_get_within}
use Rattle.type_definitions.specs.Leaves.{times}
use Rattle.mu_base.specs.declared.order.Order.TheVariants.{Relaxed}
use Rattle.mu_values.specs.declared.scalars.Scalar.{Scalar}
use Rattle.mu_values.specs.declared.scalars.Scalar.TheVariants as scalars
use Rattle.mu_values.specs.SameScalar.{same_scalar}
use Rattle.mu_values.specs.Slots.{TypedValues}
use Rattle.mu_values.specs.declared.cells.CellId.{CellId}
use Rattle.typed_heap.specs.Fits.{World}
use Rattle.typed_heap.specs.Heap.{hybrid_classes}
use Rattle.typed_heap.specs.Objects.{HeapObject, killed, leaf_classes, run_classes, object_of}
use Rattle.typed_heap.specs.Places.{with_some}
use Rattle.typed_heap.specs.Lemmas.Runs.{times_length}
use Rattle.frames.specs.Activations.{Activation, Goal}
use Rattle.mem_axioms.specs.Choices.{choices}
use Rattle.mem_axioms.specs.Races.{race}
use Rattle.mem_axioms.specs.declared.types.Chosen.{Chosen}
use Rattle.mem_axioms.specs.declared.types.Kind.{Kind}
use Rattle.mem_axioms.specs.declared.types.Kind.TheVariants as kinds
use Rattle.mem_axioms.specs.declared.types.Mode.TheVariants as modes
use Rattle.mu_threads.specs.Picks.{pick}
use Rattle.mu_model.specs.declared.endings.Case.{Case}
use Rattle.mu_model.specs.declared.endings.Case.TheVariants.{DivideByZero, NullAccess}
use Rattle.mu_model.specs.declared.endings.Ending.{Ending}
use Rattle.mu_model.specs.declared.endings.Ending.TheVariants.{Budget, HeapFull, ThreadsFull}
use Rattle.mu_model.specs.declared.lines.Note.TheVariants.{TimedOut}
use Rattle.mu_model.specs.Accesses.{access_results, accessed, initial, kind_of, raced, updated, wanted}
use Rattle.mu_model.specs.Acts as acts
use Rattle.mu_model.specs.Acts.{Access, Act, Entering, Program}
use Rattle.mu_model.specs.Answers.{advanced, answer_of}
use Rattle.mu_model.specs.Changes.{changed, event, frames_end, logged, noted, stack_becomes, stack_dies, thread_changes}
use Rattle.mu_model.specs.Clients as clients
use Rattle.mu_model.specs.Clients.{Answer, Classed, Client, Exit, Rebind, Reply, Resume, With}
use Rattle.futex.specs.declared.waiters.Waiter.{Waiter}
use Rattle.mu_model.specs.Configuration.{Active, Configuration, Dead, Ready, Stack, Thread}
use Rattle.mu_model.specs.EnteringStacks.{entered, entering, enters, leaving, most_threads, on_stack, ready, started}
use Rattle.mu_model.specs.Exceptions.{EnteredFrames, returns}
use Rattle.mu_model.specs.Frames.{fresh_frame, passed}
use Rattle.mu_model.specs.Objects.{asks_cells, object_added, owning}
use Rattle.mu_model.specs.Operands.{scalar_in}
use Rattle.mu_model.specs.Outcomes.{Asks, End, Next, Outcome, Stuck, excepted, faulted, has_result, next, onto, refused, tried, unless_refused}
use Rattle.mu_model.specs.Run.{begins_in, client_answers, with_client}
use Rattle.mu_model.specs.Step.{ends_or_picks, performed, picked, picking_thread, runnable, step, threads_from, turned, turns, with_own}
use Rattle.mu_model.specs.Edits.{edited}
use Rattle.mu_model.specs.Traps.{answered, edits, entering_of, enters_by, goes, is_watched, replied, taken, trap_note, trapped}
use Rattle.mu_model.specs.Turns.{Turn, turn_of, waiting}
use Rattle.mu_model.specs.Types.{type_graph}
use Rattle.futex.specs.Waiting.{is_at, is_of, without}
use Rattle.mu_model.specs.Waiting.{found_another, futex_waits, wakes_all, wakes_one, wakes_these, was_woken, waits_at}
use Rattle.model_laws.specs.ActsFit.{ActFits}
use Rattle.model_laws.specs.Orders.{OrdersFit, IsFenceOrder}
use Rattle.model_laws.specs.Places.{Places}
use Rattle.model_laws.specs.Programs.{IsTyped}
use Rattle.model_laws.specs.Printable.{KindIsPrintable, EventIsPrintable, HasFewCells, IsPrintable, FirstIsPrintable, StepsStayPrintable}
use Rattle.model_laws.specs.Values.{world}
use Rattle.model_laws.specs.WellTyped.{WellTyped}
use Rattle.model_laws.specs.Lemmas.Basics.{some_at}
use Rattle.model_laws.specs.Lemmas.Bounded.{filter_short, some_inside, take_short, waiters_few}
use Rattle.model_laws.specs.Lemmas.Counting.{Every, every_on, ready_is}
use Rattle.model_laws.specs.Lemmas.Placing.{Placed, has_place}

-- ---- objects

killed_few : (m : ℕ) (os : List HeapObject) (n : ℕ) → All (HasFewCells m) os → All (HasFewCells m) (changed killed n os)
killed_few m [] n h = h
killed_few m (o ∷ os) zero h = All-cons (HasFewCells m) (killed o) os (All-head (HasFewCells m) o os h) (All-tail (HasFewCells m) o os h)
killed_few m (o ∷ os) (suc n) h = All-cons (HasFewCells m) o (changed killed n os) (All-head (HasFewCells m) o os h) (killed_few m os n (All-tail (HasFewCells m) o os h))

ended_few : (m : ℕ) (os : List HeapObject) (ns : List ℕ) → All (HasFewCells m) os → All (HasFewCells m) (fold (λ qs n. changed killed n qs) os ns)
ended_few m os [] h = h
ended_few m os (n ∷ ns) h = ended_few m (changed killed n os) ns (killed_few m os n h)

-- ---- orders

-- what an access logs has an order of its kind
kind_is_printable : (n : ℕ) (a : Access) (cell : CellId) (x : Chosen) (k : Kind) → OrdersFit a → kind_of a cell x ≡ Some k → KindIsPrintable n k
kind_is_printable n (acts.Loads o) cell x k h e = subst (λ (o : Option Kind). elim o as (λ _. Type 0) [ Some k ↦ KindIsPrintable n k | None ↦ Unit {0} ]) e h
kind_is_printable n (acts.Stores o v) cell x k h e = subst (λ (o : Option Kind). elim o as (λ _. Type 0) [ Some k ↦ KindIsPrintable n k | None ↦ Unit {0} ]) e h
kind_is_printable n (acts.Compares weak o f w v) cell x k h e = by x.success e
  where
    by : (b : Bool) → Some (if b then kinds.Access modes.Update cell o (suc x.position) v else kinds.Access modes.Read cell f x.position x.value) ≡ Some k → KindIsPrintable n k
    by true e = subst (λ (o : Option Kind). elim o as (λ _. Type 0) [ Some k ↦ KindIsPrintable n k | None ↦ Unit {0} ]) e h.0
    by false e = subst (λ (o : Option Kind). elim o as (λ _. Type 0) [ Some k ↦ KindIsPrintable n k | None ↦ Unit {0} ]) e h.1
kind_is_printable n (acts.Updates o op v) cell x k h e =
    let r = some_inside (updated op x.value v) _ k e in
    subst (λ (o : Option Kind). elim o as (λ _. Type 0) [ Some k ↦ KindIsPrintable n k | None ↦ Unit {0} ]) r.2 h

-- the orders of an act are those of the events that it may log
abbrev IsOrdered : Act → Type 0
IsOrdered (acts.Accesses a cell) = OrdersFit a
IsOrdered (acts.Fences o) = IsFenceOrder o
IsOrdered _ = Unit {0}

is_ordered : (p : Program) (t : Places) (w : World) (block at : ℕ) (a : Act) → ActFits p t w block at a → IsOrdered a
is_ordered p t w block at (acts.Accesses a cell) h = h.orders
is_ordered p t w block at (acts.Fences o) h = h.1
is_ordered p t w block at _ h = tt

-- ---- small changes

module _ (p : Program) (m : ℕ) where
  abbrev Good : Configuration → Type 0
  Good d = All (EventIsPrintable (length d.stacks)) d.log × All (HasFewCells m) d.objects × (d.cells ≤ m)

  logged_good : (d : Configuration) (i : ℕ) (k : Kind) → Good d → KindIsPrintable (length d.stacks) k → Good (logged i k d)
  logged_good d i k h names = (All-cons (EventIsPrintable (length d.stacks)) (event i k) d.log names h.0, h.1, h.2)

  becomes_good : (d : Configuration) (k : ℕ) (s : Stack) → Good d → Good (stack_becomes k s d)
  becomes_good d k s h = (subst (λ n. All (EventIsPrintable n) d.log) (sym (length-set d.stacks k s)) h.0, h.1, h.2)

  ended_good : (d : Configuration) (fs : List Activation) → Good d → Good (frames_end fs d)
  ended_good d fs h = (h.0, ended_few m d.objects (flat_map (λ (f : Activation). f.objects) fs) h.1, h.2)

  dies_good : (d : Configuration) (k : ℕ) (fs : List Activation) → Good d → Good (stack_dies k fs d)
  dies_good d k fs h = ended_good (stack_becomes k Dead d) fs (becomes_good d k Dead h)

  set_within : (d : Configuration) (k n : ℕ) (s : Stack) → n < length d.stacks → n < length (stack_becomes k s d).stacks
  set_within d k n s l = omega (arith, l, length-set d.stacks k s)

  enters_good : (d : Configuration) (i k : ℕ) (r : EnteredFrames) → Good d → k < length d.stacks → Good (enters i k r d)
  enters_good d i k r h l =
      let c1 = thread_changes i (on_stack k) d in
      let c2 = stack_becomes k (Active i r.frames) c1 in
      ended_good (logged i (kinds.Enter k) c2) r.ended (logged_good c2 i (kinds.Enter k) (becomes_good c1 k (Active i r.frames) h) (set_within d k k (Active i r.frames) l))

  next_keeps : (d : Configuration) (u : Turn) (fs : Option (List Activation)) → Good d → Every Good (next d u fs)
  next_keeps d u fs h = every_on Good fs _ (λ now q. becomes_good d u.stack (Active u.thread now) h)

  faulted_keeps : (d : Configuration) (u : Turn) (e : Ending) → Good d → Every Good (faulted p d u e)
  faulted_keeps d u e h = every_on Good u.doing.exceptional _ (λ o q. by o)
    where
      by : (o : Option Goal) → Every Good (excepted p d u e o)
      by None = tt
      by (Some g) = next_keeps d u _ h

  refused_keeps : (d : Configuration) (u : Turn) (k : Case) → Good d → Every Good (refused p d u k)
  refused_keeps d u DivideByZero h = faulted_keeps d u _ h
  refused_keeps d u NullAccess h = faulted_keeps d u _ h
  refused_keeps d u _ h = tt

  tried_keeps : {A : Type 0} (d : Configuration) (u : Turn) (o : Option (Result A Case)) (go : A → Outcome) → Good d → ((a : A) → o ≡ Some (Ok a) → Every Good (go a)) → Every Good (tried p d u o go)
  unfolding tried
  tried_keeps {A} d u o go h good = every_on Good o _ by
    where
      by : (r : Result A Case) → o ≡ Some r → Every Good (unless_refused p d u go r)
      by (Err k) q = refused_keeps d u k h
      by (Ok a) q = good a q

  -- a stack that is entered exists
  entering_keeps : (d : Configuration) (u : Turn) (s : Scalar) (e : Entering) (go : ℕ → EnteredFrames → Outcome) → Good d → ((k : ℕ) (r : EnteredFrames) → k < length d.stacks → Every Good (go k r)) → Every Good (entering p d u s e go)
  entering_keeps d u s e go h good = tried_keeps d u (ready d.stacks s) _ h (λ x q. tried_keeps d u (entered p x.1 e) _ h (λ r q'. good x.0 r (slice_get_within d.stacks x.0 (Ready x.1) (ready_is d.stacks s x q))))

  -- so it does where the step ends by entering the stack, with as many stacks as before
  over_keeps : (d : Configuration) (u : Turn) (s : Scalar) (e : Entering) (go : Configuration) → Good d → Good go → length go.stacks ≡ length d.stacks → Every Good (entering p d u s e (λ k r. Next (enters u.thread k r go)))
  over_keeps d u s e go h k same = entering_keeps d u s e (λ n r. Next (enters u.thread n r go)) h (λ n r l. enters_good go u.thread n r k (omega (arith, l, same)))

  asks_keeps : (d : Configuration) (u : Turn) (n : ℕ) (go : Outcome) → Good d → (n ≤ d.cells → Every Good go) → Every Good (asks_cells p d u n go)
  asks_keeps d u n go h good = by (nat_le n d.cells) refl
    where
      by : (x : Bool) → nat_le n d.cells ≡ x → Every Good (if x then go else faulted p d u (HeapFull u.thread n d.cells))
      by true e = good (grind (arith, nat_tests))
      by false e = faulted_keeps d u (HeapFull u.thread n d.cells) h

  -- an object is made with no more cells than are left
  added_good : (d : Configuration) (cs : List ℕ) → Good d → length cs ≤ d.cells → Good (object_added p d cs)
  added_good d cs h l =
      (h.0, All-push (HasFewCells m) d.objects (object_of (type_graph p.tables) cs) h.1 (omega (arith, l, h.2)), omega (arith, h.2))

  accessed_keeps : (d : Configuration) (u : Turn) (k : Option Kind) (o : Option (List Activation)) → Good d → ((x : Kind) → k ≡ Some x → KindIsPrintable (length d.stacks) x) → Every Good (accessed d u k o)
  accessed_keeps d u k o h names = every_on Good k _ (λ x q. every_on Good o _ (λ fs r. by x (names x q) fs (race d.rule d.log (event u.thread x))))
    where
      by : (x : Kind) → KindIsPrintable (length d.stacks) x → (fs : List Activation) (r : Option ℕ) → Every Good (raced d u (event u.thread x) fs r)
      by x n fs (Some y) = tt
      by x n fs None = next_keeps (logged u.thread x d) u (Some fs) (logged_good d u.thread x h n)

  wakes_keep : (wake : ℕ) (ws : List Waiter) (d e : Configuration) → Good d → wakes_all p wake ws d ≡ Some e → Good e
  wakes_keep wake [] d e h q = let same : d ≡ e = cc in subst Good same h
  wakes_keep wake (w ∷ ws) d e h q =
      let u = some_inside (turn_of p d w.thread) _ e q in
      let n = some_inside (wakes_one p wake d u.0) (wakes_all p wake ws) e u.2 in
      let f = some_inside (passed p u.0.top ((was_woken ∷ []) ∷ [])) _ n.0 n.1 in
      let l : Configuration = logged u.0.thread (kinds.Woken wake) d in
      let same : stack_becomes u.0.stack (Active u.0.thread (f.0 ∷ u.0.below)) l ≡ n.0 = cc in
      let one : Good (stack_becomes u.0.stack (Active u.0.thread (f.0 ∷ u.0.below)) l) = becomes_good l u.0.stack (Active u.0.thread (f.0 ∷ u.0.below)) (logged_good d u.0.thread (kinds.Woken wake) h tt) in
      wakes_keep wake ws n.0 e (subst Good same one) n.2

  -- ---- acts

  module _ (b : Configuration) (u : Turn) (h : Good b) (there : u.stack < length b.stacks) (few : length b.waiters ≤ 64) where
    left_good : (f : Activation) → Good (leaving u f b)
    left_good f = let d = stack_becomes u.stack (Ready (f ∷ u.below)) b in logged_good d u.thread (kinds.Leave u.stack) (becomes_good b u.stack (Ready (f ∷ u.below)) h) (set_within b u.stack u.stack (Ready (f ∷ u.below)) there)

    enters_by_keeps : (d : Configuration) (s : Scalar) (a : With TypedValues Classed) → Good d → Every Good (enters_by p d u s a)
    enters_by_keeps d s a k = every_on Good (entering_of p.tables a) _ (λ e q. over_keeps d u s e d k k refl)

    replied_keeps : (d : Configuration) (a : Reply TypedValues Classed) → Good d → Every Good (replied p d u a)
    replied_keeps d (Resume w) k = enters_by_keeps d (scalars.Stack u.stack) w k
    replied_keeps d (Rebind x w) k = every_on Good (scalar_in (Some x.1)) _ (λ s q. enters_by_keeps d s w k)
    replied_keeps d Exit k = k
    replied_keeps d clients.Stop k = tt

    answered_keeps : (d : Configuration) (fs : List Activation) (a : Option Answer) → Good d → Every Good (answered p d u fs a)
    answered_keeps d fs None k = tt
    answered_keeps d fs (Some a) k =
        tried_keeps (taken a d) u (edited p a.edit fs) _ k (λ r q.
        replied_keeps (edits u r (taken a d)) a.reply (ended_good (stack_becomes u.stack (Ready r.frames) (taken a d)) r.ended (becomes_good (taken a d) u.stack (Ready r.frames) k)))

    trapped_keeps : (n : Option ℕ) (cs : List ℕ) → Every Good (trapped p b u n cs)
    trapped_keeps n cs = every_on Good (waiting u cs) _ (λ f q a. answered_keeps (noted (trap_note u n) (leaving u f b)) (f ∷ u.below) a (left_good f))

    watches_keep : (n : ℕ) (cs : List ℕ) (g : Goal) (x : Bool) → Every Good (if x then trapped p b u (Some n) cs else goes b u g)
    watches_keep n cs g true = trapped_keeps (Some n) cs
    watches_keep n cs g false = next_keeps b u _ h

    chooses_keep : (g k : Goal) (x : Bool) → Every Good (if x then goes b u k else goes b u g)
    chooses_keep g k true = next_keeps b u _ h
    chooses_keep g k false = next_keeps b u _ h

    returns_keep : (vs : TypedValues) (fs : List Activation) → Every Good (returns p b u vs fs)
    returns_keep vs [] = dies_good b u.stack (u.top ∷ u.below) h
    returns_keep vs (f ∷ fs) = next_keeps (frames_end (u.top ∷ []) b) u _ (ended_good b (u.top ∷ []) h)

    starts_keep : (s own : Scalar) (e : Entering) (x : Bool) → Every Good (if x then faulted p b u (ThreadsFull u.thread) else entering p b u s e (λ k r. has_result p (started b u own k r) u (scalars.Thread (length b.threads))))
    starts_keep s own e true = faulted_keeps b u (ThreadsFull u.thread) h
    starts_keep s own e false = entering_keeps b u s e _ h (λ k r l.
        let d = record b { threads = b.threads ++ Some (record { stack = k; own = own }) ∷ [] } in
        next_keeps (started b u own k r) u _ (enters_good (logged u.thread (kinds.NewThread (length b.threads)) d) (length b.threads) k r (logged_good d u.thread (kinds.NewThread (length b.threads)) h tt) l))

    waits_keep : (timed : Bool) (y : Scalar) (cell : CellId) → Every Good (futex_waits p b u timed y cell)
    waits_keep timed y cell = tried_keeps b u _ _ h (λ at q. every_on Good _ _ (λ k q'. by at k (same_scalar k.value y)))
      where
        by : (at : CellId) (k : Chosen) (x : Bool) → Every Good (if x then accessed (waits_at u timed at b) u (kind_of (acts.Loads Relaxed) at k) (onto u u.top) else accessed b u (kind_of (acts.Loads Relaxed) at k) (with_some (passed p u.top ((found_another ∷ []) ∷ [])) (onto u)))
        by at k true = accessed_keeps (waits_at u timed at b) u (kind_of (acts.Loads Relaxed) at k) (onto u u.top) h (λ x e. kind_is_printable (length b.stacks) (acts.Loads Relaxed) at k x refl e)
        by at k false = accessed_keeps b u (kind_of (acts.Loads Relaxed) at k) (with_some (passed p u.top ((found_another ∷ []) ∷ [])) (onto u)) h (λ x e. kind_is_printable (length b.stacks) (acts.Loads Relaxed) at k x refl e)

    these_keep : (at : CellId) (ws : List Waiter) → length ws ≤ 64 → Every Good (wakes_these p b u at ws)
    these_keep at ws l =
        let d = logged u.thread (kinds.Wake at (length ws)) (record b { waiters = without ws b.waiters }) in
        every_on Good (wakes_all p (length b.log) ws d) _ (λ e q.
        next_keeps e u _ (wakes_keep (length b.log) ws d e (logged_good (record b { waiters = without ws b.waiters }) u.thread (kinds.Wake at (length ws)) h l) q))

    made_stack : (k f : ℕ) → Good (logged u.thread (kinds.NewStack (length b.stacks)) (record b { stacks = b.stacks ++ Ready (fresh_frame p f k ∷ []) ∷ [] }))
    made_stack k f =
        let d = record b { stacks = b.stacks ++ Ready (fresh_frame p f k ∷ []) ∷ [] } in
        let more : length d.stacks ≡ length b.stacks + 1 = length-append b.stacks (Ready (fresh_frame p f k ∷ []) ∷ []) in
        logged_good d u.thread (kinds.NewStack (length b.stacks)) (All-weaker (EventIsPrintable (length b.stacks)) (EventIsPrintable (length d.stacks)) (λ e n. wider e.kind (length b.stacks) (length d.stacks) (omega (arith, more)) n) b.log h.0, h.1, h.2) (omega (arith, more))
      where
        wider : (k : Kind) (n o : ℕ) → n ≤ o → KindIsPrintable n k → KindIsPrintable o k
        wider (kinds.Access mode cell order position value) n o l h = h
        wider (kinds.Fence order) n o l h = h
        wider (kinds.NewStack k) n o l h = omega (arith, l, h)
        wider (kinds.NewThread i) n o l h = h
        wider (kinds.Leave k) n o l h = omega (arith, l, h)
        wider (kinds.Enter k) n o l h = omega (arith, l, h)
        wider (kinds.Wake cell many) n o l h = h
        wider (kinds.Woken k) n o l h = h

    performed_keeps : (a : Act) → IsOrdered a → Every Good (performed p b u a)
    performed_keeps (acts.Gives vs) o = next_keeps b u _ h
    performed_keeps (acts.Faults k) o = refused_keeps b u k h
    performed_keeps (acts.Goes g) o = next_keeps b u _ h
    performed_keeps (acts.Calls f vs) o = tried_keeps b u _ _ h (λ k q. next_keeps b u _ h)
    performed_keeps (acts.Replaces f vs) o = tried_keeps b u _ _ h (λ k q. next_keeps (frames_end (u.top ∷ []) b) u _ (ended_good b (u.top ∷ []) h))
    performed_keeps (acts.Returns vs) o = returns_keep vs u.below
    performed_keeps (acts.Throws e) o = tried_keeps b u _ _ h (λ r q. next_keeps (frames_end r.ended b) u (Some r.frames) (ended_good b r.ended h))
    performed_keeps (acts.Casts d s) o = tried_keeps b u _ _ h (λ x q. next_keeps b u _ h)
    performed_keeps (acts.Finds way s) o = tried_keeps b u _ _ h (λ x q. next_keeps b u _ h)
    performed_keeps (acts.Makes x) o = let cs = leaf_classes (type_graph p.tables) x in asks_keeps b u _ _ h (λ l. next_keeps (object_added p b cs) u _ (added_good b cs h l))
    performed_keeps (acts.MakesHybrid x n) o =
        let cs = hybrid_classes (type_graph p.tables) x n in
        asks_keeps b u _ _ h (λ l. next_keeps (object_added p b cs) u _ (added_good b cs h (omega (arith, l, length-append (leaf_classes (type_graph p.tables) x) (times n (run_classes (type_graph p.tables) x)), times_length n (run_classes (type_graph p.tables) x)))))
    performed_keeps (acts.MakesOwn x) o = let cs = leaf_classes (type_graph p.tables) x in asks_keeps b u _ _ h (λ l. next_keeps (object_added p b cs) (owning u (length b.objects)) _ (added_good b cs h l))
    performed_keeps (acts.Accesses a cell) o = tried_keeps b u _ _ h (λ at q. every_on Good _ _ (λ k q'.
        accessed_keeps (record b { picks = (pick (length (choices b.rule (initial b) b.log u.thread at (wanted a))) b.picks).1 }) u (kind_of a at k) (with_some (passed p u.top (access_results a k)) (onto u)) h (λ x e. kind_is_printable (length b.stacks) a at k x o e)))
    performed_keeps (acts.Fences r) o = next_keeps (logged u.thread (kinds.Fence r) b) u _ (logged_good b u.thread (kinds.Fence r) h o)
    performed_keeps (acts.Traps cs) o = trapped_keeps None cs
    performed_keeps (acts.Watches n cs g) o = watches_keep n cs g (is_watched n b.watched)
    performed_keeps (acts.Chooses n g k) o = chooses_keep g k (is_watched n b.watched)
    performed_keeps (acts.Swaps s cs e) o = every_on Good (waiting u cs) _ (λ f q. over_keeps b u s e (leaving u f b) h (left_good f) (length-set b.stacks u.stack (Ready (f ∷ u.below))))
    performed_keeps (acts.Leaves s e) o = over_keeps b u s e (stack_dies u.stack (u.top ∷ u.below) b) h (dies_good b u.stack (u.top ∷ u.below) h) (length-set b.stacks u.stack Dead)
    performed_keeps (acts.Starts s own e) o = starts_keep s own e (nat_le most_threads (length b.threads))
    performed_keeps (acts.MakesStack f) o = tried_keeps b u _ _ h (λ k q. next_keeps (logged u.thread (kinds.NewStack (length b.stacks)) (record b { stacks = b.stacks ++ Ready (fresh_frame p f k ∷ []) ∷ [] })) u _ (made_stack k f))
    performed_keeps (acts.KillsStack s) o = tried_keeps b u _ _ h (λ r q. next_keeps (stack_dies r.0 r.1 b) u _ (dies_good b r.0 r.1 h))
    performed_keeps acts.Tells o = next_keeps b u _ h
    performed_keeps acts.Exits o = dies_good b u.stack (u.top ∷ u.below) h
    performed_keeps (acts.SetsOwn r) o = next_keeps (thread_changes u.thread (with_own r) b) u _ h
    performed_keeps acts.TellsOwn o = every_on Good _ _ (λ x q. every_on Good x _ (λ y r. next_keeps b u _ h))
    performed_keeps (acts.Waits timed y cell) o = waits_keep timed y cell
    performed_keeps (acts.Wakes many cell) o = tried_keeps b u _ _ h (λ at q.
        these_keep at _ (omega (arith, take_short many (filter (is_at at) b.waiters), filter_short (is_at at) b.waiters, few)))

-- ---- a step

module _ (p : Program) (t : Places) (typed : IsTyped p t) (m : ℕ) (c : Configuration) (well : WellTyped p t c) (h : Good p m c) where
  few : length c.waiters ≤ 64
  few = omega (arith, waiters_few p c.threads c.stacks c.waiters well.waiters, well.most)

  -- the thread that makes the step has not ended
  left_there : (i : ℕ) (u : Turn) → turn_of p c i ≡ Some u → (th : Thread) × (slice_get c.threads i ≡ Some (Some th))
  left_there i u e =
      let o = some_inside (slice_get c.threads i) _ u e in
      let th = some_inside o.0 _ u o.2 in
      (th.0, o.1 ∙ ap (λ (x : Option Thread). Some x) th.1)

  turns_keep : (ps : List ℕ) (i : ℕ) → Every (Good p m) (turns p (picked c ps) i)
  turns_keep ps i = every_on (Good p m) (turn_of p (picked c ps) i) _ (λ u q.
      let th = left_there i u q in
      let k : Placed p t c u × (u.thread ≡ i) = some_at (turn_of p c i) (λ u. Placed p t c u × (u.thread ≡ i)) u q (has_place p t typed c i th.0 well th.1) in
      by u k.0 (find (is_of i) c.waiters))
    where
      by : (u : Turn) → Placed p t c u → (w : Option Waiter) → Every (Good p m) (turned p (picked c ps) w u)
      by u k (Some w) = next_keeps p m (noted (TimedOut u.thread w.cell) (record (picked c ps) { waiters = without (w ∷ []) c.waiters })) u _ h
      by u k None = every_on (Good p m) u.doing.act _ (λ a q. performed_keeps p m (picked c ps) u h (slice_get_within c.stacks u.stack (Active u.thread (u.top ∷ u.below)) k.stands) few a
          (is_ordered p t (world p.tables c) u.top.block u.top.at a (some_at u.doing.act (ActFits p t (world p.tables c) u.top.block u.top.at) a q k.turned.doing.act)))

  step_keeps : Every (Good p m) (step p c)
  step_keeps = by (threads_from 0 c.threads) (runnable c)
    where
      choice : (x : Bool) (is : List ℕ) → Every (Good p m) (if x then End [] (Budget c.steps) else picking_thread p c is)
      choice true is = tt
      choice false is = let k = pick (length is) c.picks in every_on (Good p m) (slice_get is k.0) _ (λ i q. turns_keep k.1 i)

      by : (ts is : List ℕ) → Every (Good p m) (ends_or_picks p c ts is)
      by [] is = tt
      by (x ∷ ts) [] = tt
      by (x ∷ ts) (i ∷ is) = choice (c.steps == c.budget) (i ∷ is)

  client_keeps : (k : Client) (o : Outcome) → Every (Good p m) o → Every (Good p m) (client_answers p k o)
  client_keeps k (Next d) g = g
  client_keeps k (End ls e) g = g
  client_keeps k (Asks view go) g = by (go (answer_of p.tables view k)) (g (answer_of p.tables view k))
    where
      by : (o : Outcome) → Every (Good p m) o → Every (Good p m) (with_client (advanced k) o)
      by (Next d) g = g
      by (End ls e) g = g
      by (Asks view go) g = g
      by Stuck g = g
  client_keeps k Stuck g = g

  next_good : (d : Configuration) → client_answers p c.client (step p c) ≡ Next d → Good p m d
  next_good d q = subst (Every (Good p m)) q (client_keeps c.client (step p c) step_keeps)

pub steps_stay_printable : StepsStayPrintable
steps_stay_printable p t c d m typed well h q = let g = next_good p t typed m c well (h.log, h.objects, h.cells) d q in record { log = g.0; objects = g.1; cells = g.2 }

pub first_is_printable : FirstIsPrintable
first_is_printable p s f c m objects cells first = by (p.body f) first
  where
    by : (o : Option (Option ℕ)) → with_some {B = Configuration} o (λ b. with_some {B = Configuration} b (λ block. Some (begins_in p s f block))) ≡ Some c → IsPrintable m c
    by None e = cc
    by (Some None) e = cc
    by (Some (Some block)) e =
        let same : begins_in p s f block ≡ c = cc in
        subst (IsPrintable m) same (record { log = All-nil (EventIsPrintable 1); objects = objects; cells = omega (arith, cells) })
