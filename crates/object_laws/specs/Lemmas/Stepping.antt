-- A step keeps the leaves of each object.
use Rattle.std.specs.Prelude.{◌≡◌, ◌==◌, ◌++◌, ℕ, Bool, true, false, nat_le, List, [], ◌∷◌, Option, Some, None, Result, Ok, Err, find, length, slice_get, refl, if◌then◌else◌}
use Rattle.std.proofs.Common.{subst}
use Rattle.mu_base.specs.declared.order.Order.TheVariants.{Relaxed}
use Rattle.mu_values.specs.declared.scalars.Scalar.{Scalar}
use Rattle.mu_values.specs.declared.scalars.Scalar.TheVariants as scalars
use Rattle.mu_values.specs.declared.cells.CellId.{CellId}
use Rattle.mu_values.specs.SameScalar.{same_scalar}
use Rattle.mu_values.specs.Slots.{TypedValues}
use Rattle.typed_heap.specs.Heap.{hybrid_classes}
use Rattle.typed_heap.specs.Objects.{HeapObject, leaf_classes, object_of}
use Rattle.typed_heap.specs.Places.{with_some}
use Rattle.frames.specs.Activations.{Activation, Goal, Value}
use Rattle.mem_axioms.specs.Choices.{choices}
use Rattle.mem_axioms.specs.Races.{race}
use Rattle.mem_axioms.specs.declared.types.Chosen.{Chosen}
use Rattle.mem_axioms.specs.declared.types.Event.{Event}
use Rattle.mem_axioms.specs.declared.types.Kind.{Kind}
use Rattle.mem_axioms.specs.declared.types.Kind.TheVariants as kinds
use Rattle.futex.specs.declared.waiters.Waiter.{Waiter}
use Rattle.futex.specs.Waiting.{is_of, without}
use Rattle.mu_threads.specs.Picks.{pick}
use Rattle.mu_model.specs.Accesses.{access_results, accessed, initial, kind_of, raced, wanted}
use Rattle.mu_model.specs.Acts as acts
use Rattle.mu_model.specs.Acts.{Access, Act, Entering, Program}
use Rattle.mu_model.specs.Changes.{event, frames_end, logged, logged_event, noted, stack_becomes, stack_dies, thread_changes}
use Rattle.mu_model.specs.Clients.{Answer, Classed, Exit, Rebind, Reply, Resume, With}
use Rattle.mu_model.specs.Clients as clients
use Rattle.mu_model.specs.Configuration.{Active, Configuration, Ready}
use Rattle.mu_model.specs.EnteringStacks.{entered, entering, leaving, most_threads, ready, started}
use Rattle.mu_model.specs.Exceptions.{EnteredFrames, returns}
use Rattle.mu_model.specs.Frames.{arrived, caught, fresh_frame, passed}
use Rattle.mu_model.specs.Objects.{asks_cells, object_added, owning}
use Rattle.mu_model.specs.Operands.{scalar_in}
use Rattle.mu_model.specs.Outcomes.{End, Outcome, excepted, faulted, has_results, next, on, onto, refused, tried, unless_refused}
use Rattle.mu_model.specs.Edits.{edited}
use Rattle.mu_model.specs.Step.{ends_or_picks, performed, picked, picking_thread, runnable, threads_from, turned, turns, with_own}
use Rattle.mu_model.specs.Traps.{answered, edits, entering_of, enters_by, goes, is_watched, replied, taken, trap_note, trapped}
use Rattle.mu_model.specs.Turns.{Turn, turn_of, waiting}
use Rattle.mu_model.specs.Types.{type_graph}
use Rattle.mu_model.specs.Waiting.{found_another, waits_at, wakes_all, wakes_one, wakes_these, was_woken}
use Rattle.mu_model.specs.declared.endings.Case.{Case}
use Rattle.mu_model.specs.declared.endings.Case.TheVariants.{DivideByZero, NullAccess}
use Rattle.mu_model.specs.declared.endings.Ending.{Ending}
use Rattle.mu_model.specs.declared.endings.Ending.TheVariants.{Budget, HeapFull, ThreadsFull}
use Rattle.mu_model.specs.declared.lines.Note.TheVariants.{TimedOut}
use Rattle.object_laws.specs.Leaves.{EachNext, KeepsLeaves, StepsKeepLeaves}
use Rattle.object_laws.specs.Lemmas.Kept.{added_keeps, ended_keeps, keeps_self, keeps_then}

each_on : {A : Type 0} (P : Configuration → Type 0) (o : Option A) (go : A → Outcome) → ((a : A) → o ≡ Some a → EachNext P (go a)) → EachNext P (on o go)
unfolding on
each_on P None go h = tt
each_on P (Some a) go h = h a refl

some_inside : {A B : Type 0} (o : Option A) (f : A → Option B) (b : B) → with_some o f ≡ Some b → (a : A) × (o ≡ Some a) × (f a ≡ Some b)
some_inside None f b e = cc
some_inside (Some a) f b e = (a, refl, e)

-- the objects at first
module _ (os : List HeapObject) (p : Program) where
  abbrev pub Keeps : Configuration → Type 0
  Keeps d = KeepsLeaves os d.objects

  -- ---- outcomes

  next_keeps : (d : Configuration) (u : Turn) (fs : Option (List Activation)) → Keeps d → EachNext Keeps (next d u fs)
  next_keeps d u fs h = each_on Keeps fs _ (λ now q. h)

  given_keeps : (d : Configuration) (u : Turn) (vs : List Value) → Keeps d → EachNext Keeps (has_results p d u vs)
  given_keeps d u vs h = next_keeps d u (with_some (passed p u.top vs) (onto u)) h

  faulted_keeps : (d : Configuration) (u : Turn) (e : Ending) → Keeps d → EachNext Keeps (faulted p d u e)
  faulted_keeps d u e h = each_on Keeps u.doing.exceptional _ (λ o q. by o)
    where
      by : (o : Option Goal) → EachNext Keeps (excepted p d u e o)
      by None = tt
      by (Some g) = next_keeps d u (with_some (caught p u.top g scalars.Null) (onto u)) h

  refused_keeps : (d : Configuration) (u : Turn) (k : Case) → Keeps d → EachNext Keeps (refused p d u k)
  refused_keeps d u DivideByZero h = faulted_keeps d u _ h
  refused_keeps d u NullAccess h = faulted_keeps d u _ h
  refused_keeps d u _ h = tt

  tried_keeps : {A : Type 0} (d : Configuration) (u : Turn) (o : Option (Result A Case)) (go : A → Outcome) → Keeps d → ((a : A) → EachNext Keeps (go a)) → EachNext Keeps (tried p d u o go)
  unfolding tried
  tried_keeps {A} d u o go h good = each_on Keeps o _ (λ r q. by r)
    where
      by : (r : Result A Case) → EachNext Keeps (unless_refused p d u go r)
      by (Err k) = refused_keeps d u k h
      by (Ok a) = good a

  entering_keeps : (d : Configuration) (u : Turn) (s : Scalar) (e : Entering) (go : ℕ → EnteredFrames → Outcome) → Keeps d → ((k : ℕ) (r : EnteredFrames) → EachNext Keeps (go k r)) → EachNext Keeps (entering p d u s e go)
  entering_keeps d u s e go h good = tried_keeps d u (ready d.stacks s) _ h (λ x. tried_keeps d u (entered p x.1 e) _ h (λ r. good x.0 r))

  -- ---- acts

  returns_keeps : (d : Configuration) (u : Turn) (vs : TypedValues) (fs : List Activation) → Keeps d → EachNext Keeps (returns p d u vs fs)
  returns_keeps d u vs [] h = ended_keeps os d.objects (u.top ∷ u.below) h
  returns_keeps d u vs (f ∷ fs) h = next_keeps (frames_end (u.top ∷ []) d) u (with_some (passed p f vs.values) (λ g. Some (g ∷ fs))) (ended_keeps os d.objects (u.top ∷ []) h)

  asks_keeps : (d : Configuration) (u : Turn) (m : ℕ) (go : Outcome) → Keeps d → EachNext Keeps go → EachNext Keeps (asks_cells p d u m go)
  asks_keeps d u m go h good = by (nat_le m d.cells)
    where
      by : (x : Bool) → EachNext Keeps (if x then go else faulted p d u (HeapFull u.thread m d.cells))
      by true = good
      by false = faulted_keeps d u (HeapFull u.thread m d.cells) h

  -- an object with these leaves is made, and its number is the result
  made_keeps : (d : Configuration) (u v : Turn) (m : ℕ) (cs : List ℕ) (s : Scalar) → Keeps d → EachNext Keeps (asks_cells p d u m (has_results p (object_added p d cs) v ((s ∷ []) ∷ [])))
  made_keeps d u v m cs s h =
      asks_keeps d u m (has_results p (object_added p d cs) v ((s ∷ []) ∷ [])) h
      (given_keeps (object_added p d cs) v ((s ∷ []) ∷ []) (keeps_then os d.objects (d.objects ++ object_of (type_graph p.tables) cs ∷ []) h (added_keeps d.objects (object_of (type_graph p.tables) cs ∷ []))))

  raced_keeps : (d : Configuration) (u : Turn) (e : Event) (fs : List Activation) (r : Option ℕ) → Keeps d → EachNext Keeps (raced d u e fs r)
  raced_keeps d u e fs (Some m) h = tt
  raced_keeps d u e fs None h = next_keeps (logged_event e d) u (Some fs) h

  accessed_keeps : (d : Configuration) (u : Turn) (k : Option Kind) (fs : Option (List Activation)) → Keeps d → EachNext Keeps (accessed d u k fs)
  accessed_keeps d u k fs h =
      each_on Keeps k _ (λ x q. each_on Keeps fs _ (λ now r. raced_keeps d u (event u.thread x) now (race d.rule d.log (event u.thread x)) h))

  accesses_keeps : (d : Configuration) (u : Turn) (a : Access) (cell : CellId) → Keeps d → EachNext Keeps (performed p d u (acts.Accesses a cell))
  accesses_keeps d u a cell h =
      tried_keeps d u _ _ h (λ at.
      each_on Keeps _ _ (λ k r. accessed_keeps (record d { picks = (pick (length (choices d.rule (initial d) d.log u.thread at (wanted a))) d.picks).1 }) u (kind_of a at k) (with_some (passed p u.top (access_results a k)) (onto u)) h))

  swaps_keeps : (d : Configuration) (u : Turn) (s : Scalar) (cs : List ℕ) (e : Entering) → Keeps d → EachNext Keeps (performed p d u (acts.Swaps s cs e))
  swaps_keeps d u s cs e h = each_on Keeps (waiting u cs) _ (λ f q. entering_keeps d u s e _ h (λ k r. ended_keeps os d.objects r.ended h))

  leaves_keeps : (d : Configuration) (u : Turn) (s : Scalar) (e : Entering) → Keeps d → EachNext Keeps (performed p d u (acts.Leaves s e))
  leaves_keeps d u s e h = entering_keeps d u s e _ h (λ k r. ended_keeps os (stack_dies u.stack (u.top ∷ u.below) d).objects r.ended (ended_keeps os d.objects (u.top ∷ u.below) h))

  starts_keeps : (d : Configuration) (u : Turn) (s own : Scalar) (e : Entering) → Keeps d → EachNext Keeps (performed p d u (acts.Starts s own e))
  starts_keeps d u s own e h = by (nat_le most_threads (length d.threads))
    where
      by : (x : Bool) → EachNext Keeps (if x then faulted p d u (ThreadsFull u.thread) else entering p d u s e (λ k r. has_results p (started d u own k r) u ((scalars.Thread (length d.threads) ∷ []) ∷ [])))
      by true = faulted_keeps d u (ThreadsFull u.thread) h
      by false = entering_keeps d u s e _ h (λ k r. given_keeps (started d u own k r) u _ (ended_keeps os d.objects r.ended h))

  stack_keeps : (d : Configuration) (u : Turn) (f : ℕ) → Keeps d → EachNext Keeps (performed p d u (acts.MakesStack f))
  stack_keeps d u f h =
      tried_keeps d u _ _ h (λ k.
      given_keeps (logged u.thread (kinds.NewStack (length d.stacks)) (record d { stacks = d.stacks ++ Ready (fresh_frame p f k ∷ []) ∷ [] })) u _ h)

  -- ---- traps

  enters_by_keeps : (d : Configuration) (u : Turn) (s : Scalar) (a : With TypedValues Classed) → Keeps d → EachNext Keeps (enters_by p d u s a)
  enters_by_keeps d u s a h = each_on Keeps (entering_of p.tables a) _ (λ e q. entering_keeps d u s e _ h (λ k r. ended_keeps os d.objects r.ended h))

  replied_keeps : (d : Configuration) (u : Turn) (a : Reply TypedValues Classed) → Keeps d → EachNext Keeps (replied p d u a)
  replied_keeps d u (Resume w) h = enters_by_keeps d u (scalars.Stack u.stack) w h
  replied_keeps d u (Rebind x w) h = each_on Keeps (scalar_in (Some x.1)) _ (λ s q. enters_by_keeps d u s w h)
  replied_keeps d u Exit h = h
  replied_keeps d u clients.Stop h = tt

  answered_keeps : (d : Configuration) (u : Turn) (fs : List Activation) (a : Option Answer) → Keeps d → EachNext Keeps (answered p d u fs a)
  answered_keeps d u fs None h = tt
  answered_keeps d u fs (Some a) h = tried_keeps (taken a d) u (edited p a.edit fs) _ h (λ r. replied_keeps (edits u r (taken a d)) u a.reply (ended_keeps os d.objects r.ended h))

  trapped_keeps : (d : Configuration) (u : Turn) (m : Option ℕ) (cs : List ℕ) → Keeps d → EachNext Keeps (trapped p d u m cs)
  trapped_keeps d u m cs h = each_on Keeps (waiting u cs) _ (λ f q a. answered_keeps (noted (trap_note u m) (leaving u f d)) u (f ∷ u.below) a h)

  goes_keeps : (d : Configuration) (u : Turn) (g : Goal) → Keeps d → EachNext Keeps (goes d u g)
  goes_keeps d u g h = next_keeps d u (onto u (arrived u.top g)) h

  watches_keeps : (d : Configuration) (u : Turn) (m : ℕ) (cs : List ℕ) (g : Goal) → Keeps d → EachNext Keeps (performed p d u (acts.Watches m cs g))
  watches_keeps d u m cs g h = by (is_watched m d.watched)
    where
      by : (x : Bool) → EachNext Keeps (if x then trapped p d u (Some m) cs else goes d u g)
      by true = trapped_keeps d u (Some m) cs h
      by false = goes_keeps d u g h

  chooses_keeps : (d : Configuration) (u : Turn) (m : ℕ) (g k : Goal) → Keeps d → EachNext Keeps (performed p d u (acts.Chooses m g k))
  chooses_keeps d u m g k h = by (is_watched m d.watched)
    where
      by : (x : Bool) → EachNext Keeps (if x then goes d u k else goes d u g)
      by true = goes_keeps d u k h
      by false = goes_keeps d u g h

  -- ---- waits and wakes

  waits_keeps : (d : Configuration) (u : Turn) (timed : Bool) (v : Scalar) (cell : CellId) → Keeps d → EachNext Keeps (performed p d u (acts.Waits timed v cell))
  waits_keeps d u timed v cell h = tried_keeps d u _ _ h (λ at. each_on Keeps _ _ (λ k r. by at k (same_scalar k.value v)))
    where
      by : (at : CellId) (k : Chosen) (x : Bool) → EachNext Keeps (if x then accessed (waits_at u timed at d) u (kind_of (acts.Loads Relaxed) at k) (onto u u.top) else accessed d u (kind_of (acts.Loads Relaxed) at k) (with_some (passed p u.top ((found_another ∷ []) ∷ [])) (onto u)))
      by at k true = accessed_keeps (waits_at u timed at d) u (kind_of (acts.Loads Relaxed) at k) (onto u u.top) h
      by at k false = accessed_keeps d u (kind_of (acts.Loads Relaxed) at k) (with_some (passed p u.top ((found_another ∷ []) ∷ [])) (onto u)) h

  woken_keeps : (wake : ℕ) (ws : List Waiter) (d e : Configuration) → Keeps d → wakes_all p wake ws d ≡ Some e → Keeps e
  woken_keeps wake [] d e h q = let same : d ≡ e = cc in subst Keeps same h
  woken_keeps wake (w ∷ ws) d e h q =
      let u = some_inside (turn_of p d w.thread) _ e q in
      let m = some_inside (wakes_one p wake d u.0) (wakes_all p wake ws) e u.2 in
      let f = some_inside (passed p u.0.top ((was_woken ∷ []) ∷ [])) _ m.0 m.1 in
      let same : stack_becomes u.0.stack (Active u.0.thread (f.0 ∷ u.0.below)) (logged u.0.thread (kinds.Woken wake) d) ≡ m.0 = cc in
      woken_keeps wake ws m.0 e (subst Keeps same h) m.2

  wakes_keeps : (d : Configuration) (u : Turn) (many : ℕ) (cell : CellId) → Keeps d → EachNext Keeps (performed p d u (acts.Wakes many cell))
  wakes_keeps d u many cell h = tried_keeps d u _ _ h (λ at. these at _)
    where
      these : (at : CellId) (ws : List Waiter) → EachNext Keeps (wakes_these p d u at ws)
      these at ws =
          each_on Keeps _ _ (λ e q.
          given_keeps e u _ (woken_keeps (length d.log) ws (logged u.thread (kinds.Wake at (length ws)) (record d { waiters = without ws d.waiters })) e h q))

  -- ---- a step

  performed_keeps : (d : Configuration) (u : Turn) (a : Act) → Keeps d → EachNext Keeps (performed p d u a)
  performed_keeps d u (acts.Gives vs) h = given_keeps d u vs h
  performed_keeps d u (acts.Faults k) h = refused_keeps d u k h
  performed_keeps d u (acts.Goes g) h = goes_keeps d u g h
  performed_keeps d u (acts.Calls f vs) h = tried_keeps d u _ _ h (λ k. next_keeps d u _ h)
  performed_keeps d u (acts.Replaces f vs) h = tried_keeps d u _ _ h (λ k. next_keeps (frames_end (u.top ∷ []) d) u _ (ended_keeps os d.objects (u.top ∷ []) h))
  performed_keeps d u (acts.Returns vs) h = returns_keeps d u vs u.below h
  performed_keeps d u (acts.Throws e) h = tried_keeps d u _ _ h (λ r. next_keeps (frames_end r.ended d) u _ (ended_keeps os d.objects r.ended h))
  performed_keeps d u (acts.Casts c s) h = tried_keeps d u _ _ h (λ x. given_keeps d u _ h)
  performed_keeps d u (acts.Finds way s) h = tried_keeps d u _ _ h (λ x. given_keeps d u _ h)
  performed_keeps d u (acts.Makes x) h = made_keeps d u u (length (leaf_classes (type_graph p.tables) x)) (leaf_classes (type_graph p.tables) x) (scalars.Object (length d.objects)) h
  performed_keeps d u (acts.MakesHybrid x m) h = made_keeps d u u _ (hybrid_classes (type_graph p.tables) x m) (scalars.Object (length d.objects)) h
  performed_keeps d u (acts.MakesOwn x) h =
      made_keeps d u (owning u (length d.objects)) (length (leaf_classes (type_graph p.tables) x)) (leaf_classes (type_graph p.tables) x) (scalars.Place (length d.objects) 0) h
  performed_keeps d u (acts.Accesses a cell) h = accesses_keeps d u a cell h
  performed_keeps d u (acts.Fences o) h = given_keeps (logged u.thread (kinds.Fence o) d) u [] h
  performed_keeps d u (acts.Traps cs) h = trapped_keeps d u None cs h
  performed_keeps d u (acts.Watches m cs g) h = watches_keeps d u m cs g h
  performed_keeps d u (acts.Chooses m g k) h = chooses_keeps d u m g k h
  performed_keeps d u (acts.Swaps s cs e) h = swaps_keeps d u s cs e h
  performed_keeps d u (acts.Leaves s e) h = leaves_keeps d u s e h
  performed_keeps d u (acts.Starts s r e) h = starts_keeps d u s r e h
  performed_keeps d u (acts.MakesStack f) h = stack_keeps d u f h
  performed_keeps d u (acts.KillsStack s) h = tried_keeps d u _ _ h (λ r. given_keeps (stack_dies r.0 r.1 d) u [] (ended_keeps os d.objects r.1 h))
  performed_keeps d u acts.Tells h = given_keeps d u _ h
  performed_keeps d u acts.Exits h = ended_keeps os d.objects (u.top ∷ u.below) h
  performed_keeps d u (acts.SetsOwn r) h = given_keeps (thread_changes u.thread (with_own r) d) u [] h
  performed_keeps d u acts.TellsOwn h = each_on Keeps _ _ (λ o q. each_on Keeps o _ (λ x r. given_keeps d u _ h))
  performed_keeps d u (acts.Waits timed v cell) h = waits_keeps d u timed v cell h
  performed_keeps d u (acts.Wakes many cell) h = wakes_keeps d u many cell h

  turned_keeps : (d : Configuration) (w : Option Waiter) (u : Turn) → Keeps d → EachNext Keeps (turned p d w u)
  turned_keeps d (Some w) u h = given_keeps (noted (TimedOut u.thread w.cell) (record d { waiters = without (w ∷ []) d.waiters })) u _ h
  turned_keeps d None u h = each_on Keeps u.doing.act _ (λ a q. performed_keeps d u a h)

  turns_keep : (d : Configuration) (i : ℕ) → Keeps d → EachNext Keeps (turns p d i)
  turns_keep d i h = each_on Keeps (turn_of p d i) _ (λ u q. turned_keeps d (find (is_of i) d.waiters) u h)

pub steps_keep_leaves : StepsKeepLeaves
steps_keep_leaves p c = by (threads_from 0 c.threads) (runnable c)
  where
    choice : (x : Bool) (is : List ℕ) → EachNext (Keeps c.objects p) (if x then End [] (Budget c.steps) else picking_thread p c is)
    choice true is = tt
    choice false is = let k = pick (length is) c.picks in each_on (Keeps c.objects p) (slice_get is k.0) _ (λ i q. turns_keep c.objects p (picked c k.1) i (keeps_self c.objects))

    by : (ts is : List ℕ) → EachNext (Keeps c.objects p) (ends_or_picks p c ts is)
    by [] is = tt
    by (x ∷ ts) [] = tt
    by (x ∷ ts) (i ∷ is) = choice (c.steps == c.budget) (i ∷ is)
