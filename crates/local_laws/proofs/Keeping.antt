-- What the turn of another thread keeps: no list of threads or stacks gets shorter, a thread does not begin to wait, no record says that it ended; and it ends a run before its time alone.
use Rattle.mu_values.specs.declared.cells.CellId.{CellId}
use Rattle.mu_base.specs.declared.order.Order.TheVariants.{Relaxed}
use Rattle.mu_values.specs.declared.scalars.Scalar.{Scalar}
use Rattle.mu_values.specs.declared.scalars.Scalar.TheVariants as scalars
use Rattle.mu_values.specs.Slots.{TypedValues}
use Rattle.mu_values.specs.SameScalar.{same_scalar}
use Rattle.typed_heap.specs.Places.{with_some}
use Rattle.frames.specs.Activations.{Goal, Activation}
use Rattle.mem_axioms.specs.Choices.{choices}
use Rattle.mem_axioms.specs.Races.{race}
use Rattle.mem_axioms.specs.declared.types.Kind.{Kind}
use Rattle.mem_axioms.specs.declared.types.Kind.TheVariants as kinds
use Rattle.mem_axioms.specs.declared.types.Chosen.{Chosen}
use Rattle.mu_model.specs.declared.lines.Note.{Note}
use Rattle.mu_model.specs.declared.lines.Note.TheVariants as notes
use Rattle.mu_model.specs.declared.lines.Line.TheVariants as lines
use Rattle.mu_model.specs.declared.endings.Case.{Case}
use Rattle.mu_model.specs.declared.endings.Case.TheVariants.{DivideByZero, NullAccess}
use Rattle.mu_model.specs.declared.endings.Ending.{Ending}
use Rattle.mu_model.specs.declared.endings.Ending.TheVariants as endings
use Rattle.mu_model.specs.Types.{type_graph}
use Rattle.futex.specs.declared.waiters.Waiter.{Waiter}
use Rattle.mu_model.specs.Configuration.{Stack, Ready, Active, Dead, Configuration}
use Rattle.mu_model.specs.Clients.{Classed, With, Reply, Resume, Rebind, Exit, Stop, Answer}
use Rattle.mu_model.specs.Operands.{scalar_in}
use Rattle.mu_model.specs.Acts as acts
use Rattle.mu_model.specs.Acts.{Access, Act, Doing, Entering, Program}
use Rattle.mu_model.specs.Turns.{Turn, turn_of, waiting}
use Rattle.mu_model.specs.Frames.{passed, caught, fresh_frame}
use Rattle.mu_model.specs.Changes.{noted, logged, event, frames_end, stack_becomes, stack_dies, thread_ends, thread_changes}
use Rattle.mu_model.specs.Outcomes.{Outcome, Next, End, Asks, Stuck, on, next, onto, tried, refused, faulted, excepted, unless_refused, has_results}
use Rattle.mu_model.specs.Exceptions.{EnteredFrames, returns, body_or_case}
use Rattle.mu_model.specs.EnteringStacks.{ready, entering, enters, leaving, most_threads, started}
use Rattle.mu_model.specs.Objects.{object_added, asks_cells}
use Rattle.mu_model.specs.Accesses.{initial, wanted, kind_of, raced, accessed}
use Rattle.futex.specs.Waiting.{is_of, is_at, without}
use Rattle.mu_model.specs.Waiting.{was_woken, found_another, waits_at, waited, wakes_one, wakes_all, wakes_these}
use Rattle.mu_model.specs.Edits.{edited}
use Rattle.mu_model.specs.Traps.{trapped, trap_note, answered, edits, replied, taken, enters_by, entering_of, is_watched, goes}
use Rattle.mu_model.specs.Step.{performed, turned, with_own}
use Rattle.mu_threads.specs.Picks.{pick}
use Rattle.std.specs.Prelude.{◌≡◌, ◌≢◌, ◌≤◌, ℕ, zero, suc, Bool, true, false, nat_le, List, [], ◌∷◌, ◌++◌, Option, Some, None, Result, Ok, Err, length, filter, take, slice_set, option_map, reverse, if◌then◌else◌, refl}
use Rattle.std.proofs.Common.{ap, subst, arith, cond}
use Rattle.typed_heap.specs.Objects.{leaf_classes}
use Rattle.mu_model.specs.Changes.{changed}
use Rattle.mu_model.specs.EnteringStacks.{on_stack, entered}
use Rattle.std.proofs.lemmas.List.{length-append}
use Rattle.std.specs.Prelude.{map, not}
use Rattle.std.specs.List.{list_any}
use Rattle.mu_model.specs.declared.lines.Line.{Line}
use Rattle.search_laws.specs.Local.{Awake}

changed_length : {A : Type 0} (f : A → A) (n : ℕ) (xs : List A) → length (changed f n xs) ≡ length xs
changed_length f n [] = refl
changed_length f zero (x ∷ xs) = refl
changed_length f (suc n) (x ∷ xs) = ap suc (changed_length f n xs)

set_length : {A : Type 0} (xs : List A) (a : ℕ) (v : A) → length (slice_set xs a v) ≡ length xs
set_length [] a v = refl
set_length (x ∷ xs) zero v = refl
set_length (x ∷ xs) (suc a) v = ap suc (set_length xs a v)

-- ---- lines that do not say that a thread ended

abbrev pub NoEnds : ℕ → List Line → Type 0
NoEnds i [] = Unit {0}
NoEnds i (lines.Note (notes.Returned j vs) ∷ ls) = (j ≢ i) × NoEnds i ls
NoEnds i (lines.Note (notes.Exited j) ∷ ls) = (j ≢ i) × NoEnds i ls
NoEnds i (l ∷ ls) = NoEnds i ls

-- an ending that cuts the run short
abbrev pub IsCut : Ending → Type 0
IsCut endings.Done = ⊥
IsCut (endings.AllWaiting is) = ⊥
IsCut (endings.Budget n) = ⊥
IsCut e = Unit {0}

abbrev pub IsPlainAnswer : ℕ → Option Answer → Type 0
IsPlainAnswer i None = Unit {0}
IsPlainAnswer i (Some a) = NoEnds i (reverse (map lines.Note a.notes))

pub no_ends_append : (i : ℕ) (xs ys : List Line) → NoEnds i xs → NoEnds i ys → NoEnds i (xs ++ ys)
no_ends_append i [] ys h g = g
no_ends_append i (lines.Event n e ∷ xs) ys h g = no_ends_append i xs ys h g
no_ends_append i (lines.Note n ∷ xs) ys h g = by n h (λ h. no_ends_append i xs ys h g)
  where
    by : (n : Note) → NoEnds i (lines.Note n ∷ xs) → (NoEnds i xs → NoEnds i (xs ++ ys)) → NoEnds i (lines.Note n ∷ xs ++ ys)
    by (notes.Returned j vs) h more = (h.0, more h.1)
    by (notes.Exited j) h more = (h.0, more h.1)
    by _ h more = more h

awake_append : (i : ℕ) (ws : List Waiter) (w : Waiter) → Awake i ws → w.thread ≢ i → Awake i (ws ++ w ∷ [])
awake_append i [] w h g = (g, tt)
awake_append i (x ∷ ws) w h g = (h.0, awake_append i ws w h.1 g)

filtered_awake : (i : ℕ) (q : Waiter → Bool) (ws : List Waiter) → Awake i ws → Awake i (filter q ws)
filtered_awake i q [] a = tt
filtered_awake i q (w ∷ ws) a = by (q w) (filtered_awake i q ws a.1)
  where
    by : (b : Bool) → Awake i (filter q ws) → Awake i (cond b (w ∷ filter q ws) (filter q ws))
    by true r = (a.0, r)
    by false r = r

module _ (T S i : ℕ) where
  abbrev pub Has : Configuration → Type 0
  Has d = (T ≤ length d.threads) × (S ≤ length d.stacks) × Awake i d.waiters × NoEnds i d.lines

  abbrev pub Every : Outcome → Type 0
  Every (Next d) = Has d
  Every (End ls e) = IsCut e
  Every (Asks view go) = (a : Option Answer) → IsPlainAnswer i a → Every (go a)
  Every Stuck = Unit {0}

  every_on : {A : Type 0} (o : Option A) (go : A → Outcome) → ((a : A) → Every (go a)) → Every (on o go)
  unfolding on
  every_on None go h = tt
  every_on (Some a) go h = h a

  stack_has : (c : Configuration) (k : ℕ) (s : Stack) → Has c → Has (stack_becomes k s c)
  stack_has c k s h = (h.0, omega (arith, h.1, set_length c.stacks k s), h.2, h.3)

  dies_has : (c : Configuration) (k : ℕ) (fs : List Activation) → Has c → Has (stack_dies k fs c)
  dies_has c k fs h = stack_has c k Dead h

  ends_has : (c : Configuration) (j : ℕ) → Has c → Has (thread_ends j c)
  ends_has c j h = (omega (arith, h.0, set_length c.threads j None), h.1, h.2, h.3)

  enters_has : (c : Configuration) (j k : ℕ) (r : EnteredFrames) → Has c → Has (enters j k r c)
  enters_has c j k r h = (omega (arith, h.0, changed_length (option_map (on_stack k)) j c.threads), omega (arith, h.1, set_length c.stacks k (Active j r.frames)), h.2, h.3)

  module _ (p : Program) (u : Turn) (other : u.thread ≢ i) where
    next_has : (c : Configuration) (fs : Option (List Activation)) → Has c → Every (next c u fs)
    next_has c fs h = every_on fs _ (λ now. stack_has c u.stack (Active u.thread now) h)

    faulted_has : (c : Configuration) (e : Ending) → IsCut e → Has c → Every (faulted p c u e)
    faulted_has c e cuts h = every_on u.doing.exceptional _ by
      where
        by : (o : Option Goal) → Every (excepted p c u e o)
        by None = cuts
        by (Some g) = next_has c (with_some (caught p u.top g scalars.Null) (onto u)) h

    refused_has : (c : Configuration) (k : Case) → Has c → Every (refused p c u k)
    refused_has c DivideByZero h = faulted_has c _ tt h
    refused_has c NullAccess h = faulted_has c _ tt h
    refused_has c _ h = tt

    tried_has : {A : Type 0} (c : Configuration) (o : Option (Result A Case)) (go : A → Outcome) → Has c → ((a : A) → Every (go a)) → Every (tried p c u o go)
    unfolding tried
    tried_has {A} c o go h good = every_on o _ by
      where
        by : (r : Result A Case) → Every (unless_refused p c u go r)
        by (Err k) = refused_has c k h
        by (Ok a) = good a

    entering_has : (c : Configuration) (s : Scalar) (e : Entering) (go : ℕ → EnteredFrames → Outcome) → Has c → ((k : ℕ) (r : EnteredFrames) → Every (go k r)) → Every (entering p c u s e go)
    entering_has c s e go h good = tried_has c (ready c.stacks s) _ h (λ r. tried_has c (entered p r.1 e) _ h (good r.0))

    asks_has : (c : Configuration) (m : ℕ) (go : Outcome) → Has c → Every go → Every (asks_cells p c u m go)
    asks_has c m go h good = by (nat_le m c.cells)
      where
        by : (b : Bool) → Every (if b then go else faulted p c u (endings.HeapFull u.thread m c.cells))
        by true = good
        by false = faulted_has c _ tt h

    finished_has : (c : Configuration) → Has c → Has (thread_ends u.thread (stack_dies u.stack (u.top ∷ u.below) c))
    finished_has c h = ends_has (stack_dies u.stack (u.top ∷ u.below) c) u.thread (dies_has c u.stack (u.top ∷ u.below) h)

    noted_has : (c : Configuration) (n : Note) → NoEnds i (lines.Note n ∷ []) → Has c → Has (noted n c)
    noted_has c n g h = (h.0, h.1, h.2, no_ends_append i (lines.Note n ∷ []) c.lines g h.3)

    returns_has : (c : Configuration) (vs : TypedValues) (below : List Activation) → Has c → Every (returns p c u vs below)
    returns_has c vs [] h = noted_has (thread_ends u.thread (stack_dies u.stack (u.top ∷ u.below) c)) (notes.Returned u.thread vs) (other, tt) (finished_has c h)
    returns_has c vs (f ∷ fs) h = next_has (frames_end (u.top ∷ []) c) _ h

    raced_has : (c : Configuration) (k : Kind) (fs : List Activation) (r : Option ℕ) → Has c → Every (raced c u (event u.thread k) fs r)
    raced_has c k fs (Some m) h = tt
    raced_has c k fs None h = next_has (logged u.thread k c) (Some fs) h

    accessed_has : (c : Configuration) (k : Option Kind) (o : Option (List Activation)) → Has c → Every (accessed c u k o)
    accessed_has c k o h = every_on k _ (λ k. every_on o _ (λ fs. raced_has c k fs (race c.rule c.log (event u.thread k)) h))

    enters_by_has : (c : Configuration) (s : Scalar) (w : With TypedValues Classed) → Has c → Every (enters_by p c u s w)
    enters_by_has c s w h = every_on (entering_of p.tables w) _ (λ e. entering_has c s e _ h (λ k r. enters_has c u.thread k r h))

    replied_has : (c : Configuration) (a : Reply TypedValues Classed) → Has c → Every (replied p c u a)
    replied_has c (Resume w) h = enters_by_has c (scalars.Stack u.stack) w h
    replied_has c (Rebind t w) h = every_on (scalar_in (Some t.1)) _ (λ s. enters_by_has c s w h)
    replied_has c Exit h = noted_has (thread_ends u.thread c) (notes.Exited u.thread) (other, tt) (ends_has c u.thread h)
    replied_has c Stop h = tt

    taken_has : (c : Configuration) (a : Answer) → IsPlainAnswer i (Some a) → Has c → Has (taken a c)
    taken_has c a g h = (h.0, h.1, h.2, no_ends_append i (reverse (map lines.Note a.notes)) c.lines g h.3)

    answered_has : (c : Configuration) (fs : List Activation) (a : Option Answer) → IsPlainAnswer i a → Has c → Every (answered p c u fs a)
    answered_has c fs None g h = tt
    answered_has c fs (Some a) g h = tried_has (taken a c) (edited p a.edit fs) _ (taken_has c a g h) (λ r. replied_has (edits u r (taken a c)) a.reply (stack_has (taken a c) u.stack (Ready r.frames) (taken_has c a g h)))

    trap_plain : (m : Option ℕ) → NoEnds i (lines.Note (trap_note u m) ∷ [])
    trap_plain None = tt
    trap_plain (Some n) = tt

    trapped_has : (c : Configuration) (m : Option ℕ) (cs : List ℕ) → Has c → Every (trapped p c u m cs)
    trapped_has c m cs h = every_on (waiting u cs) _ (λ f a g. answered_has (noted (trap_note u m) (leaving u f c)) (f ∷ u.below) a g (noted_has (leaving u f c) (trap_note u m) (trap_plain m) (stack_has c u.stack (Ready (f ∷ u.below)) h)))

    watches_has : (c : Configuration) (m : ℕ) (cs : List ℕ) (g : Goal) → Has c → Every (performed p c u (acts.Watches m cs g))
    watches_has c m cs g h = by (is_watched m c.watched)
      where
        by : (b : Bool) → Every (if b then trapped p c u (Some m) cs else goes c u g)
        by true = trapped_has c (Some m) cs h
        by false = next_has c _ h

    chooses_has : (c : Configuration) (m : ℕ) (g j : Goal) → Has c → Every (performed p c u (acts.Chooses m g j))
    chooses_has c m g j h = by (is_watched m c.watched)
      where
        by : (b : Bool) → Every (if b then goes c u j else goes c u g)
        by true = next_has c _ h
        by false = next_has c _ h

    starts_has : (c : Configuration) (s own : Scalar) (e : Entering) → Has c → Every (performed p c u (acts.Starts s own e))
    starts_has c s own e h = by (nat_le most_threads (length c.threads))
      where
        by : (b : Bool) → Every (if b then faulted p c u (endings.ThreadsFull u.thread) else entering p c u s e (λ k r. has_results p (started c u own k r) u ((scalars.Thread (length c.threads) ∷ []) ∷ [])))
        by true = faulted_has c _ tt h
        by false = entering_has c s e _ h (λ k r. next_has (started c u own k r) _ (enters_has (logged u.thread (kinds.NewThread (length c.threads)) (record c { threads = c.threads ++ Some (record { stack = k; own = own }) ∷ [] })) (length c.threads) k r
            (omega (arith, h.0, length-append c.threads (Some (record { stack = k; own = own }) ∷ [])), h.1, h.2, h.3)))

    waited_has : (c : Configuration) (timed : Bool) (v : Scalar) (cell : CellId) (o : Chosen) → Has c → Every (waited p c u timed v cell o)
    waited_has c timed v cell o h = by (same_scalar o.value v)
      where
        by : (b : Bool) → Every (if b then accessed (waits_at u timed cell c) u (kind_of (acts.Loads Relaxed) cell o) (onto u u.top) else accessed c u (kind_of (acts.Loads Relaxed) cell o) (with_some (passed p u.top ((found_another ∷ []) ∷ [])) (onto u)))
        by true = accessed_has (waits_at u timed cell c) (kind_of (acts.Loads Relaxed) cell o) _ (h.0, h.1, awake_append i c.waiters (record { thread = u.thread; cell = cell; timed = timed }) h.2 other, h.3)
        by false = accessed_has c (kind_of (acts.Loads Relaxed) cell o) _ h

    wakes_all_has : (wake : ℕ) (ws : List Waiter) (c d : Configuration) → Has c → wakes_all p wake ws c ≡ Some d → Has d
    wakes_all_has wake [] c d h e = let same : c ≡ d = cc in subst Has same h
    wakes_all_has wake (w ∷ ws) c d h e = by (turn_of p c w.thread) e (wakes_all_has wake ws)
      where
        one : (v : Turn) (o : Option Activation) → with_some (with_some o (λ f. Some (stack_becomes v.stack (Active v.thread (f ∷ v.below)) (logged v.thread (kinds.Woken wake) c)))) (wakes_all p wake ws) ≡ Some d
            → ((c d : Configuration) → Has c → wakes_all p wake ws c ≡ Some d → Has d) → Has d
        one v None e more = cc
        one v (Some f) e more = more (stack_becomes v.stack (Active v.thread (f ∷ v.below)) (logged v.thread (kinds.Woken wake) c)) d (stack_has (logged v.thread (kinds.Woken wake) c) v.stack (Active v.thread (f ∷ v.below)) h) e

        by : (o : Option Turn) → with_some o (λ v. with_some (wakes_one p wake c v) (wakes_all p wake ws)) ≡ Some d → ((c d : Configuration) → Has c → wakes_all p wake ws c ≡ Some d → Has d) → Has d
        by None e more = cc
        by (Some v) e more = one v (passed p v.top ((was_woken ∷ []) ∷ [])) e more

    woken_has : (o : Option Configuration) (go : Configuration → Outcome) → ((d : Configuration) → o ≡ Some d → Every (go d)) → Every (on o go)
    unfolding on
    woken_has None go h = tt
    woken_has (Some d) go h = h d refl

    wakes_has : (c : Configuration) (cell : CellId) (ws : List Waiter) → Has c → Every (wakes_these p c u cell ws)
    wakes_has c cell ws h =
        let d : Configuration = logged u.thread (kinds.Wake cell (length ws)) (record c { waiters = without ws c.waiters }) in
        woken_has (wakes_all p (length c.log) ws d) _ (λ x e. next_has x _ (wakes_all_has (length c.log) ws d x (h.0, h.1, filtered_awake i (λ w. not (list_any (is_of w.thread) ws)) c.waiters h.2, h.3) e))

    performed_has : (c : Configuration) (a : Act) → Has c → Every (performed p c u a)
    performed_has c (acts.Gives vs) h = next_has c _ h
    performed_has c (acts.Faults k) h = refused_has c k h
    performed_has c (acts.Goes g) h = next_has c _ h
    performed_has c (acts.Calls f vs) h = tried_has c _ _ h (λ b. next_has c _ h)
    performed_has c (acts.Replaces f vs) h = tried_has c _ _ h (λ b. next_has (frames_end (u.top ∷ []) c) _ h)
    performed_has c (acts.Returns vs) h = returns_has c vs u.below h
    performed_has c (acts.Throws x) h = tried_has c _ _ h (λ r. next_has (frames_end r.ended c) _ h)
    performed_has c (acts.Casts d s) h = tried_has c _ _ h (λ r. next_has c _ h)
    performed_has c (acts.Finds way s) h = tried_has c _ _ h (λ r. next_has c _ h)
    performed_has c (acts.Makes t) h = asks_has c _ _ h (next_has (object_added p c _) _ h)
    performed_has c (acts.MakesHybrid t many) h = asks_has c _ _ h (next_has (object_added p c _) _ h)
    performed_has c (acts.MakesOwn t) h = asks_has c _ _ h (every_on _ _ (λ now. stack_has (object_added p c (leaf_classes (type_graph p.tables) t)) u.stack (Active u.thread now) h))
    performed_has c (acts.Accesses a cell) h = tried_has c _ _ h (λ there. every_on _ _ (λ o. accessed_has (record c { picks = (pick (length (choices c.rule (initial c) c.log u.thread there (wanted a))) c.picks).1 }) (kind_of a there o) _ h))
    performed_has c (acts.Fences o) h = next_has (logged u.thread (kinds.Fence o) c) _ h
    performed_has c (acts.Traps cs) h = trapped_has c None cs h
    performed_has c (acts.Watches n cs g) h = watches_has c n cs g h
    performed_has c (acts.Chooses n g j) h = chooses_has c n g j h
    performed_has c (acts.Swaps s cs x) h = every_on (waiting u cs) _ (λ f. entering_has c s x _ h (λ k r. enters_has (leaving u f c) u.thread k r (stack_has c u.stack (Ready (f ∷ u.below)) h)))
    performed_has c (acts.Leaves s x) h = entering_has c s x _ h (λ k r. enters_has (stack_dies u.stack (u.top ∷ u.below) c) u.thread k r (dies_has c u.stack (u.top ∷ u.below) h))
    performed_has c (acts.Starts s own x) h = starts_has c s own x h
    performed_has c (acts.MakesStack f) h = tried_has c (body_or_case (p.body f)) _ h (λ b. next_has (logged u.thread (kinds.NewStack (length c.stacks)) (record c { stacks = c.stacks ++ Ready (fresh_frame p f b ∷ []) ∷ [] })) _
        (h.0, omega (arith, h.1, length-append c.stacks (Ready (fresh_frame p f b ∷ []) ∷ [])), h.2, h.3))
    performed_has c (acts.KillsStack s) h = tried_has c _ _ h (λ r. next_has (stack_dies r.0 r.1 c) _ (dies_has c r.0 r.1 h))
    performed_has c acts.Tells h = next_has c _ h
    performed_has c acts.Exits h = noted_has (thread_ends u.thread (stack_dies u.stack (u.top ∷ u.below) c)) (notes.Exited u.thread) (other, tt) (finished_has c h)
    performed_has c (acts.SetsOwn r) h = next_has (thread_changes u.thread (with_own r) c) _ (omega (arith, h.0, changed_length (option_map (with_own r)) u.thread c.threads), h.1, h.2, h.3)
    performed_has c acts.TellsOwn h = every_on _ _ (λ o. every_on o _ (λ t. next_has c _ h))
    performed_has c (acts.Waits timed v cell) h = tried_has c _ _ h (λ there. every_on _ _ (λ o. waited_has c timed v there o h))
    performed_has c (acts.Wakes many cell) h = tried_has c _ _ h (λ there. wakes_has c there (take many (filter (is_at there) c.waiters)) h)

  pub turned_has : (p : Program) (c : Configuration) (u : Turn) (w : Option Waiter) → u.thread ≢ i → Has c → Every (turned p c w u)
  turned_has p c u (Some w) other h = next_has p u other (noted (notes.TimedOut u.thread w.cell) (record c { waiters = without (w ∷ []) c.waiters })) _ (h.0, h.1, filtered_awake i (λ x. not (list_any (is_of x.thread) (w ∷ []))) c.waiters h.2, h.3)
  turned_has p c u None other h = every_on u.doing.act _ (λ a. performed_has p u other c a h)
