-- What other threads do is the same before and after a local step.
use Rattle.std.proofs.lemmas.Bool.{false≢true}
use Rattle.std.proofs.Math.Path.{fun_ext}
use Rattle.mu_values.specs.declared.cells.CellId.{CellId}
use Rattle.mu_base.specs.declared.order.Order.TheVariants.{Relaxed}
use Rattle.mu_values.specs.declared.scalars.Scalar.{Scalar}
use Rattle.mu_values.specs.declared.scalars.Scalar.TheVariants as scalars
use Rattle.mu_values.specs.Slots.{TypedValues}
use Rattle.mu_values.specs.SameScalar.{same_scalar}
use Rattle.typed_heap.specs.Places.{with_some, cell_in}
use Rattle.frames.specs.Activations.{Value, Goal, Activation}
use Rattle.mem_axioms.specs.Choices.{choices}
use Rattle.mem_axioms.specs.Races.{race}
use Rattle.mem_axioms.specs.declared.types.Kind.{Kind}
use Rattle.mem_axioms.specs.declared.types.Kind.TheVariants as kinds
use Rattle.mem_axioms.specs.declared.types.Event.{Event}
use Rattle.mem_axioms.specs.declared.types.Chosen.{Chosen}
use Rattle.mu_model.specs.declared.lines.Note.{Note}
use Rattle.mu_model.specs.declared.lines.Note.TheVariants as notes
use Rattle.mu_model.specs.declared.lines.Line.TheVariants as lines
use Rattle.mu_model.specs.declared.endings.Case.{Case}
use Rattle.mu_model.specs.declared.endings.Case.TheVariants.{DivideByZero, NullAccess}
use Rattle.mu_model.specs.declared.endings.Ending.{Ending}
use Rattle.mu_model.specs.declared.endings.Ending.TheVariants as endings
use Rattle.mu_model.specs.Types.{type_graph, classes_given}
use Rattle.futex.specs.declared.waiters.Waiter.{Waiter}
use Rattle.mu_model.specs.Configuration.{Stack, Ready, Active, Dead, Thread, Configuration}
use Rattle.mu_model.specs.Clients.{Classed, With, Pass, Throw, Reply, Resume, Rebind, Exit, Stop, Client, Answer}
use Rattle.mu_model.specs.Answers.{answer_of, advanced}
use Rattle.mu_model.specs.Operands.{scalar_in}
use Rattle.mu_model.specs.Acts as acts
use Rattle.mu_model.specs.Acts.{Access, Act, Doing, Entering, Program}
use Rattle.mu_model.specs.Turns.{Turn, turn_of, waiting}
use Rattle.mu_model.specs.Frames.{called, passed, caught, arrived, fresh_frame}
use Rattle.mu_model.specs.Changes.{noted, logged, event, frames_end, stack_becomes, stack_dies, thread_ends, thread_changes}
use Rattle.mu_model.specs.Outcomes.{Outcome, Next, End, Asks, Stuck, on, next, onto, tried, refused, faulted, excepted, unless_refused, has_results, or_case}
use Rattle.mu_model.specs.Exceptions.{EnteredFrames, returns, finishes, unwinding, body_or_case}
use Rattle.std.proofs.lemmas.Option.{slice_get_within}
use Rattle.mu_model.specs.EnteringStacks.{ready, entering, enters, leaving, most_threads, started}
use Rattle.mu_model.specs.Objects.{object_added, asks_cells}
use Rattle.mu_model.specs.Accesses.{initial, wanted, kind_of, access_results, raced, accessed, takes_option}
use Rattle.futex.specs.Waiting.{is_of, is_at, without}
use Rattle.mu_model.specs.Waiting.{was_woken, found_another, waits_at, waited, wakes_one, wakes_all, wakes_these, times_out}
use Rattle.mu_model.specs.Edits.{edited}
use Rattle.mu_model.specs.Traps.{trapped, trap_note, answered, edits, replied, taken, enters_by, entering_of, is_watched, goes}
use Rattle.mu_model.specs.Step.{performed, turned, turns, threads_from, runnable, picked, picking_thread, ends_or_picks, step, with_own}
use Rattle.mu_model.specs.Run.{Run, Ends, Breaks, Unfinished, behind, client_answers, with_client, goes_on, run}
use Rattle.mu_threads.specs.Picks.{pick}
use Rattle.std.specs.Prelude.{◌≡◌, ◌≢◌, ◌<◌, ◌+◌, ℕ, zero, suc, Bool, true, false, ◌==◌, nat_le, List, [], ◌∷◌, ◌++◌, Option, Some, None, Result, Ok, Err, length, find, filter, take, slice_get, slice_set, option_map, reverse, if◌then◌else◌, refl}
use Rattle.std.proofs.Common.{sym, ◌∙◌, ap, subst, arith, cond, inl, inr}
use Rattle.std.proofs.lemmas.Bool.Decides.{eqb_tells}
use Rattle.typed_heap.specs.Objects.{leaf_classes}
use Rattle.mu_model.specs.Turns.{active_on, turn_at}
use Rattle.mu_model.specs.Changes.{changed}
use Rattle.mu_model.specs.EnteringStacks.{ready_at, on_stack, entered}
use Rattle.search_laws.specs.Local.{after, mapped, IsShut, Stands, is_wake, Awake, TurnsCommute}

-- ---- lists

pub set_swap : {A : Type 0} (xs : List A) (a b : ℕ) (v w : A) → a ≢ b → slice_set (slice_set xs a v) b w ≡ slice_set (slice_set xs b w) a v
set_swap [] a b v w h = refl
set_swap (x ∷ xs) zero zero v w h = absurd (h refl)
set_swap (x ∷ xs) zero (suc b) v w h = refl
set_swap (x ∷ xs) (suc a) zero v w h = refl
set_swap (x ∷ xs) (suc a) (suc b) v w h = ap (λ ys. x ∷ ys) (set_swap xs a b v w (λ e. h (ap suc e)))

get_other : {A : Type 0} (xs : List A) (a b : ℕ) (v : A) → a ≢ b → slice_get (slice_set xs a v) b ≡ slice_get xs b
get_other [] a b v h = refl
get_other (x ∷ xs) zero zero v h = absurd (h refl)
get_other (x ∷ xs) zero (suc b) v h = refl
get_other (x ∷ xs) (suc a) zero v h = refl
get_other (x ∷ xs) (suc a) (suc b) v h = get_other xs a b v (λ e. h (ap suc e))

pub get_same : {A : Type 0} (xs : List A) (a : ℕ) (v w : A) → slice_get xs a ≡ Some w → slice_get (slice_set xs a v) a ≡ Some v
get_same [] a v w h = cc
get_same (x ∷ xs) zero v w h = refl
get_same (x ∷ xs) (suc a) v w h = get_same xs a v w h

set_append : {A : Type 0} (xs ys : List A) (a : ℕ) (v : A) → a < length xs → slice_set (xs ++ ys) a v ≡ slice_set xs a v ++ ys
set_append [] ys a v l = absurd (omega (arith, l))
set_append (x ∷ xs) ys zero v l = refl
set_append (x ∷ xs) ys (suc a) v l = ap (λ zs. x ∷ zs) (set_append xs ys a v (omega (arith, l)))

set_length : {A : Type 0} (xs : List A) (a : ℕ) (v : A) → length (slice_set xs a v) ≡ length xs
set_length [] a v = refl
set_length (x ∷ xs) zero v = refl
set_length (x ∷ xs) (suc a) v = ap suc (set_length xs a v)

set_changed : {A : Type 0} (f : A → A) (xs : List A) (a b : ℕ) (v : A) → a ≢ b → changed f a (slice_set xs b v) ≡ slice_set (changed f a xs) b v
set_changed f [] a b v h = refl
set_changed f (x ∷ xs) zero zero v h = absurd (h refl)
set_changed f (x ∷ xs) zero (suc b) v h = refl
set_changed f (x ∷ xs) (suc a) zero v h = refl
set_changed f (x ∷ xs) (suc a) (suc b) v h = ap (λ ys. x ∷ ys) (set_changed f xs a b v (λ e. h (ap suc e)))

-- ---- outcomes

on_mapped : {A : Type 0} (f : Configuration → Configuration) (o : Option A) (go before : A → Outcome) → ((a : A) → o ≡ Some a → go a ≡ mapped f (before a)) → on o go ≡ mapped f (on o before)
unfolding on
on_mapped f None go before h = refl
on_mapped f (Some a) go before h = h a refl

module _ (p : Program) (i k : ℕ) (x : Option Thread) (y : Stack) (shut : IsShut i y) (u : Turn) (other : u.thread ≢ i) (apart : u.stack ≢ k) where
  abbrev far : Configuration → Configuration
  far = after i k x y

  swapped : (ss : List Stack) (s : Stack) → slice_set (slice_set ss k y) u.stack s ≡ slice_set (slice_set ss u.stack s) k y
  swapped ss s = set_swap ss k u.stack y s (λ e. apart (sym e))

  next_after : (c : Configuration) (fs : Option (List Activation)) → next (far c) u fs ≡ mapped far (next c u fs)
  next_after c fs = on_mapped far fs _ _ (λ now e. ap (λ ss. Next (record c { threads = slice_set c.threads i x; stacks = ss })) (swapped c.stacks (Active u.thread now)))

  faulted_after : (c : Configuration) (e : Ending) → faulted p (far c) u e ≡ mapped far (faulted p c u e)
  faulted_after c e = on_mapped far u.doing.exceptional _ _ (λ o q. by o)
    where
      by : (o : Option Goal) → excepted p (far c) u e o ≡ mapped far (excepted p c u e o)
      by None = refl
      by (Some g) = next_after c (with_some (caught p u.top g scalars.Null) (onto u))

  refused_after : (c : Configuration) (k : Case) → refused p (far c) u k ≡ mapped far (refused p c u k)
  refused_after c DivideByZero = faulted_after c _
  refused_after c NullAccess = faulted_after c _
  refused_after c _ = refl

  tried_after : {A : Type 0} (c : Configuration) (o : Option (Result A Case)) (go before : A → Outcome) → ((a : A) → o ≡ Some (Ok a) → go a ≡ mapped far (before a)) → tried p (far c) u o go ≡ mapped far (tried p c u o before)
  unfolding tried
  tried_after {A} c o go before h = on_mapped far o _ _ by
    where
      by : (r : Result A Case) → o ≡ Some r → unless_refused p (far c) u go r ≡ mapped far (unless_refused p c u before r)
      by (Err k) q = refused_after c k
      by (Ok a) q = h a q

  -- ---- entering a stack

  at_own : (c : Configuration) (fs : List Activation) → slice_get c.stacks k ≡ Some (Active i fs) → with_some (slice_get (slice_set c.stacks k y) k) (λ s. Some (ready_at k s)) ≡ with_some (slice_get c.stacks k) (λ s. Some (ready_at k s))
  at_own c fs e = ap (λ o. with_some o (λ s. Some (ready_at k s))) (get_same c.stacks k y (Active i fs) e) ∙ by y shut ∙ sym (ap (λ o. with_some o (λ s. Some (ready_at k s))) e)
    where
      by : (s : Stack) → IsShut i s → Some (ready_at k s) ≡ Some (ready_at k (Active i fs))
      by (Active j gs) h = refl
      by Dead h = refl
      by (Ready gs) h = absurd h

  ready_after : (c : Configuration) (s : Scalar) → Stands i k c → ready (slice_set c.stacks k y) s ≡ ready c.stacks s
  ready_after c (scalars.Stack m) h = elim (eqb_tells k m) [
    | inl e ↦ subst (λ m. with_some (slice_get (slice_set c.stacks k y) m) (λ s. Some (ready_at m s)) ≡ with_some (slice_get c.stacks m) (λ s. Some (ready_at m s))) e.1 (at_own c h.frames h.on)
    | inr e ↦ ap (λ o. with_some o (λ s. Some (ready_at m s))) (get_other c.stacks k m y e.1)
  ]
  ready_after c scalars.Null h = refl
  ready_after c _ h = refl

  -- a stack that is ready is another one
  ready_apart : (c : Configuration) (s : Scalar) (r : ℕ × List Activation) → Stands i k c → ready c.stacks s ≡ Some (Ok r) → r.0 ≢ k
  ready_apart c (scalars.Stack m) r h q = by (slice_get c.stacks m) refl q
    where
      by : (o : Option Stack) → slice_get c.stacks m ≡ o → with_some o (λ s. Some (ready_at m s)) ≡ Some (Ok r) → r.0 ≢ k
      by None e q = cc
      by (Some (Active j fs)) e q = cc
      by (Some Dead) e q = cc
      by (Some (Ready fs)) e q = λ z.
          let same : m ≡ r.0 = cc in
          let there : Some (Ready fs) ≡ Some (Active i h.frames) = sym e ∙ ap (slice_get c.stacks) (same ∙ z) ∙ h.on in
          cc
  ready_apart c scalars.Null r h q = cc
  ready_apart c _ r h q = cc

  entering_after : (c : Configuration) (s : Scalar) (e : Entering) (go before : ℕ → EnteredFrames → Outcome) → Stands i k c → ((m : ℕ) (r : EnteredFrames) → m ≢ k → go m r ≡ mapped far (before m r))
      → entering p (far c) u s e go ≡ mapped far (entering p c u s e before)
  entering_after c s e go before h same =
      ap (λ o. tried p (far c) u o (λ (r : ℕ × List Activation). tried p (far c) u (entered p r.1 e) (go r.0))) (ready_after c s h)
      ∙ tried_after c (ready c.stacks s) _ _ (λ r q. tried_after c (entered p r.1 e) _ _ (λ f q'. same r.0 f (ready_apart c s r h q)))

  enters_any : (c : Configuration) (j m : ℕ) (r : EnteredFrames) → j ≢ i → m ≢ k → enters j m r (far c) ≡ far (enters j m r c)
  enters_any c j m r g h =
      ap (λ ts. enters_with ts (slice_set (slice_set c.stacks k y) m (Active j r.frames))) (set_changed (option_map (on_stack m)) c.threads j i x g)
      ∙ ap (enters_with (slice_set (changed (option_map (on_stack m)) j c.threads) i x)) (set_swap c.stacks k m y (Active j r.frames) (λ e. h (sym e)))
    where
      enters_with : List (Option Thread) → List Stack → Configuration
      enters_with ts ss = frames_end r.ended (logged j (kinds.Enter m) (record c { threads = ts; stacks = ss }))

  enters_after : (c : Configuration) (m : ℕ) (r : EnteredFrames) → m ≢ k → enters u.thread m r (far c) ≡ far (enters u.thread m r c)
  enters_after c m r h = enters_any c u.thread m r other h

  -- ---- acts

  finishes_after : (c : Configuration) (n : Note) → finishes (far c) u n ≡ mapped far (finishes c u n)
  finishes_after c n =
      ap (λ ts. Next (with_both ts (slice_set (slice_set c.stacks k y) u.stack Dead))) (set_swap c.threads i u.thread x None (λ e. other (sym e)))
      ∙ ap (λ ss. Next (with_both (slice_set (slice_set c.threads u.thread None) i x) ss)) (swapped c.stacks Dead)
    where
      with_both : List (Option Thread) → List Stack → Configuration
      with_both ts ss = noted n (frames_end (u.top ∷ u.below) (record c { threads = ts; stacks = ss }))

  returns_after : (c : Configuration) (vs : TypedValues) (below : List Activation) → returns p (far c) u vs below ≡ mapped far (returns p c u vs below)
  returns_after c vs [] = finishes_after c _
  returns_after c vs (f ∷ fs) = next_after (frames_end (u.top ∷ []) c) _

  raced_after : (c : Configuration) (e : Event) (fs : List Activation) (r : Option ℕ) → raced (far c) u e fs r ≡ mapped far (raced c u e fs r)
  raced_after c e fs (Some m) = refl
  raced_after c e fs None = next_after (record c { log = e ∷ c.log; lines = lines.Event (length c.log) e ∷ c.lines }) (Some fs)

  accessed_after : (c : Configuration) (k : Option Kind) (o : Option (List Activation)) → accessed (far c) u k o ≡ mapped far (accessed c u k o)
  accessed_after c k o = on_mapped far k _ _ (λ k q. on_mapped far o _ _ (λ fs q. raced_after c (event u.thread k) fs (race c.rule c.log (event u.thread k))))

  pub takes_after : (c : Configuration) (a : Access) (cell : CellId) (k : Chosen) → takes_option p (far c) u a cell k ≡ mapped far (takes_option p c u a cell k)
  takes_after c a cell k = accessed_after c (kind_of a cell k) _

  pub gives_after : (c : Configuration) (vs : List Value) → performed p (far c) u (acts.Gives vs) ≡ mapped far (performed p c u (acts.Gives vs))
  gives_after c vs = next_after c _

  pub accesses_after : (c : Configuration) (a : Access) (cell : CellId) → performed p (far c) u (acts.Accesses a cell) ≡ mapped far (performed p c u (acts.Accesses a cell))
  accesses_after c a cell = tried_after c _ _ _ (λ there q. on_mapped far _ _ _ (λ o r. takes_after (record c { picks = (pick (length (choices c.rule (initial c) c.log u.thread there (wanted a))) c.picks).1 }) a there o))

  pub swaps_after : (c : Configuration) (s : Scalar) (cs : List ℕ) (e : Entering) → Stands i k c → performed p (far c) u (acts.Swaps s cs e) ≡ mapped far (performed p c u (acts.Swaps s cs e))
  swaps_after c s cs e h = on_mapped far (waiting u cs) _ _ (λ f q. entering_after c s e _ _ h (λ m r apart.
      ap (λ ss. Next (enters u.thread m r (logged u.thread (kinds.Leave u.stack) (record c { threads = slice_set c.threads i x; stacks = ss })))) (swapped c.stacks (Ready (f ∷ u.below)))
      ∙ ap Next (enters_after (leaving u f c) m r apart)))

  pub returned_after : (c : Configuration) (vs : TypedValues) → performed p (far c) u (acts.Returns vs) ≡ mapped far (performed p c u (acts.Returns vs))
  returned_after c vs = returns_after c vs u.below

  asks_after : (c : Configuration) (m : ℕ) (go before : Outcome) → go ≡ mapped far before → asks_cells p (far c) u m go ≡ mapped far (asks_cells p c u m before)
  asks_after c m go before h = by (nat_le m c.cells)
    where
      by : (b : Bool) → (if b then go else faulted p (far c) u (endings.HeapFull u.thread m c.cells)) ≡ mapped far (if b then before else faulted p c u (endings.HeapFull u.thread m c.cells))
      by true = h
      by false = faulted_after c _

  -- ---- stacks and threads that are made

  dies_after : (c : Configuration) (m : ℕ) (fs : List Activation) → m ≢ k → stack_dies m fs (far c) ≡ far (stack_dies m fs c)
  dies_after c m fs h = ap (λ ss. frames_end fs (record c { threads = slice_set c.threads i x; stacks = ss })) (set_swap c.stacks k m y Dead (λ e. h (sym e)))

  leaving_after : (c : Configuration) (f : Activation) → leaving u f (far c) ≡ far (leaving u f c)
  leaving_after c f = ap (λ ss. logged u.thread (kinds.Leave u.stack) (record c { threads = slice_set c.threads i x; stacks = ss })) (swapped c.stacks (Ready (f ∷ u.below)))

  leaves_after : (c : Configuration) (s : Scalar) (e : Entering) → Stands i k c → performed p (far c) u (acts.Leaves s e) ≡ mapped far (performed p c u (acts.Leaves s e))
  leaves_after c s e h = entering_after c s e _ _ h (λ m r apart'.
      ap (λ d. Next (enters u.thread m r d)) (dies_after c u.stack (u.top ∷ u.below) apart) ∙ ap Next (enters_after (stack_dies u.stack (u.top ∷ u.below) c) m r apart'))

  kills_after : (c : Configuration) (s : Scalar) → Stands i k c → performed p (far c) u (acts.KillsStack s) ≡ mapped far (performed p c u (acts.KillsStack s))
  kills_after c s h =
      ap (λ o. tried p (far c) u o (λ (r : ℕ × List Activation). has_results p (stack_dies r.0 r.1 (far c)) u [])) (ready_after c s h)
      ∙ tried_after c (ready c.stacks s) _ _ (λ r q. ap (λ d. has_results p d u []) (dies_after c r.0 r.1 (ready_apart c s r h q)) ∙ next_after (stack_dies r.0 r.1 c) _)

  makes_after : (c : Configuration) (f : ℕ) → Stands i k c → performed p (far c) u (acts.MakesStack f) ≡ mapped far (performed p c u (acts.MakesStack f))
  makes_after c f h = tried_after c (body_or_case (p.body f)) _ _ (λ b q.
      let new : Stack = Ready (fresh_frame p f b ∷ []) in
      let d : Configuration = logged u.thread (kinds.NewStack (length c.stacks)) (record c { stacks = c.stacks ++ new ∷ [] }) in
      ap (λ n. has_results p (logged u.thread (kinds.NewStack n) (record c { threads = slice_set c.threads i x; stacks = slice_set c.stacks k y ++ new ∷ [] })) u ((scalars.Stack n ∷ []) ∷ [])) (set_length c.stacks k y)
      ∙ ap (λ ss. has_results p (logged u.thread (kinds.NewStack (length c.stacks)) (record c { threads = slice_set c.threads i x; stacks = ss })) u ((scalars.Stack (length c.stacks) ∷ []) ∷ [])) (sym (set_append c.stacks (new ∷ []) k y (slice_get_within c.stacks k (Active i h.frames) h.on)))
      ∙ next_after d _)

  started_after : (c : Configuration) (own : Scalar) (m : ℕ) (r : EnteredFrames) → Stands i k c → m ≢ k → started (far c) u own m r ≡ far (started c u own m r)
  started_after c own m r h apart' =
      let new : Option Thread = Some (record { stack = m; own = own }) in
      ap (λ n. enters n m r (logged u.thread (kinds.NewThread n) (record (far c) { threads = slice_set c.threads i x ++ new ∷ [] }))) (set_length c.threads i x)
      ∙ ap (λ ts. enters (length c.threads) m r (logged u.thread (kinds.NewThread (length c.threads)) (record (far c) { threads = ts }))) (sym (set_append c.threads (new ∷ []) i x h.there))
      ∙ enters_any (logged u.thread (kinds.NewThread (length c.threads)) (record c { threads = c.threads ++ new ∷ [] })) (length c.threads) m r (λ e. omega (arith, e, h.there)) apart'

  starts_after : (c : Configuration) (s own : Scalar) (e : Entering) → Stands i k c → performed p (far c) u (acts.Starts s own e) ≡ mapped far (performed p c u (acts.Starts s own e))
  starts_after c s own e h = ap (begins (far c)) (set_length c.threads i x) ∙ by (nat_le most_threads (length c.threads))
    where
      begins : Configuration → ℕ → Outcome
      begins d n = if nat_le most_threads n then faulted p d u (endings.ThreadsFull u.thread) else entering p d u s e (λ m r. has_results p (started d u own m r) u ((scalars.Thread n ∷ []) ∷ []))

      by : (b : Bool) → (if b then faulted p (far c) u (endings.ThreadsFull u.thread) else entering p (far c) u s e (λ m r. has_results p (started (far c) u own m r) u ((scalars.Thread (length c.threads) ∷ []) ∷ [])))
          ≡ mapped far (if b then faulted p c u (endings.ThreadsFull u.thread) else entering p c u s e (λ m r. has_results p (started c u own m r) u ((scalars.Thread (length c.threads) ∷ []) ∷ [])))
      by true = faulted_after c _
      by false = entering_after c s e _ _ h (λ m r apart'. ap (λ d. has_results p d u ((scalars.Thread (length c.threads) ∷ []) ∷ [])) (started_after c own m r h apart') ∙ next_after (started c u own m r) _)

  -- ---- traps

  enters_by_after : (c : Configuration) (s : Scalar) (w : With TypedValues Classed) → Stands i k c → enters_by p (far c) u s w ≡ mapped far (enters_by p c u s w)
  enters_by_after c s w h = on_mapped far (entering_of p.tables w) _ _ (λ e q. entering_after c s e _ _ h (λ m r apart'. ap Next (enters_after c m r apart')))

  replied_after : (c : Configuration) (a : Reply TypedValues Classed) → Stands i k c → replied p (far c) u a ≡ mapped far (replied p c u a)
  replied_after c (Resume w) h = enters_by_after c (scalars.Stack u.stack) w h
  replied_after c (Rebind t w) h = on_mapped far (scalar_in (Some t.1)) _ _ (λ s q. enters_by_after c s w h)
  replied_after c Exit h = ap (λ ts. Next (noted (notes.Exited u.thread) (record c { threads = ts; stacks = slice_set c.stacks k y }))) (set_swap c.threads i u.thread x None (λ e. other (sym e)))
  replied_after c Stop h = refl

  edits_after : (c : Configuration) (r : EnteredFrames) → edits u r (far c) ≡ far (edits u r c)
  edits_after c r = ap (λ ss. frames_end r.ended (record c { threads = slice_set c.threads i x; stacks = ss })) (swapped c.stacks (Ready r.frames))

  answered_after : (c : Configuration) (fs : List Activation) (a : Option Answer) → Stands i k c → answered p (far c) u fs a ≡ mapped far (answered p c u fs a)
  answered_after c fs None h = refl
  answered_after c fs (Some a) h = tried_after (taken a c) (edited p a.edit fs) _ _ (λ r q.
      ap (λ d. replied p d u a.reply) (edits_after (taken a c) r)
      ∙ replied_after (edits u r (taken a c)) a.reply (record { frames = h.frames; on = get_other c.stacks u.stack k (Ready r.frames) apart ∙ h.on; there = h.there }))

  left : (c : Configuration) (f : Activation) (n : Note) → Stands i k c → Stands i k (noted n (leaving u f c))
  left c f n h = record { frames = h.frames; on = get_other c.stacks u.stack k (Ready (f ∷ u.below)) apart ∙ h.on; there = h.there }

  trapped_after : (c : Configuration) (m : Option ℕ) (cs : List ℕ) → Stands i k c → trapped p (far c) u m cs ≡ mapped far (trapped p c u m cs)
  trapped_after c m cs h = on_mapped far (waiting u cs) _ _ (λ f q.
      ap (λ d. Asks (record { thread = u.thread; watchpoint = m; asked = cs; frames = f ∷ u.below }) (answered p (noted (trap_note u m) d) u (f ∷ u.below))) (leaving_after c f)
      ∙ ap (Asks (record { thread = u.thread; watchpoint = m; asked = cs; frames = f ∷ u.below })) (fun_ext (λ a. answered_after (noted (trap_note u m) (leaving u f c)) (f ∷ u.below) a (left c f (trap_note u m) h))))

  watches_after : (c : Configuration) (m : ℕ) (cs : List ℕ) (g : Goal) → Stands i k c → performed p (far c) u (acts.Watches m cs g) ≡ mapped far (performed p c u (acts.Watches m cs g))
  watches_after c m cs g h = by (is_watched m c.watched)
    where
      by : (b : Bool) → (if b then trapped p (far c) u (Some m) cs else goes (far c) u g) ≡ mapped far (if b then trapped p c u (Some m) cs else goes c u g)
      by true = trapped_after c (Some m) cs h
      by false = next_after c _

  chooses_after : (c : Configuration) (m : ℕ) (g h : Goal) → performed p (far c) u (acts.Chooses m g h) ≡ mapped far (performed p c u (acts.Chooses m g h))
  chooses_after c m g h = by (is_watched m c.watched)
    where
      by : (b : Bool) → (if b then goes (far c) u h else goes (far c) u g) ≡ mapped far (if b then goes c u h else goes c u g)
      by true = next_after c _
      by false = next_after c _

  -- ---- waits

  waited_after : (c : Configuration) (timed : Bool) (v : Scalar) (cell : CellId) (o : Chosen) → waited p (far c) u timed v cell o ≡ mapped far (waited p c u timed v cell o)
  waited_after c timed v cell o = by (same_scalar o.value v)
    where
      w : Option Kind
      w = kind_of (acts.Loads Relaxed) cell o

      by : (b : Bool) → (if b then accessed (waits_at u timed cell (far c)) u w (onto u u.top) else accessed (far c) u w (with_some (passed p u.top ((found_another ∷ []) ∷ [])) (onto u)))
          ≡ mapped far (if b then accessed (waits_at u timed cell c) u w (onto u u.top) else accessed c u w (with_some (passed p u.top ((found_another ∷ []) ∷ [])) (onto u)))
      by true = accessed_after (waits_at u timed cell c) w _
      by false = accessed_after c w _

  times_out_after : (c : Configuration) (w : Waiter) → times_out p (far c) u w ≡ mapped far (times_out p c u w)
  times_out_after c w = next_after (noted (notes.TimedOut u.thread w.cell) (record c { waiters = without (w ∷ []) c.waiters })) _

  -- ---- all acts but the wake

  performed_after : (c : Configuration) (a : Act) → Stands i k c → is_wake a ≡ false → performed p (far c) u a ≡ mapped far (performed p c u a)
  performed_after c (acts.Gives vs) h e = next_after c _
  performed_after c (acts.Faults f) h e = refused_after c f
  performed_after c (acts.Goes g) h e = next_after c _
  performed_after c (acts.Calls f vs) h e = tried_after c _ _ _ (λ b q. next_after c _)
  performed_after c (acts.Replaces f vs) h e = tried_after c _ _ _ (λ b q. next_after (frames_end (u.top ∷ []) c) _)
  performed_after c (acts.Returns vs) h e = returns_after c vs u.below
  performed_after c (acts.Throws z) h e = tried_after c _ _ _ (λ r q. next_after (frames_end r.ended c) _)
  performed_after c (acts.Casts d s) h e = tried_after c _ _ _ (λ r q. next_after c _)
  performed_after c (acts.Finds way s) h e = tried_after c _ _ _ (λ r q. next_after c _)
  performed_after c (acts.Makes t) h e = asks_after c _ _ _ (next_after (object_added p c _) _)
  performed_after c (acts.MakesHybrid t many) h e = asks_after c _ _ _ (next_after (object_added p c _) _)
  performed_after c (acts.MakesOwn t) h e = asks_after c _ _ _ (on_mapped far _ _ _ (λ now q. ap (λ ss. Next (record (object_added p c (leaf_classes (type_graph p.tables) t)) { threads = slice_set c.threads i x; stacks = ss })) (swapped c.stacks (Active u.thread now))))
  performed_after c (acts.Accesses a cell) h e = accesses_after c a cell
  performed_after c (acts.Fences o) h e = next_after (logged u.thread (kinds.Fence o) c) _
  performed_after c (acts.Traps cs) h e = trapped_after c None cs h
  performed_after c (acts.Watches n cs g) h e = watches_after c n cs g h
  performed_after c (acts.Chooses n g j) h e = chooses_after c n g j
  performed_after c (acts.Swaps s cs z) h e = swaps_after c s cs z h
  performed_after c (acts.Leaves s z) h e = leaves_after c s z h
  performed_after c (acts.Starts s own z) h e = starts_after c s own z h
  performed_after c (acts.MakesStack f) h e = makes_after c f h
  performed_after c (acts.KillsStack s) h e = kills_after c s h
  performed_after c acts.Tells h e = next_after c _
  performed_after c acts.Exits h e = finishes_after c _
  performed_after c (acts.SetsOwn r) h e =
      ap (λ ts. has_results p (record (far c) { threads = ts }) u []) (set_changed (option_map (with_own r)) c.threads u.thread i x other) ∙ next_after (thread_changes u.thread (with_own r) c) _
  performed_after c acts.TellsOwn h e =
      ap (λ o. on o (λ (t : Option Thread). on t (λ (t : Thread). has_results p (far c) u ((t.own ∷ []) ∷ [])))) (get_other c.threads i u.thread x (λ z. other (sym z)))
      ∙ on_mapped far (slice_get c.threads u.thread) _ _ (λ o q. on_mapped far o _ _ (λ t r. next_after c _))
  performed_after c (acts.Waits timed v cell) h e = tried_after c _ _ _ (λ there q. on_mapped far _ _ _ (λ o r. waited_after c timed v there o))
  performed_after c (acts.Wakes many cell) h e = absurd (false≢true (sym e))

-- ---- turns of other threads

module _ (p : Program) (i k : ℕ) (x : Option Thread) (y : Stack) (shut : IsShut i y) where
  abbrev pub away : Configuration → Configuration
  away = after i k x y

  not_on : (w : ℕ) (s : Stack) → IsShut i s → w ≢ i → active_on w s ≡ None
  not_on w (Active j gs) h g = elim (eqb_tells j w) [ inl e ↦ absurd (g (sym e.1 ∙ h)) | inr e ↦ ap (λ (b : Bool). if b then Some gs else None) e.0 ]
  not_on w Dead h g = refl
  not_on w (Ready gs) h g = absurd h

  stack_turn : (c : Configuration) (w m : ℕ) → w ≢ i → Stands i k c →
      with_some (slice_get (slice_set c.stacks k y) m) (λ s. with_some (active_on w s) (turn_at p w m)) ≡ with_some (slice_get c.stacks m) (λ s. with_some (active_on w s) (turn_at p w m))
  stack_turn c w m g h = elim (eqb_tells k m) [
    | inl e ↦ subst Q e.1 own
    | inr e ↦ ap (λ o. with_some o (λ s. with_some (active_on w s) (turn_at p w m))) (get_other c.stacks k m y e.1)
  ]
    where
      Q : ℕ → Type 0
      Q m = with_some (slice_get (slice_set c.stacks k y) m) (λ s. with_some (active_on w s) (turn_at p w m)) ≡ with_some (slice_get c.stacks m) (λ s. with_some (active_on w s) (turn_at p w m))

      own : Q k
      own =
          ap (λ o. with_some o (λ s. with_some (active_on w s) (turn_at p w k))) (get_same c.stacks k y (Active i h.frames) h.on)
          ∙ ap (λ o. with_some o (turn_at p w k)) (not_on w y shut g ∙ sym (not_on w (Active i h.frames) refl g))
          ∙ ap (λ o. with_some o (λ s. with_some (active_on w s) (turn_at p w k))) (sym h.on)

  turn_after : (c : Configuration) (w : ℕ) → w ≢ i → Stands i k c → turn_of p (away c) w ≡ turn_of p c w
  turn_after c w g h =
      ap (λ o. with_some o (λ (t : Option Thread). with_some t (λ (t : Thread). with_some (slice_get (slice_set c.stacks k y) t.stack) (λ s. with_some (active_on w s) (turn_at p w t.stack))))) (get_other c.threads i w x (λ e. g (sym e)))
      ∙ by (slice_get c.threads w)
    where
      by : (o : Option (Option Thread)) → with_some o (λ (t : Option Thread). with_some t (λ (t : Thread). with_some (slice_get (slice_set c.stacks k y) t.stack) (λ s. with_some (active_on w s) (turn_at p w t.stack))))
          ≡ with_some o (λ (t : Option Thread). with_some t (λ (t : Thread). with_some (slice_get c.stacks t.stack) (λ s. with_some (active_on w s) (turn_at p w t.stack))))
      by None = refl
      by (Some None) = refl
      by (Some (Some t)) = stack_turn c w t.stack g h

  -- whose turn it is, and that its stack is another one
  turn_is : (w m : ℕ) (fs : List Activation) (v : Turn) → turn_at p w m fs ≡ Some v → (v.thread ≡ w) × (v.stack ≡ m)
  turn_is w m [] v e = cc
  turn_is w m (f ∷ fs) v e = by (p.doing f.block f.at f.vars) e
    where
      by : (o : Option Doing) → with_some o (λ d. Some (record { thread = w; stack = m; top = f; below = fs; doing = d })) ≡ Some v → (v.thread ≡ w) × (v.stack ≡ m)
      by None e = cc
      by (Some d) e = (cc, cc)

  turn_apart : (c : Configuration) (w : ℕ) (v : Turn) → w ≢ i → Stands i k c → turn_of p c w ≡ Some v → (v.thread ≡ w) × (v.stack ≢ k)
  turn_apart c w v g h e = by (slice_get c.threads w) e
    where
      frames : (m : ℕ) (s : Stack) (o : Option (List Activation)) → active_on w s ≡ o → slice_get c.stacks m ≡ Some s → with_some o (turn_at p w m) ≡ Some v → (v.thread ≡ w) × (v.stack ≢ k)
      frames m s None a t e = cc
      frames m s (Some fs) a t e =
          let r = turn_is w m fs v e in (
            r.0,
            λ z.
                let own : Some s ≡ Some (Active i h.frames) = sym t ∙ ap (slice_get c.stacks) (sym r.1 ∙ z) ∙ h.on in
                let same : s ≡ Active i h.frames = cc in
                let none : None ≡ Some fs = sym (ap (active_on w) same ∙ not_on w (Active i h.frames) refl g) ∙ a in
                cc,
          )

      stacks : (m : ℕ) (o : Option Stack) → slice_get c.stacks m ≡ o → with_some o (λ s. with_some (active_on w s) (turn_at p w m)) ≡ Some v → (v.thread ≡ w) × (v.stack ≢ k)
      stacks m None t e = cc
      stacks m (Some s) t e = frames m s (active_on w s) refl t e

      by : (o : Option (Option Thread)) → with_some o (λ (t : Option Thread). with_some t (λ (t : Thread). with_some (slice_get c.stacks t.stack) (λ s. with_some (active_on w s) (turn_at p w t.stack)))) ≡ Some v → (v.thread ≡ w) × (v.stack ≢ k)
      by None e = cc
      by (Some None) e = cc
      by (Some (Some t)) e = stacks t.stack (slice_get c.stacks t.stack) refl e

  -- ---- wakes

  wakes_one_after : (c : Configuration) (wake : ℕ) (v : Turn) → v.stack ≢ k → wakes_one p wake (away c) v ≡ option_map away (wakes_one p wake c v)
  wakes_one_after c wake v g = by (passed p v.top ((was_woken ∷ []) ∷ []))
    where
      by : (o : Option Activation) → with_some o (λ f. Some (stack_becomes v.stack (Active v.thread (f ∷ v.below)) (logged v.thread (kinds.Woken wake) (away c))))
          ≡ option_map away (with_some o (λ f. Some (stack_becomes v.stack (Active v.thread (f ∷ v.below)) (logged v.thread (kinds.Woken wake) c))))
      by None = refl
      by (Some f) = ap (λ ss. Some (record (logged v.thread (kinds.Woken wake) c) { threads = slice_set c.threads i x; stacks = ss })) (set_swap c.stacks k v.stack y (Active v.thread (f ∷ v.below)) (λ e. g (sym e)))

  wakes_one_stands : (c d : Configuration) (wake : ℕ) (v : Turn) → v.stack ≢ k → Stands i k c → wakes_one p wake c v ≡ Some d → Stands i k d
  wakes_one_stands c d wake v g h e = by (passed p v.top ((was_woken ∷ []) ∷ [])) e
    where
      by : (o : Option Activation) → with_some o (λ f. Some (stack_becomes v.stack (Active v.thread (f ∷ v.below)) (logged v.thread (kinds.Woken wake) c))) ≡ Some d → Stands i k d
      by None e = cc
      by (Some f) e =
          let now : Stack = Active v.thread (f ∷ v.below) in
          let same : stack_becomes v.stack now (logged v.thread (kinds.Woken wake) c) ≡ d = cc in
          subst (Stands i k) same (record { frames = h.frames; on = get_other c.stacks v.stack k now g ∙ h.on; there = h.there })

  wakes_all_after : (wake : ℕ) (ws : List Waiter) (c : Configuration) → Awake i ws → Stands i k c → wakes_all p wake ws (away c) ≡ option_map away (wakes_all p wake ws c)
  wakes_all_after wake [] c a h = refl
  wakes_all_after wake (w ∷ ws) c a h =
      ap (λ o. with_some o (λ v. with_some (wakes_one p wake (away c) v) (wakes_all p wake ws))) (turn_after c w.thread a.0 h)
      ∙ by (turn_of p c w.thread) refl (λ d. wakes_all_after wake ws d a.1)
    where
      mid : (v : Turn) (o : Option Configuration) → wakes_one p wake c v ≡ o → v.stack ≢ k → ((d : Configuration) → Stands i k d → wakes_all p wake ws (away d) ≡ option_map away (wakes_all p wake ws d)) →
          with_some (option_map away o) (wakes_all p wake ws) ≡ option_map away (with_some o (wakes_all p wake ws))
      mid v None e g more = refl
      mid v (Some d) e g more = more d (wakes_one_stands c d wake v g h e)

      by : (o : Option Turn) → turn_of p c w.thread ≡ o → ((d : Configuration) → Stands i k d → wakes_all p wake ws (away d) ≡ option_map away (wakes_all p wake ws d)) →
          with_some o (λ v. with_some (wakes_one p wake (away c) v) (wakes_all p wake ws)) ≡ option_map away (with_some o (λ v. with_some (wakes_one p wake c v) (wakes_all p wake ws)))
      by None e more = refl
      by (Some v) e more =
          let g = (turn_apart c w.thread v a.0 h e).1 in
          ap (λ o. with_some o (wakes_all p wake ws)) (wakes_one_after c wake v g) ∙ mid v (wakes_one p wake c v) refl g more

  taken_awake : (n : ℕ) (ws : List Waiter) → Awake i ws → Awake i (take n ws)
  taken_awake zero ws a = tt
  taken_awake (suc n) [] a = tt
  taken_awake (suc n) (w ∷ ws) a = (a.0, taken_awake n ws a.1)

  filtered_awake : (q : Waiter → Bool) (ws : List Waiter) → Awake i ws → Awake i (filter q ws)
  filtered_awake q [] a = tt
  filtered_awake q (w ∷ ws) a = by (q w) (filtered_awake q ws a.1)
    where
      by : (b : Bool) → Awake i (filter q ws) → Awake i (cond b (w ∷ filter q ws) (filter q ws))
      by true r = (a.0, r)
      by false r = r

  mapped_after : (o : Option Configuration) (go : Configuration → Outcome) → ((d : Configuration) → go (away d) ≡ mapped away (go d)) → on (option_map away o) go ≡ mapped away (on o go)
  unfolding on
  mapped_after None go h = refl
  mapped_after (Some d) go h = h d

  wakes_after : (c : Configuration) (u : Turn) (cell : CellId) (ws : List Waiter) → u.thread ≢ i → u.stack ≢ k → Stands i k c → Awake i ws → wakes_these p (away c) u cell ws ≡ mapped away (wakes_these p c u cell ws)
  wakes_after c u cell ws other apart h a =
      let d : Configuration = logged u.thread (kinds.Wake cell (length ws)) (record c { waiters = without ws c.waiters }) in
      let go : Configuration → Outcome = λ d. has_results p d u ((scalars.Int 32 (length ws) ∷ []) ∷ []) in
      ap (λ o. on o go) (wakes_all_after (length c.log) ws d a (record { frames = h.frames; on = h.on; there = h.there })) ∙ mapped_after (wakes_all p (length c.log) ws d) go (λ d. next_after p i k x y shut u other apart d _)

  act_after : (c : Configuration) (u : Turn) (a : Act) → u.thread ≢ i → u.stack ≢ k → Stands i k c → Awake i c.waiters → performed p (away c) u a ≡ mapped away (performed p c u a)
  act_after c u a other apart h w = by a
    where
      by : (a : Act) → performed p (away c) u a ≡ mapped away (performed p c u a)
      by (acts.Wakes many cell) = tried_after p i k x y shut u other apart c _ _ _ (λ there q. wakes_after c u there (take many (filter (is_at there) c.waiters)) other apart h (taken_awake many (filter (is_at there) c.waiters) (filtered_awake (is_at there) c.waiters w)))
      by a = performed_after p i k x y shut u other apart c a h refl

  -- ---- the turn

  turned_after : (c : Configuration) (u : Turn) (w : Option Waiter) → u.thread ≢ i → u.stack ≢ k → Stands i k c → Awake i c.waiters → turned p (away c) w u ≡ mapped away (turned p c w u)
  turned_after c u (Some w) other apart h a = times_out_after p i k x y shut u other apart c w
  turned_after c u None other apart h a = on_mapped away u.doing.act _ _ (λ act q. act_after c u act other apart h a)

  turns_after : (c : Configuration) (j : ℕ) → j ≢ i → Stands i k c → Awake i c.waiters → turns p (away c) j ≡ mapped away (turns p c j)
  turns_after c j g h a =
      ap (λ o. on o (turned p (away c) (find (is_of j) c.waiters))) (turn_after c j g h)
      ∙ on_mapped away (turn_of p c j) _ _ (λ u q.
      let r = turn_apart c j u g h q in
      turned_after c u (find (is_of j) c.waiters) (λ e. g (sym r.0 ∙ e)) r.1 h a)

pub turns_commute : TurnsCommute
turns_commute p i k x y c j shut h a g = turns_after p i k x y shut c j g h a
