-- Where a step asks the client, it does so at a trap or at a watchpoint.
use Rattle.std.proofs.lemmas.Bool.{false≢true}
use Rattle.std.proofs.Math.Path.{fun_ext}
use Rattle.mu_values.specs.declared.cells.CellId.{CellId}
use Rattle.mu_base.specs.declared.order.Order.TheVariants.{Relaxed}
use Rattle.mu_values.specs.declared.scalars.Scalar.{Scalar}
use Rattle.mu_values.specs.declared.scalars.Scalar.TheVariants as scalars
use Rattle.mu_values.specs.Slots.{TypedValues}
use Rattle.mu_values.specs.SameScalar.{same_scalar}
use Rattle.typed_heap.specs.Places.{with_some, cell_in}
use Rattle.frames.specs.Activations.{Value, Goal, Activation}
use Rattle.mem_axioms.specs.Choices.{choices}
use Rattle.mem_axioms.specs.Races.{race}
use Rattle.mem_axioms.specs.declared.types.Kind.{Kind}
use Rattle.mem_axioms.specs.declared.types.Kind.TheVariants as kinds
use Rattle.mem_axioms.specs.declared.types.Event.{Event}
use Rattle.mem_axioms.specs.declared.types.Chosen.{Chosen}
use Rattle.mu_model.specs.declared.lines.Note.{Note}
use Rattle.mu_model.specs.declared.lines.Note.TheVariants as notes
use Rattle.mu_model.specs.declared.lines.Line.TheVariants as lines
use Rattle.mu_model.specs.declared.endings.Case.{Case}
use Rattle.mu_model.specs.declared.endings.Case.TheVariants.{DivideByZero, NullAccess}
use Rattle.mu_model.specs.declared.endings.Ending.{Ending}
use Rattle.mu_model.specs.declared.endings.Ending.TheVariants as endings
use Rattle.mu_model.specs.Types.{type_graph, classes_given}
use Rattle.futex.specs.declared.waiters.Waiter.{Waiter}
use Rattle.mu_model.specs.Configuration.{Stack, Ready, Active, Dead, Thread, Configuration}
use Rattle.mu_model.specs.Clients.{Classed, With, Pass, Throw, Reply, Resume, Rebind, Exit, Stop, Client, Answer}
use Rattle.mu_model.specs.Answers.{answer_of, advanced}
use Rattle.mu_model.specs.Operands.{scalar_in}
use Rattle.mu_model.specs.Acts as acts
use Rattle.mu_model.specs.Acts.{Access, Act, Doing, Entering, Program}
use Rattle.mu_model.specs.Turns.{Turn, turn_of, waiting}
use Rattle.mu_model.specs.Frames.{called, passed, caught, arrived, fresh_frame}
use Rattle.mu_model.specs.Changes.{noted, logged, event, frames_end, stack_becomes, stack_dies, thread_ends, thread_changes}
use Rattle.mu_model.specs.Outcomes.{Outcome, Next, End, Asks, Stuck, View, on, next, onto, tried, refused, faulted, excepted, unless_refused, has_results, or_case}
use Rattle.mu_model.specs.Exceptions.{EnteredFrames, returns, finishes, unwinding, body_or_case}
use Rattle.std.proofs.lemmas.Option.{slice_get_within}
use Rattle.mu_model.specs.EnteringStacks.{ready, entering, enters, leaving, most_threads, started}
use Rattle.mu_model.specs.Objects.{object_added, asks_cells}
use Rattle.mu_model.specs.Accesses.{initial, wanted, kind_of, access_results, raced, accessed, takes_option}
use Rattle.futex.specs.Waiting.{is_of, is_at, without}
use Rattle.mu_model.specs.Waiting.{was_woken, found_another, waits_at, waited, wakes_one, wakes_all, wakes_these, times_out}
use Rattle.mu_model.specs.Traps.{trapped, trap_note, answered, replied, taken, enters_by, entering_of, is_watched, goes}
use Rattle.mu_model.specs.Step.{performed, turned, turns, threads_from, runnable, picked, picking_thread, ends_or_picks, step, with_own}
use Rattle.mu_model.specs.Run.{Run, Ends, Breaks, Unfinished, behind, client_answers, with_client, goes_on, run}
use Rattle.mu_threads.specs.Picks.{pick}
use Rattle.std.specs.Prelude.{◌≡◌, ◌≢◌, ◌<◌, ◌≤◌, ◌+◌, ℕ, zero, suc, Bool, true, false, ◌==◌, nat_le, List, [], ◌∷◌, ◌++◌, Option, Some, None, Result, Ok, Err, length, find, filter, take, slice_get, slice_set, option_map, reverse, if◌then◌else◌, refl}
use Rattle.std.proofs.Common.{sym, ◌∙◌, ap, subst, arith, cond, inl, inr}
use Rattle.std.proofs.lemmas.Bool.Decides.{eqb_tells}
use Rattle.typed_heap.specs.Objects.{leaf_classes}
use Rattle.mu_model.specs.Turns.{active_on, turn_at}
use Rattle.mu_model.specs.Changes.{changed}
use Rattle.mu_model.specs.EnteringStacks.{ready_at, on_stack, entered}
use Rattle.std.proofs.lemmas.List.{length-append}

-- an outcome that asks the client is that of a trap
pub record OfTrap (p : Program) (view : View) (go : Option Answer → Outcome) : Type 0 where
  pub before : Configuration
  pub turn : Turn
  pub watchpoint : Option ℕ
  pub asked : List ℕ
  pub is : trapped p before turn watchpoint asked ≡ Asks view go

abbrev AsksByTrap : Program → Outcome → Type 0
AsksByTrap p (Next d) = Unit {0}
AsksByTrap p (End ls e) = Unit {0}
AsksByTrap p (Asks view go) = OfTrap p view go
AsksByTrap p Stuck = Unit {0}

module _ (p : Program) where
  on_asks : {A : Type 0} (o : Option A) (go : A → Outcome) → ((a : A) → AsksByTrap p (go a)) → AsksByTrap p (on o go)
  unfolding on
  on_asks None go h = tt
  on_asks (Some a) go h = h a

  module _ (u : Turn) where
    next_asks : (c : Configuration) (fs : Option (List Activation)) → AsksByTrap p (next c u fs)
    next_asks c fs = on_asks fs _ (λ now. tt)

    faulted_asks : (c : Configuration) (e : Ending) → AsksByTrap p (faulted p c u e)
    faulted_asks c e = on_asks u.doing.exceptional _ by
      where
        by : (o : Option Goal) → AsksByTrap p (excepted p c u e o)
        by None = tt
        by (Some g) = next_asks c (with_some (caught p u.top g scalars.Null) (onto u))

    refused_asks : (c : Configuration) (k : Case) → AsksByTrap p (refused p c u k)
    refused_asks c DivideByZero = faulted_asks c _
    refused_asks c NullAccess = faulted_asks c _
    refused_asks c _ = tt

    tried_asks : {A : Type 0} (c : Configuration) (o : Option (Result A Case)) (go : A → Outcome) → ((a : A) → AsksByTrap p (go a)) → AsksByTrap p (tried p c u o go)
    unfolding tried
    tried_asks {A} c o go good = on_asks o _ by
      where
        by : (r : Result A Case) → AsksByTrap p (unless_refused p c u go r)
        by (Err k) = refused_asks c k
        by (Ok a) = good a

    entering_asks : (c : Configuration) (s : Scalar) (e : Entering) (go : ℕ → EnteredFrames → Outcome) → ((k : ℕ) (r : EnteredFrames) → AsksByTrap p (go k r)) → AsksByTrap p (entering p c u s e go)
    entering_asks c s e go good = tried_asks c (ready c.stacks s) _ (λ r. tried_asks c (entered p r.1 e) _ (good r.0))

    cells_asks : (c : Configuration) (m : ℕ) (go : Outcome) → AsksByTrap p go → AsksByTrap p (asks_cells p c u m go)
    cells_asks c m go good = by (nat_le m c.cells)
      where
        by : (b : Bool) → AsksByTrap p (if b then go else faulted p c u (endings.HeapFull u.thread m c.cells))
        by true = good
        by false = faulted_asks c _

    returns_asks : (c : Configuration) (vs : TypedValues) (below : List Activation) → AsksByTrap p (returns p c u vs below)
    returns_asks c vs [] = tt
    returns_asks c vs (f ∷ fs) = next_asks (frames_end (u.top ∷ []) c) _

    accessed_asks : (c : Configuration) (k : Option Kind) (o : Option (List Activation)) → AsksByTrap p (accessed c u k o)
    accessed_asks c k o = on_asks k _ (λ k. on_asks o _ (λ fs. by k fs (race c.rule c.log (event u.thread k))))
      where
        by : (k : Kind) (fs : List Activation) (r : Option ℕ) → AsksByTrap p (raced c u (event u.thread k) fs r)
        by k fs (Some m) = tt
        by k fs None = next_asks (logged u.thread k c) (Some fs)

    trap_asks : (c : Configuration) (m : Option ℕ) (cs : List ℕ) → AsksByTrap p (trapped p c u m cs)
    trap_asks c m cs = by (trapped p c u m cs) refl
      where
        by : (o : Outcome) → trapped p c u m cs ≡ o → AsksByTrap p o
        by (Next d) e = tt
        by (End ls x) e = tt
        by (Asks view go) e = record { before = c; turn = u; watchpoint = m; asked = cs; is = e }
        by Stuck e = tt

    watches_asks : (c : Configuration) (m : ℕ) (cs : List ℕ) (g : Goal) → AsksByTrap p (performed p c u (acts.Watches m cs g))
    watches_asks c m cs g = by (is_watched m c.watched)
      where
        by : (b : Bool) → AsksByTrap p (if b then trapped p c u (Some m) cs else goes c u g)
        by true = trap_asks c (Some m) cs
        by false = next_asks c _

    chooses_asks : (c : Configuration) (m : ℕ) (g j : Goal) → AsksByTrap p (performed p c u (acts.Chooses m g j))
    chooses_asks c m g j = by (is_watched m c.watched)
      where
        by : (b : Bool) → AsksByTrap p (if b then goes c u j else goes c u g)
        by true = next_asks c _
        by false = next_asks c _

    starts_asks : (c : Configuration) (s own : Scalar) (e : Entering) → AsksByTrap p (performed p c u (acts.Starts s own e))
    starts_asks c s own e = by (nat_le most_threads (length c.threads))
      where
        by : (b : Bool) → AsksByTrap p (if b then faulted p c u (endings.ThreadsFull u.thread) else entering p c u s e (λ k r. has_results p (started c u own k r) u ((scalars.Thread (length c.threads) ∷ []) ∷ [])))
        by true = faulted_asks c _
        by false = entering_asks c s e _ (λ k r. next_asks (started c u own k r) _)

    waited_asks : (c : Configuration) (timed : Bool) (v : Scalar) (cell : CellId) (o : Chosen) → AsksByTrap p (waited p c u timed v cell o)
    waited_asks c timed v cell o = by (same_scalar o.value v)
      where
        by : (b : Bool) → AsksByTrap p (if b then accessed (waits_at u timed cell c) u (kind_of (acts.Loads Relaxed) cell o) (onto u u.top) else accessed c u (kind_of (acts.Loads Relaxed) cell o) (with_some (passed p u.top ((found_another ∷ []) ∷ [])) (onto u)))
        by true = accessed_asks (waits_at u timed cell c) (kind_of (acts.Loads Relaxed) cell o) _
        by false = accessed_asks c (kind_of (acts.Loads Relaxed) cell o) _

    wakes_asks : (c : Configuration) (cell : CellId) (ws : List Waiter) → AsksByTrap p (wakes_these p c u cell ws)
    wakes_asks c cell ws = on_asks (wakes_all p (length c.log) ws (logged u.thread (kinds.Wake cell (length ws)) (record c { waiters = without ws c.waiters }))) _ (λ x. next_asks x _)

    performed_asks : (c : Configuration) (a : Act) → AsksByTrap p (performed p c u a)
    performed_asks c (acts.Gives vs) = next_asks c _
    performed_asks c (acts.Faults k) = refused_asks c k
    performed_asks c (acts.Goes g) = next_asks c _
    performed_asks c (acts.Calls f vs) = tried_asks c _ _ (λ b. next_asks c _)
    performed_asks c (acts.Replaces f vs) = tried_asks c _ _ (λ b. next_asks (frames_end (u.top ∷ []) c) _)
    performed_asks c (acts.Returns vs) = returns_asks c vs u.below
    performed_asks c (acts.Throws x) = tried_asks c _ _ (λ r. next_asks (frames_end r.ended c) _)
    performed_asks c (acts.Casts d s) = tried_asks c _ _ (λ r. next_asks c _)
    performed_asks c (acts.Finds way s) = tried_asks c _ _ (λ r. next_asks c _)
    performed_asks c (acts.Makes t) = cells_asks c _ _ (next_asks (object_added p c _) _)
    performed_asks c (acts.MakesHybrid t many) = cells_asks c _ _ (next_asks (object_added p c _) _)
    performed_asks c (acts.MakesOwn t) = cells_asks c _ _ (on_asks _ _ (λ now. tt))
    performed_asks c (acts.Accesses a cell) = tried_asks c _ _ (λ at. on_asks _ _ (λ o. accessed_asks (record c { picks = (pick (length (choices c.rule (initial c) c.log u.thread at (wanted a))) c.picks).1 }) (kind_of a at o) _))
    performed_asks c (acts.Fences o) = next_asks (logged u.thread (kinds.Fence o) c) _
    performed_asks c (acts.Traps cs) = trap_asks c None cs
    performed_asks c (acts.Watches n cs g) = watches_asks c n cs g
    performed_asks c (acts.Chooses n g j) = chooses_asks c n g j
    performed_asks c (acts.Swaps s cs x) = on_asks (waiting u cs) _ (λ f. entering_asks c s x _ (λ k r. tt))
    performed_asks c (acts.Leaves s x) = entering_asks c s x _ (λ k r. tt)
    performed_asks c (acts.Starts s own x) = starts_asks c s own x
    performed_asks c (acts.MakesStack f) = tried_asks c (body_or_case (p.body f)) _ (λ b. next_asks (logged u.thread (kinds.NewStack (length c.stacks)) (record c { stacks = c.stacks ++ Ready (fresh_frame p f b ∷ []) ∷ [] })) _)
    performed_asks c (acts.KillsStack s) = tried_asks c _ _ (λ r. next_asks (stack_dies r.0 r.1 c) _)
    performed_asks c acts.Tells = next_asks c _
    performed_asks c acts.Exits = tt
    performed_asks c (acts.SetsOwn r) = next_asks (thread_changes u.thread (with_own r) c) _
    performed_asks c acts.TellsOwn = on_asks _ _ (λ o. on_asks o _ (λ t. next_asks c _))
    performed_asks c (acts.Waits timed v cell) = tried_asks c _ _ (λ at. on_asks _ _ (λ o. waited_asks c timed v at o))
    performed_asks c (acts.Wakes many cell) = tried_asks c _ _ (λ at. wakes_asks c at (take many (filter (is_at at) c.waiters)))

  turns_asks : (c : Configuration) (i : ℕ) → AsksByTrap p (turns p c i)
  turns_asks c i = on_asks (turn_of p c i) _ (λ u. by u (find (is_of i) c.waiters))
    where
      by : (u : Turn) (w : Option Waiter) → AsksByTrap p (turned p c w u)
      by u (Some w) = next_asks u (noted (notes.TimedOut u.thread w.cell) (record c { waiters = without (w ∷ []) c.waiters })) _
      by u None = on_asks u.doing.act _ (λ a. performed_asks u c a)

  step_asks : (c : Configuration) → AsksByTrap p (step p c)
  step_asks c = by (threads_from 0 c.threads) (runnable c)
    where
      picks : (is : List ℕ) → AsksByTrap p (picking_thread p c is)
      picks is = on_asks (slice_get is (pick (length is) c.picks).0) _ (turns_asks (picked c (pick (length is) c.picks).1))

      by : (ts is : List ℕ) → AsksByTrap p (ends_or_picks p c ts is)
      by [] is = tt
      by (t ∷ ts) [] = tt
      by (t ∷ ts) (i ∷ is) = at_budget (c.steps == c.budget)
        where
          at_budget : (b : Bool) → AsksByTrap p (if b then End [] (endings.Budget c.steps) else picking_thread p c (i ∷ is))
          at_budget true = tt
          at_budget false = picks (i ∷ is)

  pub of_trap : (c : Configuration) (view : View) (go : Option Answer → Outcome) → step p c ≡ Asks view go → OfTrap p view go
  of_trap c view go e = subst (AsksByTrap p) e (step_asks c)
