-- No turn looks at how many steps were made or may be.
use Rattle.std.specs.Prelude.{◌≡◌, ℕ, Bool, true, false, nat_le, List, [], ◌∷◌, Option, Some, None, Result, Ok, Err, length, find, filter, take, slice_get, option_map, if◌then◌else◌, refl}
use Rattle.std.proofs.Common.{◌∙◌, ap}
use Rattle.std.proofs.Math.Path.{fun_ext}
use Rattle.mu_values.specs.declared.cells.CellId.{CellId}
use Rattle.mu_base.specs.declared.order.Order.TheVariants.{Relaxed}
use Rattle.mu_values.specs.declared.scalars.Scalar.{Scalar}
use Rattle.mu_values.specs.declared.scalars.Scalar.TheVariants as scalars
use Rattle.mu_values.specs.Slots.{TypedValues}
use Rattle.mu_values.specs.SameScalar.{same_scalar}
use Rattle.typed_heap.specs.Places.{with_some}
use Rattle.frames.specs.Activations.{Goal, Activation}
use Rattle.mem_axioms.specs.Choices.{choices}
use Rattle.mem_axioms.specs.Races.{race}
use Rattle.mem_axioms.specs.declared.types.Kind.{Kind}
use Rattle.mem_axioms.specs.declared.types.Kind.TheVariants as kinds
use Rattle.mem_axioms.specs.declared.types.Event.{Event}
use Rattle.mem_axioms.specs.declared.types.Chosen.{Chosen}
use Rattle.mu_model.specs.declared.endings.Case.{Case}
use Rattle.mu_model.specs.declared.endings.Case.TheVariants.{DivideByZero, NullAccess}
use Rattle.mu_model.specs.declared.endings.Ending.{Ending}
use Rattle.mu_model.specs.declared.endings.Ending.TheVariants as endings
use Rattle.futex.specs.declared.waiters.Waiter.{Waiter}
use Rattle.mu_model.specs.Configuration.{Active, Configuration}
use Rattle.mu_model.specs.Clients.{Classed, With, Reply, Resume, Rebind, Exit, Stop, Client, Answer}
use Rattle.mu_model.specs.Answers.{answer_of, advanced}
use Rattle.mu_model.specs.Operands.{scalar_in}
use Rattle.mu_model.specs.Acts as acts
use Rattle.mu_model.specs.Acts.{Access, Act, Entering, Program}
use Rattle.mu_model.specs.Turns.{Turn, turn_of, waiting}
use Rattle.mu_model.specs.Frames.{passed, caught}
use Rattle.mu_model.specs.Changes.{noted, logged, event, frames_end, stack_becomes}
use Rattle.mu_model.specs.Outcomes.{Outcome, Next, End, Asks, Stuck, on, next, onto, tried, refused, faulted, excepted, unless_refused, has_results}
use Rattle.mu_model.specs.Exceptions.{EnteredFrames, returns}
use Rattle.mu_model.specs.EnteringStacks.{ready, entered, entering, leaving, most_threads, started}
use Rattle.mu_model.specs.Objects.{asks_cells}
use Rattle.mu_model.specs.Accesses.{initial, wanted, kind_of, raced, accessed, takes_option}
use Rattle.futex.specs.Waiting.{is_of, is_at, without}
use Rattle.mu_model.specs.Waiting.{was_woken, found_another, waits_at, waited, wakes_one, wakes_all, wakes_these, times_out}
use Rattle.mu_model.specs.Edits.{edited}
use Rattle.mu_model.specs.Traps.{trapped, trap_note, answered, edits, replied, taken, enters_by, entering_of, is_watched, goes}
use Rattle.mu_model.specs.Step.{performed, turned, turns}
use Rattle.mu_model.specs.Run.{client_answers, with_client}
use Rattle.mu_threads.specs.Picks.{pick}

-- ---- outcomes with other counts: of the steps that were made, and of those that may be

abbrev pub with_counts : ℕ × ℕ → Configuration → Configuration
with_counts ps c = record c { steps = ps.0; budget = ps.1 }

abbrev pub counted : ℕ × ℕ → Outcome → Outcome
counted ps (Next c) = Next (with_counts ps c)
counted ps (End ls e) = End ls e
counted ps (Asks view go) = Asks view (λ a. counted ps (go a))
counted ps Stuck = Stuck

on_counted : {A : Type 0} (ps : ℕ × ℕ) (o : Option A) (go before : A → Outcome) → ((a : A) → go a ≡ counted ps (before a)) → on o go ≡ counted ps (on o before)
unfolding on
on_counted ps None go before h = refl
on_counted ps (Some a) go before h = h a

mapped_counted : (ps : ℕ × ℕ) (o : Option Configuration) (go : Configuration → Outcome) → ((d : Configuration) → go (with_counts ps d) ≡ counted ps (go d)) → on (option_map (with_counts ps) o) go ≡ counted ps (on o go)
unfolding on
mapped_counted ps None go h = refl
mapped_counted ps (Some d) go h = h d

module _ (p : Program) (ps : ℕ × ℕ) (u : Turn) where
  next_counted : (c : Configuration) (fs : Option (List Activation)) → next (with_counts ps c) u fs ≡ counted ps (next c u fs)
  next_counted c fs = on_counted ps fs _ _ (λ now. refl)

  faulted_counted : (c : Configuration) (e : Ending) → faulted p (with_counts ps c) u e ≡ counted ps (faulted p c u e)
  faulted_counted c e = on_counted ps u.doing.exceptional _ _ by
    where
      by : (o : Option Goal) → excepted p (with_counts ps c) u e o ≡ counted ps (excepted p c u e o)
      by None = refl
      by (Some g) = next_counted c (with_some (caught p u.top g scalars.Null) (onto u))

  pub refused_counted : (c : Configuration) (k : Case) → refused p (with_counts ps c) u k ≡ counted ps (refused p c u k)
  refused_counted c DivideByZero = faulted_counted c _
  refused_counted c NullAccess = faulted_counted c _
  refused_counted c _ = refl

  tried_counted : {A : Type 0} (c : Configuration) (o : Option (Result A Case)) (go before : A → Outcome) → ((a : A) → go a ≡ counted ps (before a)) → tried p (with_counts ps c) u o go ≡ counted ps (tried p c u o before)
  unfolding tried
  tried_counted {A} c o go before h = on_counted ps o _ _ by
    where
      by : (r : Result A Case) → unless_refused p (with_counts ps c) u go r ≡ counted ps (unless_refused p c u before r)
      by (Err k) = refused_counted c k
      by (Ok a) = h a

  entering_counted : (c : Configuration) (s : Scalar) (e : Entering) (go before : ℕ → EnteredFrames → Outcome) → ((k : ℕ) (r : EnteredFrames) → go k r ≡ counted ps (before k r)) → entering p (with_counts ps c) u s e go ≡ counted ps (entering p c u s e before)
  entering_counted c s e go before h = tried_counted c (ready c.stacks s) _ _ (λ x. tried_counted c (entered p x.1 e) _ _ (h x.0))

  asks_counted : (c : Configuration) (m : ℕ) (go before : Outcome) → go ≡ counted ps before → asks_cells p (with_counts ps c) u m go ≡ counted ps (asks_cells p c u m before)
  asks_counted c m go before h = by (nat_le m c.cells)
    where
      by : (x : Bool) → (if x then go else faulted p (with_counts ps c) u (endings.HeapFull u.thread m c.cells)) ≡ counted ps (if x then before else faulted p c u (endings.HeapFull u.thread m c.cells))
      by true = h
      by false = faulted_counted c _

  -- ---- acts

  returns_counted : (c : Configuration) (vs : TypedValues) (below : List Activation) → returns p (with_counts ps c) u vs below ≡ counted ps (returns p c u vs below)
  returns_counted c vs [] = refl
  returns_counted c vs (f ∷ fs) = next_counted (frames_end (u.top ∷ []) c) _

  raced_counted : (c : Configuration) (e : Event) (fs : List Activation) (r : Option ℕ) → raced (with_counts ps c) u e fs r ≡ counted ps (raced c u e fs r)
  raced_counted c e fs (Some m) = refl
  raced_counted c e fs None = next_counted _ (Some fs)

  accessed_counted : (c : Configuration) (k : Option Kind) (o : Option (List Activation)) → accessed (with_counts ps c) u k o ≡ counted ps (accessed c u k o)
  accessed_counted c k o = on_counted ps k _ _ (λ k. on_counted ps o _ _ (λ fs. raced_counted c (event u.thread k) fs (race c.rule c.log (event u.thread k))))

  pub takes_counted : (c : Configuration) (a : Access) (cell : CellId) (k : Chosen) → takes_option p (with_counts ps c) u a cell k ≡ counted ps (takes_option p c u a cell k)
  takes_counted c a cell k = accessed_counted c (kind_of a cell k) _

  starts_counted : (c : Configuration) (s own : Scalar) (e : Entering) → performed p (with_counts ps c) u (acts.Starts s own e) ≡ counted ps (performed p c u (acts.Starts s own e))
  starts_counted c s own e = by (nat_le most_threads (length c.threads))
    where
      by : (x : Bool) → (if x then faulted p (with_counts ps c) u (endings.ThreadsFull u.thread) else entering p (with_counts ps c) u s e (λ k r. has_results p (started (with_counts ps c) u own k r) u ((scalars.Thread (length c.threads) ∷ []) ∷ [])))
          ≡ counted ps (if x then faulted p c u (endings.ThreadsFull u.thread) else entering p c u s e (λ k r. has_results p (started c u own k r) u ((scalars.Thread (length c.threads) ∷ []) ∷ [])))
      by true = faulted_counted c _
      by false = entering_counted c s e _ _ (λ k r. next_counted (started c u own k r) _)

  -- ---- traps

  enters_by_counted : (c : Configuration) (s : Scalar) (w : With TypedValues Classed) → enters_by p (with_counts ps c) u s w ≡ counted ps (enters_by p c u s w)
  enters_by_counted c s w = on_counted ps (entering_of p.tables w) _ _ (λ e. entering_counted c s e _ _ (λ k r. refl))

  replied_counted : (c : Configuration) (a : Reply TypedValues Classed) → replied p (with_counts ps c) u a ≡ counted ps (replied p c u a)
  replied_counted c (Resume w) = enters_by_counted c (scalars.Stack u.stack) w
  replied_counted c (Rebind t w) = on_counted ps (scalar_in (Some t.1)) _ _ (λ s. enters_by_counted c s w)
  replied_counted c Exit = refl
  replied_counted c Stop = refl

  answered_counted : (c : Configuration) (fs : List Activation) (a : Option Answer) → answered p (with_counts ps c) u fs a ≡ counted ps (answered p c u fs a)
  answered_counted c fs None = refl
  answered_counted c fs (Some a) = tried_counted (taken a c) (edited p a.edit fs) _ _ (λ r. replied_counted (edits u r (taken a c)) a.reply)

  trapped_counted : (c : Configuration) (m : Option ℕ) (cs : List ℕ) → trapped p (with_counts ps c) u m cs ≡ counted ps (trapped p c u m cs)
  trapped_counted c m cs = on_counted ps (waiting u cs) _ _ (λ f. ap (Asks (record { thread = u.thread; watchpoint = m; asked = cs; frames = f ∷ u.below })) (fun_ext (answered_counted (noted (trap_note u m) (leaving u f c)) (f ∷ u.below))))

  watches_counted : (c : Configuration) (m : ℕ) (cs : List ℕ) (g : Goal) → performed p (with_counts ps c) u (acts.Watches m cs g) ≡ counted ps (performed p c u (acts.Watches m cs g))
  watches_counted c m cs g = by (is_watched m c.watched)
    where
      by : (x : Bool) → (if x then trapped p (with_counts ps c) u (Some m) cs else goes (with_counts ps c) u g) ≡ counted ps (if x then trapped p c u (Some m) cs else goes c u g)
      by true = trapped_counted c (Some m) cs
      by false = next_counted c _

  chooses_counted : (c : Configuration) (m : ℕ) (g h : Goal) → performed p (with_counts ps c) u (acts.Chooses m g h) ≡ counted ps (performed p c u (acts.Chooses m g h))
  chooses_counted c m g h = by (is_watched m c.watched)
    where
      by : (x : Bool) → (if x then goes (with_counts ps c) u h else goes (with_counts ps c) u g) ≡ counted ps (if x then goes c u h else goes c u g)
      by true = next_counted c _
      by false = next_counted c _

  -- ---- waits and wakes

  waited_counted : (c : Configuration) (timed : Bool) (v : Scalar) (cell : CellId) (k : Chosen) → waited p (with_counts ps c) u timed v cell k ≡ counted ps (waited p c u timed v cell k)
  waited_counted c timed v cell k = by (same_scalar k.value v)
    where
      w : Option Kind
      w = kind_of (acts.Loads Relaxed) cell k

      by : (x : Bool) → (if x then accessed (waits_at u timed cell (with_counts ps c)) u w (onto u u.top) else accessed (with_counts ps c) u w (with_some (passed p u.top ((found_another ∷ []) ∷ [])) (onto u)))
          ≡ counted ps (if x then accessed (waits_at u timed cell c) u w (onto u u.top) else accessed c u w (with_some (passed p u.top ((found_another ∷ []) ∷ [])) (onto u)))
      by true = accessed_counted (waits_at u timed cell c) w _
      by false = accessed_counted c w _

  wakes_all_counted : (wake : ℕ) (ws : List Waiter) (c : Configuration) → wakes_all p wake ws (with_counts ps c) ≡ option_map (with_counts ps) (wakes_all p wake ws c)
  wakes_all_counted wake [] c = refl
  wakes_all_counted wake (w ∷ ws) c = by (turn_of p c w.thread) (wakes_all_counted wake ws)
    where
      wakes : ((d : Configuration) → wakes_all p wake ws (with_counts ps d) ≡ option_map (with_counts ps) (wakes_all p wake ws d)) → (v : Turn) (o : Option Activation) → with_some (with_some o (λ f. Some (stack_becomes v.stack (Active v.thread (f ∷ v.below)) (logged v.thread (kinds.Woken wake) (with_counts ps c))))) (wakes_all p wake ws)
          ≡ option_map (with_counts ps) (with_some (with_some o (λ f. Some (stack_becomes v.stack (Active v.thread (f ∷ v.below)) (logged v.thread (kinds.Woken wake) c)))) (wakes_all p wake ws))
      wakes more v None = refl
      wakes more v (Some f) = more (stack_becomes v.stack (Active v.thread (f ∷ v.below)) (logged v.thread (kinds.Woken wake) c))

      by : (o : Option Turn) → ((d : Configuration) → wakes_all p wake ws (with_counts ps d) ≡ option_map (with_counts ps) (wakes_all p wake ws d)) → with_some o (λ v. with_some (wakes_one p wake (with_counts ps c) v) (wakes_all p wake ws)) ≡ option_map (with_counts ps) (with_some o (λ v. with_some (wakes_one p wake c v) (wakes_all p wake ws)))
      by None more = refl
      by (Some v) more = wakes more v (passed p v.top ((was_woken ∷ []) ∷ []))

  wakes_counted : (c : Configuration) (cell : CellId) (ws : List Waiter) → wakes_these p (with_counts ps c) u cell ws ≡ counted ps (wakes_these p c u cell ws)
  wakes_counted c cell ws =
      let d : Configuration = logged u.thread (kinds.Wake cell (length ws)) (record c { waiters = without ws c.waiters }) in
      let go : Configuration → Outcome = λ d. has_results p d u ((scalars.Int 32 (length ws) ∷ []) ∷ []) in
      ap (λ o. on o go) (wakes_all_counted (length c.log) ws d) ∙ mapped_counted ps (wakes_all p (length c.log) ws d) go (λ d. next_counted d _)

  pub times_out_counted : (c : Configuration) (w : Waiter) → times_out p (with_counts ps c) u w ≡ counted ps (times_out p c u w)
  times_out_counted c w = next_counted _ _

  -- ---- all acts

  pub performed_counted : (c : Configuration) (a : Act) → performed p (with_counts ps c) u a ≡ counted ps (performed p c u a)
  performed_counted c (acts.Gives vs) = next_counted c _
  performed_counted c (acts.Faults k) = refused_counted c k
  performed_counted c (acts.Goes g) = next_counted c _
  performed_counted c (acts.Calls f vs) = tried_counted c _ _ _ (λ b. next_counted c _)
  performed_counted c (acts.Replaces f vs) = tried_counted c _ _ _ (λ b. next_counted (frames_end (u.top ∷ []) c) _)
  performed_counted c (acts.Returns vs) = returns_counted c vs u.below
  performed_counted c (acts.Throws x) = tried_counted c _ _ _ (λ r. next_counted (frames_end r.ended c) _)
  performed_counted c (acts.Casts d s) = tried_counted c _ _ _ (λ r. next_counted c _)
  performed_counted c (acts.Finds way s) = tried_counted c _ _ _ (λ r. next_counted c _)
  performed_counted c (acts.Makes t) = asks_counted c _ _ _ (next_counted _ _)
  performed_counted c (acts.MakesHybrid t many) = asks_counted c _ _ _ (next_counted _ _)
  performed_counted c (acts.MakesOwn t) = asks_counted c _ _ _ (on_counted ps _ _ _ (λ now. refl))
  performed_counted c (acts.Accesses a cell) = tried_counted c _ _ _ (λ there. on_counted ps _ _ _ (λ o. takes_counted (record c { picks = (pick (length (choices c.rule (initial c) c.log u.thread there (wanted a))) c.picks).1 }) a there o))
  performed_counted c (acts.Fences o) = next_counted _ _
  performed_counted c (acts.Traps cs) = trapped_counted c None cs
  performed_counted c (acts.Watches n cs g) = watches_counted c n cs g
  performed_counted c (acts.Chooses n g h) = chooses_counted c n g h
  performed_counted c (acts.Swaps s cs x) = on_counted ps (waiting u cs) _ _ (λ f. entering_counted c s x _ _ (λ k r. refl))
  performed_counted c (acts.Leaves s x) = entering_counted c s x _ _ (λ k r. refl)
  performed_counted c (acts.Starts s own x) = starts_counted c s own x
  performed_counted c (acts.MakesStack f) = tried_counted c _ _ _ (λ b. next_counted _ _)
  performed_counted c (acts.KillsStack s) = tried_counted c _ _ _ (λ r. next_counted _ _)
  performed_counted c acts.Tells = next_counted c _
  performed_counted c acts.Exits = refl
  performed_counted c (acts.SetsOwn r) = next_counted _ _
  performed_counted c acts.TellsOwn = on_counted ps (slice_get c.threads u.thread) _ _ (λ o. on_counted ps o _ _ (λ t. next_counted c _))
  performed_counted c (acts.Waits timed v cell) = tried_counted c _ _ _ (λ there. on_counted ps _ _ _ (waited_counted c timed v there))
  performed_counted c (acts.Wakes many cell) = tried_counted c _ _ _ (λ there. wakes_counted c there (take many (filter (is_at there) c.waiters)))

  turned_counted : (c : Configuration) (w : Option Waiter) → turned p (with_counts ps c) w u ≡ counted ps (turned p c w u)
  turned_counted c (Some w) = times_out_counted c w
  turned_counted c None = on_counted ps u.doing.act _ _ (performed_counted c)

pub turns_counted : (p : Program) (ps : ℕ × ℕ) (c : Configuration) (j : ℕ) → turns p (with_counts ps c) j ≡ counted ps (turns p c j)
turns_counted p ps c j = on_counted ps (turn_of p c j) _ _ (λ u. turned_counted p ps u c (find (is_of j) c.waiters))

client_counted : (ps : ℕ × ℕ) (q : Client) (o : Outcome) → with_client q (counted ps o) ≡ counted ps (with_client q o)
client_counted ps q (Next c) = refl
client_counted ps q (End ls e) = refl
client_counted ps q (Asks view go) = refl
client_counted ps q Stuck = refl

pub told_counted : (p : Program) (ps : ℕ × ℕ) (q : Client) (o : Outcome) → client_answers p q (counted ps o) ≡ counted ps (client_answers p q o)
told_counted p ps q (Next c) = refl
told_counted p ps q (End ls e) = refl
told_counted p ps q (Asks view go) = client_counted ps (advanced q) (go (answer_of p.tables view q))
told_counted p ps q Stuck = refl
