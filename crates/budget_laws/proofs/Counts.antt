-- An act does the same whatever the counts of steps are: how many were made, and how many may be.
use Rattle.std.specs.Prelude.{◌≡◌, ℕ, suc, Bool, true, false, nat_le, List, [], ◌∷◌, Option, Some, None, Result, Ok, Err, length, find, filter, take, slice_get, option_map, if◌then◌else◌, refl}
use Rattle.std.proofs.Common.{◌∙◌, ap}
use Rattle.std.proofs.Math.Path.{fun_ext}
use Rattle.mu_values.specs.declared.cells.CellId.{CellId}
use Rattle.mu_base.specs.declared.order.Order.TheVariants.{Relaxed}
use Rattle.mu_values.specs.declared.scalars.Scalar.{Scalar}
use Rattle.mu_values.specs.declared.scalars.Scalar.TheVariants as scalars
use Rattle.mu_values.specs.Slots.{TypedValues}
use Rattle.mu_values.specs.SameScalar.{same_scalar}
use Rattle.typed_heap.specs.Places.{with_some}
use Rattle.frames.specs.Activations.{Goal, Activation}
use Rattle.mem_axioms.specs.Choices.{choices}
use Rattle.mem_axioms.specs.Races.{race}
use Rattle.mem_axioms.specs.declared.types.Kind.{Kind}
use Rattle.mem_axioms.specs.declared.types.Kind.TheVariants as kinds
use Rattle.mem_axioms.specs.declared.types.Event.{Event}
use Rattle.mem_axioms.specs.declared.types.Chosen.{Chosen}
use Rattle.mu_model.specs.declared.endings.Case.{Case}
use Rattle.mu_model.specs.declared.endings.Case.TheVariants.{DivideByZero, NullAccess}
use Rattle.mu_model.specs.declared.endings.Ending.{Ending}
use Rattle.futex.specs.declared.waiters.Waiter.{Waiter}
use Rattle.futex.specs.Waiting.{is_of, is_at, without}
use Rattle.mu_threads.specs.Picks.{pick}
use Rattle.mu_model.specs.Configuration.{Configuration}
use Rattle.mu_model.specs.Clients.{Classed, With, Reply, Resume, Rebind, Exit, Stop, Client, Answer}
use Rattle.mu_model.specs.Answers.{answer_of, advanced}
use Rattle.mu_model.specs.Operands.{scalar_in}
use Rattle.mu_model.specs.Acts as acts
use Rattle.mu_model.specs.Acts.{Access, Act, Entering, Program}
use Rattle.mu_model.specs.Turns.{Turn, turn_of, waiting}
use Rattle.mu_model.specs.Frames.{passed, caught}
use Rattle.mu_model.specs.Changes.{noted, logged, event, frames_end}
use Rattle.mu_model.specs.Outcomes.{Outcome, Next, End, Asks, Stuck, View, on, next, onto, tried, refused, faulted, excepted, unless_refused, has_results}
use Rattle.mu_model.specs.Exceptions.{EnteredFrames, returns}
use Rattle.mu_model.specs.EnteringStacks.{ready, entered, entering, leaving, most_threads, started}
use Rattle.mu_model.specs.Objects.{asks_cells}
use Rattle.mu_model.specs.Accesses.{initial, wanted, kind_of, raced, accessed, accesses_cell}
use Rattle.mu_model.specs.Waiting.{was_woken, waits_at, waited, wakes_one, wakes_all, wakes_these}
use Rattle.mu_model.specs.Edits.{edited}
use Rattle.mu_model.specs.Traps.{trapped, trap_note, answered, edits, replied, taken, enters_by, entering_of, is_watched}
use Rattle.mu_model.specs.Step.{performed, turned, picked, picking_thread}
use Rattle.mu_model.specs.Run.{client_answers, with_client}

-- the configuration with these counts of steps: how many were made, and how many may be
abbrev pub counted : ℕ × ℕ → Configuration → Configuration
counted q c = record c { steps = q.0; budget = q.1 }

abbrev pub recounted : ℕ × ℕ → Outcome → Outcome
recounted q (Next c) = Next (counted q c)
recounted q (End ls e) = End ls e
recounted q (Asks view go) = Asks view (λ a. recounted q (go a))
recounted q Stuck = Stuck

-- ---- parts of an act

-- What does the same with these counts, but for the counts: an outcome of a configuration, and a configuration that may not be there.
abbrev pub Blind : ℕ × ℕ → (Configuration → Outcome) → Type 0
Blind q F = (c : Configuration) → F (counted q c) ≡ recounted q (F c)

abbrev BlindChange : ℕ × ℕ → (Configuration → Option Configuration) → Type 0
BlindChange q F = (c : Configuration) → F (counted q c) ≡ option_map (counted q) (F c)

module _ (q : ℕ × ℕ) where
  on_blind : {A : Type 0} (o : Option A) (go before : A → Outcome) → ((a : A) → go a ≡ recounted q (before a)) → on o go ≡ recounted q (on o before)
  unfolding on
  on_blind None go before h = refl
  on_blind (Some a) go before h = h a

  either_blind : (x : Bool) (one other one_before other_before : Outcome) → one ≡ recounted q one_before → other ≡ recounted q other_before →
      (if x then one else other) ≡ recounted q (if x then one_before else other_before)
  either_blind true one other one_before other_before h g = h
  either_blind false one other one_before other_before h g = g

  some_blind : {A : Type 0} (o : Option A) (go before : A → Option Configuration) → ((a : A) → go a ≡ option_map (counted q) (before a)) →
      with_some o go ≡ option_map (counted q) (with_some o before)
  some_blind None go before h = refl
  some_blind (Some a) go before h = h a

  then_blind : (o : Option Configuration) (go : Configuration → Option Configuration) → BlindChange q go →
      with_some (option_map (counted q) o) go ≡ option_map (counted q) (with_some o go)
  then_blind None go h = refl
  then_blind (Some d) go h = h d

  there_blind : (o : Option Configuration) (go : Configuration → Outcome) → Blind q go → on (option_map (counted q) o) go ≡ recounted q (on o go)
  unfolding on
  there_blind None go h = refl
  there_blind (Some d) go h = h d

module _ (p : Program) (q : ℕ × ℕ) (u : Turn) where
  next_blind : (fs : Option (List Activation)) → Blind q (λ c. next c u fs)
  next_blind fs c = on_blind q fs _ _ (λ now. refl)

  faulted_blind : (e : Ending) → Blind q (λ c. faulted p c u e)
  faulted_blind e c = on_blind q u.doing.exceptional _ _ by
    where
      by : (o : Option Goal) → excepted p (counted q c) u e o ≡ recounted q (excepted p c u e o)
      by None = refl
      by (Some g) = next_blind (with_some (caught p u.top g scalars.Null) (onto u)) c

  refused_blind : (k : Case) → Blind q (λ c. refused p c u k)
  refused_blind DivideByZero c = faulted_blind _ c
  refused_blind NullAccess c = faulted_blind _ c
  refused_blind _ c = refl

  tried_blind : {A : Type 0} (c : Configuration) (o : Option (Result A Case)) (go before : A → Outcome) → ((a : A) → go a ≡ recounted q (before a)) →
      tried p (counted q c) u o go ≡ recounted q (tried p c u o before)
  unfolding tried
  tried_blind {A} c o go before h = on_blind q o _ _ by
    where
      by : (r : Result A Case) → unless_refused p (counted q c) u go r ≡ recounted q (unless_refused p c u before r)
      by (Err k) = refused_blind k c
      by (Ok a) = h a

  entering_blind : (s : Scalar) (e : Entering) (c : Configuration) (go before : ℕ → EnteredFrames → Outcome) →
      ((k : ℕ) (r : EnteredFrames) → go k r ≡ recounted q (before k r)) → entering p (counted q c) u s e go ≡ recounted q (entering p c u s e before)
  entering_blind s e c go before h = tried_blind c (ready c.stacks s) _ _ (λ x. tried_blind c (entered p x.1 e) _ _ (h x.0))

  asks_blind : (m : ℕ) (c : Configuration) (go before : Outcome) → go ≡ recounted q before →
      asks_cells p (counted q c) u m go ≡ recounted q (asks_cells p c u m before)
  asks_blind m c go before h = either_blind q (nat_le m c.cells) _ _ _ _ h (faulted_blind _ c)

  -- ---- accesses

  raced_blind : (e : Event) (fs : List Activation) (r : Option ℕ) → Blind q (λ c. raced c u e fs r)
  raced_blind e fs (Some m) c = refl
  raced_blind e fs None c = next_blind (Some fs) _

  accessed_blind : (k : Option Kind) (o : Option (List Activation)) → Blind q (λ c. accessed c u k o)
  accessed_blind k o c = on_blind q k _ _ (λ k. on_blind q o _ _ (λ fs. raced_blind (event u.thread k) fs (race c.rule c.log (event u.thread k)) c))

  accesses_blind : (a : Access) (cell : CellId) → Blind q (λ c. accesses_cell p c u a cell)
  accesses_blind a cell c = tried_blind c _ _ _ (λ there.
      let k : ℕ × List ℕ = pick (length (choices c.rule (initial c) c.log u.thread there (wanted a))) c.picks in
      on_blind q _ _ _ (λ o. accessed_blind (kind_of a there o) _ (record c { picks = k.1 })))

  -- ---- traps

  enters_blind : (s : Scalar) (w : With TypedValues Classed) → Blind q (λ c. enters_by p c u s w)
  enters_blind s w c = on_blind q (entering_of p.tables w) _ _ (λ e. entering_blind s e c _ _ (λ k r. refl))

  replied_blind : (a : Reply TypedValues Classed) → Blind q (λ c. replied p c u a)
  replied_blind (Resume w) c = enters_blind (scalars.Stack u.stack) w c
  replied_blind (Rebind t w) c = on_blind q (scalar_in (Some t.1)) _ _ (λ s. enters_blind s w c)
  replied_blind Exit c = refl
  replied_blind Stop c = refl

  answered_blind : (fs : List Activation) (a : Option Answer) → Blind q (λ c. answered p c u fs a)
  answered_blind fs None c = refl
  answered_blind fs (Some a) c = tried_blind (taken a c) (edited p a.edit fs) _ _ (λ r. replied_blind a.reply (edits u r (taken a c)))

  trapped_blind : (m : Option ℕ) (cs : List ℕ) → Blind q (λ c. trapped p c u m cs)
  trapped_blind m cs c = on_blind q (waiting u cs) _ _ (λ f.
      let view : View = record { thread = u.thread; watchpoint = m; asked = cs; frames = f ∷ u.below } in
      ap (Asks view) (fun_ext (λ a. answered_blind (f ∷ u.below) a (noted (trap_note u m) (leaving u f c)))))

  -- ---- waits and wakes

  waited_blind : (timed : Bool) (v : Scalar) (cell : CellId) (k : Chosen) → Blind q (λ c. waited p c u timed v cell k)
  waited_blind timed v cell k c =
      let w : Option Kind = kind_of (acts.Loads Relaxed) cell k in
      either_blind q (same_scalar k.value v) _ _ _ _ (accessed_blind w _ (waits_at u timed cell c)) (accessed_blind w _ c)

  wakes_one_blind : (wake : ℕ) (v : Turn) → BlindChange q (λ c. wakes_one p wake c v)
  wakes_one_blind wake v c = some_blind q (passed p v.top ((was_woken ∷ []) ∷ [])) _ _ (λ f. refl)

  wakes_all_blind : (wake : ℕ) (ws : List Waiter) → BlindChange q (wakes_all p wake ws)
  wakes_all_blind wake [] c = refl
  wakes_all_blind wake (w ∷ ws) c = some_blind q (turn_of p c w.thread) _ _ (λ v.
      ap (λ o. with_some o (wakes_all p wake ws)) (wakes_one_blind wake v c)
      ∙ then_blind q (wakes_one p wake c v) (wakes_all p wake ws) (wakes_all_blind wake ws))

  wakes_blind : (cell : CellId) (ws : List Waiter) → Blind q (λ c. wakes_these p c u cell ws)
  wakes_blind cell ws c =
      let d : Configuration = logged u.thread (kinds.Wake cell (length ws)) (record c { waiters = without ws c.waiters }) in
      let go : Configuration → Outcome = λ d. has_results p d u ((scalars.Int 32 (length ws) ∷ []) ∷ []) in
      ap (λ o. on o go) (wakes_all_blind (length c.log) ws d) ∙ there_blind q (wakes_all p (length c.log) ws d) go (next_blind _)

  -- ---- all acts

  returns_blind : (vs : TypedValues) (below : List Activation) → Blind q (λ c. returns p c u vs below)
  returns_blind vs [] c = refl
  returns_blind vs (f ∷ fs) c = next_blind _ (frames_end (u.top ∷ []) c)

  performed_blind : (a : Act) → Blind q (λ c. performed p c u a)
  performed_blind (acts.Gives vs) c = next_blind _ c
  performed_blind (acts.Faults k) c = refused_blind k c
  performed_blind (acts.Goes g) c = next_blind _ c
  performed_blind (acts.Calls f vs) c = tried_blind c _ _ _ (λ b. next_blind _ c)
  performed_blind (acts.Replaces f vs) c = tried_blind c _ _ _ (λ b. next_blind _ (frames_end (u.top ∷ []) c))
  performed_blind (acts.Returns vs) c = returns_blind vs u.below c
  performed_blind (acts.Throws x) c = tried_blind c _ _ _ (λ r. next_blind _ (frames_end r.ended c))
  performed_blind (acts.Casts d s) c = tried_blind c _ _ _ (λ r. next_blind _ c)
  performed_blind (acts.Finds way s) c = tried_blind c _ _ _ (λ r. next_blind _ c)
  performed_blind (acts.Makes t) c = asks_blind _ c _ _ (next_blind _ _)
  performed_blind (acts.MakesHybrid t many) c = asks_blind _ c _ _ (next_blind _ _)
  performed_blind (acts.MakesOwn t) c = asks_blind _ c _ _ (on_blind q _ _ _ (λ now. refl))
  performed_blind (acts.Accesses a cell) c = accesses_blind a cell c
  performed_blind (acts.Fences o) c = next_blind _ _
  performed_blind (acts.Traps cs) c = trapped_blind None cs c
  performed_blind (acts.Watches n cs g) c = either_blind q (is_watched n c.watched) _ _ _ _ (trapped_blind (Some n) cs c) (next_blind _ c)
  performed_blind (acts.Chooses n g h) c = either_blind q (is_watched n c.watched) _ _ _ _ (next_blind _ c) (next_blind _ c)
  performed_blind (acts.Swaps s cs x) c = on_blind q (waiting u cs) _ _ (λ f. entering_blind s x c _ _ (λ k r. refl))
  performed_blind (acts.Leaves s x) c = entering_blind s x c _ _ (λ k r. refl)
  performed_blind (acts.Starts s own x) c =
      either_blind q (nat_le most_threads (length c.threads)) _ _ _ _ (faulted_blind _ c)
      (entering_blind s x c _ _ (λ k r. next_blind _ (started c u own k r)))
  performed_blind (acts.MakesStack f) c = tried_blind c _ _ _ (λ b. next_blind _ _)
  performed_blind (acts.KillsStack s) c = tried_blind c _ _ _ (λ r. next_blind _ _)
  performed_blind acts.Tells c = next_blind _ c
  performed_blind acts.Exits c = refl
  performed_blind (acts.SetsOwn r) c = next_blind _ _
  performed_blind acts.TellsOwn c = on_blind q (slice_get c.threads u.thread) _ _ (λ o. on_blind q o _ _ (λ t. next_blind _ c))
  performed_blind (acts.Waits timed v cell) c = tried_blind c _ _ _ (λ there. on_blind q _ _ _ (λ k. waited_blind timed v there k c))
  performed_blind (acts.Wakes many cell) c = tried_blind c _ _ _ (λ there. wakes_blind there (take many (filter (is_at there) c.waiters)) c)

  -- ---- turns

  turned_blind : (w : Option Waiter) → Blind q (λ c. turned p c w u)
  turned_blind (Some w) c = next_blind _ _
  turned_blind None c = on_blind q u.doing.act _ _ (λ a. performed_blind a c)

-- a thread is picked, and has its turn, which is counted
pub picking_blind : (p : Program) (n b : ℕ) (c : Configuration) (is : List ℕ) →
    picking_thread p (counted (n, b) c) is ≡ recounted (suc n, b) (picking_thread p c is)
picking_blind p n b c is =
    let k : ℕ × List ℕ = pick (length is) c.picks in
    on_blind (suc n, b) (slice_get is k.0) _ _ (λ i.
    on_blind (suc n, b) (turn_of p c i) _ _ (λ u. turned_blind p (suc n, b) u (find (is_of i) c.waiters) (picked c k.1)))

-- ---- the client's answer

client_blind : (k : Client) (q : ℕ × ℕ) (o : Outcome) → with_client k (recounted q o) ≡ recounted q (with_client k o)
client_blind k q (Next c) = refl
client_blind k q (End ls e) = refl
client_blind k q (Asks view go) = refl
client_blind k q Stuck = refl

pub told_blind : (p : Program) (k : Client) (q : ℕ × ℕ) (o : Outcome) → client_answers p k (recounted q o) ≡ recounted q (client_answers p k o)
told_blind p k q (Next c) = refl
told_blind p k q (End ls e) = refl
told_blind p k q (Asks view go) = client_blind (advanced k) q (go (answer_of p.tables view k))
told_blind p k q Stuck = refl
