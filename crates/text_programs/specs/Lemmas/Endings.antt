-- A step that gives the ending has logged nothing, or that a thread left its stack; so the log that is left is sound.
use Rattle.std.specs.Prelude.{◌≡◌, ◌==◌, ◌<◌, ◌++◌, ℕ, Bool, true, false, nat_le, nat_lt, List, [], ◌∷◌, Option, Some, None, Result, Ok, Err, length, map, find, reverse, slice_get, refl, if◌then◌else◌}
use Rattle.std.proofs.Common.{sym, ◌∙◌, ap, subst, inl, inr, arith}
use Rattle.std.proofs.lemmas.Bool.{false≢true}
use Rattle.std.proofs.lemmas.Bool.Decides.{eqb_tells, nat_tests}
use Rattle.std.proofs.lemmas.Option.{slice_get_within}
use mathlib.Core.List.{reverse_aux}
use Rattle.mu_base.specs.declared.order.Order.TheVariants.{Relaxed}
use Rattle.mu_values.specs.declared.scalars.Scalar.{Scalar}
use Rattle.mu_values.specs.declared.scalars.Scalar.TheVariants as scalars
use Rattle.mu_values.specs.SameScalar.{same_scalar}
use Rattle.mu_values.specs.Slots.{TypedValues}
use Rattle.mu_values.specs.declared.cells.CellId.{CellId}
use Rattle.typed_heap.specs.Objects.{HeapObject}
use Rattle.typed_heap.specs.Places.{with_some}
use Rattle.frames.specs.Activations.{Activation, Goal}
use Rattle.mem_axioms.specs.Choices.{choices}
use Rattle.mem_axioms.specs.EventFits.{is_thread}
use Rattle.mem_axioms.specs.Objects.{initial_of}
use Rattle.mem_axioms.specs.Races.{race}
use Rattle.mem_axioms.specs.Sound.{IsSound}
use Rattle.mem_axioms.specs.Lemmas.Building.{was-option}
use Rattle.mem_axioms.specs.Lemmas.Growing.{sound-more}
use Rattle.mem_axioms.specs.Lemmas.Racings.{race_free-is}
use Rattle.mem_axioms.specs.declared.types.Chosen.{Chosen}
use Rattle.mem_axioms.specs.declared.types.Event.{Event}
use Rattle.mem_axioms.specs.declared.types.Kind.{Kind}
use Rattle.mem_axioms.specs.declared.types.Kind.TheVariants as kinds
use Rattle.mem_axioms.specs.declared.types.Rule.{Rule}
use Rattle.mu_model.specs.declared.endings.Case.{Case}
use Rattle.mu_model.specs.declared.endings.Case.TheVariants.{DivideByZero, NullAccess}
use Rattle.mu_model.specs.declared.endings.Ending.{Ending}
use Rattle.mu_model.specs.declared.endings.Ending.TheVariants.{Budget, HeapFull, ThreadsFull}
use Rattle.mu_model.specs.declared.lines.Line.{Line}
use Rattle.mu_model.specs.declared.lines.Line.TheVariants as lines
use Rattle.mu_model.specs.declared.lines.Note.{Note}
use Rattle.mu_model.specs.Accesses.{access_results, accessed, initial, kind_of, raced, wanted}
use Rattle.mu_model.specs.Acts as acts
use Rattle.mu_model.specs.Acts.{Act, Entering, Program}
use Rattle.mu_model.specs.Answers.{advanced, answer_of}
use Rattle.mu_threads.specs.Picks.{pick}
use Rattle.mu_model.specs.Changes.{event, noted}
use Rattle.mu_model.specs.Clients as clients
use Rattle.mu_model.specs.Clients.{Answer, Classed, Client, Exit, Rebind, Reply, Resume, With}
use Rattle.futex.specs.declared.waiters.Waiter.{Waiter}
use Rattle.mu_model.specs.Configuration.{Active, Configuration, Dead, Ready, Stack, Thread}
use Rattle.mu_model.specs.EnteringStacks.{entered, entering, leaving, most_threads, ready, started}
use Rattle.mu_model.specs.Exceptions.{EnteredFrames, returns}
use Rattle.mu_model.specs.Frames.{passed}
use Rattle.mu_model.specs.Objects.{asks_cells}
use Rattle.mu_model.specs.Operands.{scalar_in}
use Rattle.mu_model.specs.Outcomes.{Asks, End, Next, Outcome, Stuck, excepted, faulted, has_result, on, onto, refused, tried, unless_refused}
use Rattle.mu_model.specs.Run.{client_answers, with_client}
use Rattle.mu_model.specs.Step.{ends_or_picks, performed, picked, picking_thread, runnable, step, threads_from, turned, turns}
use Rattle.mu_model.specs.Edits.{edited}
use Rattle.mu_model.specs.Traps.{answered, edits, entering_of, enters_by, goes, is_watched, replied, taken, trap_note, trapped}
use Rattle.mu_model.specs.Turns.{Turn, active_on, turn_at, turn_of, waiting}
use Rattle.futex.specs.Waiting.{is_of}
use Rattle.mu_model.specs.Waiting.{found_another, futex_waits, futex_wakes, waits_at}
use Rattle.model_laws.specs.Places.{Places}
use Rattle.model_laws.specs.ThreadsFit.{IsOn}
use Rattle.model_laws.specs.WellTyped.{WellTyped}
use Rattle.model_laws.specs.Lemmas.Basics.{some_of}
use Rattle.model_laws.specs.Lemmas.Happening.{other_races, plain_fits}
use Rattle.text_programs.specs.Moments.{IsSoundLog, IsLastLog, as_before, left, EndsSoundly, log_behind}

-- ---- the lines of each ending that an outcome may come to

abbrev pub EachEnd : (List Line → Type 0) → Outcome → Type 0
EachEnd P (Next c) = Unit {0}
EachEnd P (End ls e) = P ls
EachEnd P (Asks view go) = (a : Option Answer) → EachEnd P (go a)
EachEnd P Stuck = Unit {0}

pub ends_at : {A : Type 0} (P : List Line → Type 0) (o : Option A) (go : A → Outcome) → ((a : A) → o ≡ Some a → EachEnd P (go a)) → EachEnd P (on o go)
unfolding on
ends_at P None go h = tt
ends_at P (Some a) go h = h a refl

pub ends_on : {A : Type 0} (P : List Line → Type 0) (o : Option A) (go : A → Outcome) → ((a : A) → EachEnd P (go a)) → EachEnd P (on o go)
ends_on P o go h = ends_at P o go (λ a q. h a)

-- what goes on has no ending
pub next_ends : {A : Type 0} (P : List Line → Type 0) (o : Option A) (go : A → Configuration) → EachEnd P (on o (λ a. Next (go a)))
next_ends P o go = ends_on P o (λ a. Next (go a)) (λ a. tt)

module _ (p : Program) (P : List Line → Type 0) where
  faulted_ends : (d : Configuration) (u : Turn) (e : Ending) → P (reverse d.lines) → EachEnd P (faulted p d u e)
  faulted_ends d u e h = ends_on P u.doing.exceptional _ by
    where
      by : (o : Option Goal) → EachEnd P (excepted p d u e o)
      by None = h
      by (Some g) = next_ends P _ _

  refused_ends : (d : Configuration) (u : Turn) (k : Case) → P (reverse d.lines) → EachEnd P (refused p d u k)
  refused_ends d u DivideByZero h = faulted_ends d u _ h
  refused_ends d u NullAccess h = faulted_ends d u _ h
  refused_ends d u _ h = h

  tried_ends : {A : Type 0} (d : Configuration) (u : Turn) (o : Option (Result A Case)) (go : A → Outcome) → P (reverse d.lines) → ((a : A) → EachEnd P (go a)) → EachEnd P (tried p d u o go)
  unfolding tried
  tried_ends {A} d u o go h good = ends_on P o _ by
    where
      by : (r : Result A Case) → EachEnd P (unless_refused p d u go r)
      by (Err k) = refused_ends d u k h
      by (Ok a) = good a

  entering_ends : (d : Configuration) (u : Turn) (s : Scalar) (e : Entering) (go : ℕ → EnteredFrames → Outcome) → P (reverse d.lines) → ((k : ℕ) (r : EnteredFrames) → EachEnd P (go k r)) → EachEnd P (entering p d u s e go)
  entering_ends d u s e go h good = tried_ends d u (ready d.stacks s) _ h (λ x. tried_ends d u (entered p x.1 e) _ h (λ r. good x.0 r))

  enters_ends : (d : Configuration) (u : Turn) (s : Scalar) (e : Entering) (go : ℕ → EnteredFrames → Configuration) → P (reverse d.lines) → EachEnd P (entering p d u s e (λ k r. Next (go k r)))
  enters_ends d u s e go h = entering_ends d u s e (λ k r. Next (go k r)) h (λ k r. tt)

  asks_ends : (d : Configuration) (u : Turn) (m : ℕ) (go : Outcome) → P (reverse d.lines) → EachEnd P go → EachEnd P (asks_cells p d u m go)
  asks_ends d u m go h good = by (nat_le m d.cells)
    where
      by : (x : Bool) → EachEnd P (if x then go else faulted p d u (HeapFull u.thread m d.cells))
      by true = good
      by false = faulted_ends d u (HeapFull u.thread m d.cells) h

  accessed_ends : (d : Configuration) (u : Turn) (k : Option Kind) (o : Option (List Activation)) → P (reverse d.lines) → EachEnd P (accessed d u k o)
  accessed_ends d u k o h = ends_on P k _ (λ x. ends_on P o _ (λ fs. by x fs (race d.rule d.log (event u.thread x))))
    where
      by : (x : Kind) (fs : List Activation) (r : Option ℕ) → EachEnd P (raced d u (event u.thread x) fs r)
      by x fs (Some m) = h
      by x fs None = next_ends P _ _

  -- ---- acts: what was written before, and at a trap that the stack was left, the trap, and what the client asked

  module _ (b : Configuration) (u : Turn) (here : P (reverse b.lines))
      (trap : (asked : List Note) (m : Note) → P (reverse (reverse (map lines.Note asked) ++ lines.Note m ∷ lines.Event (length b.log) (event u.thread (kinds.Leave u.stack)) ∷ b.lines))) where
    enters_by_ends : (d : Configuration) (s : Scalar) (a : With TypedValues Classed) → P (reverse d.lines) → EachEnd P (enters_by p d u s a)
    enters_by_ends d s a h = ends_on P (entering_of p.tables a) _ (λ e. enters_ends d u s e _ h)

    replied_ends : (d : Configuration) (a : Reply TypedValues Classed) → P (reverse d.lines) → EachEnd P (replied p d u a)
    replied_ends d (Resume w) h = enters_by_ends d (scalars.Stack u.stack) w h
    replied_ends d (Rebind x w) h = ends_on P (scalar_in (Some x.1)) _ (λ s. enters_by_ends d s w h)
    replied_ends d Exit h = tt
    replied_ends d clients.Stop h = h

    answered_ends : (f : Activation) (m : Note) (fs : List Activation) (a : Option Answer) → EachEnd P (answered p (noted m (leaving u f b)) u fs a)
    answered_ends f m fs None = trap [] m
    answered_ends f m fs (Some a) =
        let d : Configuration = taken a (noted m (leaving u f b)) in
        tried_ends d u (edited p a.edit fs) _ (trap a.notes m) (λ r. replied_ends (edits u r d) a.reply (trap a.notes m))

    trapped_ends : (n : Option ℕ) (cs : List ℕ) → EachEnd P (trapped p b u n cs)
    trapped_ends n cs = ends_on P (waiting u cs) _ (λ f a. answered_ends f (trap_note u n) (f ∷ u.below) a)

    watches_ends : (n : ℕ) (cs : List ℕ) (g : Goal) (x : Bool) → EachEnd P (if x then trapped p b u (Some n) cs else goes b u g)
    watches_ends n cs g true = trapped_ends (Some n) cs
    watches_ends n cs g false = next_ends P _ _

    chooses_ends : (g h : Goal) (x : Bool) → EachEnd P (if x then goes b u h else goes b u g)
    chooses_ends g h true = next_ends P _ _
    chooses_ends g h false = next_ends P _ _

    returns_ends : (vs : TypedValues) (fs : List Activation) → EachEnd P (returns p b u vs fs)
    returns_ends vs [] = tt
    returns_ends vs (f ∷ fs) = next_ends P _ _

    starts_ends : (s own : Scalar) (e : Entering) (x : Bool) → EachEnd P (if x then faulted p b u (ThreadsFull u.thread) else entering p b u s e (λ k r. has_result p (started b u own k r) u (scalars.Thread (length b.threads))))
    starts_ends s own e true = faulted_ends b u (ThreadsFull u.thread) here
    starts_ends s own e false = entering_ends b u s e _ here (λ k r. next_ends P _ _)

    waits_ends : (timed : Bool) (y : Scalar) (cell : CellId) → EachEnd P (futex_waits p b u timed y cell)
    waits_ends timed y cell = tried_ends b u _ _ here (λ at. ends_on P _ _ (λ k. by at k (same_scalar k.value y)))
      where
        by : (at : CellId) (k : Chosen) (x : Bool) → EachEnd P (if x then accessed (waits_at u timed at b) u (kind_of (acts.Loads Relaxed) at k) (onto u u.top) else accessed b u (kind_of (acts.Loads Relaxed) at k) (with_some (passed p u.top ((found_another ∷ []) ∷ [])) (onto u)))
        by at k true = accessed_ends (waits_at u timed at b) u (kind_of (acts.Loads Relaxed) at k) (onto u u.top) here
        by at k false = accessed_ends b u (kind_of (acts.Loads Relaxed) at k) (with_some (passed p u.top ((found_another ∷ []) ∷ [])) (onto u)) here

    wakes_ends : (many : ℕ) (cell : CellId) → EachEnd P (futex_wakes p b u many cell)
    wakes_ends many cell = tried_ends b u _ _ here (λ at. ends_on P _ _ (λ d. next_ends P _ _))

    pub performed_ends : (a : Act) → EachEnd P (performed p b u a)
    performed_ends (acts.Gives vs) = next_ends P _ _
    performed_ends (acts.Faults k) = refused_ends b u k here
    performed_ends (acts.Goes g) = next_ends P _ _
    performed_ends (acts.Calls f vs) = tried_ends b u _ _ here (λ k. next_ends P _ _)
    performed_ends (acts.Replaces f vs) = tried_ends b u _ _ here (λ k. next_ends P _ _)
    performed_ends (acts.Returns vs) = returns_ends vs u.below
    performed_ends (acts.Throws e) = tried_ends b u _ _ here (λ r. next_ends P _ _)
    performed_ends (acts.Casts d s) = tried_ends b u _ _ here (λ x. next_ends P _ _)
    performed_ends (acts.Finds way s) = tried_ends b u _ _ here (λ x. next_ends P _ _)
    performed_ends (acts.Makes x) = asks_ends b u _ _ here (next_ends P _ _)
    performed_ends (acts.MakesHybrid x n) = asks_ends b u _ _ here (next_ends P _ _)
    performed_ends (acts.MakesOwn x) = asks_ends b u _ _ here (next_ends P _ _)
    performed_ends (acts.Accesses a cell) = tried_ends b u _ _ here (λ at. ends_on P _ _ (λ k.
        accessed_ends (record b { picks = (pick (length (choices b.rule (initial b) b.log u.thread at (wanted a))) b.picks).1 }) u (kind_of a at k) (with_some (passed p u.top (access_results a k)) (onto u)) here))
    performed_ends (acts.Fences o) = next_ends P _ _
    performed_ends (acts.Traps cs) = trapped_ends None cs
    performed_ends (acts.Watches n cs g) = watches_ends n cs g (is_watched n b.watched)
    performed_ends (acts.Chooses n g h) = chooses_ends g h (is_watched n b.watched)
    performed_ends (acts.Swaps s cs e) = ends_on P (waiting u cs) _ (λ f. enters_ends b u s e _ here)
    performed_ends (acts.Leaves s e) = enters_ends b u s e _ here
    performed_ends (acts.Starts s own e) = starts_ends s own e (nat_le most_threads (length b.threads))
    performed_ends (acts.MakesStack f) = tried_ends b u _ _ here (λ k. next_ends P _ _)
    performed_ends (acts.KillsStack s) = tried_ends b u _ _ here (λ r. next_ends P _ _)
    performed_ends acts.Tells = next_ends P _ _
    performed_ends acts.Exits = tt
    performed_ends (acts.SetsOwn r) = next_ends P _ _
    performed_ends acts.TellsOwn = ends_on P _ _ (λ o. ends_on P o _ (λ x. next_ends P _ _))
    performed_ends (acts.Waits timed y cell) = waits_ends timed y cell
    performed_ends (acts.Wakes many cell) = wakes_ends many cell

-- ---- a thread whose turn it is stands on its stack

pub some_inside : {A B : Type 0} (o : Option A) (f : A → Option B) (b : B) → with_some o f ≡ Some b → (a : A) × (o ≡ Some a) × (f a ≡ Some b)
some_inside None f b e = cc
some_inside (Some a) f b e = (a, refl, e)

active_is : (i : ℕ) (s : Stack) (fs : List Activation) → active_on i s ≡ Some fs → s ≡ Active i fs
active_is i (Ready gs) fs e = cc
active_is i Dead fs e = cc
active_is i (Active j gs) fs e = by (j == i) refl e
  where
    by : (b : Bool) → (j == i) ≡ b → (if b then Some gs else None) ≡ Some fs → Active j gs ≡ Active i fs
    by true q e =
        let same : gs ≡ fs = cc in
        let owner : j ≡ i = elim (eqb_tells j i) [ inl r ↦ r.1 | inr r ↦ absurd (false≢true (sym r.0 ∙ q)) ] in
        ap (λ n. Active n gs) owner ∙ ap (λ hs. Active i hs) same
    by false q e = cc

turn_is : (p : Program) (i k : ℕ) (fs : List Activation) (u : Turn) → turn_at p i k fs ≡ Some u → (i ≡ u.thread) × (k ≡ u.stack)
turn_is p i k [] u e = cc
turn_is p i k (f ∷ fs) u e =
    let r = some_inside (p.doing f.block f.at f.vars) _ u e in
    let thread : i ≡ u.thread = cc in
    let stack : k ≡ u.stack = cc in
    (thread, stack)

stands : (p : Program) (c : Configuration) (i : ℕ) (u : Turn) → turn_of p c i ≡ Some u → (fs : List Activation) × (slice_get c.stacks u.stack ≡ Some (Active u.thread fs))
stands p c i u e =
    let o = some_inside (slice_get c.threads i) _ u e in
    let t = some_inside o.0 _ u o.2 in
    let s = some_inside (slice_get c.stacks t.0.stack) _ u t.2 in
    let fs = some_inside (active_on i s.0) (turn_at p i t.0.stack) u s.2 in
    let same = turn_is p i t.0.stack fs.0 u fs.2 in
    (fs.0, ap (slice_get c.stacks) (sym same.1) ∙ s.1 ∙ ap Some (active_is i s.0 fs.0 fs.1) ∙ ap (λ n. Some (Active n fs.0)) same.0)

-- ---- the log behind lines that were written newest first

abbrev pub told_on : List Line → List Event → List Event
told_on [] log = log
told_on (lines.Event n e ∷ ls) log = e ∷ told_on ls log
told_on (lines.Note n ∷ ls) log = told_on ls log

pub turned_round : (ls more : List Line) (log : List Event) → log_behind (reverse_aux ls more) log ≡ log_behind more (told_on ls log)
turned_round [] more log = refl
turned_round (lines.Event n e ∷ ls) more log = turned_round ls (lines.Event n e ∷ more) log
turned_round (lines.Note n ∷ ls) more log = turned_round ls (lines.Note n ∷ more) log

pub notes_pass : (asked : List Note) (more rest : List Line) (log : List Event) → told_on (reverse_aux (map lines.Note asked) more ++ rest) log ≡ told_on (more ++ rest) log
notes_pass [] more rest log = refl
notes_pass (n ∷ asked) more rest log = notes_pass asked (lines.Note n ∷ more) rest log

-- ---- a step

module _ (p : Program) (c : Configuration) where
  abbrev pub Told : List Line → Type 0
  Told ls = IsLastLog c (log_behind ls c.log)

  trap_told : (u : Turn) (fs : List Activation) → slice_get c.stacks u.stack ≡ Some (Active u.thread fs) → (asked : List Note) (m : Note) →
      Told (reverse (reverse (map lines.Note asked) ++ lines.Note m ∷ lines.Event (length c.log) (event u.thread (kinds.Leave u.stack)) ∷ []))
  trap_told u fs there asked m =
      let rest : List Line = lines.Note m ∷ lines.Event (length c.log) (event u.thread (kinds.Leave u.stack)) ∷ [] in
      subst (IsLastLog c) (sym (turned_round (reverse (map lines.Note asked) ++ rest) [] c.log ∙ notes_pass asked [] rest c.log)) (left u.thread u.stack fs there)

  turns_end : (ps : List ℕ) (i : ℕ) → EachEnd Told (turns p (picked c ps) i)
  turns_end ps i = ends_at Told (turn_of p (picked c ps) i) _ (λ u q. by u (stands p (picked c ps) i u q) (find (is_of i) c.waiters))
    where
      by : (u : Turn) → (fs : List Activation) × (slice_get c.stacks u.stack ≡ Some (Active u.thread fs)) → (w : Option Waiter) → EachEnd Told (turned p (picked c ps) w u)
      by u there (Some w) = next_ends Told _ _
      by u there None = ends_on Told u.doing.act _ (λ a. performed_ends p Told (picked c ps) u as_before (trap_told u there.0 there.1) a)

  pub step_ends : EachEnd Told (step p c)
  step_ends = by (threads_from 0 c.threads) (runnable c)
    where
      choice : (x : Bool) (is : List ℕ) → EachEnd Told (if x then End [] (Budget c.steps) else picking_thread p c is)
      choice true is = as_before
      choice false is = let k = pick (length is) c.picks in ends_on Told (slice_get is k.0) _ (λ i. turns_end k.1 i)

      by : (ts is : List ℕ) → EachEnd Told (ends_or_picks p c ts is)
      by [] is = as_before
      by (x ∷ ts) [] = as_before
      by (x ∷ ts) (i ∷ is) = choice (c.steps == c.budget) (i ∷ is)

  told_ends : (k : Client) (o : Outcome) → EachEnd Told o → EachEnd Told (client_answers p k o)
  told_ends k (Next d) g = g
  told_ends k (End ls e) g = g
  told_ends k (Asks view go) g = by (go (answer_of p.tables view k)) (g (answer_of p.tables view k))
    where
      by : (o : Outcome) → EachEnd Told o → EachEnd Told (with_client (advanced k) o)
      by (Next d) g = g
      by (End ls e) g = g
      by (Asks view go) g = g
      by Stuck g = g
  told_ends k Stuck g = g

  last_log : (ls : List Line) (e : Ending) → client_answers p c.client (step p c) ≡ End ls e → IsLastLog c (log_behind ls c.log)
  last_log ls e q = subst (EachEnd Told) q (told_ends c.client (step p c) step_ends)

-- ---- the log that is left

sound_log : (rule : Rule) (objects : List (List Scalar)) (log : List Event) → IsSound rule objects log → IsSoundLog rule (initial_of objects) log
sound_log rule objects log h = record {
  axioms = h.axioms;
  race_free = race_free-is rule log h.race_free;
  reads = λ i thread cell order position value. was-option rule (initial_of objects) thread cell order position value log h.axioms i;
}

module _ (p : Program) (t : Places) (c : Configuration) (well : WellTyped p t c) where
  abbrev first_scalars : List (List Scalar)
  first_scalars = map (λ (o : HeapObject). o.initial) c.objects

  -- a thread that stands on a stack is one of the log
  known : (i k : ℕ) (fs : List Activation) → slice_get c.stacks k ≡ Some (Active i fs) → is_thread c.log i ≡ true
  known i k fs there =
      let o : (x : Option Thread) × (slice_get c.threads i ≡ Some x) × IsOn k x = some_of _ (IsOn k) (well.owners.threads i k fs there) in
      well.log.threads i ∙ below (slice_get_within c.threads i o.0 o.1)
    where
      below : i < length c.threads → nat_lt i (length c.threads) ≡ true
      below l = grind (arith, nat_tests)

  pub stays_sound : (log : List Event) → IsLastLog c log → IsSoundLog c.rule (initial c) log
  stays_sound log as_before = sound_log c.rule first_scalars c.log well.log.sound
  stays_sound log (left i k fs there) =
      sound_log c.rule first_scalars (event i (kinds.Leave k) ∷ c.log)
      (sound-more c.rule first_scalars c.log (event i (kinds.Leave k)) (plain_fits c.rule first_scalars c.log i (kinds.Leave k) tt (known i k fs there)) (other_races c.rule c.log i (kinds.Leave k) tt) well.log.sound)

  pub ends_soundly : EndsSoundly p c
  ends_soundly ls e q = let last = last_log p c ls e q in record { last = last; sound = stays_sound (log_behind ls c.log) last }
