-- The lines of a step tell what it logs, so the lines of a run tell the log that it leaves.
use Rattle.std.specs.Prelude.{◌≡◌, ◌==◌, ◌++◌, ℕ, zero, suc, Bool, true, false, nat_le, List, [], ◌∷◌, Option, Some, None, Result, Ok, Err, length, find, reverse, slice_get, refl, if◌then◌else◌}
use mathlib.Core.List.{reverse_aux}
use Rattle.std.proofs.Common.{map, sym, ◌∙◌, ap, subst}
use Rattle.mu_base.specs.declared.order.Order.TheVariants.{Relaxed}
use Rattle.mu_values.specs.declared.scalars.Scalar.{Scalar}
use Rattle.mu_values.specs.declared.scalars.Scalar.TheVariants as scalars
use Rattle.mu_values.specs.SameScalar.{same_scalar}
use Rattle.mu_values.specs.Slots.{TypedValues}
use Rattle.mu_values.specs.declared.cells.CellId.{CellId}
use Rattle.typed_heap.specs.Objects.{leaf_classes}
use Rattle.typed_heap.specs.Heap.{hybrid_classes}
use Rattle.typed_heap.specs.Places.{with_some}
use Rattle.frames.specs.Activations.{Activation, Goal}
use Rattle.mem_axioms.specs.Choices.{choices}
use Rattle.mem_axioms.specs.Races.{race}
use Rattle.mem_axioms.specs.declared.types.Chosen.{Chosen}
use Rattle.mem_axioms.specs.declared.types.Event.{Event}
use Rattle.mem_axioms.specs.declared.types.Kind.{Kind}
use Rattle.mem_axioms.specs.declared.types.Kind.TheVariants as kinds
use Rattle.mem_axioms.specs.declared.types.Rule.{Rule}
use Rattle.mu_model.specs.declared.endings.Case.{Case}
use Rattle.mu_model.specs.declared.endings.Case.TheVariants.{DivideByZero, NullAccess}
use Rattle.mu_model.specs.declared.endings.Ending.{Ending}
use Rattle.mu_model.specs.declared.endings.Ending.TheVariants.{Budget, HeapFull, ThreadsFull}
use Rattle.mu_model.specs.declared.lines.Line.{Line}
use Rattle.mu_model.specs.declared.lines.Line.TheVariants as lines
use Rattle.mu_model.specs.declared.lines.Note.{Note}
use Rattle.mu_model.specs.declared.lines.Note.TheVariants.{TimedOut}
use Rattle.mu_model.specs.Accesses.{access_results, accessed, initial, kind_of, raced, wanted}
use Rattle.mu_model.specs.Acts as acts
use Rattle.mu_model.specs.Acts.{Act, Entering, Program}
use Rattle.mu_model.specs.Answers.{advanced, answer_of}
use Rattle.mu_threads.specs.Picks.{pick}
use Rattle.mu_model.specs.Changes.{event, frames_end, logged, noted, stack_becomes, stack_dies, thread_changes}
use Rattle.mu_model.specs.Clients as clients
use Rattle.mu_model.specs.Clients.{Answer, Classed, Client, Exit, Rebind, Reply, Resume, With}
use Rattle.futex.specs.declared.waiters.Waiter.{Waiter}
use Rattle.mu_model.specs.Configuration.{Active, Configuration, Ready}
use Rattle.mu_model.specs.EnteringStacks.{entered, entering, enters, leaving, most_threads, ready, started}
use Rattle.mu_model.specs.Exceptions.{EnteredFrames, returns}
use Rattle.mu_model.specs.Frames.{fresh_frame, passed}
use Rattle.mu_model.specs.Objects.{asks_cells, object_added, owning}
use Rattle.mu_model.specs.Operands.{scalar_in}
use Rattle.mu_model.specs.Outcomes.{Asks, End, Next, Outcome, Stuck, excepted, faulted, has_result, next, onto, refused, tried, unless_refused}
use Rattle.mu_model.specs.Programs.{named}
use Rattle.mu_model.specs.Run.{Breaks, Ends, Run, Setting, Unfinished, begins_in, behind, client_answers, first_configuration, goes_on, program_run, run, run_from, with_client}
use Rattle.mu_model.specs.Step.{ends_or_picks, performed, picked, picking_thread, runnable, step, threads_from, turned, turns, with_own}
use Rattle.mu_model.specs.Edits.{edited}
use Rattle.mu_model.specs.Traps.{answered, edits, entering_of, enters_by, goes, is_watched, replied, taken, trap_note, trapped}
use Rattle.mu_model.specs.Turns.{Turn, turn_of, waiting}
use Rattle.mu_model.specs.Types.{type_graph}
use Rattle.futex.specs.Waiting.{is_of, without}
use Rattle.mu_model.specs.Waiting.{found_another, futex_waits, wakes_all, wakes_one, wakes_these, was_woken, waits_at}
use Rattle.model_laws.specs.Lemmas.Counting.{Every, every_on}
use Rattle.text_programs.specs.Moments.{Reaches, here, onward, EndsSoundly, IsSoundEnding, log_behind}
use Rattle.text_programs.specs.RunLogs.{LinesTellTheLog, RunsOfTextsLeaveSoundLogs, IsLeftBy, RuleStays, log_of_steps}
use Rattle.text_programs.specs.Lemmas.Endings.{told_on, turned_round, notes_pass, some_inside}
use Rattle.text_programs.specs.Lemmas.Moments.{moments_are_sound}

-- ---- the numbers of event lines

-- Each event line, newest first after a log, has the number of events before it.
abbrev pub NumbersAreRight : List Line → List Event → Type 0
NumbersAreRight [] log = Unit {0}
NumbersAreRight (lines.Event number e ∷ ls) log = (number ≡ length (told_on ls log)) × NumbersAreRight ls log
NumbersAreRight (lines.Note note ∷ ls) log = NumbersAreRight ls log

pub notes_right : (asked : List Note) (more rest : List Line) (log : List Event) → NumbersAreRight (more ++ rest) log → NumbersAreRight (reverse_aux (map lines.Note asked) more ++ rest) log
notes_right [] more rest log h = h
notes_right (n ∷ asked) more rest log h = notes_right asked (lines.Note n ∷ more) rest log h

-- ---- what a configuration that a step goes on with has logged, its lines tell

module _ (p : Program) (rule : Rule) (log : List Event) where
  abbrev pub Keeps : Configuration → Type 0
  Keeps d = (d.log ≡ told_on d.lines log) × (d.rule ≡ rule) × NumbersAreRight d.lines log

  logged_keeps : (d : Configuration) (i : ℕ) (k : Kind) → Keeps d → Keeps (logged i k d)
  logged_keeps d i k h = (ap (λ (l : List Event). event i k ∷ l) h.0, h.1, (ap length h.0, h.2))

  enters_keep : (d : Configuration) (i k : ℕ) (r : EnteredFrames) → Keeps d → Keeps (enters i k r d)
  enters_keep d i k r h = (ap (λ (l : List Event). event i (kinds.Enter k) ∷ l) h.0, h.1, (ap length h.0, h.2))

  next_keeps : (d : Configuration) (u : Turn) (fs : Option (List Activation)) → Keeps d → Every Keeps (next d u fs)
  next_keeps d u fs h = every_on Keeps fs _ (λ now q. h)

  faulted_keeps : (d : Configuration) (u : Turn) (e : Ending) → Keeps d → Every Keeps (faulted p d u e)
  faulted_keeps d u e h = every_on Keeps u.doing.exceptional _ (λ o q. by o)
    where
      by : (o : Option Goal) → Every Keeps (excepted p d u e o)
      by None = tt
      by (Some g) = next_keeps d u _ h

  refused_keeps : (d : Configuration) (u : Turn) (k : Case) → Keeps d → Every Keeps (refused p d u k)
  refused_keeps d u DivideByZero h = faulted_keeps d u _ h
  refused_keeps d u NullAccess h = faulted_keeps d u _ h
  refused_keeps d u _ h = tt

  tried_keeps : {A : Type 0} (d : Configuration) (u : Turn) (o : Option (Result A Case)) (go : A → Outcome) → Keeps d → ((a : A) → Every Keeps (go a)) → Every Keeps (tried p d u o go)
  unfolding tried
  tried_keeps {A} d u o go h good = every_on Keeps o _ (λ r q. by r)
    where
      by : (r : Result A Case) → Every Keeps (unless_refused p d u go r)
      by (Err k) = refused_keeps d u k h
      by (Ok a) = good a

  entering_keeps : (d : Configuration) (u : Turn) (s : Scalar) (e : Entering) (go : ℕ → EnteredFrames → Outcome) → Keeps d → ((k : ℕ) (r : EnteredFrames) → Every Keeps (go k r)) → Every Keeps (entering p d u s e go)
  entering_keeps d u s e go h good = tried_keeps d u (ready d.stacks s) _ h (λ x. tried_keeps d u (entered p x.1 e) _ h (λ r. good x.0 r))

  -- a stack is entered, and the step is over
  over_keeps : (d : Configuration) (u : Turn) (s : Scalar) (e : Entering) (go : Configuration) → Keeps d → Keeps go → Every Keeps (entering p d u s e (λ k r. Next (enters u.thread k r go)))
  over_keeps d u s e go h k = entering_keeps d u s e (λ n r. Next (enters u.thread n r go)) h (λ n r. enters_keep go u.thread n r k)

  asks_keeps : (d : Configuration) (u : Turn) (m : ℕ) (go : Outcome) → Keeps d → Every Keeps go → Every Keeps (asks_cells p d u m go)
  asks_keeps d u m go h good = by (nat_le m d.cells)
    where
      by : (x : Bool) → Every Keeps (if x then go else faulted p d u (HeapFull u.thread m d.cells))
      by true = good
      by false = faulted_keeps d u (HeapFull u.thread m d.cells) h

  accessed_keeps : (d : Configuration) (u : Turn) (k : Option Kind) (o : Option (List Activation)) → Keeps d → Every Keeps (accessed d u k o)
  accessed_keeps d u k o h = every_on Keeps k _ (λ x q. every_on Keeps o _ (λ fs r. by x fs (race d.rule d.log (event u.thread x))))
    where
      by : (x : Kind) (fs : List Activation) (r : Option ℕ) → Every Keeps (raced d u (event u.thread x) fs r)
      by x fs (Some m) = tt
      by x fs None = next_keeps (logged u.thread x d) u (Some fs) (logged_keeps d u.thread x h)

  wakes_keep : (wake : ℕ) (ws : List Waiter) (d e : Configuration) → Keeps d → wakes_all p wake ws d ≡ Some e → Keeps e
  wakes_keep wake [] d e h q = let same : d ≡ e = cc in subst Keeps same h
  wakes_keep wake (w ∷ ws) d e h q =
      let u = some_inside (turn_of p d w.thread) _ e q in
      let m = some_inside (wakes_one p wake d u.0) (wakes_all p wake ws) e u.2 in
      let f = some_inside (passed p u.0.top ((was_woken ∷ []) ∷ [])) _ m.0 m.1 in
      let l : Configuration = logged u.0.thread (kinds.Woken wake) d in
      let same : stack_becomes u.0.stack (Active u.0.thread (f.0 ∷ u.0.below)) l ≡ m.0 = cc in
      let one : Keeps l = logged_keeps d u.0.thread (kinds.Woken wake) h in
      wakes_keep wake ws m.0 e (subst Keeps same one) m.2

  -- ---- acts

  module _ (b : Configuration) (u : Turn) (h : Keeps b) where
    left_keeps : (f : Activation) → Keeps (leaving u f b)
    left_keeps f = (ap (λ (l : List Event). event u.thread (kinds.Leave u.stack) ∷ l) h.0, h.1, (ap length h.0, h.2))

    enters_by_keeps : (d : Configuration) (s : Scalar) (a : With TypedValues Classed) → Keeps d → Every Keeps (enters_by p d u s a)
    enters_by_keeps d s a k = every_on Keeps (entering_of p.tables a) _ (λ e q. over_keeps d u s e d k k)

    replied_keeps : (d : Configuration) (a : Reply TypedValues Classed) → Keeps d → Every Keeps (replied p d u a)
    replied_keeps d (Resume w) k = enters_by_keeps d (scalars.Stack u.stack) w k
    replied_keeps d (Rebind x w) k = every_on Keeps (scalar_in (Some x.1)) _ (λ s q. enters_by_keeps d s w k)
    replied_keeps d Exit k = k
    replied_keeps d clients.Stop k = tt

    answered_keeps : (d : Configuration) (fs : List Activation) (a : Option Answer) → Keeps d → Every Keeps (answered p d u fs a)
    answered_keeps d fs None k = tt
    answered_keeps d fs (Some a) k =
        let now : Keeps (taken a d) = (k.0 ∙ sym (notes_pass a.notes [] d.lines log), k.1, notes_right a.notes [] d.lines log k.2) in
        tried_keeps (taken a d) u (edited p a.edit fs) _ now (λ r. replied_keeps (edits u r (taken a d)) a.reply now)

    trapped_keeps : (n : Option ℕ) (cs : List ℕ) → Every Keeps (trapped p b u n cs)
    trapped_keeps n cs = every_on Keeps (waiting u cs) _ (λ f q a. answered_keeps (noted (trap_note u n) (leaving u f b)) (f ∷ u.below) a (left_keeps f))

    watches_keep : (n : ℕ) (cs : List ℕ) (g : Goal) (x : Bool) → Every Keeps (if x then trapped p b u (Some n) cs else goes b u g)
    watches_keep n cs g true = trapped_keeps (Some n) cs
    watches_keep n cs g false = next_keeps b u _ h

    chooses_keep : (g k : Goal) (x : Bool) → Every Keeps (if x then goes b u k else goes b u g)
    chooses_keep g k true = next_keeps b u _ h
    chooses_keep g k false = next_keeps b u _ h

    returns_keep : (vs : TypedValues) (fs : List Activation) → Every Keeps (returns p b u vs fs)
    returns_keep vs [] = h
    returns_keep vs (f ∷ fs) = next_keeps (frames_end (u.top ∷ []) b) u _ h

    starts_keep : (s own : Scalar) (e : Entering) (x : Bool) → Every Keeps (if x then faulted p b u (ThreadsFull u.thread) else entering p b u s e (λ k r. has_result p (started b u own k r) u (scalars.Thread (length b.threads))))
    starts_keep s own e true = faulted_keeps b u (ThreadsFull u.thread) h
    starts_keep s own e false = entering_keeps b u s e _ h (λ k r. next_keeps (started b u own k r) u _ (ap (λ (l : List Event). event (length b.threads) (kinds.Enter k) ∷ event u.thread (kinds.NewThread (length b.threads)) ∷ l) h.0, h.1, (ap (λ (l : List Event). suc (length l)) h.0, (ap length h.0, h.2))))

    waits_keep : (timed : Bool) (y : Scalar) (cell : CellId) → Every Keeps (futex_waits p b u timed y cell)
    waits_keep timed y cell = tried_keeps b u _ _ h (λ at. every_on Keeps _ _ (λ k q. by at k (same_scalar k.value y)))
      where
        by : (at : CellId) (k : Chosen) (x : Bool) → Every Keeps (if x then accessed (waits_at u timed at b) u (kind_of (acts.Loads Relaxed) at k) (onto u u.top) else accessed b u (kind_of (acts.Loads Relaxed) at k) (with_some (passed p u.top ((found_another ∷ []) ∷ [])) (onto u)))
        by at k true = accessed_keeps (waits_at u timed at b) u (kind_of (acts.Loads Relaxed) at k) (onto u u.top) h
        by at k false = accessed_keeps b u (kind_of (acts.Loads Relaxed) at k) (with_some (passed p u.top ((found_another ∷ []) ∷ [])) (onto u)) h

    these_keep : (at : CellId) (ws : List Waiter) → Every Keeps (wakes_these p b u at ws)
    these_keep at ws =
        let d = logged u.thread (kinds.Wake at (length ws)) (record b { waiters = without ws b.waiters }) in
        every_on Keeps (wakes_all p (length b.log) ws d) _ (λ e q.
        next_keeps e u _ (wakes_keep (length b.log) ws d e (logged_keeps (record b { waiters = without ws b.waiters }) u.thread (kinds.Wake at (length ws)) h) q))

    performed_keeps : (a : Act) → Every Keeps (performed p b u a)
    performed_keeps (acts.Gives vs) = next_keeps b u _ h
    performed_keeps (acts.Faults k) = refused_keeps b u k h
    performed_keeps (acts.Goes g) = next_keeps b u _ h
    performed_keeps (acts.Calls f vs) = tried_keeps b u _ _ h (λ k. next_keeps b u _ h)
    performed_keeps (acts.Replaces f vs) = tried_keeps b u _ _ h (λ k. next_keeps (frames_end (u.top ∷ []) b) u _ h)
    performed_keeps (acts.Returns vs) = returns_keep vs u.below
    performed_keeps (acts.Throws e) = tried_keeps b u _ _ h (λ r. next_keeps (frames_end r.ended b) u (Some r.frames) h)
    performed_keeps (acts.Casts d s) = tried_keeps b u _ _ h (λ x. next_keeps b u _ h)
    performed_keeps (acts.Finds way s) = tried_keeps b u _ _ h (λ x. next_keeps b u _ h)
    performed_keeps (acts.Makes x) = asks_keeps b u _ _ h (next_keeps (object_added p b (leaf_classes (type_graph p.tables) x)) u _ h)
    performed_keeps (acts.MakesHybrid x n) = asks_keeps b u _ _ h (next_keeps (object_added p b (hybrid_classes (type_graph p.tables) x n)) u _ h)
    performed_keeps (acts.MakesOwn x) = asks_keeps b u _ _ h (next_keeps (object_added p b (leaf_classes (type_graph p.tables) x)) (owning u (length b.objects)) _ h)
    performed_keeps (acts.Accesses a cell) = tried_keeps b u _ _ h (λ at. every_on Keeps _ _ (λ k q.
        accessed_keeps (record b { picks = (pick (length (choices b.rule (initial b) b.log u.thread at (wanted a))) b.picks).1 }) u (kind_of a at k) (with_some (passed p u.top (access_results a k)) (onto u)) h))
    performed_keeps (acts.Fences o) = next_keeps (logged u.thread (kinds.Fence o) b) u _ (logged_keeps b u.thread (kinds.Fence o) h)
    performed_keeps (acts.Traps cs) = trapped_keeps None cs
    performed_keeps (acts.Watches n cs g) = watches_keep n cs g (is_watched n b.watched)
    performed_keeps (acts.Chooses n g k) = chooses_keep g k (is_watched n b.watched)
    performed_keeps (acts.Swaps s cs e) = every_on Keeps (waiting u cs) _ (λ f q. over_keeps b u s e (leaving u f b) h (left_keeps f))
    performed_keeps (acts.Leaves s e) = over_keeps b u s e (stack_dies u.stack (u.top ∷ u.below) b) h h
    performed_keeps (acts.Starts s own e) = starts_keep s own e (nat_le most_threads (length b.threads))
    performed_keeps (acts.MakesStack f) = tried_keeps b u _ _ h (λ k.
        let d = record b { stacks = b.stacks ++ Ready (fresh_frame p f k ∷ []) ∷ [] } in
        next_keeps (logged u.thread (kinds.NewStack (length b.stacks)) d) u _ (logged_keeps d u.thread (kinds.NewStack (length b.stacks)) h))
    performed_keeps (acts.KillsStack s) = tried_keeps b u _ _ h (λ r. next_keeps (stack_dies r.0 r.1 b) u _ h)
    performed_keeps acts.Tells = next_keeps b u _ h
    performed_keeps acts.Exits = h
    performed_keeps (acts.SetsOwn r) = next_keeps (thread_changes u.thread (with_own r) b) u _ h
    performed_keeps acts.TellsOwn = every_on Keeps _ _ (λ o q. every_on Keeps o _ (λ x r. next_keeps b u _ h))
    performed_keeps (acts.Waits timed y cell) = waits_keep timed y cell
    performed_keeps (acts.Wakes many cell) = tried_keeps b u _ _ h (λ at. these_keep at _)

-- ---- a step

module _ (p : Program) (c : Configuration) where
  abbrev Told : Configuration → Type 0
  Told = Keeps p c.rule c.log

  turns_told : (ps : List ℕ) (i : ℕ) → Every Told (turns p (picked c ps) i)
  turns_told ps i = every_on Told (turn_of p (picked c ps) i) _ (λ u q. by u (find (is_of i) c.waiters))
    where
      by : (u : Turn) (w : Option Waiter) → Every Told (turned p (picked c ps) w u)
      by u (Some w) = next_keeps p c.rule c.log (noted (TimedOut u.thread w.cell) (record (picked c ps) { waiters = without (w ∷ []) c.waiters })) u _ (refl, refl, tt)
      by u None = every_on Told u.doing.act _ (λ a q. performed_keeps p c.rule c.log (picked c ps) u (refl, refl, tt) a)

  step_told : Every Told (step p c)
  step_told = by (threads_from 0 c.threads) (runnable c)
    where
      choice : (x : Bool) (is : List ℕ) → Every Told (if x then End [] (Budget c.steps) else picking_thread p c is)
      choice true is = tt
      choice false is = let k = pick (length is) c.picks in every_on Told (slice_get is k.0) _ (λ i q. turns_told k.1 i)

      by : (ts is : List ℕ) → Every Told (ends_or_picks p c ts is)
      by [] is = tt
      by (x ∷ ts) [] = tt
      by (x ∷ ts) (i ∷ is) = choice (c.steps == c.budget) (i ∷ is)

  client_told : (k : Client) (o : Outcome) → Every Told o → Every Told (client_answers p k o)
  client_told k (Next d) g = g
  client_told k (End ls e) g = g
  client_told k (Asks view go) g = by (go (answer_of p.tables view k)) (g (answer_of p.tables view k))
    where
      by : (o : Outcome) → Every Told o → Every Told (with_client (advanced k) o)
      by (Next d) g = g
      by (End ls e) g = g
      by (Asks view go) g = g
      by Stuck g = g
  client_told k Stuck g = g

  pub next_told : (d : Configuration) → client_answers p c.client (step p c) ≡ Next d → Told d
  next_told d q = subst (Every Told) q (client_told c.client (step p c) step_told)

pub lines_tell : LinesTellTheLog
lines_tell p c d q = (next_told p c d q).0 ∙ sym (turned_round d.lines [] c.log)

-- ---- a run

-- the moment before the ending, to which the lines of the steps lead
record Left (p : Program) (first c : Configuration) (steps : List (List Line)) (ls : List Line) (e : Ending) : Type 0 where
  last : Configuration
  reached : Reaches p first last
  ends : client_answers p last.client (step p last) ≡ End ls e
  rule : last.rule ≡ c.rule
  log : log_of_steps steps c.log ≡ last.log

module _ (p : Program) (first : Configuration) where
  abbrev Leads : ℕ → Type 0
  Leads n = (c : Configuration) (steps : List (List Line)) (ls : List Line) (e : Ending) → Reaches p first c → run p n c ≡ Ends steps ls e → Left p first c steps ls e

  after_step : (n : ℕ) (c d : Configuration) (steps : List (List Line)) (ls : List Line) (e : Ending) → Reaches p first c → client_answers p c.client (step p c) ≡ Next d → Leads n →
      (r : Run) → run p n d ≡ r → behind (reverse d.lines) r ≡ Ends steps ls e → Left p first c steps ls e
  after_step n c d steps ls e far o rest (Ends more last x) same k =
      let one : steps ≡ reverse d.lines ∷ more = cc in
      let lines : last ≡ ls = cc in
      let ending : x ≡ e = cc in
      let left : Left p first d more last x = rest d more last x (onward far o) same in
      let step_log : log_behind (reverse d.lines) c.log ≡ d.log = sym (lines_tell p c d o) in
      record {
        last = left.last;
        reached = left.reached;
        ends = left.ends ∙ ap (λ (l : List Line). End l x) lines ∙ ap (λ (y : Ending). End ls y) ending;
        rule = left.rule ∙ (next_told p c d o).1;
        log = ap (λ (ss : List (List Line)). log_of_steps ss c.log) one ∙ ap (log_of_steps more) step_log ∙ left.log;
      }
  after_step n c d steps ls e far o rest Breaks same k = cc
  after_step n c d steps ls e far o rest Unfinished same k = cc

  at_once : (c : Configuration) (steps : List (List Line)) (l ls : List Line) (x e : Ending) → Reaches p first c → client_answers p c.client (step p c) ≡ End l x → Ends [] l x ≡ Ends steps ls e → Left p first c steps ls e
  at_once c steps l ls x e far o k =
      let none : steps ≡ [] = cc in
      let lines : l ≡ ls = cc in
      let ending : x ≡ e = cc in
      record {
        last = c;
        reached = far;
        ends = o ∙ ap (λ (m : List Line). End m x) lines ∙ ap (λ (y : Ending). End ls y) ending;
        rule = refl;
        log = ap (λ (ss : List (List Line)). log_of_steps ss c.log) none;
      }

  leads_on : (n : ℕ) (c : Configuration) (steps : List (List Line)) (ls : List Line) (e : Ending) → Reaches p first c → Leads n → (o : Outcome) → client_answers p c.client (step p c) ≡ o → goes_on (run p n) o ≡ Ends steps ls e →
      Left p first c steps ls e
  leads_on n c steps ls e far rest (Next d) o k = after_step n c d steps ls e far o rest (run p n d) refl k
  leads_on n c steps ls e far rest (End l x) o k = at_once c steps l ls x e far o k
  leads_on n c steps ls e far rest (Asks view go) o k = cc
  leads_on n c steps ls e far rest Stuck o k = cc

  leads : (n : ℕ) → Leads n
  leads zero c steps ls e far q = cc
  leads (suc n) c steps ls e far q = leads_on n c steps ls e far (leads n) (client_answers p c.client (step p c)) refl q

-- a run begins with an empty log, and by its rule
record Begun (s : Setting) (c : Configuration) : Type 0 where
  log : c.log ≡ []
  rule : c.rule ≡ s.rule

begun : (p : Program) (s : Setting) (f : ℕ) (c : Configuration) → first_configuration p s f ≡ Some c → Begun s c
begun p s f c e = by (p.body f) e
  where
    by : (o : Option (Option ℕ)) → with_some {B = Configuration} o (λ b. with_some {B = Configuration} b (λ block. Some (begins_in p s f block))) ≡ Some c → Begun s c
    by None e = cc
    by (Some None) e = cc
    by (Some (Some block)) e = let same : begins_in p s f block ≡ c = cc in subst (Begun s) same (record { log = refl; rule = refl })

rule_along : (p : Program) (c d : Configuration) → Reaches p c d → d.rule ≡ c.rule
rule_along p c d here = refl
rule_along p c d (onward {d = m} far e) = (next_told p m d e).1 ∙ rule_along p c m far

pub rule_stays : RuleStays
rule_stays p s f c d first far = rule_along p c d far ∙ (begun p s f c first).rule

left_by : (p : Program) (s : Setting) (f : ℕ) → ((c d : Configuration) → first_configuration p s f ≡ Some c → Reaches p c d → EndsSoundly p d) →
    (steps : List (List Line)) (ls : List Line) (e : Ending) → program_run p s f ≡ Ends steps ls e → IsLeftBy p s f (log_behind ls (log_of_steps steps []))
left_by p s f sound steps ls e q = by (first_configuration p s f) refl q
  where
    by : (o : Option Configuration) → first_configuration p s f ≡ o → run_from p o ≡ Ends steps ls e → IsLeftBy p s f (log_behind ls (log_of_steps steps []))
    by None b k = cc
    by (Some c) b k =
        let start = begun p s f c b in
        let r = leads p c (suc c.budget) c steps ls e here k in
        let log : log_of_steps steps [] ≡ r.last.log = ap (log_of_steps steps) (sym start.log) ∙ r.log in
        record {
          first = c;
          begins = b;
          last = r.last;
          reached = r.reached;
          rule = r.rule ∙ start.rule;
          sound = subst (λ (l : List Event). IsSoundEnding r.last (log_behind ls l)) (sym log) (sound c r.last b r.reached ls e r.ends);
        }

pub runs_leave_sound_logs : RunsOfTextsLeaveSoundLogs
runs_leave_sound_logs bytes bundle read names checked s name n fits entered =
    left_by (named bundle) s n (λ c d first far. (moments_are_sound bytes bundle read names checked s name n fits entered c d first far).ending)
