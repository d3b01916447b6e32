-- Waiting at a cell.
use Rattle.std.specs.Prelude.{◌≡◌, ◌≢◌, ◌⊎◌, ◌≤◌, ◌<◌, ◌==◌, ◌||◌, ◌^◌, ◌-◌, not, ℕ, Bool, true, false, List, [], ◌∷◌, ◌++◌, Option, Some, None, IsSomeAnd, find, slice_get, refl, if◌then◌else◌}
use Rattle.std.proofs.Common.{sym, ◌∙◌, ap, subst, inl, inr, cond, lit<}
use Rattle.std.proofs.lemmas.Bool.{true≢false}
use Rattle.std.proofs.lemmas.Bool.Decides.{eqb_tells}
use Rattle.mu_base.specs.declared.order.Order.TheVariants.{Relaxed}
use Rattle.mu_values.specs.declared.scalars.Scalar.{Scalar}
use Rattle.mu_values.specs.declared.scalars.Scalar.TheVariants.{Int}
use Rattle.mu_values.specs.SameScalar.{same_scalar}
use Rattle.mu_values.specs.declared.cells.CellId.{CellId}
use Rattle.check_tables.specs.Types.{int32}
use Rattle.mem_axioms.specs.Logs.{newest}
use Rattle.mem_axioms.specs.Choices.{chosen_at, choices}
use Rattle.mem_axioms.specs.Races.{race}
use Rattle.mem_axioms.specs.OptionTheorems.{ChoiceStands}
use Rattle.mem_axioms.specs.EventFits.{is_thread}
use Rattle.mem_axioms.specs.declared.types.Kind.{Kind}
use Rattle.mem_axioms.specs.declared.types.Chosen.{Chosen}
use Rattle.mem_axioms.specs.Lemmas.Options.{choice-stands, newest-first-choice}
use Rattle.mem_axioms.specs.declared.types.Wanted.TheVariants.{Load}
use Rattle.mu_model.specs.Acts as acts
use Rattle.frames.specs.Activations.{Activation}
use Rattle.model_laws.specs.Lemmas.Accessing.{LogsFit, accessed_good, alive_fits, logged_going, logs_fit}
use Rattle.model_laws.specs.Lemmas.Basics.{set_same, some_at, some_is}
use Rattle.model_laws.specs.Lemmas.Fitting.{one_fits}
use Rattle.model_laws.specs.Lemmas.FrameLaws.{given_fits}
use Rattle.model_laws.specs.Lemmas.Happening.{value_fits}
use Rattle.model_laws.specs.Lemmas.Keeps.{Going, next_fits, on_good}
use Rattle.model_laws.specs.Lemmas.Turning.{Turned, given_good, onto_fits, tried_good}
use Rattle.model_laws.specs.AccessesFit.{Gives}
use Rattle.model_laws.specs.ActsFit.{ActFits}
use Rattle.model_laws.specs.Places.{Places}
use Rattle.model_laws.specs.Programs.{DoingFits, IsTyped}
use Rattle.model_laws.specs.ThreadsFit.{IsAtWait, IsOn, IsWaitOf, ThreadAtWait, WaiterFits, WaitersFit, is_waiting}
use Rattle.model_laws.specs.Values.{ValuesFit, leaf_at, world}
use Rattle.model_laws.specs.WellTyped.{GoesWell, WellTyped}
use Rattle.mu_model.specs.Accesses.{accessed, initial, kind_of, raced, wanted}
use Rattle.mu_model.specs.Acts.{Act, Doing, Loads, Program}
use Rattle.mu_model.specs.Answers.{typed}
use Rattle.mu_model.specs.Changes.{event, logged_event, noted, stack_becomes}
use Rattle.futex.specs.declared.waiters.Waiter.{Waiter}
use Rattle.mu_model.specs.Configuration.{Active, Configuration, Stack, Thread}
use Rattle.mu_model.specs.Frames.{passed}
use Rattle.frames.specs.Chains.{stands}
use Rattle.mu_model.specs.Outcomes.{on, onto}
use Rattle.mu_model.specs.Turns.{Turn}
use Rattle.mu_model.specs.Types.{type_graph}
use Rattle.futex.specs.Waiting.{is_of, without}
use Rattle.mu_model.specs.Waiting.{found_another, futex_waits, time_was_over, times_out, waited, waits_at}
use Rattle.mu_model.specs.declared.lines.Line.{Line}
use Rattle.mu_model.specs.declared.lines.Note.TheVariants.{TimedOut}
use Rattle.typed_heap.specs.Fits.{ScalarFits, World}
use Rattle.typed_heap.specs.Places.{with_some}

-- ---- lists of waiters

pub or_both : (a b : Bool) → a ≡ false → b ≡ false → (a || b) ≡ false
or_both false b h k = k
or_both true b h k = absurd (true≢false h)

pub or_false : (a b : Bool) → (a || b) ≡ false → (a ≡ false) × (b ≡ false)
or_false false b e = (refl, e)
or_false true b e = cc

pub left_among : (gone ws : List Waiter) (i : ℕ) → is_waiting ws i ≡ false → is_waiting (without gone ws) i ≡ false
left_among gone [] i h = refl
left_among gone (w ∷ ws) i h = by (is_waiting gone w.thread) (or_false (w.thread == i) (is_waiting ws i) h).0 (left_among gone ws i (or_false (w.thread == i) (is_waiting ws i) h).1)
  where
    by : (b : Bool) → (w.thread == i) ≡ false → is_waiting (without gone ws) i ≡ false → is_waiting (cond (not b) (w ∷ without gone ws) (without gone ws)) i ≡ false
    by true one rest = rest
    by false one rest = or_both (w.thread == i) (is_waiting (without gone ws) i) one rest

pub left_fits : (p : Program) (ts : List (Option Thread)) (ss : List Stack) (gone ws : List Waiter) → WaitersFit p ts ss ws → WaitersFit p ts ss (without gone ws)
left_fits p ts ss gone [] h = tt
left_fits p ts ss gone (w ∷ ws) h = by (is_waiting gone w.thread) (left_fits p ts ss gone ws h.2)
  where
    by : (b : Bool) → WaitersFit p ts ss (without gone ws) → WaitersFit p ts ss (cond (not b) (w ∷ without gone ws) (without gone ws))
    by true rest = rest
    by false rest = (h.0, left_among gone ws w.thread h.1, rest)

-- one that was taken out is not among the rest
gone_free : (w : Waiter) (i : ℕ) (ws : List Waiter) → w.thread ≡ i → is_waiting (without (w ∷ []) ws) i ≡ false
gone_free w i [] same = refl
gone_free w i (x ∷ ws) same = by (is_waiting (w ∷ []) x.thread) refl (gone_free w i ws same)
  where
    other : (w.thread == x.thread) || false ≡ false → (x.thread == i) ≡ false
    other e = elim (eqb_tells x.thread i) [
      | inl r ↦ elim (eqb_tells w.thread x.thread) [ inl q ↦ absurd (true≢false (sym q.0 ∙ (or_false (w.thread == x.thread) false e).0)) | inr q ↦ absurd (q.1 (same ∙ sym r.1)) ]
      | inr r ↦ r.0
    ]

    by : (b : Bool) → is_waiting (w ∷ []) x.thread ≡ b → is_waiting (without (w ∷ []) ws) i ≡ false → is_waiting (cond (not b) (x ∷ without (w ∷ []) ws) (without (w ∷ []) ws)) i ≡ false
    by true e rest = rest
    by false e rest = or_both (x.thread == i) (is_waiting (without (w ∷ []) ws) i) (other e) rest

-- the waiter that is found
found_fits : (p : Program) (ts : List (Option Thread)) (ss : List Stack) (ws : List Waiter) (i : ℕ) (w : Waiter) → find (is_of i) ws ≡ Some w → WaitersFit p ts ss ws → WaiterFits p ts ss w × (w.thread ≡ i)
found_fits p ts ss [] i w e h = cc
found_fits p ts ss (x ∷ ws) i w e h = by (x.thread == i) refl e (λ k. found_fits p ts ss ws i w k h.2)
  where
    by : (b : Bool) → (x.thread == i) ≡ b → cond b (Some x) (find (is_of i) ws) ≡ Some w → (find (is_of i) ws ≡ Some w → WaiterFits p ts ss w × (w.thread ≡ i)) → WaiterFits p ts ss w × (w.thread ≡ i)
    by true q e rest =
        let same : x ≡ w = cc in
        let this : x.thread ≡ i = elim (eqb_tells x.thread i) [ inl r ↦ r.1 | inr r ↦ absurd (true≢false (sym q ∙ r.0)) ] in
        (subst (WaiterFits p ts ss) same h.0, ap (λ (w : Waiter). w.thread) (sym same) ∙ this)
    by false q e rest = rest e

-- a waiter more at the end
more_among : (ws : List Waiter) (w : Waiter) (i : ℕ) → is_waiting ws i ≡ false → w.thread ≢ i → is_waiting (ws ++ w ∷ []) i ≡ false
more_among [] w i h n = elim (eqb_tells w.thread i) [ inl r ↦ absurd (n r.1) | inr r ↦ or_both (w.thread == i) false r.0 refl ]
more_among (x ∷ ws) w i h n = let k = or_false (x.thread == i) (is_waiting ws i) h in or_both (x.thread == i) (is_waiting (ws ++ w ∷ []) i) k.0 (more_among ws w i k.1 n)

more_fits : (p : Program) (ts : List (Option Thread)) (ss : List Stack) (ws : List Waiter) (w : Waiter) → WaitersFit p ts ss ws → is_waiting ws w.thread ≡ false → WaiterFits p ts ss w → WaitersFit p ts ss (ws ++ w ∷ [])
more_fits p ts ss [] w h none fit = (fit, refl, tt)
more_fits p ts ss (x ∷ ws) w h none fit =
    let k = or_false (x.thread == w.thread) (is_waiting ws w.thread) none in
    (h.0, more_among ws w x.thread h.1 (λ e. other (sym e) k.0), more_fits p ts ss ws w h.2 k.1 fit)
  where
    other : x.thread ≡ w.thread → (x.thread == w.thread) ≡ false → ⊥
    other e n = elim (eqb_tells x.thread w.thread) [ inl r ↦ true≢false (sym r.0 ∙ n) | inr r ↦ r.1 e ]

module _ (p : Program) (t : Places) (typed : IsTyped p t) where
  -- an instruction that is a wait gives an int<32>
  pub wait_gives : (w : World) (u : Turn) (x : Waiter) → DoingFits p t w u.top.block u.top.at u.doing → IsWaitOf x u.doing.act → Gives t u.top.block u.top.at (int32 p.tables.types ∷ [])
  wait_gives w u x fit h = by u.doing.act h fit.act
    where
      by : (o : Option Act) → IsWaitOf x o → IsSomeAnd o (ActFits p t w u.top.block u.top.at) → Gives t u.top.block u.top.at (int32 p.tables.types ∷ [])
      by (Some (acts.Waits timed v cell)) h k = k.gives
      by _ h k = absurd h

  pub int32_fits : (w : World) (n : ℕ) → n < 2 ^ 32 → ValuesFit (type_graph p.tables) w (int32 p.tables.types ∷ []) ((Int 32 n ∷ []) ∷ [])
  int32_fits w n h = one_fits (type_graph p.tables) w (int32 p.tables.types) (Int 32 n) typed.types.int32.leaf (some_is _ _ _ typed.types.int32.definition (refl, h))

  -- the configuration with other waiters, and what was written
  pub waiters_fit : (c : Configuration) (ws : List Waiter) (ls : List Line) → WellTyped p t c → WaitersFit p c.threads c.stacks ws → WellTyped p t (record c { waiters = ws; lines = ls })
  waiters_fit c ws ls h k = record { globals = h.globals; stacks = h.stacks; owners = h.owners; objects = h.objects; log = record { events = h.log.events; sound = h.log.sound; follows = h.log.follows; threads = h.log.threads }; threads = h.threads; waiters = k; most = h.most; client = h.client; steps = h.steps }

  -- the stack of a thread
  pub stack_of : (c : Configuration) (u : Turn) (th : Thread) (frames : List Activation) → WellTyped p t c → slice_get c.stacks u.stack ≡ Some (Active u.thread frames) → slice_get c.threads u.thread ≡ Some (Some th) → th.stack ≡ u.stack
  stack_of c u th frames h stands there = some_at _ (IsOn u.stack) (Some th) there (h.owners.threads u.thread u.stack frames stands)

  pub times_out_good : (v : World) (c : Configuration) (u : Turn) (w : Waiter) (th : Thread) (rest : List Activation) → WellTyped p t c → Turned p t (world p.tables c) u → slice_get c.stacks u.stack ≡ Some (Active u.thread (u.top ∷ rest)) → slice_get c.threads u.thread ≡ Some (Some th) →
      find (is_of u.thread) c.waiters ≡ Some w → GoesWell p t v (times_out p c u w)
  times_out_good v c u w th rest h k stands there found =
      let f = found_fits p c.threads c.stacks c.waiters u.thread w found h.waiters in
      let ws = without (w ∷ []) c.waiters in
      let d = noted (TimedOut u.thread w.cell) (record c { waiters = ws }) in
      let at : ThreadAtWait p c.stacks w (Some th) = some_at _ (ThreadAtWait p c.stacks w) (Some th) (ap (slice_get c.threads) f.1 ∙ there) f.0 in
      let stand : IsAtWait p w (Active u.thread (u.top ∷ rest)) = some_at _ (IsAtWait p w) (Active u.thread (u.top ∷ rest)) (ap (slice_get c.stacks) (stack_of c u th (u.top ∷ rest) h stands there) ∙ stands) at in
      let wait : IsWaitOf w u.doing.act = some_at _ (λ (d : Doing). IsWaitOf w d.act) u.doing k.does stand.1 in
      given_good p t typed v d u (int32 p.tables.types ∷ []) ((time_was_over ∷ []) ∷ [])
      (record { fits = waiters_fit c ws d.lines h (left_fits p c.threads c.stacks (w ∷ []) c.waiters h.waiters); frames = u.top ∷ rest; there = stands; awake = gone_free w u.thread c.waiters f.1 })
      k.top k.below (wait_gives (world p.tables c) u w k.doing wait) (int32_fits (world p.tables c) (2 ^ 32 - 3) (lit< tt))

  -- ---- a wait

  raced_waits : (v : World) (c : Configuration) (u : Turn) (k : Kind) (x : Waiter) (r : Option ℕ) (th : Thread) → race c.rule c.log (event u.thread k) ≡ r → Going p t c u → Turned p t (world p.tables c) u → slice_get c.threads u.thread ≡ Some (Some th) → x.thread ≡ u.thread → LogsFit p c u k →
      IsSomeAnd (p.doing u.top.block u.top.at u.top.vars) (λ (d : Doing). IsWaitOf x d.act) → GoesWell p t v (raced (record c { waiters = c.waiters ++ x ∷ [] }) u (event u.thread k) (u.top ∷ u.below) r)
  raced_waits v c u k x (Some n) th e g turn there same fit wait = tt
  raced_waits v c u k x None th e g turn there same fit wait =
      let d = stack_becomes u.stack (Active u.thread (u.top ∷ u.below)) (logged_event (event u.thread k) c) in
      let h : WellTyped p t d = next_fits p t (logged_event (event u.thread k) c) u (u.top ∷ u.below) (logged_going p t typed c u k g fit e) (turn.top, turn.below) in
      let at : IsSomeAnd (slice_get d.stacks th.stack) (IsAtWait p x) =
      some_is _ (IsAtWait p x) (Active u.thread (u.top ∷ u.below)) (ap (slice_get d.stacks) (stack_of c u th g.frames g.fits g.there there) ∙ set_same c.stacks u.stack (Active u.thread (u.top ∷ u.below)) (Active u.thread g.frames) g.there) (sym same, wait) in
      on_good p t v (Some (u.top ∷ u.below)) _ (λ fs. fs ≡ u.top ∷ u.below) refl (λ fs q again.
      subst (λ (gs : List Activation). WellTyped p t (record (stack_becomes u.stack (Active u.thread gs) (logged_event (event u.thread k) c)) { waiters = c.waiters ++ x ∷ [] })) (sym again)
      (waiters_fit d (c.waiters ++ x ∷ []) d.lines h (more_fits p d.threads d.stacks c.waiters x h.waiters (ap (is_waiting c.waiters) same ∙ g.awake) (some_is _ (ThreadAtWait p d.stacks x) (Some th) (ap (slice_get c.threads) same ∙ there) at))))

  pub waits_good : (v : World) (c : Configuration) (u : Turn) (timed : Bool) (y : Scalar) (cell : CellId) (th : Thread) → Going p t c u → Turned p t (world p.tables c) u → slice_get c.threads u.thread ≡ Some (Some th) → is_thread c.log u.thread ≡ true →
      u.doing.act ≡ Some (acts.Waits timed y cell) → ActFits p t (world p.tables c) u.top.block u.top.at (acts.Waits timed y cell) → GoesWell p t v (futex_waits p c u timed y cell)
  waits_good v c u timed y cell th g turn there known act h =
      tried_good p t typed v c u _ _ (λ d. (d ≡ cell) × (leaf_at c.objects cell ≡ Some h.class)) g turn (alive_fits (world p.tables c) cell h.class h.there) (λ d same fit.
      subst (λ d. GoesWell p t v (on (slice_get (choices c.rule (initial c) c.log u.thread d (wanted (Loads Relaxed))) 0) (waited p c u timed y d))) (sym fit.0)
      (on_good p t v (slice_get (choices c.rule (initial c) c.log u.thread cell (wanted (Loads Relaxed))) 0) _ (ChoiceStands c.rule (initial c) c.log u.thread cell (wanted (Loads Relaxed))) newest_stands (λ x q stand. at fit.1 x stand)))
    where
      newest_stands : IsSomeAnd (slice_get (choices c.rule (initial c) c.log u.thread cell (Load Relaxed)) 0) (ChoiceStands c.rule (initial c) c.log u.thread cell (Load Relaxed))
      newest_stands =
          let first = newest-first-choice c.rule (initial c) c.log u.thread cell g.fits.log.sound.axioms Relaxed in
          some_is _ _ _ first (choice-stands c.rule (initial c) c.log u.thread cell (Load Relaxed) 0 (chosen_at (initial c) c.log cell false (newest c.log cell)) first)

      at : leaf_at c.objects cell ≡ Some h.class → (x : Chosen) → ChoiceStands c.rule (initial c) c.log u.thread cell (wanted (Loads Relaxed)) x → GoesWell p t v (waited p c u timed y cell x)
      at leaf x stand = by (same_scalar x.value y)
        where
          fit : ScalarFits (type_graph p.tables) (world p.tables c) h.class x.value
          fit = subst (ScalarFits (type_graph p.tables) (world p.tables c) h.class) (sym stand.value) (value_fits p c cell h.class x.position g.fits.objects g.fits.log leaf)

          log : IsSomeAnd (kind_of (Loads Relaxed) cell x) (LogsFit p c u)
          log = logs_fit p t typed c u (Loads Relaxed) cell h.class x g.fits known leaf tt fit stand

          wait : IsSomeAnd (p.doing u.top.block u.top.at u.top.vars) (λ (d : Doing). IsWaitOf (record { thread = u.thread; cell = cell; timed = timed }) d.act)
          wait = some_is _ (λ (d : Doing). IsWaitOf (record { thread = u.thread; cell = cell; timed = timed }) d.act) u.doing turn.does (subst (IsWaitOf (record { thread = u.thread; cell = cell; timed = timed })) (sym act) (refl, refl))

          by : (b : Bool) → GoesWell p t v (if b then accessed (waits_at u timed cell c) u (kind_of (Loads Relaxed) cell x) (onto u u.top) else accessed c u (kind_of (Loads Relaxed) cell x) (with_some (passed p u.top ((found_another ∷ []) ∷ [])) (onto u)))
          by true =
              on_good p t v (kind_of (Loads Relaxed) cell x) _ (LogsFit p c u) log (λ k ek kf.
              on_good p t v (Some (u.top ∷ u.below)) _ (λ fs. u.top ∷ u.below ≡ fs) refl (λ fs q again.
              subst (λ fs. GoesWell p t v (raced (waits_at u timed cell c) u (event u.thread k) fs (race c.rule c.log (event u.thread k)))) again
              (raced_waits v c u k (record { thread = u.thread; cell = cell; timed = timed }) (race c.rule c.log (event u.thread k)) th refl g turn there refl kf wait)))
          by false = accessed_good p t typed v c u (kind_of (Loads Relaxed) cell x) (with_some (passed p u.top ((found_another ∷ []) ∷ [])) (onto u)) g log
              (onto_fits p t typed (world p.tables c) u _ turn.below (given_fits p t typed (world p.tables c) g.fits.globals u.top _ ((found_another ∷ []) ∷ []) turn.top h.gives (int32_fits (world p.tables c) (2 ^ 32 - 1) (lit< tt))))
