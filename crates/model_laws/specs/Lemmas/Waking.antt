-- Threads that are woken.
use Rattle.std.specs.Prelude.{◌≡◌, ◌≢◌, ◌⊎◌, ◌≤◌, ◌<◌, ◌==◌, ◌||◌, ◌&&◌, ◌^◌, not, ℕ, zero, suc, Bool, true, false, List, [], ◌∷◌, ◌++◌, Option, Some, None, IsSomeAnd, length, filter, take, slice_get, map, refl, if◌then◌else◌}
use Rattle.std.proofs.Common.{sym, ◌∙◌, ap, subst, inl, inr, arith, cond, lit<}
use Rattle.std.proofs.lemmas.Bool.{false≢true}
use Rattle.std.proofs.lemmas.Bool.Decides.{eqb_tells}
use Rattle.mu_values.specs.declared.cells.CellId.{CellId}
use Rattle.check_tables.specs.Types.{int32}
use Rattle.mem_axioms.specs.Lemmas.Fitting.{wake-stays, wake-numbered}
use Rattle.mem_axioms.specs.EventFits.{is_thread, wakes_at, EventFits}
use Rattle.mem_axioms.specs.declared.types.Kind.{Kind}
use Rattle.mem_axioms.specs.declared.types.Kind.TheVariants as kinds
use Rattle.mu_model.specs.Acts as acts
use Rattle.frames.specs.Activations.{Value}
use Rattle.model_laws.specs.Lemmas.Accessing.{alive_fits}
use Rattle.model_laws.specs.Lemmas.Basics.{and_then, set_other, some_at, some_is}
use Rattle.model_laws.specs.Lemmas.FrameLaws.{StandsFor, given_fits}
use Rattle.model_laws.specs.Lemmas.Happening.{IsOther, has_cell, other_races}
use Rattle.model_laws.specs.Lemmas.Keeps.{Going, log_event, next_fits, on_good, waiters_set, world_set}
use Rattle.model_laws.specs.Lemmas.Placing.{HasTurn, Placed, has_place}
use Rattle.model_laws.specs.Lemmas.Turning.{Turned, given_good, onto_fits, tried_good}
use Rattle.model_laws.specs.Lemmas.Waiting.{int32_fits, left_among, left_fits, or_both, or_false, stack_of, wait_gives, waiters_fit}
use Rattle.model_laws.specs.ActsFit.{ActFits}
use Rattle.model_laws.specs.LogFits.{KindFits}
use Rattle.model_laws.specs.Places.{Places}
use Rattle.model_laws.specs.Programs.{IsTyped}
use Rattle.model_laws.specs.ThreadsFit.{IsAtWait, IsWaitOf, ThreadAtWait, WaiterFits, WaitersFit, is_waiting}
use Rattle.model_laws.specs.Values.{leaf_at, world}
use Rattle.model_laws.specs.WellTyped.{GoesWell, WellTyped}
use Rattle.mu_model.specs.Acts.{Doing, Program}
use Rattle.mu_model.specs.Answers.{typed}
use Rattle.mu_model.specs.Changes.{event, logged, stack_becomes}
use Rattle.futex.specs.declared.waiters.Waiter.{Waiter}
use Rattle.mu_model.specs.Configuration.{Active, Configuration, Stack, Thread}
use Rattle.mu_model.specs.Frames.{passed}
use Rattle.mu_model.specs.Turns.{Turn, turn_of}
use Rattle.mu_model.specs.Types.{type_graph}
use Rattle.futex.specs.Waiting.{is_at, without}
use Rattle.mu_model.specs.Waiting.{futex_wakes, wakes_all, wakes_one, wakes_these, was_woken}
use Rattle.typed_heap.specs.Fits.{World, fits}
use Rattle.typed_heap.specs.Objects.{HeapObject}

same_true : (n m : ℕ) → n ≡ m → (n == m) ≡ true
same_true n m e = elim (eqb_tells n m) [ inl r ↦ r.0 | inr r ↦ absurd (r.1 e) ]

or_right : (a b : Bool) → b ≡ true → (a || b) ≡ true
or_right true b h = refl
or_right false b h = h

or_left : (a b : Bool) → a ≡ true → (a || b) ≡ true
or_left true b h = refl
or_left false b h = absurd (false≢true h)

kept_among : (q : Waiter → Bool) (ws : List Waiter) (i : ℕ) → is_waiting ws i ≡ false → is_waiting (filter q ws) i ≡ false
kept_among q [] i h = refl
kept_among q (w ∷ ws) i h = by (q w) (or_false (w.thread == i) (is_waiting ws i) h).0 (kept_among q ws i (or_false (w.thread == i) (is_waiting ws i) h).1)
  where
    by : (b : Bool) → (w.thread == i) ≡ false → is_waiting (filter q ws) i ≡ false → is_waiting (cond b (w ∷ filter q ws) (filter q ws)) i ≡ false
    by false one rest = rest
    by true one rest = or_both (w.thread == i) (is_waiting (filter q ws) i) one rest

kept_fits : (p : Program) (ts : List (Option Thread)) (ss : List Stack) (q : Waiter → Bool) (ws : List Waiter) → WaitersFit p ts ss ws → WaitersFit p ts ss (filter q ws)
kept_fits p ts ss q [] h = tt
kept_fits p ts ss q (w ∷ ws) h = by (q w) (kept_fits p ts ss q ws h.2)
  where
    by : (b : Bool) → WaitersFit p ts ss (filter q ws) → WaitersFit p ts ss (cond b (w ∷ filter q ws) (filter q ws))
    by false rest = rest
    by true rest = (h.0, kept_among q ws w.thread h.1, rest)

take_among : (n : ℕ) (ws : List Waiter) (i : ℕ) → is_waiting ws i ≡ false → is_waiting (take n ws) i ≡ false
take_among zero ws i h = refl
take_among (suc n) [] i h = refl
take_among (suc n) (w ∷ ws) i h = let k = or_false (w.thread == i) (is_waiting ws i) h in or_both (w.thread == i) (is_waiting (take n ws) i) k.0 (take_among n ws i k.1)

take_fits : (p : Program) (ts : List (Option Thread)) (ss : List Stack) (n : ℕ) (ws : List Waiter) → WaitersFit p ts ss ws → WaitersFit p ts ss (take n ws)
take_fits p ts ss zero ws h = tt
take_fits p ts ss (suc n) [] h = tt
take_fits p ts ss (suc n) (w ∷ ws) h = (h.0, take_among n ws w.thread h.1, take_fits p ts ss n ws h.2)

take_short : (n : ℕ) (ws : List Waiter) → length (take n ws) ≤ n
take_short zero ws = omega arith
take_short (suc n) [] = omega arith
take_short (suc n) (w ∷ ws) = omega (arith, take_short n ws)

-- those that were taken out are not among the rest
gone_all : (gone ws : List Waiter) (i : ℕ) → is_waiting gone i ≡ true → is_waiting (without gone ws) i ≡ false
gone_all gone [] i h = refl
gone_all gone (w ∷ ws) i h = by (is_waiting gone w.thread) refl (gone_all gone ws i h)
  where
    by : (b : Bool) → is_waiting gone w.thread ≡ b → is_waiting (without gone ws) i ≡ false → is_waiting (cond (not b) (w ∷ without gone ws) (without gone ws)) i ≡ false
    by true e rest = rest
    by false e rest = elim (eqb_tells w.thread i) [ inl r ↦ absurd (false≢true (sym e ∙ ap (is_waiting gone) r.1 ∙ h)) | inr r ↦ or_both (w.thread == i) (is_waiting (without gone ws) i) r.0 rest ]

module _ (p : Program) (t : Places) (typed : IsTyped p t) where
  logged_fits : (c : Configuration) (i : ℕ) (k : Kind) → WellTyped p t c → IsOther k → EventFits c.rule (map (λ (o : HeapObject). o.initial) c.objects) c.log (event i k) → KindFits (type_graph p.tables) (world p.tables c) k → ((j : ℕ) → is_thread (event i k ∷ c.log) j ≡ is_thread c.log j) → WellTyped p t (logged i k c)
  logged_fits c i k h other fits kind same = record { globals = h.globals; stacks = h.stacks; owners = h.owners; objects = h.objects; log = log_event p c (event i k) h.log fits (other_races c.rule c.log i k other) (kind) same; threads = h.threads; waiters = h.waiters; most = h.most; client = h.client; steps = h.steps }

  -- while threads are woken: the thread that wakes, those that are still to be woken, and the event that wakes them
  record Waking (w : World) (u : Turn) (wake : ℕ) (d : Configuration) (ws : List Waiter) : Type 0 where
    going : Going p t d u
    rest : WaitersFit p d.threads d.stacks ws
    awake : (i : ℕ) → is_waiting ws i ≡ true → is_waiting d.waiters i ≡ false
    apart : is_waiting ws u.thread ≡ false
    wakes : wakes_at d.log wake ≡ true
    same : world p.tables d ≡ w

  -- one that is to be woken goes on behind its wait
  one_good : (v : World) (u : Turn) (wake : ℕ) (d : Configuration) (w : Waiter) (ws : List Waiter) → Waking v u wake d (w ∷ ws) → (x : Turn) → Placed p t d x → x.thread ≡ w.thread → IsSomeAnd (wakes_one p wake d x) (λ e. Waking v u wake e ws)
  one_good v u wake d w ws k x pl same =
      let e = logged x.thread (kinds.Woken wake) d in
      let at : ThreadAtWait p d.stacks w (Some pl.thread) = some_at _ (ThreadAtWait p d.stacks w) (Some pl.thread) (ap (slice_get d.threads) (sym same) ∙ pl.there) k.rest.0 in
      let stand : IsAtWait p w (Active x.thread (x.top ∷ x.below)) = some_at _ (IsAtWait p w) (Active x.thread (x.top ∷ x.below)) (ap (slice_get d.stacks) (stack_of p t typed d x pl.thread (x.top ∷ x.below) k.going.fits pl.stands pl.there) ∙ pl.stands) at in
      let wait : IsWaitOf w x.doing.act = some_at _ (λ (y : Doing). IsWaitOf w y.act) x.doing pl.turned.does stand.1 in
      let fits : WellTyped p t e = logged_fits d x.thread (kinds.Woken wake) k.going.fits tt (record { thread = pl.known; child = tt; cell = tt; wake = k.wakes; position = tt }) tt (λ j. refl) in
      let free : is_waiting d.waiters x.thread ≡ false = ap (is_waiting d.waiters) same ∙ none in
      let g : Going p t e x = record { fits = fits; frames = x.top ∷ x.below; there = pl.stands; awake = free } in
      and_then (passed p x.top woke) _ (StandsFor p t (world p.tables d) (t.results x.top.block)) _
      (given_fits p t typed (world p.tables d) k.going.fits.globals x.top _ woke pl.turned.top (wait_gives p t typed (world p.tables d) x w pl.turned.doing wait) (int32_fits p t typed (world p.tables d) 0 (lit< tt))) (λ f s.
      let after : WellTyped p t (stack_becomes x.stack (Active x.thread (f ∷ x.below)) e) = next_fits p t e x (f ∷ x.below) g (onto_fits p t typed (world p.tables d) x (Some f) pl.turned.below s) in
      record {
        going = record {
          fits = after;
          frames = k.going.frames;
          there = set_other d.stacks x.stack u.stack (Active x.thread (f ∷ x.below)) (λ q. clash (ap (slice_get d.stacks) q ∙ k.going.there)) ∙ k.going.there;
          awake = k.going.awake;
        };
        rest = waiters_set p d.threads d.stacks x.stack x.thread (Active x.thread (x.top ∷ x.below)) (Active x.thread (f ∷ x.below)) ws pl.stands refl (ap (is_waiting ws) same ∙ k.rest.1) k.rest.2;
        awake = λ i h. k.awake i (or_right (w.thread == i) (is_waiting ws i) h);
        apart = (or_false (w.thread == u.thread) (is_waiting ws u.thread) k.apart).1;
        wakes = wake-stays d.log (event x.thread (kinds.Woken wake)) wake k.wakes;
        same = world_set p.tables e x.stack (Active x.thread (f ∷ x.below)) ∙ k.same;
      })
    where
      woke : List Value
      woke = (was_woken ∷ []) ∷ []

      none : is_waiting d.waiters w.thread ≡ false
      none = k.awake w.thread (or_left (w.thread == w.thread) (is_waiting ws w.thread) (same_true w.thread w.thread refl))

      clash : slice_get d.stacks x.stack ≡ Some (Active u.thread k.going.frames) → ⊥
      clash h =
          let equal : x.thread ≡ u.thread = let two : Some (Active x.thread (x.top ∷ x.below)) ≡ Some (Active u.thread k.going.frames) = sym pl.stands ∙ h in cc in
          false≢true (sym (or_false (w.thread == u.thread) (is_waiting ws u.thread) k.apart).0 ∙ same_true w.thread u.thread (sym same ∙ equal))

  -- a waiter's thread is left
  left_of : (d : Configuration) (w : Waiter) → WaiterFits p d.threads d.stacks w → (th : Thread) × (slice_get d.threads w.thread ≡ Some (Some th))
  left_of d w h = by (slice_get d.threads w.thread) h
    where
      by : (o : Option (Option Thread)) → IsSomeAnd o (ThreadAtWait p d.stacks w) → (th : Thread) × (o ≡ Some (Some th))
      by None h = absurd h
      by (Some None) h = absurd h
      by (Some (Some th)) h = (th, refl)

  all_good : (v : World) (u : Turn) (wake : ℕ) (d : Configuration) (ws : List Waiter) → Waking v u wake d ws → IsSomeAnd (wakes_all p wake ws d) (λ e. Waking v u wake e [])
  all_good v u wake d [] k = k
  all_good v u wake d (w ∷ ws) k =
      let r = left_of d w k.rest.0 in
      and_then (turn_of p d w.thread) _ (λ x. Placed p t d x × (x.thread ≡ w.thread)) (λ e. Waking v u wake e []) (has_place p t typed d w.thread r.0 k.going.fits r.1) (λ x pl.
      and_then (wakes_one p wake d x) (wakes_all p wake ws) (λ e. Waking v u wake e ws) (λ e. Waking v u wake e []) (one_good v u wake d w ws k x pl.0 pl.1) (λ e h. all_good v u wake e ws h))

  pub wakes_good : (v : World) (c : Configuration) (u : Turn) (many : ℕ) (cell : CellId) → HasTurn p t c u → ActFits p t (world p.tables c) u.top.block u.top.at (acts.Wakes many cell) → GoesWell p t v (futex_wakes p c u many cell)
  wakes_good v c u many cell k h =
      tried_good p t typed v c u _ _ (λ d. (d ≡ cell) × (leaf_at c.objects cell ≡ Some h.0.class)) k.going k.turned (alive_fits (world p.tables c) cell h.0.class h.0.there) (λ d same fit.
      subst (λ d. GoesWell p t v (wakes_these p c u d (take many (filter (is_at d) c.waiters)))) (sym fit.0) (these (take many (filter (is_at cell) c.waiters)) fit.1
      (take_fits p c.threads c.stacks many _ (kept_fits p c.threads c.stacks (is_at cell) c.waiters k.going.fits.waiters)) (take_among many _ u.thread (kept_among (is_at cell) c.waiters u.thread k.going.awake)) (take_short many (filter (is_at cell) c.waiters))))
    where
      these : (ws : List Waiter) → leaf_at c.objects cell ≡ Some h.0.class → WaitersFit p c.threads c.stacks ws → is_waiting ws u.thread ≡ false → length ws ≤ many → GoesWell p t v (wakes_these p c u cell ws)
      these ws leaf fit apart few =
          let x = record c { waiters = without ws c.waiters } in
          let d = logged u.thread (kinds.Wake cell (length ws)) x in
          let f : WellTyped p t x = waiters_fit p t typed c (without ws c.waiters) c.lines k.going.fits (left_fits p c.threads c.stacks ws c.waiters k.going.fits.waiters) in
          let fits : WellTyped p t d = logged_fits x u.thread (kinds.Wake cell (length ws)) f tt (record { thread = k.known; child = tt; cell = has_cell p c cell h.0.class k.going.fits.objects leaf; wake = tt; position = tt }) (some_is _ _ h.0.class leaf tt) (λ j. refl) in
          let start : Waking (world p.tables c) u (length c.log) d ws = record {
            going = record { fits = fits; frames = k.going.frames; there = k.going.there; awake = left_among ws c.waiters u.thread k.going.awake };
            rest = fit;
            awake = λ i q. gone_all ws c.waiters i q;
            apart = apart;
            wakes = wake-numbered c.log u.thread cell (length ws);
            same = refl;
          } in
          on_good p t v (wakes_all p (length c.log) ws d) _ (λ e. Waking (world p.tables c) u (length c.log) e []) (all_good (world p.tables c) u (length c.log) d ws start) (λ e made q.
          let turn : Turned p t (world p.tables e) u = subst (λ w. Turned p t w u) (sym q.same) k.turned in
          given_good p t typed v e u (int32 p.tables.types ∷ []) _ q.going turn.top turn.below h.0.gives (int32_fits p t typed (world p.tables e) (length ws) (omega (arith, few, h.1))))
