-- A step is counted, and stays in bounds; a run has an ending.
use Rattle.std.specs.Prelude.{◌≡◌, ◌≤◌, ◌<◌, ◌+◌, ◌++◌, ◌||◌, ◌^◌, ◌==◌, ℕ, zero, suc, Bool, true, false, List, [], ◌∷◌, Option, Some, None, All, length, filter, take, find, map, slice_get, refl, reverse, if◌then◌else◌}
use Rattle.std.specs.List.{list_any, IsDistinct, AllByRecursion}
use Rattle.std.proofs.Common.{sym, ◌∙◌, ap, subst, inl, inr, arith, cond, eqb, lit<}
use Rattle.std.proofs.lemmas.Bool.{false≢true}
use Rattle.std.proofs.lemmas.Bool.Decides.{eqb_tells}
use Rattle.std.proofs.lemmas.List.Elements.{All-weaker}
use Rattle.std.proofs.lemmas.Map.Steps.{length-le_from_distinct_below}
use Rattle.std.proofs.lemmas.Option.{slice_get_within}
use Rattle.mu_values.specs.declared.cells.CellId.{CellId}
use Rattle.mem_axioms.specs.declared.types.Kind.TheVariants as kinds
use Rattle.mu_base.specs.declared.order.Order.{Order}
use Rattle.type_definitions.specs.Leaves.{times}
use Rattle.mu_values.specs.declared.scalars.Scalar.{Scalar}
use Rattle.mu_model.specs.Acts as acts
use Rattle.frames.specs.Activations.{Activation}
use Rattle.model_laws.specs.Lemmas.Basics.{some_of}
use Rattle.model_laws.specs.Lemmas.Counting.{Done, Every, Within, accesses_done, added_done, asks_done, calls_done, chooses_done, ended_within, every_on, finishes_done, given_done, goes_done, here, kills_done, leaves_done, logged_within, loosen, makes_stack_done, onto_done, refused_done, returns_done, stack_within, starts_done, swaps_done, throws_done, times_out_done, trapped_done, tried_done, waits_done, watches_done}
use Rattle.model_laws.specs.Lemmas.Keeps.{at_place}
use Rattle.model_laws.specs.Lemmas.Proved.{clients_settle}
use Rattle.model_laws.specs.Lemmas.Waiting.{or_false}
use Rattle.model_laws.specs.Bounds.{FirstIsInBounds, HasEnding, InBounds, RunsEnd, RunsStaySmall, StepsStayInBounds, depth}
use Rattle.model_laws.specs.Places.{Places}
use Rattle.model_laws.specs.ThreadsFit.{ThreadAtWait, WaitersFit, is_waiting}
use Rattle.model_laws.specs.WellTyped.{Settles, WellTyped}
use Rattle.mu_model.specs.Acts.{Act, Program}
use Rattle.mu_model.specs.Answers.{advanced, answer_of, typed}
use Rattle.mu_threads.specs.Picks.{pick}
use Rattle.mu_model.specs.Changes.{frames_end, logged, stack_becomes, thread_changes}
use Rattle.mu_model.specs.Clients.{Client}
use Rattle.futex.specs.declared.waiters.Waiter.{Waiter}
use Rattle.mu_model.specs.Configuration.{Active, Configuration, Dead, Ready, Stack, Thread}
use Rattle.mu_model.specs.Frames.{called, passed}
use Rattle.mu_model.specs.Objects.{object_added, owning}
use Rattle.mu_model.specs.Outcomes.{Asks, End, Next, Outcome, Stuck}
use Rattle.mu_model.specs.Run.{Breaks, Ends, Run, Unfinished, begins_in, behind, goes_on, run, client_answers, with_client}
use Rattle.mu_model.specs.Step.{performed, picked, picking_thread, runnable, step, ends_or_picks, threads_from, turned, turns, with_own}
use Rattle.mu_model.specs.Turns.{Turn, active_on, turn_at, turn_of}
use Rattle.mu_model.specs.Types.{type_graph}
use Rattle.futex.specs.Waiting.{is_at, is_of, without}
use Rattle.mu_model.specs.Waiting.{futex_wakes, wakes_all, wakes_one, wakes_these, was_woken}
use Rattle.mu_model.specs.declared.endings.Ending.TheVariants.{Budget}
use Rattle.mu_model.specs.declared.lines.Line.{Line}
use Rattle.mu_model.specs.declared.lines.Note.TheVariants.{Exited}
use Rattle.std.proofs.lemmas.List.Elements.{All-cons, All-nil}
use Rattle.typed_heap.specs.Objects.{leaf_classes, run_classes}
use Rattle.typed_heap.specs.Places.{with_some}

pub some_inside : {A B : Type 0} (o : Option A) (f : A → Option B) (b : B) → with_some o f ≡ Some b → (a : A) × (o ≡ Some a) × (f a ≡ Some b)
some_inside None f b e = cc
some_inside (Some a) f b e = (a, refl, e)

-- ---- the frames of a thread are those of a stack

active_depth : (i : ℕ) (s : Stack) (fs : List Activation) → active_on i s ≡ Some fs → depth s ≡ length fs
active_depth i (Ready gs) fs e = cc
active_depth i Dead fs e = cc
active_depth i (Active j gs) fs e = by (j == i) e
  where
    by : (b : Bool) → (if b then Some gs else None) ≡ Some fs → length gs ≡ length fs
    by true e = let same : gs ≡ fs = cc in ap length same
    by false e = cc

frames_depth : (p : Program) (i k : ℕ) (fs : List Activation) (x : Turn) → turn_at p i k fs ≡ Some x → length fs ≡ suc (length x.below)
frames_depth p i k [] x e = cc
frames_depth p i k (f ∷ fs) x e =
    let r = some_inside (p.doing f.block f.at f.vars) _ x e in
    let same : fs ≡ x.below = cc in
    ap suc (ap length same)

turn_depth : (p : Program) (c : Configuration) (i n : ℕ) (x : Turn) → turn_of p c i ≡ Some x → All (λ s. depth s ≤ n) c.stacks → suc (length x.below) ≤ n
turn_depth p c i n x e all =
    let o = some_inside (slice_get c.threads i) _ x e in
    let t = some_inside o.0 _ x o.2 in
    let s = some_inside (slice_get c.stacks t.0.stack) _ x t.2 in
    let fs = some_inside (active_on i s.0) (turn_at p i t.0.stack) x s.2 in
    let few : depth s.0 ≤ n = at_place (λ s. depth s ≤ n) c.stacks t.0.stack s.0 all s.1 in
    omega (arith, active_depth i s.0 fs.0 fs.1, frames_depth p i t.0.stack fs.0 x fs.2, few)

-- ---- no more threads wait than there are

unequal : (n m : ℕ) → (n == m) ≡ false → eqb m n ≡ false
unequal n m e = elim (eqb_tells m n) [ inl r ↦ elim (eqb_tells n m) [ inl q ↦ absurd (false≢true (sym e ∙ q.0)) | inr q ↦ absurd (q.1 (sym r.1)) ] | inr r ↦ r.0 ]

all_unequal : (ws : List Waiter) (i : ℕ) → is_waiting ws i ≡ false → AllByRecursion (λ y. eqb i y ≡ false) (map (λ (w : Waiter). w.thread) ws)
all_unequal [] i e = tt
all_unequal (w ∷ ws) i e = let r = or_false (w.thread == i) (is_waiting ws i) e in (unequal w.thread i r.0, all_unequal ws i r.1)

waiters_apart : (p : Program) (ts : List (Option Thread)) (ss : List Stack) (ws : List Waiter) → WaitersFit p ts ss ws → IsDistinct eqb (map (λ (w : Waiter). w.thread) ws)
unfolding IsDistinct
waiters_apart p ts ss [] h = tt
waiters_apart p ts ss (w ∷ ws) h = (all_unequal ws w.thread h.1, waiters_apart p ts ss ws h.2)

waiters_below : (p : Program) (ts : List (Option Thread)) (ss : List Stack) (ws : List Waiter) → WaitersFit p ts ss ws → (q : ℕ) → list_any (eqb q) (map (λ (w : Waiter). w.thread) ws) ≡ true → q < length ts
waiters_below p ts ss [] h q e = absurd (false≢true e)
waiters_below p ts ss (w ∷ ws) h q e = by (eqb q w.thread) refl e (waiters_below p ts ss ws h.2 q)
  where
    by : (b : Bool) → eqb q w.thread ≡ b → (b || list_any (eqb q) (map (λ (w : Waiter). w.thread) ws)) ≡ true → (list_any (eqb q) (map (λ (w : Waiter). w.thread) ws) ≡ true → q < length ts) → q < length ts
    by true k e rest = elim (eqb_tells q w.thread) [
      | inl r ↦ (let x : (o : Option Thread) × (slice_get ts w.thread ≡ Some o) × ThreadAtWait p ss w o = some_of _ (ThreadAtWait p ss w) h.0 in omega (arith, r.1, slice_get_within ts w.thread x.0 x.1))
      | inr r ↦ absurd (false≢true (sym r.0 ∙ k))
    ]
    by false k e rest = rest e

pub waiters_few : (p : Program) (ts : List (Option Thread)) (ss : List Stack) (ws : List Waiter) → WaitersFit p ts ss ws → length ws ≤ length ts
waiters_few p ts ss ws h =
    omega (arith, sym (threads_length ws), length-le_from_distinct_below (map (λ (w : Waiter). w.thread) ws) (length ts) (waiters_apart p ts ss ws h) (waiters_below p ts ss ws h))
  where
    threads_length : (ws : List Waiter) → length (map (λ (w : Waiter). w.thread) ws) ≡ length ws
    threads_length [] = refl
    threads_length (w ∷ ws) = ap suc (threads_length ws)

pub filter_short : (q : Waiter → Bool) (ws : List Waiter) → length (filter q ws) ≤ length ws
filter_short q [] = omega arith
filter_short q (w ∷ ws) = by (q w) (filter_short q ws)
  where
    by : (b : Bool) → length (filter q ws) ≤ length ws → length (cond b (w ∷ filter q ws) (filter q ws)) ≤ suc (length ws)
    by true l = omega (arith, l)
    by false l = omega (arith, l)

pub take_short : (n : ℕ) (ws : List Waiter) → length (take n ws) ≤ length ws
take_short zero ws = omega arith
take_short (suc n) [] = omega arith
take_short (suc n) (w ∷ ws) = omega (arith, take_short n ws)

-- ---- waking

module _ (p : Program) (b : Configuration) (n : ℕ) where
  wakes_within : (wake : ℕ) (ws : List Waiter) (d e : Configuration) (k : ℕ) → Within p b n k 0 0 d → wakes_all p wake ws d ≡ Some e → Within p b n (length ws + k) 0 0 e
  wakes_within wake [] d e k h q =
      let same : d ≡ e = cc in
      let all : Within p b n k 0 0 e = subst (Within p b n k 0 0) same h in
      (all.0, all.1, omega (arith, all.2), all.3, all.4, all.5)
  wakes_within wake (w ∷ ws) d e k h q =
      let u = some_inside (turn_of p d w.thread) _ e q in
      let m = some_inside (wakes_one p wake d u.0) (wakes_all p wake ws) e u.2 in
      let f = some_inside (passed p u.0.top ((was_woken ∷ []) ∷ [])) _ m.0 m.1 in
      let l : Configuration = logged u.0.thread (kinds.Woken wake) d in
      let same : stack_becomes u.0.stack (Active u.0.thread (f.0 ∷ u.0.below)) l ≡ m.0 = cc in
      let one : Within p b n (suc k) 0 0 m.0 = subst (Within p b n (suc k) 0 0) same (stack_within p b n l (suc k) 0 0 u.0.stack (Active u.0.thread (f.0 ∷ u.0.below)) (logged_within p b n d k 0 0 u.0.thread (kinds.Woken wake) h) (turn_depth p d w.thread n u.0 u.1 h.5)) in
      let rest = wakes_within wake ws m.0 e (suc k) one m.2 in
      (rest.0, rest.1, omega (arith, rest.2), rest.3, rest.4, rest.5)

  module _ (u : Turn) (low : suc (suc (length u.below)) ≤ n) (start : Within p b n 0 0 0 b) (few : length b.waiters ≤ 64) where
    wakes_done : (many : ℕ) (cell : CellId) → Every (Done p b n) (futex_wakes p b u many cell)
    wakes_done many cell = tried_done p b n u low b _ _ (loosen p b n b 0 0 0 (omega arith) (omega arith) (omega arith) start) (λ at q. these at (take many (filter (is_at at) b.waiters)) (omega (arith, take_short many (filter (is_at at) b.waiters), filter_short (is_at at) b.waiters, few)))
      where
        these : (at : CellId) (ws : List Waiter) → length ws ≤ 64 → Every (Done p b n) (wakes_these p b u at ws)
        these at ws l =
            let d = logged u.thread (kinds.Wake at (length ws)) (record b { waiters = without ws b.waiters }) in
            every_on (Done p b n) (wakes_all p (length b.log) ws d) _ (λ e q.
            let h = wakes_within (length b.log) ws d e 1 (logged_within p b n (record b { waiters = without ws b.waiters }) 0 0 0 u.thread (kinds.Wake at (length ws)) start) q in
            given_done p b n u low e _ (loosen p b n e (length ws + 1) 0 0 (omega (arith, l)) (omega arith) (omega arith) h))

    own_done : (r : Scalar) → Every (Done p b n) (performed p b u (acts.SetsOwn r))
    own_done r = given_done p b n u low (thread_changes u.thread (with_own r) b) [] (loosen p b n b 0 0 0 (omega arith) (omega arith) (omega arith) start)

    fences_done : (o : Order) → Every (Done p b n) (performed p b u (acts.Fences o))
    fences_done o = given_done p b n u low (logged u.thread (kinds.Fence o) b) [] (loosen p b n (logged u.thread (kinds.Fence o) b) 1 0 0 (omega arith) (omega arith) (omega arith) (logged_within p b n b 0 0 0 u.thread (kinds.Fence o) start))

    performed_done : (a : Act) → Every (Done p b n) (performed p b u a)
    performed_done (acts.Gives vs) = given_done p b n u low b vs (here p b n u low start few)
    performed_done (acts.Faults k) = refused_done p b n u low b k (here p b n u low start few)
    performed_done (acts.Goes g) = goes_done p b n u low start few g
    performed_done (acts.Calls f vs) = calls_done p b n u low start few f vs
    performed_done (acts.Replaces f vs) = tried_done p b n u low b _ _ (here p b n u low start few) (λ k q. onto_done p b n u low (frames_end (u.top ∷ []) b) (Some (called p f vs k)) (ended_within p b n b 66 1 1 (u.top ∷ []) (here p b n u low start few)))
    performed_done (acts.Returns vs) = returns_done p b n u low start few vs
    performed_done (acts.Throws e) = throws_done p b n u low start few e
    performed_done (acts.Casts d s) = tried_done p b n u low b _ _ (here p b n u low start few) (λ x q. given_done p b n u low b _ (here p b n u low start few))
    performed_done (acts.Finds way s) = tried_done p b n u low b _ _ (here p b n u low start few) (λ x q. given_done p b n u low b _ (here p b n u low start few))
    performed_done (acts.Makes x) =
        let cs = leaf_classes (type_graph p.tables) x in
        asks_done p b n u low start few (length cs) _ (given_done p b n u low (object_added p b cs) _ (added_done p b n u low start few cs))
    performed_done (acts.MakesHybrid x m) =
        let cs = leaf_classes (type_graph p.tables) x ++ times m (run_classes (type_graph p.tables) x) in
        asks_done p b n u low start few _ _ (given_done p b n u low (object_added p b cs) _ (added_done p b n u low start few cs))
    performed_done (acts.MakesOwn x) =
        let cs = leaf_classes (type_graph p.tables) x in
        asks_done p b n u low start few (length cs) _ (given_done p b n (owning u (length b.objects)) low (object_added p b cs) _ (added_done p b n u low start few cs))
    performed_done (acts.Accesses a cell) = accesses_done p b n u low start few a cell
    performed_done (acts.Fences o) = fences_done o
    performed_done (acts.Traps cs) = trapped_done p b n u low start few None cs
    performed_done (acts.Watches m cs g) = watches_done p b n u low start few m cs g
    performed_done (acts.Chooses m g h) = chooses_done p b n u low start few m g h
    performed_done (acts.Swaps s cs e) = swaps_done p b n u low start few s cs e
    performed_done (acts.Leaves s e) = leaves_done p b n u low start few s e
    performed_done (acts.Starts s r e) = starts_done p b n u low start few s r e
    performed_done (acts.MakesStack f) = makes_stack_done p b n u low start few f
    performed_done (acts.KillsStack s) = kills_done p b n u low start few s
    performed_done acts.Tells = given_done p b n u low b _ (here p b n u low start few)
    performed_done acts.Exits = finishes_done p b n u low start few (Exited u.thread)
    performed_done (acts.SetsOwn r) = own_done r
    performed_done acts.TellsOwn = every_on (Done p b n) _ _ (λ o q. every_on (Done p b n) o _ (λ x r. given_done p b n u low b _ (here p b n u low start few)))
    performed_done (acts.Waits timed y cell) = waits_done p b n u low start few timed y cell
    performed_done (acts.Wakes m cell) = wakes_done m cell

-- ---- a step

module _ (p : Program) (t : Places) (c : Configuration) (h : WellTyped p t c) (m : ℕ) (all : All (λ s. depth s ≤ m) c.stacks) where
  abbrev base : Configuration
  base = picked c c.picks

  begins_within : Within p base (suc m) 0 0 0 base
  begins_within = (refl, refl, omega arith, omega arith, omega arith, All-weaker (λ s. depth s ≤ m) (λ s. depth s ≤ suc m) (λ s l. omega (arith, l)) c.stacks all)

  turns_done : (ps : List ℕ) (i : ℕ) → Every (Done p base (suc m)) (turns p (picked c ps) i)
  turns_done ps i = every_on (Done p base (suc m)) (turn_of p (picked c ps) i) _ (λ u q. by u (omega (arith, turn_depth p (picked c ps) i m u q all)) (find (is_of i) c.waiters))
    where
      few : length c.waiters ≤ 64
      few = omega (arith, waiters_few p c.threads c.stacks c.waiters h.waiters, h.most)

      by : (u : Turn) → suc (suc (length u.below)) ≤ suc m → (w : Option Waiter) → Every (Done p base (suc m)) (turned p (picked c ps) w u)
      by u low (Some w) = times_out_done p (picked c ps) (suc m) u low begins_within few w
      by u low None = every_on (Done p base (suc m)) u.doing.act _ (λ a q. performed_done p (picked c ps) (suc m) u low begins_within few a)

  pub step_done : Every (Done p base (suc m)) (step p c)
  step_done = by (threads_from 0 c.threads) (runnable c)
    where
      choice : (x : Bool) (is : List ℕ) → Every (Done p base (suc m)) (if x then End [] (Budget c.steps) else picking_thread p c is)
      choice true is = tt
      choice false is = let k = pick (length is) c.picks in every_on (Done p base (suc m)) (slice_get is k.0) _ (λ i q. turns_done k.1 i)

      by : (ts is : List ℕ) → Every (Done p base (suc m)) (ends_or_picks p c ts is)
      by [] is = tt
      by (x ∷ ts) [] = tt
      by (x ∷ ts) (i ∷ is) = choice (c.steps == c.budget) (i ∷ is)

  told_done : (k : Client) (o : Outcome) → Every (Done p base (suc m)) o → Every (Done p base (suc m)) (client_answers p k o)
  told_done k (Next d) g = g
  told_done k (End ls e) g = g
  told_done k (Asks view go) g = by (go (answer_of p.tables view k)) (g (answer_of p.tables view k))
    where
      by : (o : Outcome) → Every (Done p base (suc m)) o → Every (Done p base (suc m)) (with_client (advanced k) o)
      by (Next d) g = g
      by (End ls e) g = g
      by (Asks view go) g = g
      by Stuck g = g
  told_done k Stuck g = g

  pub told_next : (d : Configuration) → client_answers p c.client (step p c) ≡ Next d → Done p base (suc m) d
  told_next d q = subst (Every (Done p base (suc m))) q (told_done c.client (step p c) step_done)

-- ---- the laws

deepest : (ss : List Stack) → (m : ℕ) × All (λ s. depth s ≤ m) ss
deepest [] = (0, All-nil (λ s. depth s ≤ 0))
deepest (s ∷ ss) =
    let r = deepest ss in
    let m : ℕ = depth s + r.0 in
    (m, All-cons (λ s. depth s ≤ m) s ss (omega arith) (All-weaker (λ s. depth s ≤ r.0) (λ s. depth s ≤ m) (λ s l. omega (arith, l)) ss r.1))

pub first_in_bounds : FirstIsInBounds
first_in_bounds p s f c first = by (p.body f) first
  where
    by : (o : Option (Option ℕ)) → with_some {B = Configuration} o (λ b. with_some {B = Configuration} b (λ block. Some (begins_in p s f block))) ≡ Some c → InBounds (length s.objects) c
    by None e = cc
    by (Some None) e = cc
    by (Some (Some block)) e =
        let same : begins_in p s f block ≡ c = cc in
        subst (InBounds (length s.objects)) same (record {
          events = omega arith;
          objects = omega arith;
          stacks = omega arith;
          frames = All-cons (λ s. depth s ≤ 1 + 0) (Active 0 (called p f [] block ∷ [])) [] (omega arith) (All-nil (λ s. depth s ≤ 1 + 0));
        })

pub steps_in_bounds : StepsStayInBounds
steps_in_bounds p t c d n typed h q =
    let r = deepest c.stacks in
    let k = told_next p t c h r.0 r.1 d q in
    record { steps = k.0; budget = k.1; bounds = λ b. grown b (told_next p t c h (1 + c.steps) b.frames d q) }
  where
    grown : InBounds n c → Done p (picked c c.picks) (suc (1 + c.steps)) d → InBounds n d
    grown b k = record {
      events = omega (arith, k.0, k.2, b.events);
      objects = omega (arith, k.0, k.3, b.objects);
      stacks = omega (arith, k.0, k.4, b.stacks);
      frames = All-weaker (λ s. depth s ≤ suc (1 + c.steps)) (λ s. depth s ≤ 1 + d.steps) (λ s l. omega (arith, l, k.0)) d.stacks k.5;
    }

pub runs_small : RunsStaySmall
runs_small p t c n h b million room =
    let big : 66000001 < 2 ^ 32 = lit< tt in
    let made = h.steps in
    record {
      events = omega (arith, big, made, million, b.events);
      objects = omega (arith, room, made, million, b.objects);
      stacks = omega (arith, big, made, million, b.stacks);
      threads = h.most;
      frames = All-weaker (λ s. depth s ≤ 1 + c.steps) (λ s. depth s < 2 ^ 32) (λ s l. omega (arith, big, made, million, l)) c.stacks b.frames;
    }

ending_behind : (ls : List Line) (r : Run) → HasEnding r → HasEnding (behind ls r)
ending_behind ls (Ends steps lines e) h = tt
ending_behind ls Breaks h = absurd h
ending_behind ls Unfinished h = absurd h

pub runs_end : RunsEnd
runs_end p t c zero typed h l = absurd (omega (arith, l))
runs_end p t c (suc n) typed h l =
    by (client_answers p c.client (step p c)) (clients_settle p t c typed h) (λ d q k. (let s = steps_in_bounds p t c d 0 typed h q in runs_end p t d n typed k (omega (arith, l, s.steps, s.budget, h.steps, k.steps))))
  where
    by : (o : Outcome) → Settles p t o → ((d : Configuration) → o ≡ Next d → WellTyped p t d → HasEnding (run p n d)) → HasEnding (goes_on (run p n) o)
    by (Next d) k rest = ending_behind (reverse d.lines) (run p n d) (rest d refl k)
    by (End ls e) k rest = tt
    by (Asks view go) k rest = absurd k
    by Stuck k rest = absurd k
