-- What the search finds is shown by a leaf of its tree.
use Rattle.std.specs.Prelude.{◌≡◌, ◌≢◌, ◌⊎◌, ◌+◌, ◌<◌, ◌≤◌, ℕ, zero, suc, Bool, true, false, ◌==◌, nat_lt, not, List, [], ◌∷◌, ◌++◌, Option, Some, None, option_map, filter, flat_map, find, length, reverse, slice_get, take, refl, if◌then◌else◌}
use Rattle.std.proofs.Common.{sym, ◌∙◌, ap, subst, arith, inl, inr}
use Rattle.std.proofs.lemmas.Bool.{eq-eqb, cases_lt}
use Rattle.std.proofs.lemmas.Bool.Decides.{eqb_tells}
use Rattle.typed_heap.specs.Objects.{HeapObject}
use Rattle.mu_model.specs.declared.lines.Line.{Line}
use Rattle.mu_model.specs.declared.endings.Ending.TheVariants as endings
use Rattle.mu_model.specs.Configuration.{Configuration}
use Rattle.mu_model.specs.Acts.{Program}
use Rattle.mu_model.specs.Outcomes.{Outcome, Next, End, Asks, Stuck, on}
use Rattle.mu_model.specs.Step.{threads_from, is_blocked, runnable, turns, picked}
use Rattle.mu_model.specs.Run.{Run, Ends, Breaks, behind, client_answers}
use Rattle.odometer.specs.Trees.{Tree, Leaf, leaf, branches, grown, pick}
use Rattle.odometer.specs.GrownLaws.{leaf_branches, leaf_grown}
use Rattle.seen_runs.specs.Seen.{Seen, seen_at}
use Rattle.local_steps.specs.IsLocal.{is_local, least_local}
use Rattle.local_laws.specs.Lemmas.Forms.{Effect, effect, result, Locals, locals}
use Rattle.local_laws.specs.Lemmas.Running.{In, found_in}
use Rattle.exchange_laws.specs.Sleep.{At as AtNumber}
use Rattle.exchange_steps.specs.Made.{some-pick, slice-below}
use Rattle.sleep_moves.specs.Moves.{Move, thread_moves, moves, move_made, are_apart, asleep, sleeps}
use Rattle.sleep_laws.specs.Fits.{plain, Advances, Fits}
use Rattle.sleep_laws.specs.SleepTree.{goes_on_sleeping, one_move, mover_tree, ends_or_moves, first_sleeping, sleep_tree}
use Rattle.sleep_laws.specs.Lemmas.Searches.{Found, here, there}
use Rattle.sleep_laws.specs.Lemmas.Places.{Place, At, Gone, local_first, comes, stays_at, goes_first, settled, over_by, over, place_moves, move_step, place_apart, GoodAt}
use Rattle.sleep_laws.specs.Lemmas.LocalRuns.{append_nil, local_comes}
use Rattle.sleep_laws.specs.Lemmas.Turning.{at_get, at_below, given_by, move_turn}
use Rattle.sleep_laws.specs.Lemmas.Diamonds.{some_none}
use Rattle.sleep_laws.specs.Lemmas.Runs.{seen_with, seen_behind, flat_at, Finds, stays_gone, calm_here, beyond, hides_local, within}

module _ (p : Program) (globals : ℕ) (os : List HeapObject) (most : ℕ) (Fit : Configuration → Type 0) (fits : Fits p Fit) where
  -- some leaf of the tree is a run that shows this
  pub record Shows (t : Tree (Option Run)) (ls : List Line) (o : Option Seen) : Type 0 where
    pub numbers : List ℕ
    pub run : Run
    pub is : leaf t numbers ≡ Some run
    pub says : seen_with globals os ls run ≡ o

  abbrev FindsFrom : ℕ → Type 0
  FindsFrom n = (c : Configuration) (ls : List Line) (sleep : List Move) (o : Option Seen) (m : ℕ) → c.steps + n ≡ suc c.budget → c.steps ≤ c.budget → Fit c → c.budget ≤ c.steps + m → c.budget ≤ most
      → Finds p globals os most Fit fits (settled p globals os m (At (plain c) ls)) sleep o → Shows (sleep_tree p n c sleep) ls o

  -- of a run that is over nothing but that is found
  gone_finds : (s o : Option Seen) (sleep : List Move) → Finds p globals os most Fit fits (Gone s) sleep o → s ≡ o
  gone_finds s o sleep (here e) = let same : Some s ≡ Some o = e in cc
  gone_finds s o sleep (there v k at q f) = some_none v

  over_finds : (x : Place) (s o : Option Seen) (sleep : List Move) → over p globals os x ≡ Some s → Finds p globals os most Fit fits x sleep o → s ≡ o
  over_finds x s o sleep w (here e) = let same : Some s ≡ Some o = sym w ∙ e in cc
  over_finds x s o sleep w (there v k at q f) = some_none (sym w ∙ v)

  module _ (n : ℕ) (ih : FindsFrom n) (c : Configuration) (ls : List Line) (o : Option Seen) (count : c.steps + suc n ≡ suc c.budget) (few : c.steps ≤ c.budget) (fit : Fit c) (much : c.budget ≤ most) where
    -- what comes of a move or a local step
    found_behind : (sleep : List Move) (m : ℕ) (x : Outcome) → c.budget ≤ suc c.steps + m → ((d : Configuration) → x ≡ Next d → Advances p c d)
        → Finds p globals os most Fit fits (settled p globals os m (comes p globals os ls x)) sleep o → Shows (goes_on_sleeping (λ d. sleep_tree p n d sleep) x) ls o
    found_behind sleep m (Next d) room h f =
        let a = h d refl in
        let k = fits.counts c d fit a in
        let k0 = k.0 in
        let k1 = k.1 in
        let low = a.room in
        let s = ih d (ls ++ reverse d.lines) sleep o m (omega (arith, k0, k1, count)) (omega (arith, k0, k1, low)) (fits.goes c d fit a) (omega (arith, k0, k1, room)) (omega (arith, k1, much)) f in
        record {
          numbers = s.numbers;
          run = behind (reverse d.lines) s.run;
          is = leaf_grown (λ r. Leaf (option_map (behind (reverse d.lines)) r)) (sleep_tree p n d sleep) s.numbers ∙ ap (option_map (behind (reverse d.lines))) s.is;
          says = seen_behind globals os ls (reverse d.lines) s.run ∙ s.says;
        }
    found_behind sleep m (End xs e) room h f =
        record { numbers = []; run = Ends [] xs e; is = refl; says = gone_finds (seen_at globals os (ls ++ xs) e) o sleep (subst (λ s. Finds p globals os most Fit fits s sleep o) (stays_gone p globals os most Fit fits m (seen_at globals os (ls ++ xs) e)) f) }
    found_behind sleep m (Asks view go) room h f = record { numbers = []; run = Breaks; is = refl; says = gone_finds None o sleep (subst (λ s. Finds p globals os most Fit fits s sleep o) (stays_gone p globals os most Fit fits m None) f) }
    found_behind sleep m Stuck room h f = record { numbers = []; run = Breaks; is = refl; says = gone_finds None o sleep (subst (λ s. Finds p globals os most Fit fits s sleep o) (stays_gone p globals os most Fit fits m None) f) }

    -- the leaf of a move by its number
    move_at : (sleep : List Move) (t i : ℕ) (ts is : List ℕ) → runnable c ≡ i ∷ is → (c.steps == c.budget) ≡ false → (k j y : ℕ) (a : Move) → slice_get (i ∷ is) k ≡ Some j → AtNumber a y (thread_moves p c j) → sleeps a sleep ≡ false
        → (x : List Move) → x ≡ asleep c a sleep (flat_map (thread_moves p c) (take k (i ∷ is)) ++ take y (thread_moves p c j))
        → Shows (goes_on_sleeping (λ d. sleep_tree p n d x) (client_answers p c.client (move_made p c a))) ls o → Shows (ends_or_moves (sleep_tree p n) p c sleep (t ∷ ts) (i ∷ is)) ls o
    move_at sleep t i ts is r room k j y a at1 at2 awake x e s = record { numbers = first.0; run = s.run; is = to_kid ∙ to_move ∙ here_is; says = s.says }
      where
        ms : List Move
        ms = thread_moves p c j

        second : (qs : List ℕ) × (pick (length (thread_moves p c j)) qs ≡ (y, s.numbers))
        second = some-pick (length (thread_moves p c j)) y s.numbers (at_below a y (thread_moves p c j) at2)

        first : (qs : List ℕ) × (pick (length (i ∷ is)) qs ≡ (k, second.0))
        first = some-pick (length (i ∷ is)) k second.0 (slice-below (i ∷ is) k j at1)

        before : List Move
        before = flat_map (thread_moves p c) (take k (i ∷ is))

        kids : ℕ → Tree (Option Run)
        kids k = mover_tree (sleep_tree p n) p c sleep (flat_map (thread_moves p c) (take k (i ∷ is))) (slice_get (i ∷ is) k)

        moves_of : ℕ → Tree (Option Run)
        moves_of y = one_move (sleep_tree p n) p c sleep (flat_map (thread_moves p c) (take k (i ∷ is)) ++ take y (thread_moves p c j)) (slice_get (thread_moves p c j) y)

        to_kid : leaf (ends_or_moves (sleep_tree p n) p c sleep (t ∷ ts) (i ∷ is)) first.0 ≡ leaf (branches (length (thread_moves p c j)) moves_of) second.0
        to_kid =
            ap (λ (b : Bool). leaf (if b then Leaf (Some (Ends [] [] (endings.Budget c.steps))) else branches (length (i ∷ is)) kids) first.0) room
            ∙ leaf_branches (length (i ∷ is)) kids first.0
            ∙ ap (λ (q : ℕ × List ℕ). leaf (kids q.0) q.1) first.1
            ∙ ap (λ j. leaf (mover_tree (sleep_tree p n) p c sleep (flat_map (thread_moves p c) (take k (i ∷ is))) j) second.0) at1

        to_move : leaf (branches (length (thread_moves p c j)) moves_of) second.0 ≡ leaf (goes_on_sleeping (λ d. sleep_tree p n d (asleep c a sleep (flat_map (thread_moves p c) (take k (i ∷ is)) ++ take y (thread_moves p c j)))) (client_answers p c.client (move_made p c a))) s.numbers
        to_move =
            leaf_branches (length (thread_moves p c j)) moves_of second.0
            ∙ ap (λ (q : ℕ × List ℕ). leaf (moves_of q.0) q.1) second.1
            ∙ ap (λ m. leaf (one_move (sleep_tree p n) p c sleep (flat_map (thread_moves p c) (take k (i ∷ is)) ++ take y (thread_moves p c j)) m) s.numbers) (at_get a y (thread_moves p c j) at2)
            ∙ ap (λ (b : Bool). leaf (if b then Leaf None else goes_on_sleeping (λ d. sleep_tree p n d (asleep c a sleep (flat_map (thread_moves p c) (take k (i ∷ is)) ++ take y (thread_moves p c j)))) (client_answers p c.client (move_made p c a))) s.numbers) awake

        here_is : leaf (goes_on_sleeping (λ d. sleep_tree p n d (asleep c a sleep (flat_map (thread_moves p c) (take k (i ∷ is)) ++ take y (thread_moves p c j)))) (client_answers p c.client (move_made p c a))) s.numbers ≡ Some s.run
        here_is = ap (λ x. leaf (goes_on_sleeping (λ d. sleep_tree p n d x) (client_answers p c.client (move_made p c a))) s.numbers) (sym e) ∙ s.is

    -- where no thread has a local step
    rest_finds : (sleep : List Move) → Finds p globals os most Fit fits (At (plain c) ls) sleep o → Shows (ends_or_moves (sleep_tree p n) p c sleep (threads_from 0 c.threads) (runnable c)) ls o
    rest_finds sleep f = by (threads_from 0 c.threads) (runnable c) refl refl f
      where
        over_is : over p globals os (At (plain c) ls) ≡ over_by p globals os (plain c) ls (threads_from 0 c.threads) (runnable c)
        over_is = within p globals os most Fit fits (plain c) ls few

        lists : (ts is : List ℕ) → threads_from 0 c.threads ≡ ts → runnable c ≡ is → over p globals os (At (plain c) ls) ≡ over_by p globals os (plain c) ls ts is
        lists ts is q r = over_is ∙ ap (λ ts. over_by p globals os (plain c) ls ts (runnable c)) q ∙ ap (over_by p globals os (plain c) ls ts) r

        by : (ts is : List ℕ) → threads_from 0 c.threads ≡ ts → runnable c ≡ is → Finds p globals os most Fit fits (At (plain c) ls) sleep o → Shows (ends_or_moves (sleep_tree p n) p c sleep ts is) ls o
        by [] is q r f =
            record { numbers = []; run = Ends [] [] endings.Done; is = refl; says = ap (λ xs. seen_at globals os xs endings.Done) (append_nil ls) ∙ over_finds (At (plain c) ls) (seen_at globals os ls endings.Done) o sleep (lists [] is q r) f }
        by (t ∷ ts) [] q r f =
            record {
              numbers = [];
              run = Ends [] [] (endings.AllWaiting (t ∷ ts));
              is = refl;
              says = ap (λ xs. seen_at globals os xs (endings.AllWaiting (t ∷ ts))) (append_nil ls) ∙ over_finds (At (plain c) ls) (seen_at globals os ls (endings.AllWaiting (t ∷ ts))) o sleep (lists (t ∷ ts) [] q r) f;
            }
        by (t ∷ ts) (i ∷ is) q r f = elim (eqb_tells c.steps c.budget) [ inl e ↦ spent e.0 f | inr e ↦ room e.0 e.1 f ]
          where
            spent : (c.steps == c.budget) ≡ true → Finds p globals os most Fit fits (At (plain c) ls) sleep o → Shows (ends_or_moves (sleep_tree p n) p c sleep (t ∷ ts) (i ∷ is)) ls o
            spent e f =
                record {
                  numbers = [];
                  run = Ends [] [] (endings.Budget c.steps);
                  is = ap (λ (b : Bool). leaf (if b then Leaf (Some (Ends [] [] (endings.Budget c.steps))) else branches (length (i ∷ is)) (λ k. mover_tree (sleep_tree p n) p c sleep (flat_map (thread_moves p c) (take k (i ∷ is))) (slice_get (i ∷ is) k))) []) e;
                  says = over_finds (At (plain c) ls) None o sleep (lists (t ∷ ts) (i ∷ is) q r ∙ ap (λ (b : Bool). if b then Some None else None) e) f;
                }

            low : c.steps ≢ c.budget → c.steps < c.budget
            low ne = elim (cases_lt c.steps c.budget) [ inl q ↦ q | inr q ↦ absurd (ne (omega (arith, few, q))) ]

            room : (c.steps == c.budget) ≡ false → c.steps ≢ c.budget → Finds p globals os most Fit fits (At (plain c) ls) sleep o → Shows (ends_or_moves (sleep_tree p n) p c sleep (t ∷ ts) (i ∷ is)) ls o
            room e ne (here w) = let no : None ≡ Some o = sym (lists (t ∷ ts) (i ∷ is) q r ∙ ap (λ (b : Bool). if b then Some None else None) e) ∙ w in absurd (cc)
            room e ne (there {a = a} w k at awake f) =
                let z = flat_at (thread_moves p c) a k (runnable c) at in
                let space = low ne in
                let turn = move_turn p c z.1 a z.2 z.4 in
                let s = found_behind (filter (are_apart c a) (sleep ++ take k (moves p c))) most (client_answers p c.client (move_made p c a)) (omega (arith, much))
                (λ d x. record { thread = z.1; number = z.0; runs = z.3; room = space; picks = given_by (length (thread_moves p c z.1)) z.2; made = ap (client_answers p c.client) (sym turn) ∙ x }) f in
                move_at sleep t i ts is r e z.0 z.1 z.2 a (sym (ap (λ is. slice_get is z.0) r) ∙ z.3) z.4 awake (filter (are_apart c a) (sleep ++ take k (moves p c)))
                (ap (λ xs. filter (are_apart c a) (sleep ++ xs)) (z.5 ∙ ap (λ is. flat_map (thread_moves p c) (take z.0 is) ++ take z.2 (thread_moves p c z.1)) r)) s

    -- the next step, local or not
    step_finds : (sleep : List Move) (m : ℕ) → c.budget ≤ c.steps + m → Finds p globals os most Fit fits (settled p globals os m (At (plain c) ls)) sleep o → Shows (sleep_tree p (suc n) c sleep) ls o
    step_finds sleep m much_m f = by (local_first p c) refl
      where
        by : (x : Option ℕ) → local_first p c ≡ x → Shows (sleep_tree p (suc n) c sleep) ls o
        by None e = subst (λ w. Shows (first_sleeping (sleep_tree p n) p c sleep w) ls o) (sym (none (c.steps == c.budget)))
            (rest_finds sleep (subst (λ s. Finds p globals os most Fit fits s sleep o) (calm_here p globals os most Fit fits m (plain c) ls e) f))
          where
            none : (b : Bool) → (if b then None else local_first p c) ≡ None
            none true = refl
            none false = e
        by (Some i) e = elim (eqb_tells c.steps c.budget) [
          | inl q ↦ subst (λ w. Shows (first_sleeping (sleep_tree p n) p c sleep w) ls o) (sym (ap (λ (b : Bool). if b then None else local_first p c) q.0)) (spent (threads_from 0 c.threads) (runnable c) refl found.0 q.0 (hidden m q.1))
          | inr q ↦ room m q.0 q.1 much_m f
        ]
          where
            found : In i (runnable c) × (is_local p c i ≡ true)
            found = found_in (is_local p c) i (runnable c) e

            l : Locals p c i
            l = locals p c i found.1

            hidden : (m : ℕ) → c.steps ≡ c.budget → over p globals os (settled p globals os m (At (plain c) ls)) ≡ Some None
            hidden zero q = ap (λ o. over p globals os (stays_at p globals os (plain c) ls o)) e
            hidden (suc m) q =
                ap (λ o. over p globals os (goes_first p globals os (settled p globals os m) (plain c) ls o)) e
                ∙ ap (λ o. over p globals os (settled p globals os m (comes p globals os ls o))) (local_comes p c i l) ∙ hides_local p globals os most Fit fits m c ls i l.t q (effect p l.u l.a)

            spent : (ts is : List ℕ) → filter (λ i. not (is_blocked c.waiters i)) ts ≡ is → In i is → (c.steps == c.budget) ≡ true → over p globals os (settled p globals os m (At (plain c) ls)) ≡ Some None
                → Shows (ends_or_moves (sleep_tree p n) p c sleep ts is) ls o
            spent [] is q r z w = let no : None ≡ Some i = ap (λ is. slice_get is r.0) q ∙ r.1 in absurd (cc)
            spent (t ∷ ts) [] q r z w = let no : None ≡ Some i = r.1 in absurd (cc)
            spent (t ∷ ts) (j ∷ is) q r z w = record {
              numbers = [];
              run = Ends [] [] (endings.Budget c.steps);
              is = ap (λ (b : Bool). leaf (if b then Leaf (Some (Ends [] [] (endings.Budget c.steps))) else branches (length (j ∷ is)) (λ k. mover_tree (sleep_tree p n) p c sleep (flat_map (thread_moves p c) (take k (j ∷ is))) (slice_get (j ∷ is) k))) []) z;
              says = over_finds (settled p globals os m (At (plain c) ls)) None o sleep w f;
            }

            room : (m : ℕ) → (c.steps == c.budget) ≡ false → c.steps ≢ c.budget → c.budget ≤ c.steps + m → Finds p globals os most Fit fits (settled p globals os m (At (plain c) ls)) sleep o → Shows (sleep_tree p (suc n) c sleep) ls o
            room zero z ne much_m f = absurd (ne (omega (arith, few, much_m)))
            room (suc m) z ne much_m f =
                let low : c.steps < c.budget = elim (cases_lt c.steps c.budget) [ inl q ↦ q | inr q ↦ absurd (ne (omega (arith, few, q))) ] in
                let s = found_behind sleep m (client_answers p c.client (turns p (picked c []) i)) (omega (arith, much_m)) (λ d x. record { thread = i; number = found.0.0; runs = found.0.1; room = low; picks = []; made = x })
                (subst (λ x. Finds p globals os most Fit fits x sleep o) (ap (goes_first p globals os (settled p globals os m) (plain c) ls) e) f) in
                subst (λ w. Shows (first_sleeping (sleep_tree p n) p c sleep w) ls o) (sym (ap (λ (b : Bool). if b then None else local_first p c) z ∙ e)) s

  pub finds_from : (n : ℕ) → FindsFrom n
  finds_from zero c ls sleep o m count few fit much_m much f = absurd (omega (arith, count, few))
  finds_from (suc n) c ls sleep o m count few fit much_m much f = step_finds n (finds_from n) c ls o count few fit much sleep m much_m f
