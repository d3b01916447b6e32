-- The runs in which local steps come first are runs of the search's machine; and what the search finds is a leaf of its tree.
use Rattle.std.specs.Prelude.{◌≡◌, ◌≢◌, ◌⊎◌, ◌+◌, ◌<◌, ◌≤◌, ℕ, zero, suc, Bool, true, false, ◌==◌, not, nat_lt, nat_le, List, [], ◌∷◌, ◌++◌, Option, Some, None, Result, Ok, Err, map, option_map, filter, flat_map, find, length, reverse, slice_get, take, refl, if◌then◌else◌}
use Rattle.std.proofs.Common.{sym, ◌∙◌, ap, subst, arith, inl, inr}
use Rattle.std.proofs.lemmas.Bool.{lt-ltb, le-ltb, ne_eqb, eq-eqb, cases_lt}
use Rattle.std.proofs.lemmas.Bool.Decides.{eqb_tells}
use Rattle.std.proofs.lemmas.Nat.{mod_below}
use Rattle.mu_values.specs.declared.cells.CellId.{CellId}
use Rattle.typed_heap.specs.Objects.{HeapObject}
use Rattle.typed_heap.specs.Places.{cell_in}
use Rattle.futex.specs.declared.waiters.Waiter.{Waiter}
use Rattle.futex.specs.Waiting.{is_of}
use Rattle.mem_axioms.specs.Choices.{choices}
use Rattle.mem_axioms.specs.Axioms.{meets_axioms}
use Rattle.mem_axioms.specs.Lemmas.Options.{choices-some}
use Rattle.mu_model.specs.declared.endings.Case.{Case}
use Rattle.mu_model.specs.declared.lines.Line.{Line}
use Rattle.mu_model.specs.declared.endings.Ending.{Ending}
use Rattle.mu_model.specs.declared.endings.Ending.TheVariants as endings
use Rattle.mu_model.specs.Configuration.{Thread, Configuration}
use Rattle.mu_model.specs.Acts as acts
use Rattle.mu_model.specs.Acts.{Act, Program}
use Rattle.mu_model.specs.Accesses.{initial, wanted}
use Rattle.mu_model.specs.Turns.{Turn, turn_of}
use Rattle.mu_model.specs.Outcomes.{Outcome, Next, End, Asks, Stuck, on, or_case}
use Rattle.mu_model.specs.Step.{threads_from, is_blocked, runnable, turns, picked}
use Rattle.mu_model.specs.Run.{Run, Ends, Breaks, Unfinished, behind, client_answers}
use Rattle.odometer.specs.Trees.{Tree, Leaf, leaf, rest, branches, grown, pick, picked_from}
use Rattle.odometer.specs.GrownLaws.{leaf_branches, rest_branches, leaf_grown}
use Rattle.seen_runs.specs.Seen.{Seen, seen_at}
use Rattle.search_laws.specs.Moved.{thread_tree, ends_or_branches, step_tree, goes_on_tree}
use Rattle.local_steps.specs.IsLocal.{is_local, least_local}
use Rattle.local_laws.specs.LocalSteps.{first_tree, local_tree}
use Rattle.local_laws.specs.Lemmas.Forms.{Effect, effect, lines_of, result, Locals, locals}
use Rattle.local_laws.specs.Lemmas.Running.{In, found_in}
use Rattle.exchange_laws.specs.Sleep.{At as AtNumber, Member, Leads, done, goes}
use Rattle.exchange_steps.specs.Made.{some-pick, slice-below}
use Rattle.sleep_moves.specs.Moves.{Move, option_move, cell_moves, doing_moves, turn_moves, thread_moves, moves, move_made, are_apart, asleep, sleeps}
use Rattle.sleep_laws.specs.Fits.{plain, Advances, Fits}
use Rattle.sleep_laws.specs.SleepTree.{goes_on_sleeping, one_move, mover_tree, ends_or_moves, first_sleeping, sleep_tree}
use Rattle.sleep_laws.specs.Lemmas.Searches.{Found}
use Rattle.sleep_laws.specs.Lemmas.Places.{Place, At, Gone, local_first, comes, stays_at, goes_first, settled, over_by, over, place_moves, move_step, place_apart, GoodAt}
use Rattle.sleep_laws.specs.Lemmas.LocalRuns.{append_nil, local_comes}
use Rattle.sleep_laws.specs.Lemmas.Turning.{at_get, get_at, map_length, at_below, in_flat, given_by, move_turn}
use Rattle.sleep_laws.specs.Lemmas.Diamonds.{some_none}
use Rattle.sleep_laws.specs.Lemmas.Leaves.{grows, move_outcome, thread_leaf, thread_rest}

-- ---- what is seen of a run behind lines

append_assoc : {A : Type 0} (xs ys zs : List A) → (xs ++ ys) ++ zs ≡ xs ++ (ys ++ zs)
append_assoc [] ys zs = refl
append_assoc (x ∷ xs) ys zs = ap (λ ws. x ∷ ws) (append_assoc xs ys zs)

abbrev pub seen_with : ℕ → List HeapObject → List Line → Run → Option Seen
seen_with globals os ls (Ends steps xs e) = seen_at globals os (ls ++ (flat_map (λ ls. ls) steps ++ xs)) e
seen_with globals os ls r = None

pub seen_behind : (globals : ℕ) (os : List HeapObject) (ls xs : List Line) (r : Run) → seen_with globals os ls (behind xs r) ≡ seen_with globals os (ls ++ xs) r
seen_behind globals os ls xs (Ends steps ys e) =
    ap (λ zs. seen_at globals os zs e) (ap (λ zs. ls ++ zs) (append_assoc xs (flat_map (λ ls. ls) steps) ys) ∙ sym (append_assoc ls xs (flat_map (λ ls. ls) steps ++ ys)))
seen_behind globals os ls xs Breaks = refl
seen_behind globals os ls xs Unfinished = refl

-- ---- picks

get_below : {A : Type 0} (xs : List A) (k : ℕ) → k < length xs → (x : A) × (slice_get xs k ≡ Some x)
get_below [] k l = absurd (omega (arith, l))
get_below (x ∷ xs) zero l = (x, refl)
get_below (x ∷ xs) (suc k) l = get_below xs k (omega (arith, l))

pick_below : (n : ℕ) (ps : List ℕ) → 0 < n → (pick n ps).0 < n
pick_below zero ps l = absurd (omega (arith, l))
pick_below (suc n) ps l = by (nat_le (suc n) 1) ps
  where
    by : (b : Bool) (ps : List ℕ) → (if b then (0, ps) else picked_from (suc n) ps).0 < suc n
    by true ps = omega arith
    by false [] = omega arith
    by false (p ∷ ps) = mod_below p (suc n) (omega arith)

module _ (p : Program) (c : Configuration) (meets : meets_axioms c.rule (initial c) c.log ≡ true) where
  -- each thread has a move
  some_moves : (i : ℕ) → 0 < length (thread_moves p c i)
  some_moves i = by (find (is_of i) c.waiters) (turn_of p c i)
    where
      cell : (u : Turn) (b : acts.Access) (x : Option (Result CellId Case)) → 0 < length (cell_moves c i u b x)
      cell u b None = omega arith
      cell u b (Some (Err k)) = omega arith
      cell u b (Some (Ok there)) =
          let l = choices-some c.rule (initial c) c.log u.thread there meets (wanted b) in
          let k = map_length (option_move i u b there) (choices c.rule (initial c) c.log u.thread there (wanted b)) in
          omega (arith, l, k)

      does : (u : Turn) (a : Option Act) → 0 < length (doing_moves c i u a)
      does u None = omega arith
      does u (Some (acts.Accesses b place)) = cell u b (option_map or_case (cell_in c.objects place))
      does u (Some _) = omega arith

      by : (w : Option Waiter) (o : Option Turn) → 0 < length (turn_moves c i w o)
      by w None = omega arith
      by (Some w) (Some u) = omega arith
      by None (Some u) = does u u.doing.act

-- a move by its number, as a thread's and then one of the thread's moves
pub flat_at : {A : Type 0} (f : ℕ → List A) (a : A) (k : ℕ) (xs : List ℕ) → AtNumber a k (flat_map f xs)
    → (n : ℕ) × (j : ℕ) × (m : ℕ) × (slice_get xs n ≡ Some j) × AtNumber a m (f j) × (take k (flat_map f xs) ≡ flat_map f (take n xs) ++ take m (f j))
flat_at f a k [] h = absurd h
flat_at {A} f a k (x ∷ xs) h = by k h (λ k h. flat_at f a k xs h)
  where
    split : (ys : List A) (k : ℕ) → AtNumber a k (ys ++ flat_map f xs) → (AtNumber a k ys × (take k (ys ++ flat_map f xs) ≡ take k ys)) ⊎ ((r : ℕ) × AtNumber a r (flat_map f xs) × (take k (ys ++ flat_map f xs) ≡ ys ++ take r (flat_map f xs)))
    split [] k h = inr (k, h, refl)
    split (y ∷ ys) zero h = inl (h, refl)
    split (y ∷ ys) (suc k) h = elim (split ys k h) [
      | inl q ↦ inl (q.0, ap (λ zs. y ∷ zs) q.1)
      | inr q ↦ inr (q.0, q.1, ap (λ zs. y ∷ zs) q.2)
    ]

    by : (k : ℕ) → AtNumber a k (f x ++ flat_map f xs)
        → ((k : ℕ) → AtNumber a k (flat_map f xs) → (n : ℕ) × (j : ℕ) × (m : ℕ) × (slice_get xs n ≡ Some j) × AtNumber a m (f j) × (take k (flat_map f xs) ≡ flat_map f (take n xs) ++ take m (f j)))
        → (n : ℕ) × (j : ℕ) × (m : ℕ) × (slice_get (x ∷ xs) n ≡ Some j) × AtNumber a m (f j) × (take k (f x ++ flat_map f xs) ≡ flat_map f (take n (x ∷ xs)) ++ take m (f j))
    by k h ih = elim (split (f x) k h) [
      | inl q ↦ (0, x, k, refl, q.0, q.1)
      | inr q ↦
          let r = ih q.0 q.1 in
          (suc r.0, r.1, r.2, r.3, r.4, q.2 ∙ ap (λ zs. f x ++ zs) r.5 ∙ sym (append_assoc (f x) (flat_map f (take r.0 xs)) (take r.2 (f r.1))))
    ]

-- ---- the search's machine

module _ (p : Program) (globals : ℕ) (os : List HeapObject) (most : ℕ) (Fit : Configuration → Type 0) (fits : Fits p Fit) where
  abbrev Runs : Place → Option Seen → Type 0
  Runs s o = (w : List Move) × Leads (over p globals os) (place_moves p globals os) (move_step p globals os most) (place_apart p globals os) s w o

  abbrev pub Finds : Place → List Move → Option Seen → Type 0
  Finds s sleep o = Found (over p globals os) (place_moves p globals os) (move_step p globals os most) (place_apart p globals os) sleeps (GoodAt p Fit) s sleep o

  pub stays_gone : (m : ℕ) (o : Option Seen) → settled p globals os m (Gone o) ≡ Gone o
  stays_gone zero o = refl
  stays_gone (suc m) o = refl

  pub calm_here : (m : ℕ) (c : Configuration) (ls : List Line) → local_first p c ≡ None → settled p globals os m (At c ls) ≡ At c ls
  calm_here zero c ls e = ap (stays_at p globals os c ls) e
  calm_here (suc m) c ls e = ap (goes_first p globals os (settled p globals os m) c ls) e

  -- a step more than may be made hides what would come
  pub beyond : (m : ℕ) (c : Configuration) (ls : List Line) → c.budget < c.steps → over p globals os (settled p globals os m (At c ls)) ≡ Some None
  unfolding on
  beyond zero c ls l = by (local_first p c)
    where
      by : (o : Option ℕ) → over p globals os (stays_at p globals os c ls o) ≡ Some None
      by None = ap (λ (b : Bool). if b then Some None else over_by p globals os c ls (threads_from 0 c.threads) (runnable c)) (lt-ltb c.budget c.steps l)
      by (Some i) = refl
  beyond (suc m) c ls l = by (local_first p c) refl (beyond m)
    where
      by : (o : Option ℕ) → local_first p c ≡ o → ((c : Configuration) (ls : List Line) → c.budget < c.steps → over p globals os (settled p globals os m (At c ls)) ≡ Some None) → over p globals os (goes_first p globals os (settled p globals os m) c ls o) ≡ Some None
      by None e ih = ap (λ (b : Bool). if b then Some None else over_by p globals os c ls (threads_from 0 c.threads) (runnable c)) (lt-ltb c.budget c.steps l)
      by (Some i) e ih = ap (λ o. over p globals os (settled p globals os m (comes p globals os ls o))) (local_comes p c i h) ∙ after (effect p h.u h.a)
        where
          h : Locals p c i
          h = locals p c i (found_in (is_local p c) i (runnable c) e).1

          after : (x : Option Effect) → over p globals os (settled p globals os m (comes p globals os ls (on x (λ e. Next (result i h.t e (picked c [])))))) ≡ Some None
          after None = ap (over p globals os) (stays_gone m None)
          after (Some x) = ih (plain (result i h.t x (picked c []))) (ls ++ reverse (lines_of i x ++ [])) (omega (arith, l))

  -- so it is of a local step that is made where none may be
  pub hides_local : (m : ℕ) (c : Configuration) (ls : List Line) (i : ℕ) (t : Thread) → c.steps ≡ c.budget → (x : Option Effect) → over p globals os (settled p globals os m (comes p globals os ls (on x (λ e. Next (result i t e (picked c [])))))) ≡ Some None
  unfolding on
  hides_local m c ls i t q None = ap (over p globals os) (stays_gone m None)
  hides_local m c ls i t q (Some x) = beyond m (plain (result i t x (picked c []))) (ls ++ reverse (lines_of i x ++ [])) (omega (arith, q))

  runs_gone : (m : ℕ) (s : Place) (o : Option Seen) → s ≡ Gone o → Runs (settled p globals os m s) o
  runs_gone m s o e = subst (λ s. Runs (settled p globals os m s) o) (sym e) ([], done (ap (over p globals os) (stays_gone m o)))

  pub within : (c : Configuration) (ls : List Line) → c.steps ≤ c.budget → over p globals os (At c ls) ≡ over_by p globals os c ls (threads_from 0 c.threads) (runnable c)
  within c ls l = ap (λ (b : Bool). if b then Some None else over_by p globals os c ls (threads_from 0 c.threads) (runnable c)) (le-ltb c.budget c.steps l)

  -- ---- a run from a place leads to what it shows

  abbrev RunsFrom : ℕ → Type 0
  RunsFrom n = (c : Configuration) (ls : List Line) (ps : List ℕ) (m : ℕ) → c.steps + n ≡ suc c.budget → c.steps ≤ c.budget → Fit c → c.budget ≤ c.steps + m → c.budget ≤ most
      → Runs (settled p globals os m (At (plain c) ls)) (seen_with globals os ls (leaf (local_tree p n c) ps))

  module _ (n : ℕ) (ih : RunsFrom n) (c : Configuration) (ls : List Line) (count : c.steps + suc n ≡ suc c.budget) (few : c.steps ≤ c.budget) (fit : Fit c) (much : c.budget ≤ most) where
    -- what comes of a move
    comes_to : (o : Outcome) → (ps : List ℕ) → ((d : Configuration) → o ≡ Next d → Advances p c d) → Runs (settled p globals os most (comes p globals os ls o)) (seen_with globals os ls (leaf (goes_on_tree (local_tree p n) o) ps))
    comes_to (Next d) ps h =
        let a = h d refl in
        let k = fits.counts c d fit a in
        let room = a.room in
        let k0 = k.0 in
        let k1 = k.1 in
        subst (Runs (settled p globals os most (At (plain d) (ls ++ reverse d.lines))))
        (sym (ap (seen_with globals os ls) (leaf_grown (λ r. Leaf (behind (reverse d.lines) r)) (local_tree p n d) ps) ∙ seen_behind globals os ls (reverse d.lines) (leaf (local_tree p n d) ps)))
        (ih d (ls ++ reverse d.lines) ps most (omega (arith, k0, k1, count)) (omega (arith, k0, k1, room)) (fits.goes c d fit a) (omega (arith, k1, much)) (omega (arith, k1, much)))
    comes_to (End xs e) ps h = runs_gone most (Gone (seen_at globals os (ls ++ xs) e)) (seen_at globals os (ls ++ xs) e) refl
    comes_to (Asks view go) ps h = runs_gone most (Gone None) None refl
    comes_to Stuck ps h = runs_gone most (Gone None) None refl

    a_move : (j k m : ℕ) (a : Move) (ps : List ℕ) → slice_get (runnable c) k ≡ Some j → AtNumber a m (thread_moves p c j) → over p globals os (At (plain c) ls) ≡ None → c.steps < c.budget
        → Runs (At (plain c) ls) (seen_with globals os ls (leaf (grows p n c (move_made p c a)) ps))
    a_move j k m a ps r at v room =
        let x = comes_to (client_answers p c.client (move_made p c a)) ps
        (λ d e. record { thread = j; number = k; runs = r; room = room; picks = given_by (length (thread_moves p c j)) m; made = ap (client_answers p c.client) (sym (move_turn p c j a m at)) ∙ e }) in
        (a ∷ x.0, goes v (in_flat (thread_moves p c) a j k (runnable c) r (m, at)) x.1)

    none_runs : (is : List ℕ) (j : ℕ) → is ≡ [] → In j is → ⊥
    none_runs is j e (k, at) = let no : None ≡ Some j = sym (ap (λ is. slice_get is k) e) ∙ at in cc

    -- where no thread has a local step
    at_rest : (ps : List ℕ) → local_first p c ≡ None → Runs (At (plain c) ls) (seen_with globals os ls (leaf (grown (step_tree p c) (grows p n c)) ps))
    at_rest ps calm = by (threads_from 0 c.threads) (runnable c) refl refl
      where
        by : (ts is : List ℕ) → threads_from 0 c.threads ≡ ts → runnable c ≡ is → Runs (At (plain c) ls) (seen_with globals os ls (leaf (grown (ends_or_branches p c ts is) (grows p n c)) ps))
        by [] is q r = ([], done (within (plain c) ls few ∙ ap (λ ts. over_by p globals os (plain c) ls ts (runnable c)) q ∙ ap (λ xs. Some (seen_at globals os xs endings.Done)) (sym (append_nil ls))))
        by (t ∷ ts) [] q r =
            ([], done (within (plain c) ls few ∙ ap (λ ts. over_by p globals os (plain c) ls ts (runnable c)) q ∙ ap (over_by p globals os (plain c) ls (t ∷ ts)) r ∙ ap (λ xs. Some (seen_at globals os xs (endings.AllWaiting (t ∷ ts)))) (sym (append_nil ls))))
        by (t ∷ ts) (i ∷ is) q r = elim (eqb_tells c.steps c.budget) [ inl e ↦ spent (c.steps == c.budget) refl e.0 | inr e ↦ room (c.steps == c.budget) refl e.0 e.1 ]
          where
            over_is : over p globals os (At (plain c) ls) ≡ (if c.steps == c.budget then Some None else None)
            over_is = within (plain c) ls few ∙ ap (λ ts. over_by p globals os (plain c) ls ts (runnable c)) q ∙ ap (over_by p globals os (plain c) ls (t ∷ ts)) r

            kids : ℕ → Tree Outcome
            kids k = thread_tree p (picked c []) (slice_get (i ∷ is) k)

            spent : (b : Bool) → (c.steps == c.budget) ≡ b → (c.steps == c.budget) ≡ true
                → Runs (At (plain c) ls) (seen_with globals os ls (leaf (grown (if b then Leaf (End [] (endings.Budget c.steps)) else branches (length (i ∷ is)) (λ k. thread_tree p (picked c []) (slice_get (i ∷ is) k))) (grows p n c)) ps))
            spent true e f = ([], done (over_is ∙ ap (λ (b : Bool). if b then Some None else None) f))
            spent false e f = let no : false ≡ true = sym e ∙ f in cc

            room : (b : Bool) → (c.steps == c.budget) ≡ b → (c.steps == c.budget) ≡ false → c.steps ≢ c.budget
                → Runs (At (plain c) ls) (seen_with globals os ls (leaf (grown (if b then Leaf (End [] (endings.Budget c.steps)) else branches (length (i ∷ is)) (λ k. thread_tree p (picked c []) (slice_get (i ∷ is) k))) (grows p n c)) ps))
            room true e f ne = let no : true ≡ false = sym e ∙ f in cc
            room false e f ne = subst (λ x. Runs (At (plain c) ls) (seen_with globals os ls x)) (sym (to_kid ∙ to_move)) (a_move j.0 k.0 m.0 a.0 m.1 (ap (λ is. slice_get is k.0) r ∙ j.1) (get_at a.0 m.0 (thread_moves p c j.0) a.1) (over_is ∙ ap (λ (b : Bool). if b then Some None else None) f) low)
              where
                low : c.steps < c.budget
                low = elim (cases_lt c.steps c.budget) [ inl q ↦ q | inr q ↦ absurd (ne (omega (arith, few, q))) ]

                k : ℕ × List ℕ
                k = pick (length (i ∷ is)) ps

                j : (j : ℕ) × (slice_get (i ∷ is) (pick (length (i ∷ is)) ps).0 ≡ Some j)
                j = get_below (i ∷ is) (pick (length (i ∷ is)) ps).0 (pick_below (length (i ∷ is)) ps (omega arith))

                m : ℕ × List ℕ
                m = pick (length (thread_moves p c j.0)) (pick (length (i ∷ is)) ps).1

                a : (a : Move) × (slice_get (thread_moves p c j.0) (pick (length (thread_moves p c j.0)) (pick (length (i ∷ is)) ps).1).0 ≡ Some a)
                a = get_below (thread_moves p c j.0) _ (pick_below (length (thread_moves p c j.0)) (pick (length (i ∷ is)) ps).1 (some_moves p c (fits.meets c fit) j.0))

                to_kid : leaf (grown (branches (length (i ∷ is)) (λ k. thread_tree p (picked c []) (slice_get (i ∷ is) k))) (grows p n c)) ps
                    ≡ leaf (grows p n c (leaf (thread_tree p (picked c []) (Some j.0)) (pick (length (i ∷ is)) ps).1)) (rest (thread_tree p (picked c []) (Some j.0)) (pick (length (i ∷ is)) ps).1)
                to_kid =
                    leaf_grown (grows p n c) (branches (length (i ∷ is)) kids) ps
                    ∙ ap (λ o. leaf (grows p n c o) (rest (branches (length (i ∷ is)) kids) ps)) (leaf_branches (length (i ∷ is)) kids ps)
                    ∙ ap (leaf (grows p n c (leaf (kids (pick (length (i ∷ is)) ps).0) (pick (length (i ∷ is)) ps).1))) (rest_branches (length (i ∷ is)) kids ps)
                    ∙ ap (λ x. leaf (grows p n c (leaf (thread_tree p (picked c []) x) (pick (length (i ∷ is)) ps).1)) (rest (thread_tree p (picked c []) x) (pick (length (i ∷ is)) ps).1)) j.1

                to_move : leaf (grows p n c (leaf (thread_tree p (picked c []) (Some j.0)) (pick (length (i ∷ is)) ps).1)) (rest (thread_tree p (picked c []) (Some j.0)) (pick (length (i ∷ is)) ps).1) ≡ leaf (grows p n c (move_made p c a.0)) m.1
                to_move =
                    ap (λ o. leaf (grows p n c o) (rest (thread_tree p (picked c []) (Some j.0)) (pick (length (i ∷ is)) ps).1)) (thread_leaf p c j.0 (pick (length (i ∷ is)) ps).1 ∙ ap (move_outcome p c) a.1)
                    ∙ ap (leaf (grows p n c (move_made p c a.0))) (thread_rest p c j.0 (pick (length (i ∷ is)) ps).1)

    -- where no step may be made any more, some thread has a local step
    spent_runs : (ps : List ℕ) (m i : ℕ) → local_first p c ≡ Some i → c.steps ≡ c.budget → over p globals os (settled p globals os m (At (plain c) ls)) ≡ Some None → Runs (settled p globals os m (At (plain c) ls)) (seen_with globals os ls (leaf (grown (step_tree p c) (grows p n c)) ps))
    spent_runs ps m i e full v = subst (Runs (settled p globals os m (At (plain c) ls))) (sym (by (threads_from 0 c.threads) (runnable c) refl (found_in (is_local p c) i (runnable c) e).0)) ([], done v)
      where
        by : (ts is : List ℕ) → filter (λ i. not (is_blocked c.waiters i)) ts ≡ is → In i is → seen_with globals os ls (leaf (grown (ends_or_branches p c ts is) (grows p n c)) ps) ≡ None
        by [] is q r = absurd (none_runs is i (sym q) r)
        by (t ∷ ts) [] q r = absurd (none_runs [] i refl r)
        by (t ∷ ts) (j ∷ is) q r = ap (λ (b : Bool). seen_with globals os ls (leaf (grown (if b then Leaf (End [] (endings.Budget c.steps)) else branches (length (j ∷ is)) (λ k. thread_tree p (picked c []) (slice_get (j ∷ is) k))) (grows p n c)) ps)) (eq-eqb c.steps c.budget full)

    -- a local step first
    first_runs : (ps : List ℕ) (m i : ℕ) → local_first p c ≡ Some i → c.steps < c.budget → c.budget ≤ c.steps + suc m
        → Runs (settled p globals os m (comes p globals os ls (client_answers p c.client (turns p (picked c []) i)))) (seen_with globals os ls (leaf (grows p n c (turns p (picked c []) i)) ps))
    unfolding on
    first_runs ps m i e room much_m =
        subst (λ o. Runs (settled p globals os m (comes p globals os ls o)) (seen_with globals os ls (leaf (goes_on_tree (local_tree p n) o) ps))) (sym (local_comes p c i h)) (by (effect p h.u h.a) refl)
      where
        f : In i (runnable c) × (is_local p c i ≡ true)
        f = found_in (is_local p c) i (runnable c) e

        h : Locals p c i
        h = locals p c i f.1

        by : (x : Option Effect) → effect p h.u h.a ≡ x → Runs (settled p globals os m (comes p globals os ls (on x (λ e. Next (result i h.t e (picked c [])))))) (seen_with globals os ls (leaf (goes_on_tree (local_tree p n) (on x (λ e. Next (result i h.t e (picked c []))))) ps))
        by None q = runs_gone m (Gone None) None refl
        by (Some x) q =
            let d : Configuration = result i h.t x (picked c []) in
            let a : Advances p c d = record { thread = i; number = f.0.0; runs = f.0.1; room = room; picks = []; made = local_comes p c i h ∙ ap (λ o. on o (λ e. Next (result i h.t e (picked c [])))) q } in
            subst (Runs (settled p globals os m (At (plain d) (ls ++ reverse d.lines))))
            (sym (ap (seen_with globals os ls) (leaf_grown (λ r. Leaf (behind (reverse d.lines) r)) (local_tree p n d) ps) ∙ seen_behind globals os ls (reverse d.lines) (leaf (local_tree p n d) ps)))
            (ih d (ls ++ reverse d.lines) ps m (omega (arith, count)) (omega (arith, room)) (fits.goes c d fit a) (omega (arith, much_m)) much)

    one_more_step : (ps : List ℕ) (m : ℕ) → c.budget ≤ c.steps + m → Runs (settled p globals os m (At (plain c) ls)) (seen_with globals os ls (leaf (local_tree p (suc n) c) ps))
    one_more_step ps m much_m = by (local_first p c) refl
      where
        full_tree : c.steps ≡ c.budget → leaf (local_tree p (suc n) c) ps ≡ leaf (grown (step_tree p c) (grows p n c)) ps
        full_tree e = ap (λ (b : Bool). leaf (grown (first_tree p c (if b then None else local_first p c)) (grows p n c)) ps) (eq-eqb c.steps c.budget e)

        by : (o : Option ℕ) → local_first p c ≡ o → Runs (settled p globals os m (At (plain c) ls)) (seen_with globals os ls (leaf (local_tree p (suc n) c) ps))
        by None e =
            let tree : leaf (local_tree p (suc n) c) ps ≡ leaf (grown (step_tree p c) (grows p n c)) ps = ap (λ w. leaf (grown (first_tree p c w) (grows p n c)) ps) (none (c.steps == c.budget)) in
            subst (λ s. Runs s (seen_with globals os ls (leaf (local_tree p (suc n) c) ps))) (sym (calm_here m (plain c) ls e))
            (subst (λ r. Runs (At (plain c) ls) (seen_with globals os ls r)) (sym tree) (at_rest ps e))
          where
            none : (b : Bool) → (if b then None else local_first p c) ≡ None
            none true = refl
            none false = e
        by (Some i) e = elim (eqb_tells c.steps c.budget) [
          | inl q ↦ subst (λ r. Runs (settled p globals os m (At (plain c) ls)) (seen_with globals os ls r)) (sym (full_tree q.1)) (spent_runs ps m i e q.1 (hidden m q.1))
          | inr q ↦ room m q.0 q.1 much_m
        ]
          where
            hidden : (m : ℕ) → c.steps ≡ c.budget → over p globals os (settled p globals os m (At (plain c) ls)) ≡ Some None
            hidden zero q = ap (λ o. over p globals os (stays_at p globals os (plain c) ls o)) e
            hidden (suc m) q =
                ap (λ o. over p globals os (goes_first p globals os (settled p globals os m) (plain c) ls o)) e
                ∙ ap (λ o. over p globals os (settled p globals os m (comes p globals os ls o))) (local_comes p c i l) ∙ after (effect p l.u l.a)
              where
                l : Locals p c i
                l = locals p c i (found_in (is_local p c) i (runnable c) e).1

                after : (x : Option Effect) → over p globals os (settled p globals os m (comes p globals os ls (on x (λ e. Next (result i l.t e (picked c [])))))) ≡ Some None
                after x = hides_local m c ls i l.t q x

            room : (m : ℕ) → (c.steps == c.budget) ≡ false → c.steps ≢ c.budget → c.budget ≤ c.steps + m → Runs (settled p globals os m (At (plain c) ls)) (seen_with globals os ls (leaf (local_tree p (suc n) c) ps))
            room zero f ne much_m = absurd (ne (omega (arith, few, much_m)))
            room (suc m) f ne much_m =
                let low : c.steps < c.budget = elim (cases_lt c.steps c.budget) [ inl q ↦ q | inr q ↦ absurd (ne (omega (arith, few, q))) ] in
                let tree : leaf (local_tree p (suc n) c) ps ≡ leaf (grows p n c (turns p (picked c []) i)) ps =
                ap (λ (b : Bool). leaf (grown (first_tree p c (if b then None else local_first p c)) (grows p n c)) ps) f ∙ ap (λ w. leaf (grown (first_tree p c w) (grows p n c)) ps) e in
                subst (λ s. Runs s (seen_with globals os ls (leaf (local_tree p (suc n) c) ps))) (sym (ap (goes_first p globals os (settled p globals os m) (plain c) ls) e))
                (subst (λ r. Runs (settled p globals os m (comes p globals os ls (client_answers p c.client (turns p (picked c []) i)))) (seen_with globals os ls r)) (sym tree) (first_runs ps m i e low much_m))

  pub runs_from : (n : ℕ) → RunsFrom n
  runs_from zero c ls ps m count few fit much_m much = absurd (omega (arith, count, few))
  runs_from (suc n) c ls ps m count few fit much_m much = one_more_step n (runs_from n) c ls count few fit much ps m much_m
