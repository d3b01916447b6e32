-- The tree of the search is the tree of the runs in which local steps come first, cut off at some places.
use Rattle.std.specs.Prelude.{◌≡◌, ◌≤◌, ◌+◌, ◌==◌, ℕ, zero, suc, Bool, true, false, List, [], ◌∷◌, ◌++◌, Option, Some, None, Result, Ok, Err, map, option_map, flat_map, find, length, reverse, slice_get, take, refl, if◌then◌else◌}
use Rattle.std.proofs.Common.{sym, ◌∙◌, ap, subst, arith, inl, inr}
use Rattle.std.proofs.Math.Path.{fun_ext}
use Rattle.std.proofs.lemmas.List.{length-append}
use Rattle.ir_tree.specs.declared.items.Item.{Item}
use Rattle.mu_values.specs.declared.cells.CellId.{CellId}
use Rattle.typed_heap.specs.Places.{with_some, cell_in}
use Rattle.mem_axioms.specs.Choices.{choices}
use Rattle.mem_axioms.specs.declared.types.Chosen.{Chosen}
use Rattle.mem_axioms.specs.declared.types.Event.{Event}
use Rattle.futex.specs.declared.waiters.Waiter.{Waiter}
use Rattle.futex.specs.Waiting.{is_of}
use Rattle.mu_model.specs.declared.endings.Case.{Case}
use Rattle.mu_model.specs.declared.endings.Ending.TheVariants as endings
use Rattle.mu_model.specs.Configuration.{Configuration}
use Rattle.mu_model.specs.Acts as acts
use Rattle.mu_model.specs.Acts.{Act, Program}
use Rattle.mu_model.specs.Turns.{Turn, turn_of}
use Rattle.mu_model.specs.Outcomes.{Outcome, Next, End, Asks, Stuck, on, or_case}
use Rattle.mu_model.specs.Accesses.{initial, kind_of, takes_option, wanted}
use Rattle.mu_model.specs.Programs.{named}
use Rattle.mu_model.specs.Step.{threads_from, runnable, turns, picked}
use Rattle.mu_model.specs.Run.{Run, Ends, Breaks, behind, Setting, first_configuration, client_answers}
use Rattle.run_texts.specs.EventTexts.{Text}
use Rattle.odometer.specs.Trees.{Tree, Leaf, Node, branches, grown}
use Rattle.search_laws.specs.Moved.{cell_tree, doing_tree, turn_tree, thread_tree, ends_or_branches, goes_on_tree}
use Rattle.search_laws.specs.Programs.{text_of}
use Rattle.local_steps.specs.IsLocal.{least_local}
use Rattle.local_laws.specs.LocalSteps.{first_tree, local_tree}
use Rattle.local_laws.specs.LocalSearch.{local_tree_from, local_shows_tree}
use Rattle.exchange_steps.specs.ChoiceKept.{choice-of}
use Rattle.leaf_laws.specs.Leaves.{lists_below, leaf_list, Among}
use Rattle.leaf_laws.specs.Lemmas.Members.{among_none, among_both}
use Rattle.sleep_moves.specs.Moves.{Move, plain_move, option_move, cell_moves, doing_moves, turn_moves, thread_moves, cell_made, doing_made, turn_made, move_made, asleep, sleeps}
use Rattle.sleep_laws.specs.SleepTree.{goes_on_sleeping, one_move, moves_tree, mover_tree, ends_or_moves, first_sleeping, sleep_tree}
use Rattle.sleep_laws.specs.SleepLaws.{sleep_tree_from, sleep_shows_tree}
use Rattle.sleep_laws.specs.SleepCounts.{somes, SleepingRunsAreAmong, SleepingRunsAreFewer}
use Rattle.sleep_laws.specs.Lemmas.Turning.{get_at, map_length, move_thread, option_so}
use Rattle.sleep_laws.specs.Lemmas.Leaves.{get_map, made_by, move_outcome, grows}

-- ---- trees that are cut off

-- the first tree is the second, with some of its parts left out
abbrev Prunes : {A : Type 0} → Tree (Option A) → Tree A → Type 0
Prunes (Leaf None) t = Unit {0}
Prunes (Leaf (Some a)) (Leaf b) = a ≡ b
Prunes (Leaf (Some a)) (Node m others) = ⊥
Prunes (Node n kids) (Leaf b) = ⊥
Prunes (Node n kids) (Node m others) = (n ≡ m) × ((k : ℕ) → Prunes (kids k) (others k))

module _ {A : Type 0} where
  prunes_branches : (n : ℕ) (kids : ℕ → Tree (Option A)) (others : ℕ → Tree A) → ((k : ℕ) → Prunes (kids k) (others k)) → Prunes (branches n kids) (branches n others)
  prunes_branches zero kids others h = h 0
  prunes_branches (suc zero) kids others h = h 0
  prunes_branches (suc (suc n)) kids others h = (refl, h)

  somes_both : (xs ys : List (Option A)) → somes (xs ++ ys) ≡ somes xs ++ somes ys
  somes_both [] ys = refl
  somes_both (None ∷ xs) ys = somes_both xs ys
  somes_both (Some x ∷ xs) ys = ap (λ zs. x ∷ zs) (somes_both xs ys)

  some_leaf : (t : Tree A) → 1 ≤ length (leaf_list t)
  some_leaf (Leaf a) = omega arith
  some_leaf (Node n kids) =
      let last = some_leaf (kids (suc n)) in
      let both = length-append (lists_below (λ k. leaf_list (kids k)) (suc n)) (leaf_list (kids (suc n))) in
      omega (arith, last, both)

  parts_among : (f : ℕ → List (Option A)) (g : ℕ → List A) (n : ℕ) → ((k : ℕ) → Among (somes (f k)) (g k)) → Among (somes (lists_below f n)) (lists_below g n)
  parts_among f g zero h = tt
  parts_among f g (suc n) h =
      subst (λ xs. Among xs (lists_below g n ++ g n)) (sym (somes_both (lists_below f n) (f n))) (among_both (somes (lists_below f n)) (somes (f n)) (lists_below g n) (g n) (parts_among f g n h) (h n))

  parts_fewer : (f : ℕ → List (Option A)) (g : ℕ → List A) (n : ℕ) → ((k : ℕ) → length (f k) ≤ length (g k)) → length (lists_below f n) ≤ length (lists_below g n)
  parts_fewer f g zero h = omega arith
  parts_fewer f g (suc n) h =
      let less = parts_fewer f g n h in
      let here = h n in
      let one = length-append (lists_below f n) (f n) in
      let two = length-append (lists_below g n) (g n) in
      omega (arith, less, here, one, two)

  -- what is left stands in the same order, and there are no more leaves
  pruned_among : (s : Tree (Option A)) (t : Tree A) → Prunes s t → Among (somes (leaf_list s)) (leaf_list t)
  pruned_among (Leaf None) t h = among_none (leaf_list t)
  pruned_among (Leaf (Some a)) (Leaf b) h = inl (h, tt)
  pruned_among (Leaf (Some a)) (Node m others) h = absurd h
  pruned_among (Node n kids) (Leaf b) h = absurd h
  pruned_among (Node n kids) (Node m others) h =
      subst (λ m. Among (somes (leaf_list (Node n kids))) (leaf_list (Node m others))) h.0
      (parts_among (λ k. leaf_list (kids k)) (λ k. leaf_list (others k)) (suc (suc n)) (λ k. pruned_among (kids k) (others k) (h.1 k)))

  pruned_fewer : (s : Tree (Option A)) (t : Tree A) → Prunes s t → length (leaf_list s) ≤ length (leaf_list t)
  pruned_fewer (Leaf None) t h = some_leaf t
  pruned_fewer (Leaf (Some a)) (Leaf b) h = omega arith
  pruned_fewer (Leaf (Some a)) (Node m others) h = absurd h
  pruned_fewer (Node n kids) (Leaf b) h = absurd h
  pruned_fewer (Node n kids) (Node m others) h =
      subst (λ m. length (leaf_list (Node n kids)) ≤ length (leaf_list (Node m others))) h.0
      (parts_fewer (λ k. leaf_list (kids k)) (λ k. leaf_list (others k)) (suc (suc n)) (λ k. pruned_fewer (kids k) (others k) (h.1 k)))

module _ {A B : Type 0} where
  prunes_mapped : (f : A → B) (s : Tree (Option A)) (t : Tree A) → Prunes s t → Prunes (grown s (λ r. Leaf (option_map f r))) (grown t (λ r. Leaf (f r)))
  prunes_mapped f (Leaf None) t h = tt
  prunes_mapped f (Leaf (Some a)) (Leaf b) h = ap f h
  prunes_mapped f (Leaf (Some a)) (Node m others) h = absurd h
  prunes_mapped f (Node n kids) (Leaf b) h = absurd h
  prunes_mapped f (Node n kids) (Node m others) h = (h.0, λ k. prunes_mapped f (kids k) (others k) (h.1 k))

  grown_branches : (n : ℕ) (kids : ℕ → Tree A) (more : A → Tree B) → grown (branches n kids) more ≡ branches n (λ k. grown (kids k) more)
  grown_branches zero kids more = refl
  grown_branches (suc zero) kids more = refl
  grown_branches (suc (suc n)) kids more = refl

-- ---- the step of a thread is a pick among its moves

module _ (p : Program) (c : Configuration) (i : ℕ) where
  module _ (u : Turn) where
    cell_as : (b : acts.Access) (x : Option (Result CellId Case))
        → cell_tree p (picked c []) u b x ≡ branches (length (cell_moves c i u b x)) (λ k. Leaf (made_by p c (λ e. cell_made p (picked c []) u b e x) (slice_get (cell_moves c i u b x) k)))
    unfolding on
    cell_as b None = refl
    cell_as b (Some (Err k)) = refl
    cell_as b (Some (Ok there)) =
        ap (λ (f : ℕ → Outcome). branches (length ks) (λ k. Leaf (f k))) (fun_ext (λ k. one k (slice_get (choices c.rule (initial c) c.log u.thread there (wanted b)) k) refl))
        ∙ ap (λ n. branches n (λ k. Leaf (made_by p c (λ e. cell_made p (picked c []) u b e (Some (Ok there))) (slice_get (map (option_move i u b there) ks) k)))) (sym (map_length (option_move i u b there) ks))
      where
        ks : List Chosen
        ks = choices c.rule (initial c) c.log u.thread there (wanted b)

        one : (k : ℕ) (x : Option Chosen) → slice_get (choices c.rule (initial c) c.log u.thread there (wanted b)) k ≡ x
            → on (slice_get (choices c.rule (initial c) c.log u.thread there (wanted b)) k) (takes_option p (picked c []) u b there)
            ≡ made_by p c (λ e. cell_made p (picked c []) u b e (Some (Ok there))) (slice_get (map (option_move i u b there) (choices c.rule (initial c) c.log u.thread there (wanted b))) k)
        one k x e =
            ap (λ o. on o (takes_option p (picked c []) u b there)) e ∙ by x e
            ∙ sym (ap (made_by p c (λ e. cell_made p (picked c []) u b e (Some (Ok there)))) (get_map (option_move i u b there) (choices c.rule (initial c) c.log u.thread there (wanted b)) k ∙ ap (option_map (option_move i u b there)) e))
          where
            by : (x : Option Chosen) → slice_get (choices c.rule (initial c) c.log u.thread there (wanted b)) k ≡ x → on x (takes_option p (picked c []) u b there) ≡ made_by p c (λ e. cell_made p (picked c []) u b e (Some (Ok there))) (option_map (option_move i u b there) x)
            by None e = refl
            by (Some chosen) e = sym (option_so p c i u b there chosen (choice-of c.rule (initial c) c.log u.thread there (wanted b) chosen k e) (kind_of b there chosen) refl)

    doing_as : (a : Option Act) → doing_tree p (picked c []) u a ≡ branches (length (doing_moves c i u a)) (λ k. Leaf (made_by p c (λ e. doing_made p (picked c []) u e a) (slice_get (doing_moves c i u a) k)))
    doing_as None = refl
    doing_as (Some (acts.Accesses b place)) = cell_as b (option_map or_case (cell_in c.objects place))
    doing_as (Some _) = refl

  turn_as : (w : Option Waiter) (o : Option Turn) → turn_tree p (picked c []) w o ≡ branches (length (turn_moves c i w o)) (λ k. Leaf (made_by p c (λ e. turn_made p (picked c []) e w o) (slice_get (turn_moves c i w o) k)))
  turn_as w None = refl
  turn_as (Some w) (Some u) = refl
  turn_as None (Some u) = doing_as u u.doing.act

  thread_as : thread_tree p (picked c []) (Some i) ≡ branches (length (thread_moves p c i)) (λ k. Leaf (move_outcome p c (slice_get (thread_moves p c i) k)))
  thread_as = turn_as (find (is_of i) c.waiters) (turn_of p c i) ∙ ap (λ (f : ℕ → Outcome). branches (length (thread_moves p c i)) (λ k. Leaf (f k))) (fun_ext (λ k. by k (slice_get (thread_moves p c i) k) refl))
    where
      by : (k : ℕ) (x : Option Move) → slice_get (thread_moves p c i) k ≡ x → made_by p c (λ e. turn_made p (picked c []) e (find (is_of i) c.waiters) (turn_of p c i)) (slice_get (thread_moves p c i) k) ≡ move_outcome p c (slice_get (thread_moves p c i) k)
      by k x e = ap (made_by p c (λ e. turn_made p (picked c []) e (find (is_of i) c.waiters) (turn_of p c i))) e ∙ same x e ∙ sym (ap (move_outcome p c) e)
        where
          same : (x : Option Move) → slice_get (thread_moves p c i) k ≡ x → made_by p c (λ e. turn_made p (picked c []) e (find (is_of i) c.waiters) (turn_of p c i)) x ≡ move_outcome p c x
          same None e = refl
          same (Some a) e = ap (λ j. turn_made p (picked c []) a.event (find (is_of j) c.waiters) (turn_of p c j)) (sym (move_thread p c i a k (get_at a k (thread_moves p c i) e)))

-- ---- runs

module _ (p : Program) where
  prunes_goes : (f : Configuration → Tree (Option Run)) (n : ℕ) → ((d : Configuration) → Prunes (f d) (local_tree p n d)) → (o : Outcome) → Prunes (goes_on_sleeping f o) (goes_on_tree (local_tree p n) o)
  prunes_goes f n h (Next d) = prunes_mapped (behind (reverse d.lines)) (f d) (local_tree p n d) (h d)
  prunes_goes f n h (End ls e) = refl
  prunes_goes f n h (Asks view go) = refl
  prunes_goes f n h Stuck = refl

  module _ (more : Configuration → List Move → Tree (Option Run)) (n : ℕ) (h : (d : Configuration) (sleep : List Move) → Prunes (more d sleep) (local_tree p n d)) (c : Configuration) (sleep : List Move) where
    prunes_move : (before : List Move) (x : Option Move) → Prunes (one_move more p c sleep before x) (grows p n c (move_outcome p c x))
    prunes_move before None = refl
    prunes_move before (Some a) = by (sleeps a sleep)
      where
        by : (b : Bool) → Prunes (if b then Leaf None else goes_on_sleeping (λ d. more d (asleep c a sleep before)) (client_answers p c.client (move_made p c a))) (grows p n c (move_made p c a))
        by true = tt
        by false = prunes_goes (λ d. more d (asleep c a sleep before)) n (λ d. h d (asleep c a sleep before)) (client_answers p c.client (move_made p c a))

    prunes_mover : (before : List Move) (x : Option ℕ) → Prunes (mover_tree more p c sleep before x) (grown (thread_tree p (picked c []) x) (grows p n c))
    prunes_mover before None = refl
    prunes_mover before (Some i) =
        let ms : List Move = thread_moves p c i in
        subst (Prunes (moves_tree more p c sleep before ms)) (sym (ap (λ t. grown t (grows p n c)) (thread_as p c i) ∙ grown_branches (length ms) (λ k. Leaf (move_outcome p c (slice_get ms k))) (grows p n c)))
        (prunes_branches (length ms) (λ k. one_move more p c sleep (before ++ take k ms) (slice_get ms k)) (λ k. grows p n c (move_outcome p c (slice_get ms k))) (λ k. prunes_move (before ++ take k ms) (slice_get ms k)))

    prunes_step : (ts is : List ℕ) → Prunes (ends_or_moves more p c sleep ts is) (grown (ends_or_branches p c ts is) (grows p n c))
    prunes_step [] is = refl
    prunes_step (t ∷ ts) [] = refl
    prunes_step (t ∷ ts) (i ∷ is) = by (c.steps == c.budget)
      where
        by : (b : Bool) → Prunes (if b then Leaf (Some (Ends [] [] (endings.Budget c.steps))) else branches (length (i ∷ is)) (λ k. mover_tree more p c sleep (flat_map (thread_moves p c) (take k (i ∷ is))) (slice_get (i ∷ is) k)))
            (grown (if b then Leaf (End [] (endings.Budget c.steps)) else branches (length (i ∷ is)) (λ k. thread_tree p (picked c []) (slice_get (i ∷ is) k))) (grows p n c))
        by true = refl
        by false =
            subst (Prunes (branches (length (i ∷ is)) (λ k. mover_tree more p c sleep (flat_map (thread_moves p c) (take k (i ∷ is))) (slice_get (i ∷ is) k))))
            (sym (grown_branches (length (i ∷ is)) (λ k. thread_tree p (picked c []) (slice_get (i ∷ is) k)) (grows p n c)))
            (prunes_branches (length (i ∷ is)) (λ k. mover_tree more p c sleep (flat_map (thread_moves p c) (take k (i ∷ is))) (slice_get (i ∷ is) k)) (λ k. grown (thread_tree p (picked c []) (slice_get (i ∷ is) k)) (grows p n c))
            (λ k. prunes_mover (flat_map (thread_moves p c) (take k (i ∷ is))) (slice_get (i ∷ is) k)))

  pub prunes_tree : (n : ℕ) (c : Configuration) (sleep : List Move) → Prunes (sleep_tree p n c sleep) (local_tree p n c)
  prunes_tree zero c sleep = refl
  prunes_tree (suc n) c sleep = by (least_local p c) (prunes_tree n)
    where
      by : (o : Option ℕ) → ((d : Configuration) (sleep : List Move) → Prunes (sleep_tree p n d sleep) (local_tree p n d)) → Prunes (first_sleeping (sleep_tree p n) p c sleep o) (grown (first_tree p c o) (grows p n c))
      by None ih = prunes_step (sleep_tree p n) n ih c sleep (threads_from 0 c.threads) (runnable c)
      by (Some i) ih = prunes_goes (λ d. sleep_tree p n d sleep) n (λ d. ih d sleep) (client_answers p c.client (turns p (picked c []) i))

prunes_from : (p : Program) (o : Option Configuration) → Prunes (sleep_tree_from p o) (local_tree_from p o)
prunes_from p None = refl
prunes_from p (Some c) = prunes_tree p (suc c.budget) c []

prunes_shows : (bundle : List Item) (s : Setting) (f : ℕ) → Prunes (sleep_shows_tree bundle s f) (local_shows_tree bundle s f)
prunes_shows bundle s f =
    prunes_mapped (text_of bundle s) (sleep_tree_from (named bundle) (first_configuration (named bundle) s f)) (local_tree_from (named bundle) (first_configuration (named bundle) s f)) (prunes_from (named bundle) (first_configuration (named bundle) s f))

pub sleeping_runs_are_among : SleepingRunsAreAmong
sleeping_runs_are_among bundle s f = pruned_among (sleep_shows_tree bundle s f) (local_shows_tree bundle s f) (prunes_shows bundle s f)

pub sleeping_runs_are_fewer : SleepingRunsAreFewer
sleeping_runs_are_fewer bundle s f = pruned_fewer (sleep_shows_tree bundle s f) (local_shows_tree bundle s f) (prunes_shows bundle s f)
