-- The runs that a search by sleep sets makes are those in which local steps come first, by the same numbers.
use Rattle.std.specs.Prelude.{◌≡◌, ◌⊎◌, ℕ, zero, suc, Bool, true, false, ◌==◌, List, [], ◌∷◌, ◌++◌, Option, Some, None, Result, Ok, Err, map, option_map, flat_map, find, length, reverse, slice_get, take, refl, if◌then◌else◌}
use Rattle.std.proofs.Common.{sym, ◌∙◌, ap, subst, inl, inr}
use Rattle.mu_values.specs.declared.cells.CellId.{CellId}
use Rattle.typed_heap.specs.Places.{cell_in}
use Rattle.mem_axioms.specs.Choices.{choices}
use Rattle.mem_axioms.specs.declared.types.Chosen.{Chosen}
use Rattle.mem_axioms.specs.declared.types.Event.{Event}
use Rattle.futex.specs.declared.waiters.Waiter.{Waiter}
use Rattle.futex.specs.Waiting.{is_of}
use Rattle.mu_model.specs.declared.endings.Case.{Case}
use Rattle.mu_model.specs.declared.endings.Ending.TheVariants as endings
use Rattle.mu_model.specs.Configuration.{Configuration}
use Rattle.mu_model.specs.Acts as acts
use Rattle.mu_model.specs.Acts.{Act, Program}
use Rattle.mu_model.specs.Turns.{Turn, turn_of}
use Rattle.mu_model.specs.Outcomes.{Outcome, Next, End, Asks, Stuck, on, or_case}
use Rattle.mu_model.specs.Accesses.{initial, kind_of, takes_option, wanted}
use Rattle.mu_model.specs.Step.{threads_from, runnable, turns, picked}
use Rattle.mu_model.specs.Run.{Run, Ends, Breaks, behind, client_answers}
use Rattle.odometer.specs.Trees.{Tree, Leaf, leaf, rest, branches, grown, pick}
use Rattle.odometer.specs.GrownLaws.{leaf_branches, rest_branches, leaf_grown}
use Rattle.search_laws.specs.Moved.{option_tree, cell_tree, doing_tree, turn_tree, thread_tree, step_tree, ends_or_branches, goes_on_tree}
use Rattle.local_steps.specs.IsLocal.{least_local}
use Rattle.local_laws.specs.LocalSteps.{first_tree, local_tree}
use Rattle.exchange_steps.specs.ChoiceKept.{choice-of}
use Rattle.sleep_moves.specs.Moves.{Move, plain_move, option_move, cell_moves, doing_moves, turn_moves, thread_moves, cell_made, doing_made, turn_made, move_made, asleep, sleeps}
use Rattle.sleep_laws.specs.SleepTree.{goes_on_sleeping, one_move, moves_tree, mover_tree, ends_or_moves, first_sleeping, sleep_tree}
use Rattle.sleep_laws.specs.Lemmas.Turning.{get_at, map_length, move_thread, option_so}

pub get_map : {A B : Type 0} (f : A → B) (xs : List A) (n : ℕ) → slice_get (map f xs) n ≡ option_map f (slice_get xs n)
get_map f [] n = refl
get_map f (x ∷ xs) zero = refl
get_map f (x ∷ xs) (suc n) = get_map f xs n

module _ (p : Program) (c : Configuration) where
  -- ---- the leaf of a thread's step is what comes of one of its moves

  abbrev pub made_by : (Option Event → Outcome) → Option Move → Outcome
  made_by f None = Stuck
  made_by f (Some a) = f a.event

  module _ (i : ℕ) (u : Turn) (ps : List ℕ) where
    cell_leaf : (b : acts.Access) (x : Option (Result CellId Case))
        → leaf (cell_tree p (picked c []) u b x) ps ≡ made_by (λ e. cell_made p (picked c []) u b e x) (slice_get (cell_moves c i u b x) (pick (length (cell_moves c i u b x)) ps).0)
    unfolding on
    cell_leaf b None = refl
    cell_leaf b (Some (Err k)) = refl
    cell_leaf b (Some (Ok there)) =
        leaf_branches (length ks) (λ k. Leaf (on (slice_get ks k) (takes_option p (picked c []) u b there))) ps
        ∙ one (slice_get ks (pick (length ks) ps).0) refl
        ∙ sym (ap (λ n. made_by made (slice_get (map (option_move i u b there) ks) (pick n ps).0)) (map_length (option_move i u b there) ks) ∙ ap (made_by made) (get_map (option_move i u b there) ks (pick (length ks) ps).0))
      where
        ks : List Chosen
        ks = choices c.rule (initial c) c.log u.thread there (wanted b)

        made : Option Event → Outcome
        made e = cell_made p (picked c []) u b e (Some (Ok there))

        one : (x : Option Chosen) → slice_get (choices c.rule (initial c) c.log u.thread there (wanted b)) (pick (length (choices c.rule (initial c) c.log u.thread there (wanted b))) ps).0 ≡ x
            → on x (takes_option p (picked c []) u b there) ≡ made_by (λ e. cell_made p (picked c []) u b e (Some (Ok there))) (option_map (option_move i u b there) x)
        one None e = refl
        one (Some k) e = sym (option_so p c i u b there k (choice-of c.rule (initial c) c.log u.thread there (wanted b) k (pick (length (choices c.rule (initial c) c.log u.thread there (wanted b))) ps).0 e) (kind_of b there k) refl)

    cell_rest : (b : acts.Access) (x : Option (Result CellId Case)) → rest (cell_tree p (picked c []) u b x) ps ≡ (pick (length (cell_moves c i u b x)) ps).1
    cell_rest b None = refl
    cell_rest b (Some (Err k)) = refl
    cell_rest b (Some (Ok there)) =
        rest_branches (length (choices c.rule (initial c) c.log u.thread there (wanted b))) (λ k. Leaf (on (slice_get (choices c.rule (initial c) c.log u.thread there (wanted b)) k) (takes_option p (picked c []) u b there))) ps
        ∙ sym (ap (λ n. (pick n ps).1) (map_length (option_move i u b there) (choices c.rule (initial c) c.log u.thread there (wanted b))))

    doing_leaf : (a : Option Act) → leaf (doing_tree p (picked c []) u a) ps ≡ made_by (λ e. doing_made p (picked c []) u e a) (slice_get (doing_moves c i u a) (pick (length (doing_moves c i u a)) ps).0)
    doing_leaf None = refl
    doing_leaf (Some (acts.Accesses b place)) = cell_leaf b (option_map or_case (cell_in c.objects place))
    doing_leaf (Some _) = refl

    doing_rest : (a : Option Act) → rest (doing_tree p (picked c []) u a) ps ≡ (pick (length (doing_moves c i u a)) ps).1
    doing_rest None = refl
    doing_rest (Some (acts.Accesses b place)) = cell_rest b (option_map or_case (cell_in c.objects place))
    doing_rest (Some _) = refl

  turn_leaf : (i : ℕ) (ps : List ℕ) (w : Option Waiter) (o : Option Turn) → leaf (turn_tree p (picked c []) w o) ps ≡ made_by (λ e. turn_made p (picked c []) e w o) (slice_get (turn_moves c i w o) (pick (length (turn_moves c i w o)) ps).0)
  turn_leaf i ps w None = refl
  turn_leaf i ps (Some w) (Some u) = refl
  turn_leaf i ps None (Some u) = doing_leaf i u ps u.doing.act

  turn_rest : (i : ℕ) (ps : List ℕ) (w : Option Waiter) (o : Option Turn) → rest (turn_tree p (picked c []) w o) ps ≡ (pick (length (turn_moves c i w o)) ps).1
  turn_rest i ps w None = refl
  turn_rest i ps (Some w) (Some u) = refl
  turn_rest i ps None (Some u) = doing_rest i u ps u.doing.act

  -- what comes of a move, if there is one
  abbrev pub move_outcome : Option Move → Outcome
  move_outcome None = Stuck
  move_outcome (Some a) = move_made p c a

  pub thread_leaf : (i : ℕ) (ps : List ℕ) → leaf (thread_tree p (picked c []) (Some i)) ps ≡ move_outcome (slice_get (thread_moves p c i) (pick (length (thread_moves p c i)) ps).0)
  thread_leaf i ps = turn_leaf i ps (find (is_of i) c.waiters) (turn_of p c i) ∙ by (slice_get (thread_moves p c i) (pick (length (thread_moves p c i)) ps).0) refl
    where
      by : (x : Option Move) → slice_get (thread_moves p c i) (pick (length (thread_moves p c i)) ps).0 ≡ x → made_by (λ e. turn_made p (picked c []) e (find (is_of i) c.waiters) (turn_of p c i)) x ≡ move_outcome x
      by None e = refl
      by (Some a) e = ap (λ j. turn_made p (picked c []) a.event (find (is_of j) c.waiters) (turn_of p c j)) (sym (move_thread p c i a (pick (length (thread_moves p c i)) ps).0 (get_at a (pick (length (thread_moves p c i)) ps).0 (thread_moves p c i) e)))

  pub thread_rest : (i : ℕ) (ps : List ℕ) → rest (thread_tree p (picked c []) (Some i)) ps ≡ (pick (length (thread_moves p c i)) ps).1
  thread_rest i ps = turn_rest i ps (find (is_of i) c.waiters) (turn_of p c i)

-- ---- runs

module _ (p : Program) where
  abbrev Agrees : Option Run → Run → Type 0
  Agrees x r = (x ≡ None) ⊎ (x ≡ Some r)

  goes_leaf : (f : Configuration → Tree (Option Run)) (n : ℕ) → ((d : Configuration) (ps : List ℕ) → Agrees (leaf (f d) ps) (leaf (local_tree p n d) ps)) → (o : Outcome) (ps : List ℕ) → Agrees (leaf (goes_on_sleeping f o) ps) (leaf (goes_on_tree (local_tree p n) o) ps)
  goes_leaf f n h (Next d) ps = elim (h d ps) [
    | inl e ↦ inl (leaf_grown (λ r. Leaf (option_map (behind (reverse d.lines)) r)) (f d) ps ∙ ap (option_map (behind (reverse d.lines))) e)
    | inr e ↦ inr (
        leaf_grown (λ r. Leaf (option_map (behind (reverse d.lines)) r)) (f d) ps ∙ ap (option_map (behind (reverse d.lines))) e
        ∙ ap Some (sym (leaf_grown (λ r. Leaf (behind (reverse d.lines) r)) (local_tree p n d) ps))
        )
  ]
  goes_leaf f n h (End ls e) ps = inr refl
  goes_leaf f n h (Asks view go) ps = inr refl
  goes_leaf f n h Stuck ps = inr refl

  abbrev pub grows : ℕ → Configuration → Outcome → Tree Run
  grows n c o = goes_on_tree (local_tree p n) (client_answers p c.client o)

  move_leaf : (more : Configuration → List Move → Tree (Option Run)) (n : ℕ) → ((d : Configuration) (sleep : List Move) (ps : List ℕ) → Agrees (leaf (more d sleep) ps) (leaf (local_tree p n d) ps))
      → (c : Configuration) (sleep before : List Move) (x : Option Move) (ps : List ℕ) → Agrees (leaf (one_move more p c sleep before x) ps) (leaf (grows n c (move_outcome p c x)) ps)
  move_leaf more n h c sleep before None ps = inr refl
  move_leaf more n h c sleep before (Some a) ps = by (sleeps a sleep)
    where
      by : (b : Bool) → Agrees (leaf (if b then Leaf None else goes_on_sleeping (λ d. more d (asleep c a sleep before)) (client_answers p c.client (move_made p c a))) ps) (leaf (grows n c (move_made p c a)) ps)
      by true = inl refl
      by false = goes_leaf (λ d. more d (asleep c a sleep before)) n (λ d. h d (asleep c a sleep before)) (client_answers p c.client (move_made p c a)) ps

  mover_leaf : (more : Configuration → List Move → Tree (Option Run)) (n : ℕ) → ((d : Configuration) (sleep : List Move) (ps : List ℕ) → Agrees (leaf (more d sleep) ps) (leaf (local_tree p n d) ps))
      → (c : Configuration) (sleep before : List Move) (x : Option ℕ) (ps : List ℕ) → Agrees (leaf (mover_tree more p c sleep before x) ps) (leaf (grows n c (leaf (thread_tree p (picked c []) x) ps)) (rest (thread_tree p (picked c []) x) ps))
  mover_leaf more n h c sleep before None ps = inr refl
  mover_leaf more n h c sleep before (Some i) ps =
      let ms : List Move = thread_moves p c i in
      let k : ℕ × List ℕ = pick (length ms) ps in
      let here = move_leaf more n h c sleep (before ++ take k.0 ms) (slice_get ms k.0) k.1 in
      let same : leaf (grows n c (leaf (thread_tree p (picked c []) (Some i)) ps)) (rest (thread_tree p (picked c []) (Some i)) ps) ≡ leaf (grows n c (move_outcome p c (slice_get ms k.0))) k.1 =
      ap (λ o. leaf (grows n c o) (rest (thread_tree p (picked c []) (Some i)) ps)) (thread_leaf p c i ps) ∙ ap (leaf (grows n c (move_outcome p c (slice_get ms k.0)))) (thread_rest p c i ps) in
      subst (λ x. Agrees x (leaf (grows n c (leaf (thread_tree p (picked c []) (Some i)) ps)) (rest (thread_tree p (picked c []) (Some i)) ps)))
      (sym (leaf_branches (length ms) (λ k. one_move more p c sleep (before ++ take k ms) (slice_get ms k)) ps))
      (subst (Agrees (leaf (one_move more p c sleep (before ++ take k.0 ms) (slice_get ms k.0)) k.1)) (sym same) here)

  step_leaf : (more : Configuration → List Move → Tree (Option Run)) (n : ℕ) → ((d : Configuration) (sleep : List Move) (ps : List ℕ) → Agrees (leaf (more d sleep) ps) (leaf (local_tree p n d) ps))
      → (c : Configuration) (sleep : List Move) (ts is : List ℕ) (ps : List ℕ) → Agrees (leaf (ends_or_moves more p c sleep ts is) ps) (leaf (grown (ends_or_branches p c ts is) (grows n c)) ps)
  step_leaf more n h c sleep [] is ps = inr refl
  step_leaf more n h c sleep (t ∷ ts) [] ps = inr refl
  step_leaf more n h c sleep (t ∷ ts) (i ∷ is) ps = by (c.steps == c.budget)
    where
      by : (b : Bool) → Agrees (leaf (if b then Leaf (Some (Ends [] [] (endings.Budget c.steps))) else branches (length (i ∷ is)) (λ k. mover_tree more p c sleep (flat_map (thread_moves p c) (take k (i ∷ is))) (slice_get (i ∷ is) k))) ps)
          (leaf (grown (if b then Leaf (End [] (endings.Budget c.steps)) else branches (length (i ∷ is)) (λ k. thread_tree p (picked c []) (slice_get (i ∷ is) k))) (grows n c)) ps)
      by true = inr refl
      by false =
          let k : ℕ × List ℕ = pick (length (i ∷ is)) ps in
          let kids : ℕ → Tree Outcome = λ k. thread_tree p (picked c []) (slice_get (i ∷ is) k) in
          let here = mover_leaf more n h c sleep (flat_map (thread_moves p c) (take k.0 (i ∷ is))) (slice_get (i ∷ is) k.0) k.1 in
          let same : leaf (grown (branches (length (i ∷ is)) kids) (grows n c)) ps ≡ leaf (grows n c (leaf (kids k.0) k.1)) (rest (kids k.0) k.1) =
          leaf_grown (grows n c) (branches (length (i ∷ is)) kids) ps
          ∙ ap (λ o. leaf (grows n c o) (rest (branches (length (i ∷ is)) kids) ps)) (leaf_branches (length (i ∷ is)) kids ps)
          ∙ ap (leaf (grows n c (leaf (kids k.0) k.1))) (rest_branches (length (i ∷ is)) kids ps) in
          subst (λ x. Agrees x (leaf (grown (branches (length (i ∷ is)) kids) (grows n c)) ps))
          (sym (leaf_branches (length (i ∷ is)) (λ k. mover_tree more p c sleep (flat_map (thread_moves p c) (take k (i ∷ is))) (slice_get (i ∷ is) k)) ps))
          (subst (Agrees (leaf (mover_tree more p c sleep (flat_map (thread_moves p c) (take k.0 (i ∷ is))) (slice_get (i ∷ is) k.0)) k.1)) (sym same) here)

  pub sleeping_agrees : (n : ℕ) (c : Configuration) (sleep : List Move) (ps : List ℕ) → Agrees (leaf (sleep_tree p n c sleep) ps) (leaf (local_tree p n c) ps)
  sleeping_agrees zero c sleep ps = inr refl
  sleeping_agrees (suc n) c sleep ps = by (least_local p c) (λ d sleep ps. sleeping_agrees n d sleep ps)
    where
      by : (o : Option ℕ) → ((d : Configuration) (sleep : List Move) (ps : List ℕ) → Agrees (leaf (sleep_tree p n d sleep) ps) (leaf (local_tree p n d) ps))
          → Agrees (leaf (first_sleeping (sleep_tree p n) p c sleep o) ps) (leaf (grown (first_tree p c o) (grows n c)) ps)
      by None ih = step_leaf (sleep_tree p n) n ih c sleep (threads_from 0 c.threads) (runnable c) ps
      by (Some i) ih = goes_leaf (λ d. sleep_tree p n d sleep) n (λ d. ih d sleep) (client_answers p c.client (turns p (picked c []) i)) ps
