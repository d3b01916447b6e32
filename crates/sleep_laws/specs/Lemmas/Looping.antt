-- Steps of a loop that makes a run of the search, one after the other.
use Rattle.std.specs.Prelude.{◌≡◌, ◌⊎◌, ◌==◌, ◌%◌, ℕ, zero, suc, Bool, true, false, not, List, [], ◌∷◌, ◌++◌, Option, Some, None, Result, Ok, Err, option_map, filter, flat_map, find, length, reverse, slice_get, take, refl, if◌then◌else◌}
use Rattle.std.proofs.Common.{sym, ◌∙◌, ap, subst, inl, inr}
use Rattle.std.proofs.Math.Path.{fun_ext}
use Rattle.std.proofs.lemmas.Bool.Decides.{eqb_tells}
use Rattle.std.proofs.lemmas.List.{reverse-reverse}
use Rattle.mu_values.specs.declared.cells.CellId.{CellId}
use Rattle.typed_heap.specs.Places.{cell_in}
use Rattle.futex.specs.declared.waiters.Waiter.{Waiter}
use Rattle.futex.specs.Waiting.{is_of}
use Rattle.mem_axioms.specs.Choices.{choices}
use Rattle.mu_model.specs.declared.endings.Case.{Case}
use Rattle.mu_model.specs.declared.endings.Ending.{Ending}
use Rattle.mu_model.specs.declared.endings.Ending.TheVariants as endings
use Rattle.mu_model.specs.declared.lines.Line.{Line}
use Rattle.mu_model.specs.Clients.{Client}
use Rattle.mu_model.specs.Answers.{answer_of, advanced}
use Rattle.mu_model.specs.Configuration.{Configuration}
use Rattle.mu_model.specs.Acts as acts
use Rattle.mu_model.specs.Acts.{Act, Program}
use Rattle.mu_model.specs.Turns.{Turn, turn_of}
use Rattle.mu_model.specs.Outcomes.{Outcome, Next, End, Asks, Stuck, on, or_case}
use Rattle.mu_model.specs.Accesses.{initial, takes_option, wanted}
use Rattle.mu_model.specs.Step.{threads_from, is_blocked, runnable, turns, picked, picking_thread, ends_or_picks, step}
use Rattle.mu_model.specs.Run.{Run, Ends, Breaks, Unfinished, behind, goes_on, with_client, client_answers}
use Rattle.odometer.specs.Trees.{Tree, Leaf, Node, leaf, rest, branches, grown, pick}
use Rattle.odometer.specs.Odometer.{path}
use Rattle.odometer.specs.GrownLaws.{picks_one, leaf_branches, rest_branches, path_branches, leaf_grown}
use Rattle.odometer.specs.declared.picks.Pick.{Pick}
use Rattle.search_laws.specs.Local.{Acts}
use Rattle.search_laws.specs.Moved.{with_picks, moved, cell_tree, doing_tree, turn_tree, thread_tree, ends_or_branches, step_tree, StepsAreTrees}
use Rattle.local_steps.specs.IsLocal.{is_local, least_local}
use Rattle.local_laws.specs.LocalLoop.{WentOn, CameToEnd, PicksThread}
use Rattle.local_laws.specs.Lemmas.Forms.{Effect, effect, result, on_some, local_turns, Locals, locals}
use Rattle.local_laws.specs.Lemmas.Running.{In, found_in}
use Rattle.sleep_laws.specs.Fits.{plain}
use Rattle.sleep_moves.specs.Moves.{Move, option_move, cell_moves, doing_moves, turn_moves, thread_moves, move_made, asleep, sleeps}
use Rattle.sleep_laws.specs.SleepTree.{goes_on_sleeping, one_move, moves_tree, mover_tree, ends_or_moves, first_sleeping, sleep_tree}
use Rattle.sleep_laws.specs.SleepLoop.{moves_of, moves_before, PicksMove, PicksNone, GoesOn, FirstMovesGoOn, MovesGoOn, IsOver, MovesEnd, RunsEnd, MovesSleep}
use Rattle.sleep_laws.specs.Lemmas.Turning.{map_length}
use Rattle.sleep_laws.specs.Lemmas.Leaves.{move_outcome, thread_leaf, thread_rest}

-- ---- trees

path_kept : {A B : Type 0} (f : A → B) (t : Tree A) (ps : List ℕ) → path (grown t (λ a. Leaf (f a))) ps ≡ path t ps
path_kept f (Leaf a) ps = refl
path_kept f (Node n kids) [] = ap (λ (q : List Pick). record { picked = 0; options = suc (suc n) } ∷ q) (path_kept f (kids 0) [])
path_kept f (Node n kids) (q ∷ ps) = let k : ℕ = q % suc (suc n) in ap (λ (q : List Pick). record { picked = k; options = suc (suc n) } ∷ q) (path_kept f (kids k) ps)

pick_append : (n k : ℕ) (ps qs : List Pick) → picks_one n k (ps ++ qs) ≡ picks_one n k ps ++ qs
pick_append zero k ps qs = refl
pick_append (suc zero) k ps qs = refl
pick_append (suc (suc n)) k ps qs = refl

none_behind : {A : Type 0} (xs : List A) → xs ++ [] ≡ xs
none_behind [] = refl
none_behind (x ∷ xs) = ap (λ ys. x ∷ ys) (none_behind xs)

client_moved : (k : Client) (qs : List ℕ) (o : Outcome) → with_client k (moved qs o) ≡ moved qs (with_client k o)
client_moved k qs (Next c) = refl
client_moved k qs (End ls e) = refl
client_moved k qs (Asks view go) = refl
client_moved k qs Stuck = refl

told_moved : (p : Program) (k : Client) (qs : List ℕ) (o : Outcome) → client_answers p k (moved qs o) ≡ moved qs (client_answers p k o)
told_moved p k qs (Next c) = refl
told_moved p k qs (End ls e) = refl
told_moved p k qs (Asks view go) = client_moved (advanced k) qs (go (answer_of p.tables view k))
told_moved p k qs Stuck = refl

module _ (p : Program) where
  -- ---- the tree has no numbers and no lines of its own

  module _ (c : Configuration) (qs : List ℕ) (ls : List Line) where
    moves_plain : (i : ℕ) → thread_moves p (record c { picks = qs; lines = ls }) i ≡ thread_moves p c i
    moves_plain i = by (find (is_of i) c.waiters) (turn_of p c i)
      where
        cell : (u : Turn) (a : acts.Access) (x : Option (Result CellId Case)) → cell_moves (record c { picks = qs; lines = ls }) i u a x ≡ cell_moves c i u a x
        cell u a None = refl
        cell u a (Some (Err k)) = refl
        cell u a (Some (Ok there)) = refl

        does : (u : Turn) (a : Option Act) → doing_moves (record c { picks = qs; lines = ls }) i u a ≡ doing_moves c i u a
        does u None = refl
        does u (Some (acts.Accesses a place)) = cell u a (option_map or_case (cell_in c.objects place))
        does u (Some _) = refl

        by : (w : Option Waiter) (t : Option Turn) → turn_moves (record c { picks = qs; lines = ls }) i w t ≡ turn_moves c i w t
        by w None = refl
        by (Some w) (Some u) = refl
        by None (Some u) = does u u.doing.act

    module _ (n : ℕ) (sleep : List Move) where
      one_plain : (before : List Move) (a : Option Move) → one_move (sleep_tree p n) p (record c { picks = qs; lines = ls }) sleep before a ≡ one_move (sleep_tree p n) p c sleep before a
      one_plain before None = refl
      one_plain before (Some a) = refl

      own_plain : (before ms : List Move) → moves_tree (sleep_tree p n) p (record c { picks = qs; lines = ls }) sleep before ms ≡ moves_tree (sleep_tree p n) p c sleep before ms
      own_plain before ms = ap (branches (length ms)) (fun_ext (λ k. one_plain (before ++ take k ms) (slice_get ms k)))

      mover_plain : (before : List Move) (o : Option ℕ) → mover_tree (sleep_tree p n) p (record c { picks = qs; lines = ls }) sleep before o ≡ mover_tree (sleep_tree p n) p c sleep before o
      mover_plain before None = refl
      mover_plain before (Some i) = ap (moves_tree (sleep_tree p n) p (record c { picks = qs; lines = ls }) sleep before) (moves_plain i) ∙ own_plain before (thread_moves p c i)

      any_plain : (ts is : List ℕ) → ends_or_moves (sleep_tree p n) p (record c { picks = qs; lines = ls }) sleep ts is ≡ ends_or_moves (sleep_tree p n) p c sleep ts is
      any_plain [] is = refl
      any_plain (t ∷ ts) [] = refl
      any_plain (t ∷ ts) (i ∷ is) =
          ap (λ (kids : ℕ → Tree (Option Run)). if c.steps == c.budget then Leaf (Some (Ends [] [] (endings.Budget c.steps))) else branches (length (i ∷ is)) kids)
          (fun_ext (λ k.
          ap (λ (f : ℕ → List Move). mover_tree (sleep_tree p n) p (record c { picks = qs; lines = ls }) sleep (flat_map f (take k (i ∷ is))) (slice_get (i ∷ is) k)) (fun_ext moves_plain)
          ∙ mover_plain (flat_map (thread_moves p c) (take k (i ∷ is))) (slice_get (i ∷ is) k)))

  sleep_plain : (n : ℕ) (c : Configuration) (qs : List ℕ) (ls : List Line) (sleep : List Move) → sleep_tree p n (record c { picks = qs; lines = ls }) sleep ≡ sleep_tree p n c sleep
  sleep_plain zero c qs ls sleep = refl
  sleep_plain (suc n) c qs ls sleep = by (least_local p c)
    where
      by : (o : Option ℕ) → first_sleeping (sleep_tree p n) p (record c { picks = qs; lines = ls }) sleep o ≡ first_sleeping (sleep_tree p n) p c sleep o
      by None = any_plain c qs ls n sleep (threads_from 0 c.threads) (runnable c)
      by (Some i) = refl

  -- it is the same where only numbers and lines differ
  same_tree : (n : ℕ) (x d : Configuration) (sleep : List Move) → plain x ≡ plain d → sleep_tree p n x sleep ≡ sleep_tree p n d sleep
  same_tree n x d sleep e = sym (sleep_plain n x [] [] sleep) ∙ ap (λ c. sleep_tree p n c sleep) e ∙ sleep_plain n d [] [] sleep

  -- ---- a step that comes first

  none_of : (c : Configuration) → threads_from 0 c.threads ≡ [] → runnable c ≡ []
  none_of c e = ap (filter (λ i. not (is_blocked c.waiters i))) e

  least_parts : (c : Configuration) (i : ℕ) → least_local p c ≡ Some i → (is_local p c i ≡ true) × ((c.steps == c.budget) ≡ false)
  least_parts c i e = elim (eqb_tells c.steps c.budget) [
    | inl q ↦ let none : None ≡ Some i = sym (ap (λ (b : Bool). if b then None else find (is_local p c) (runnable c)) q.0) ∙ e in absurd (cc)
    | inr q ↦ let r = found_in (is_local p c) i (runnable c) (sym (ap (λ (b : Bool). if b then None else find (is_local p c) (runnable c)) q.0) ∙ e) in (r.1, q.0)
  ]

  -- by these numbers it is the step of that thread
  step_is : (c : Configuration) (i : ℕ) (picks : List ℕ) → least_local p c ≡ Some i → PicksThread c picks i → step p (with_picks picks c) ≡ turns p (picked c (pick (length (runnable c)) picks).1) i
  step_is c i picks e at = by (threads_from 0 c.threads) (runnable c) refl refl at
    where
      by : (ts is : List ℕ) → threads_from 0 c.threads ≡ ts → runnable c ≡ is → slice_get is (pick (length is) picks).0 ≡ Some i
          → ends_or_picks p (with_picks picks c) ts is ≡ turns p (picked c (pick (length is) picks).1) i
      by ts [] a b at = let none : None ≡ Some i = at in absurd (cc)
      by [] (j ∷ js) a b at = let none : [] ≡ j ∷ js = sym (none_of c a) ∙ b in absurd (cc)
      by (t ∷ ts) (j ∷ js) a b at =
          ap (λ (x : Bool). if x then End [] (endings.Budget c.steps) else picking_thread p (with_picks picks c) (j ∷ js)) (least_parts c i e).1
          ∙ on_some (slice_get (j ∷ js) (pick (length (j ∷ js)) picks).0) i (turns p (picked c (pick (length (j ∷ js)) picks).1)) at

  -- a local step, where the schedule has these numbers left
  local_made : (c : Configuration) (i : ℕ) (h : Locals p c i) (left : List ℕ) → client_answers p c.client (turns p (picked c left) i) ≡ on (effect p h.u h.a) (λ e. Next (result i h.t e (picked c left)))
  unfolding on
  local_made c i h left = ap (client_answers p c.client) (local_turns p (picked c left) i h.t h.u h.a acts h.alone) ∙ by (effect p h.u h.a)
    where
      acts : Acts p (picked c left) i h.t h.u h.a
      acts = record { thread = h.acts.thread; turn = h.acts.turn; awake = h.acts.awake; act = h.acts.act; own = h.acts.own }

      by : (o : Option Effect) → client_answers p c.client (on o (λ e. Next (result i h.t e (picked c left)))) ≡ on o (λ e. Next (result i h.t e (picked c left)))
      by None = refl
      by (Some e) = refl

  pub first_moves_go_on : (n i : ℕ) (c d : Configuration) (ls : List Line) (sleep : List Move) (picks numbers : List ℕ) → least_local p c ≡ Some i → PicksThread c picks i → WentOn p c picks ls d → GoesOn p n c d ls sleep sleep [] numbers numbers
  unfolding on
  first_moves_go_on n i c d ls sleep picks numbers e at w = by (effect p h.u h.a) refl (w ∙ ap (client_answers p c.client) (step_is c i picks e at) ∙ local_made c i h left)
    where
      h : Locals p c i
      h = locals p c i (least_parts c i e).0

      left : List ℕ
      left = (pick (length (runnable c)) picks).1

      by : (o : Option Effect) → effect p h.u h.a ≡ o → Next (record d { lines = reverse ls }) ≡ on o (λ x. Next (result i h.t x (picked c left))) → GoesOn p n c d ls sleep sleep [] numbers numbers
      by None q s = let no : Next (record d { lines = reverse ls }) ≡ Stuck = s in absurd (cc)
      by (Some x) q s =
          let y : Configuration = result i h.t x (picked c []) in
          let both : Next (record d { lines = reverse ls }) ≡ Next (result i h.t x (picked c left)) = s in
          let same : record d { lines = reverse ls } ≡ result i h.t x (picked c left) = cc in
          let goes : client_answers p c.client (turns p (picked c []) i) ≡ Next y = local_made c i h [] ∙ ap (λ o. on o (λ x. Next (result i h.t x (picked c [])))) q in
          let written : reverse y.lines ≡ ls = ap (λ (c : Configuration). reverse c.lines) (sym same) ∙ reverse-reverse ls in
          let trees : sleep_tree p n y sleep ≡ sleep_tree p n d sleep = same_tree n y d sleep (ap plain (sym same)) in
          record {
            path = ap (λ w. path (first_sleeping (sleep_tree p n) p c sleep w) numbers) e
                ∙ ap (λ o. path (goes_on_sleeping (λ d. sleep_tree p n d sleep) o) numbers) goes
                ∙ path_kept (option_map (behind (reverse y.lines))) (sleep_tree p n y sleep) numbers
                ∙ ap (λ t. path t numbers) trees;
            leaf = ap (λ w. leaf (first_sleeping (sleep_tree p n) p c sleep w) numbers) e
                ∙ ap (λ o. leaf (goes_on_sleeping (λ d. sleep_tree p n d sleep) o) numbers) goes
                ∙ leaf_grown (λ r. Leaf (option_map (behind (reverse y.lines)) r)) (sleep_tree p n y sleep) numbers
                ∙ ap (λ t. option_map (behind (reverse y.lines)) (leaf t numbers)) trees
                ∙ ap (λ ls. option_map (behind ls) (leaf (sleep_tree p n d sleep) numbers)) written;
          }

  -- ---- the picks of a thread's step are those of its moves

  module _ (c : Configuration) (i : ℕ) (ps : List ℕ) where
    cell_path : (u : Turn) (b : acts.Access) (x : Option (Result CellId Case)) → path (cell_tree p (picked c []) u b x) ps ≡ picks_one (length (cell_moves c i u b x)) (pick (length (cell_moves c i u b x)) ps).0 []
    cell_path u b None = refl
    cell_path u b (Some (Err k)) = refl
    cell_path u b (Some (Ok there)) =
        path_branches (length (choices c.rule (initial c) c.log u.thread there (wanted b))) (λ k. Leaf (on (slice_get (choices c.rule (initial c) c.log u.thread there (wanted b)) k) (takes_option p (picked c []) u b there))) ps
        ∙ sym (ap (λ n. picks_one n (pick n ps).0 []) (map_length (option_move i u b there) (choices c.rule (initial c) c.log u.thread there (wanted b))))

    doing_path : (u : Turn) (a : Option Act) → path (doing_tree p (picked c []) u a) ps ≡ picks_one (length (doing_moves c i u a)) (pick (length (doing_moves c i u a)) ps).0 []
    doing_path u None = refl
    doing_path u (Some (acts.Accesses b place)) = cell_path u b (option_map or_case (cell_in c.objects place))
    doing_path u (Some _) = refl

    turn_path : (w : Option Waiter) (o : Option Turn) → path (turn_tree p (picked c []) w o) ps ≡ picks_one (length (turn_moves c i w o)) (pick (length (turn_moves c i w o)) ps).0 []
    turn_path w None = refl
    turn_path (Some w) (Some u) = refl
    turn_path None (Some u) = doing_path u u.doing.act

    thread_path : path (thread_tree p (picked c []) (Some i)) ps ≡ picks_one (length (thread_moves p c i)) (pick (length (thread_moves p c i)) ps).0 []
    thread_path = turn_path (find (is_of i) c.waiters) (turn_of p c i)

  -- ---- a move

  module _ (c : Configuration) (numbers : List ℕ) (n : ℕ) (sleep : List Move) (a : Move) where
    abbrev one : List Move → Tree (Option Run)
    one before = one_move (sleep_tree p n) p c sleep before (Some a)

    -- what stands before the move, by the threads that may run and the one that is picked
    abbrev before_by : List ℕ → Option ℕ → List Move
    before_by is o = flat_map (thread_moves p c) (take (pick (length is) numbers).0 is) ++ take (pick (length (moves_of p c o)) (pick (length is) numbers).1).0 (moves_of p c o)

    -- what comes of the move, and the tree behind it
    record Stands (t : Tree Outcome) (s : Tree (Option Run)) (before : List Move) : Type 0 where
      outcome : leaf t numbers ≡ move_made p c a
      end : leaf s numbers ≡ leaf (one before) (rest t numbers)
      way : path s numbers ≡ path t numbers ++ path (one before) (rest t numbers)

    stands_at : (t i : ℕ) (ts is : List ℕ) → (c.steps == c.budget) ≡ false → (o : Option ℕ) → slice_get (i ∷ is) (pick (length (i ∷ is)) numbers).0 ≡ o
        → slice_get (moves_of p c o) (pick (length (moves_of p c o)) (pick (length (i ∷ is)) numbers).1).0 ≡ Some a
        → Stands (ends_or_branches p c (t ∷ ts) (i ∷ is)) (ends_or_moves (sleep_tree p n) p c sleep (t ∷ ts) (i ∷ is)) (before_by (i ∷ is) o)
    stands_at t i ts is room None at m = let no : None ≡ Some a = m in absurd (cc)
    stands_at t i ts is room (Some j) at m = record {
      outcome = ap (λ t. leaf t numbers) step_so ∙ leaf_branches (length (i ∷ is)) outcomes numbers ∙ ap (λ o. leaf (thread_tree p (picked c []) o) q.1) at ∙ thread_leaf p c j q.1 ∙ ap (move_outcome p c) m;
      end = ap (λ t. leaf t numbers) tree_so ∙ leaf_branches (length (i ∷ is)) kids numbers ∙ ap (λ o. leaf (mover_tree (sleep_tree p n) p c sleep front o) q.1) at
          ∙ leaf_branches (length ms) own q.1 ∙ ap (λ o. leaf (one_move (sleep_tree p n) p c sleep (before_by (i ∷ is) (Some j)) o) (pick (length ms) q.1).1) m
          ∙ ap (leaf (one (before_by (i ∷ is) (Some j)))) (sym rest_so);
      way = ap (λ t. path t numbers) tree_so ∙ path_branches (length (i ∷ is)) kids numbers
          ∙ ap (picks_one (length (i ∷ is)) q.0) (ap (λ o. path (mover_tree (sleep_tree p n) p c sleep front o) q.1) at ∙ path_branches (length ms) own q.1
          ∙ ap (λ o. picks_one (length ms) (pick (length ms) q.1).0 (path (one_move (sleep_tree p n) p c sleep (before_by (i ∷ is) (Some j)) o) (pick (length ms) q.1).1)) m
          ∙ pick_append (length ms) (pick (length ms) q.1).0 [] (path (one (before_by (i ∷ is) (Some j))) (pick (length ms) q.1).1))
          ∙ pick_append (length (i ∷ is)) q.0 (picks_one (length ms) (pick (length ms) q.1).0 []) (path (one (before_by (i ∷ is) (Some j))) (pick (length ms) q.1).1)
          ∙ ap (λ ps. ps ++ path (one (before_by (i ∷ is) (Some j))) (pick (length ms) q.1).1) (sym path_so)
          ∙ ap (λ qs. path (ends_or_branches p c (t ∷ ts) (i ∷ is)) numbers ++ path (one (before_by (i ∷ is) (Some j))) qs) (sym rest_so);
    }
      where
        q : ℕ × List ℕ
        q = pick (length (i ∷ is)) numbers

        ms : List Move
        ms = thread_moves p c j

        front : List Move
        front = flat_map (thread_moves p c) (take (pick (length (i ∷ is)) numbers).0 (i ∷ is))

        outcomes : ℕ → Tree Outcome
        outcomes k = thread_tree p (picked c []) (slice_get (i ∷ is) k)

        kids : ℕ → Tree (Option Run)
        kids k = mover_tree (sleep_tree p n) p c sleep (flat_map (thread_moves p c) (take k (i ∷ is))) (slice_get (i ∷ is) k)

        own : ℕ → Tree (Option Run)
        own k = one_move (sleep_tree p n) p c sleep (flat_map (thread_moves p c) (take (pick (length (i ∷ is)) numbers).0 (i ∷ is)) ++ take k (thread_moves p c j)) (slice_get (thread_moves p c j) k)

        step_so : ends_or_branches p c (t ∷ ts) (i ∷ is) ≡ branches (length (i ∷ is)) (λ k. thread_tree p (picked c []) (slice_get (i ∷ is) k))
        step_so = ap (λ (b : Bool). if b then Leaf (End [] (endings.Budget c.steps)) else branches (length (i ∷ is)) (λ k. thread_tree p (picked c []) (slice_get (i ∷ is) k))) room

        tree_so : ends_or_moves (sleep_tree p n) p c sleep (t ∷ ts) (i ∷ is) ≡ branches (length (i ∷ is)) (λ k. mover_tree (sleep_tree p n) p c sleep (flat_map (thread_moves p c) (take k (i ∷ is))) (slice_get (i ∷ is) k))
        tree_so = ap (λ (b : Bool). if b then Leaf (Some (Ends [] [] (endings.Budget c.steps))) else branches (length (i ∷ is)) (λ k. mover_tree (sleep_tree p n) p c sleep (flat_map (thread_moves p c) (take k (i ∷ is))) (slice_get (i ∷ is) k))) room

        rest_so : rest (ends_or_branches p c (t ∷ ts) (i ∷ is)) numbers ≡ (pick (length (thread_moves p c j)) (pick (length (i ∷ is)) numbers).1).1
        rest_so = ap (λ t. rest t numbers) step_so ∙ rest_branches (length (i ∷ is)) (λ k. thread_tree p (picked c []) (slice_get (i ∷ is) k)) numbers
            ∙ ap (λ o. rest (thread_tree p (picked c []) o) (pick (length (i ∷ is)) numbers).1) at ∙ thread_rest p c j (pick (length (i ∷ is)) numbers).1

        path_so : path (ends_or_branches p c (t ∷ ts) (i ∷ is)) numbers ≡ picks_one (length (i ∷ is)) (pick (length (i ∷ is)) numbers).0 (picks_one (length (thread_moves p c j)) (pick (length (thread_moves p c j)) (pick (length (i ∷ is)) numbers).1).0 [])
        path_so = ap (λ t. path t numbers) step_so ∙ path_branches (length (i ∷ is)) (λ k. thread_tree p (picked c []) (slice_get (i ∷ is) k)) numbers
            ∙ ap (picks_one (length (i ∷ is)) (pick (length (i ∷ is)) numbers).0) (ap (λ o. path (thread_tree p (picked c []) o) (pick (length (i ∷ is)) numbers).1) at ∙ thread_path c j (pick (length (i ∷ is)) numbers).1)

    stands : PicksMove p c numbers a → Stands (step_tree p c) (sleep_tree p (suc n) c sleep) (moves_before p c numbers)
    stands h = subst (λ w. Stands (step_tree p c) (first_sleeping (sleep_tree p n) p c sleep w) (moves_before p c numbers)) (sym h.calm) (by (threads_from 0 c.threads) (runnable c) refl refl h.move)
      where
        by : (ts is : List ℕ) → threads_from 0 c.threads ≡ ts → runnable c ≡ is → slice_get (moves_of p c (slice_get is (pick (length is) numbers).0)) (pick (length (moves_of p c (slice_get is (pick (length is) numbers).0))) (pick (length is) numbers).1).0 ≡ Some a
            → Stands (ends_or_branches p c ts is) (ends_or_moves (sleep_tree p n) p c sleep ts is) (before_by is (slice_get is (pick (length is) numbers).0))
        by ts [] x y m = let no : None ≡ Some a = m in absurd (cc)
        by [] (i ∷ is) x y m = let no : [] ≡ i ∷ is = sym (none_of c x) ∙ y in absurd (cc)
        by (t ∷ ts) (i ∷ is) x y m = stands_at t i ts is h.room (slice_get (i ∷ is) (pick (length (i ∷ is)) numbers).0) refl m

    -- a move that sleeps
    pub moves_sleep : PicksMove p c numbers a → sleeps a sleep ≡ true → IsOver p n c sleep numbers None
    moves_sleep h e = record {
      path = s.way ∙ ap (λ t. path (step_tree p c) numbers ++ path t (rest (step_tree p c) numbers)) out ∙ none_behind (path (step_tree p c) numbers);
      leaf = s.end ∙ ap (λ t. leaf t (rest (step_tree p c) numbers)) out;
    }
      where
        s : Stands (step_tree p c) (sleep_tree p (suc n) c sleep) (moves_before p c numbers)
        s = stands h

        out : one_move (sleep_tree p n) p c sleep (moves_before p c numbers) (Some a) ≡ Leaf None
        out = ap (λ (b : Bool). if b then Leaf None else goes_on_sleeping (λ d. sleep_tree p n d (asleep c a sleep (moves_before p c numbers))) (client_answers p c.client (move_made p c a))) e

    module _ (trees : StepsAreTrees) (h : PicksMove p c numbers a) (awake : sleeps a sleep ≡ false) where
      abbrev after : List Move
      after = asleep c a sleep (moves_before p c numbers)

      told : client_answers p c.client (step p (with_picks numbers c)) ≡ moved (rest (step_tree p c) numbers) (client_answers p c.client (move_made p c a))
      told =
          ap (client_answers p c.client) (trees p c numbers) ∙ told_moved p c.client (rest (step_tree p c) numbers) (leaf (step_tree p c) numbers)
          ∙ ap (λ o. moved (rest (step_tree p c) numbers) (client_answers p c.client o)) (stands h).outcome

      on_it : one_move (sleep_tree p n) p c sleep (moves_before p c numbers) (Some a) ≡ goes_on_sleeping (λ d. sleep_tree p n d after) (client_answers p c.client (move_made p c a))
      on_it = ap (λ (b : Bool). if b then Leaf None else goes_on_sleeping (λ d. sleep_tree p n d (asleep c a sleep (moves_before p c numbers))) (client_answers p c.client (move_made p c a))) awake

      way_on : path (sleep_tree p (suc n) c sleep) numbers ≡ path (step_tree p c) numbers ++ path (goes_on_sleeping (λ d. sleep_tree p n d after) (client_answers p c.client (move_made p c a))) (rest (step_tree p c) numbers)
      way_on = (stands h).way ∙ ap (λ t. path (step_tree p c) numbers ++ path t (rest (step_tree p c) numbers)) on_it

      end_on : leaf (sleep_tree p (suc n) c sleep) numbers ≡ leaf (goes_on_sleeping (λ d. sleep_tree p n d after) (client_answers p c.client (move_made p c a))) (rest (step_tree p c) numbers)
      end_on = (stands h).end ∙ ap (λ t. leaf t (rest (step_tree p c) numbers)) on_it

      pub moves_go_on : (d : Configuration) (ls : List Line) → WentOn p c numbers ls d → GoesOn p n c d ls sleep (asleep c a sleep (moves_before p c numbers)) (path (step_tree p c) numbers) numbers d.picks
      moves_go_on d ls w = by (client_answers p c.client (move_made p c a)) refl (w ∙ told)
        where
          by : (o : Outcome) → client_answers p c.client (move_made p c a) ≡ o → Next (record d { lines = reverse ls }) ≡ moved (rest (step_tree p c) numbers) o
              → GoesOn p n c d ls sleep (asleep c a sleep (moves_before p c numbers)) (path (step_tree p c) numbers) numbers d.picks
          by (Next x) is q =
              let r : List ℕ = rest (step_tree p c) numbers in
              let both : Next (record d { lines = reverse ls }) ≡ Next (with_picks r x) = q in
              let same : record d { lines = reverse ls } ≡ with_picks r x = cc in
              let own : sleep_tree p n x after ≡ sleep_tree p n d after = same_tree n x d after (ap plain (sym same)) in
              let picks : r ≡ d.picks = ap (λ (c : Configuration). c.picks) (sym same) in
              let written : reverse x.lines ≡ ls = ap (λ (c : Configuration). reverse c.lines) (sym same) ∙ reverse-reverse ls in
              record {
                path = way_on ∙ ap (λ o. path (step_tree p c) numbers ++ path (goes_on_sleeping (λ d. sleep_tree p n d after) o) r) is
                    ∙ ap (λ q. path (step_tree p c) numbers ++ q) (path_kept (option_map (behind (reverse x.lines))) (sleep_tree p n x after) r ∙ ap (λ t. path t r) own ∙ ap (path (sleep_tree p n d after)) picks);
                leaf = end_on ∙ ap (λ o. leaf (goes_on_sleeping (λ d. sleep_tree p n d after) o) r) is
                    ∙ leaf_grown (λ r. Leaf (option_map (behind (reverse x.lines)) r)) (sleep_tree p n x after) r
                    ∙ ap (λ t. option_map (behind (reverse x.lines)) (leaf t r)) own ∙ ap (λ qs. option_map (behind (reverse x.lines)) (leaf (sleep_tree p n d after) qs)) picks
                    ∙ ap (λ ls. option_map (behind ls) (leaf (sleep_tree p n d after) d.picks)) written;
              }
          by (End ms x) is q = let no : Next (record d { lines = reverse ls }) ≡ End ms x = q in absurd (cc)
          by (Asks view go) is q = let no : Next (record d { lines = reverse ls }) ≡ Asks view (λ a. moved (rest (step_tree p c) numbers) (go a)) = q in absurd (cc)
          by Stuck is q = let no : Next (record d { lines = reverse ls }) ≡ Stuck = q in absurd (cc)

      pub moves_end : (ls : List Line) (e : Ending) → CameToEnd p c numbers ls e → IsOver p n c sleep numbers (Some (Ends [] ls e))
      moves_end ls e w = by (client_answers p c.client (move_made p c a)) refl (w ∙ told)
        where
          by : (o : Outcome) → client_answers p c.client (move_made p c a) ≡ o → End ls e ≡ moved (rest (step_tree p c) numbers) o → IsOver p n c sleep numbers (Some (Ends [] ls e))
          by (Next x) is q = let no : End ls e ≡ Next (with_picks (rest (step_tree p c) numbers) x) = q in absurd (cc)
          by (End ms x) is q =
              let same : End ls e ≡ End ms x = q in
              record {
                path = way_on ∙ ap (λ o. path (step_tree p c) numbers ++ path (goes_on_sleeping (λ d. sleep_tree p n d after) o) (rest (step_tree p c) numbers)) is ∙ none_behind (path (step_tree p c) numbers);
                leaf = end_on ∙ ap (λ o. leaf (goes_on_sleeping (λ d. sleep_tree p n d after) o) (rest (step_tree p c) numbers)) (is ∙ sym same);
              }
          by (Asks view go) is q = let no : End ls e ≡ Asks view (λ a. moved (rest (step_tree p c) numbers) (go a)) = q in absurd (cc)
          by Stuck is q = let no : End ls e ≡ Stuck = q in absurd (cc)

  -- no move can be made
  record IsEnd (numbers : List ℕ) (ls : List Line) (e : Ending) (t : Tree Outcome) (s : Tree (Option Run)) : Type 0 where
    way : path s numbers ≡ path t numbers
    end : leaf s numbers ≡ Some (Ends [] ls e)

  pub runs_end : (c : Configuration) (numbers : List ℕ) (n : ℕ) (sleep : List Move) (ls : List Line) (e : Ending) → PicksNone p c → CameToEnd p c numbers ls e → IsOver p n c sleep numbers (Some (Ends [] ls e))
  runs_end c numbers n sleep ls e h w =
      let r = by (threads_from 0 c.threads) (runnable c) h.none w in
      record {
        path = ap (λ q. path (first_sleeping (sleep_tree p n) p c sleep q) numbers) h.calm ∙ r.way;
        leaf = ap (λ q. leaf (first_sleeping (sleep_tree p n) p c sleep q) numbers) h.calm ∙ r.end;
      }
    where
      by : (ts is : List ℕ) → (is ≡ []) ⊎ ((c.steps == c.budget) ≡ true) → End ls e ≡ client_answers p c.client (ends_or_picks p (with_picks numbers c) ts is) → IsEnd numbers ls e (ends_or_branches p c ts is) (ends_or_moves (sleep_tree p n) p c sleep ts is)
      by [] is x w = let same : End ls e ≡ End [] endings.Done = w in record { way = refl; end = ap (λ o. Some (goes_on (λ d. Unfinished) o)) (sym same) }
      by (t ∷ ts) [] x w = let same : End ls e ≡ End [] (endings.AllWaiting (t ∷ ts)) = w in record { way = refl; end = ap (λ o. Some (goes_on (λ d. Unfinished) o)) (sym same) }
      by (t ∷ ts) (i ∷ is) (inl none) w = absurd (cc)
      by (t ∷ ts) (i ∷ is) (inr full) w =
          let same : End ls e ≡ End [] (endings.Budget c.steps) = w ∙ ap (λ (b : Bool). client_answers p c.client (if b then End [] (endings.Budget c.steps) else picking_thread p (with_picks numbers c) (i ∷ is))) full in
          let tree : ends_or_moves (sleep_tree p n) p c sleep (t ∷ ts) (i ∷ is) ≡ Leaf (Some (Ends [] [] (endings.Budget c.steps))) =
          ap (λ (b : Bool). if b then Leaf (Some (Ends [] [] (endings.Budget c.steps))) else branches (length (i ∷ is)) (λ k. mover_tree (sleep_tree p n) p c sleep (flat_map (thread_moves p c) (take k (i ∷ is))) (slice_get (i ∷ is) k))) full in
          let other : ends_or_branches p c (t ∷ ts) (i ∷ is) ≡ Leaf (End [] (endings.Budget c.steps)) =
          ap (λ (b : Bool). if b then Leaf (End [] (endings.Budget c.steps)) else branches (length (i ∷ is)) (λ k. thread_tree p (picked c []) (slice_get (i ∷ is) k))) full in
          record { way = ap (λ t. path t numbers) tree ∙ sym (ap (λ t. path t numbers) other); end = ap (λ t. leaf t numbers) tree ∙ ap (λ o. Some (goes_on (λ d. Unfinished) o)) (sym same) }
