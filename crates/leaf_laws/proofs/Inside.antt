-- What stands at the leaves of the tree in which local steps come first is among what stands at those of all schedules.
use Rattle.std.specs.Prelude.{◌≡◌, ℕ, zero, suc, Bool, true, false, ◌==◌, not, List, [], ◌∷◌, Option, Some, None, length, find, filter, map, reverse, slice_get, refl, if◌then◌else◌}
use Rattle.std.proofs.Common.{sym, ◌∙◌, ap, subst, inl, inr}
use Rattle.std.proofs.lemmas.Bool.Decides.{eqb_tells}
use Rattle.std.proofs.lemmas.Option.{slice_get_within}
use Rattle.futex.specs.declared.waiters.Waiter.{Waiter}
use Rattle.futex.specs.Waiting.{is_of}
use Rattle.typed_heap.specs.Places.{with_some}
use Rattle.mu_model.specs.declared.endings.Ending.TheVariants as endings
use Rattle.mu_model.specs.Configuration.{Configuration}
use Rattle.mu_model.specs.Acts as acts
use Rattle.mu_model.specs.Acts.{Act, Program}
use Rattle.mu_model.specs.Turns.{Turn, turn_of}
use Rattle.mu_model.specs.Outcomes.{Outcome, Next, End, Asks, Stuck, on}
use Rattle.mu_model.specs.Step.{threads_from, is_blocked, runnable, performed, turned, turns, picked}
use Rattle.mu_model.specs.Programs.{named}
use Rattle.mu_model.specs.Run.{Run, begins_in, behind, client_answers}
use Rattle.odometer.specs.Trees.{Tree, Leaf, branches, grown}
use Rattle.search_laws.specs.Moved.{act_tree, doing_tree, turn_tree, thread_tree, ends_or_branches, step_tree, goes_on_tree, run_tree}
use Rattle.search_laws.specs.Programs.{tree_from, text_of}
use Rattle.local_steps.specs.IsLocal.{is_local_act, does_local_act, is_local_turn, is_local, least_local}
use Rattle.local_laws.specs.LocalSteps.{first_tree, local_tree}
use Rattle.local_laws.specs.LocalSearch.{local_tree_from}
use Rattle.leaf_laws.specs.Leaves.{leaf_list, Among}
use Rattle.leaf_laws.specs.Local.{LocalRunsAreAmong}
use Rattle.leaf_laws.specs.Lemmas.Members.{among_mapped, among_trans}
use Rattle.leaf_laws.proofs.Grown.{grown_among, leaves_mapped, branch_among}

-- ---- lists

found_in : (q : ℕ → Bool) (i : ℕ) (xs : List ℕ) → find q xs ≡ Some i → (n : ℕ) × (slice_get xs n ≡ Some i) × (q i ≡ true)
found_in q i [] e = cc
found_in q i (x ∷ xs) e = by (q x) refl e (found_in q i xs)
  where
    by : (b : Bool) → q x ≡ b → (if b then Some x else find q xs) ≡ Some i → (find q xs ≡ Some i → (n : ℕ) × (slice_get xs n ≡ Some i) × (q i ≡ true)) → (n : ℕ) × (slice_get (x ∷ xs) n ≡ Some i) × (q i ≡ true)
    by true g e more = let same : x ≡ i = cc in (0, e, ap q (sym same) ∙ g)
    by false g e more = let r = more e in (suc r.0, r.1, r.2)

-- ---- a local step is one kid of the step

module _ (p : Program) where
  act_leaf : (c : Configuration) (u : Turn) (a : Act) → is_local_act p u a ≡ true → act_tree p c u a ≡ Leaf (performed p c u a)
  act_leaf c u (acts.Accesses a cell) h = cc
  act_leaf c u _ h = refl

  doing_leaf : (c : Configuration) (u : Turn) (o : Option Act) → does_local_act p u o ≡ true → doing_tree p c u o ≡ Leaf (on o (performed p c u))
  unfolding on
  doing_leaf c u None h = cc
  doing_leaf c u (Some a) h = act_leaf c u a h

  turn_leaf : (c : Configuration) (w : Option Waiter) (o : Option Turn) → is_local_turn p w o ≡ true → turn_tree p c w o ≡ Leaf (on o (turned p c w))
  unfolding on
  turn_leaf c (Some w) o h = cc
  turn_leaf c None None h = cc
  turn_leaf c None (Some u) h = doing_leaf c u u.doing.act h

  thread_leaf : (c : Configuration) (i : ℕ) → is_local p c i ≡ true → thread_tree p (picked c []) (Some i) ≡ Leaf (turns p (picked c []) i)
  thread_leaf c i h = turn_leaf (picked c []) (find (is_of i) c.waiters) (turn_of p c i) h

  -- the first step's thread stands among those that may be picked, where a step may be made
  abbrev IsAmong : Configuration → ℕ → Type 0
  IsAmong c i = (n : ℕ) × (slice_get (runnable c) n ≡ Some i) × (is_local p c i ≡ true) × ((c.steps == c.budget) ≡ false)

  least_among : (c : Configuration) (i : ℕ) → least_local p c ≡ Some i → IsAmong c i
  least_among c i e = elim (eqb_tells c.steps c.budget) [
    | inl q ↦ let none : None ≡ Some i = sym (ap (λ (b : Bool). if b then None else find (is_local p c) (runnable c)) q.0) ∙ e in cc
    | inr q ↦ let r = found_in (is_local p c) i (runnable c) (sym (ap (λ (b : Bool). if b then None else find (is_local p c) (runnable c)) q.0) ∙ e) in (r.0, r.1, r.2, q.0)
  ]

  none_of : (c : Configuration) → threads_from 0 c.threads ≡ [] → runnable c ≡ []
  none_of c e = ap (filter (λ i. not (is_blocked c.waiters i))) e

  -- ---- the leaves of runs

  -- what goes on behind the step of a local thread is among what goes on behind the step of any
  local_among : {A : Type 0} (c : Configuration) (i : ℕ) (more : Outcome → Tree A) → least_local p c ≡ Some i → Among (leaf_list (more (turns p (picked c []) i))) (leaf_list (grown (step_tree p c) more))
  local_among {A} c i more e = by (least_among c i e) (threads_from 0 c.threads) (runnable c) refl refl
    where
      by : IsAmong c i → (ts is : List ℕ) → threads_from 0 c.threads ≡ ts → runnable c ≡ is → Among (leaf_list (more (turns p (picked c []) i))) (leaf_list (grown (ends_or_branches p c ts is) more))
      by r ts [] a b = let none : None ≡ Some i = sym (ap (λ xs. slice_get xs r.0) b) ∙ r.1 in cc
      by r [] (j ∷ is) a b = let none : [] ≡ j ∷ is = sym (none_of c a) ∙ b in cc
      by r (t ∷ ts) (j ∷ is) a b =
          let at : slice_get (j ∷ is) r.0 ≡ Some i = sym (ap (λ xs. slice_get xs r.0) b) ∙ r.1 in
          let kids : ℕ → Tree Outcome = λ k. thread_tree p (picked c []) (slice_get (j ∷ is) k) in
          let kid : kids r.0 ≡ Leaf (turns p (picked c []) i) = ap (thread_tree p (picked c [])) at ∙ thread_leaf c i r.2 in
          let room : ends_or_branches p c (t ∷ ts) (j ∷ is) ≡ branches (length (j ∷ is)) kids = ap (λ (x : Bool). if x then Leaf (End [] (endings.Budget c.steps)) else branches (length (j ∷ is)) kids) r.3 in
          branch_among (length (j ∷ is)) r.0 kids (turns p (picked c []) i) more (ends_or_branches p c (t ∷ ts) (j ∷ is)) (slice_get_within (j ∷ is) r.0 i at) kid room

  go_on_among : (n : ℕ) → ((d : Configuration) → Among (leaf_list (local_tree p n d)) (leaf_list (run_tree p n d))) → (o : Outcome) → Among (leaf_list (goes_on_tree (local_tree p n) o)) (leaf_list (goes_on_tree (run_tree p n) o))
  go_on_among n h (Next d) =
      subst (λ xs. Among xs (leaf_list (grown (run_tree p n d) (λ r. Leaf (behind (reverse d.lines) r))))) (sym (leaves_mapped (behind (reverse d.lines)) (local_tree p n d)))
      (subst (λ ys. Among (map (behind (reverse d.lines)) (leaf_list (local_tree p n d))) ys) (sym (leaves_mapped (behind (reverse d.lines)) (run_tree p n d)))
      (among_mapped (behind (reverse d.lines)) (leaf_list (local_tree p n d)) (leaf_list (run_tree p n d)) (h d)))
  go_on_among n h (End ls e) = inl (refl, tt)
  go_on_among n h (Asks view go) = inl (refl, tt)
  go_on_among n h Stuck = inl (refl, tt)

  runs_among : (n : ℕ) (c : Configuration) → Among (leaf_list (local_tree p n c)) (leaf_list (run_tree p n c))
  runs_among zero c = inl (refl, tt)
  runs_among (suc n) c = by (least_local p c) refl (runs_among n)
    where
      less : Outcome → Tree Run
      less o = goes_on_tree (local_tree p n) (client_answers p c.client o)

      more : Outcome → Tree Run
      more o = goes_on_tree (run_tree p n) (client_answers p c.client o)

      by : (o : Option ℕ) → least_local p c ≡ o → ((d : Configuration) → Among (leaf_list (local_tree p n d)) (leaf_list (run_tree p n d))) → Among (leaf_list (local_tree p (suc n) c)) (leaf_list (run_tree p (suc n) c))
      by None e h =
          subst (λ o. Among (leaf_list (grown (first_tree p c o) less)) (leaf_list (grown (step_tree p c) more))) (sym e)
          (grown_among less more (step_tree p c) (λ o. go_on_among n h (client_answers p c.client o)))
      by (Some i) e h =
          let o : Outcome = turns p (picked c []) i in
          subst (λ o. Among (leaf_list (grown (first_tree p c o) less)) (leaf_list (grown (step_tree p c) more))) (sym e)
          (among_trans (leaf_list (less o)) (leaf_list (more o)) (leaf_list (grown (step_tree p c) more)) (go_on_among n h (client_answers p c.client o)) (local_among c i more e))

-- ---- the runs of a program

pub local_runs_are_among : LocalRunsAreAmong
local_runs_are_among bundle s f = by ((named bundle).body f)
  where
    p : Program
    p = named bundle

    first : Option (Option ℕ) → Option Configuration
    first o = with_some {B = Configuration} o (λ b. with_some {B = Configuration} b (λ block. Some (begins_in p s f block)))

    by : (o : Option (Option ℕ)) → Among (leaf_list (grown (local_tree_from p (first o)) (λ r. Leaf (text_of bundle s r)))) (leaf_list (grown (tree_from p (first o)) (λ r. Leaf (text_of bundle s r))))
    by None = inl (refl, tt)
    by (Some None) = inl (refl, tt)
    by (Some (Some block)) =
        let c : Configuration = begins_in p s f block in
        let local : Tree Run = local_tree p (suc s.budget) c in
        let all : Tree Run = run_tree p (suc s.budget) c in
        subst (λ xs. Among xs (leaf_list (grown all (λ r. Leaf (text_of bundle s r))))) (sym (leaves_mapped (text_of bundle s) local))
        (subst (λ ys. Among (map (text_of bundle s) (leaf_list local)) ys) (sym (leaves_mapped (text_of bundle s) all))
        (among_mapped (text_of bundle s) (leaf_list local) (leaf_list all) (runs_among p (suc s.budget) c)))
