-- The picks of a step: that of its thread, and that among the options of its access.
use Rattle.std.specs.Prelude.{◌≡◌, ℕ, ◌==◌, Bool, true, false, List, [], ◌∷◌, Option, Some, None, Result, Ok, Err, filter, find, length, not, option_map, slice_get, if◌then◌else◌, refl}
use Rattle.std.proofs.Common.{◌∙◌, ap}
use Rattle.mu_values.specs.declared.cells.CellId.{CellId}
use Rattle.typed_heap.specs.declared.faults.PlaceFault.{PlaceFault}
use Rattle.typed_heap.specs.Places.{cell_in}
use Rattle.mem_axioms.specs.Choices.{choices}
use Rattle.futex.specs.declared.waiters.Waiter.{Waiter}
use Rattle.mu_model.specs.Configuration.{Configuration}
use Rattle.mu_model.specs.Acts as acts
use Rattle.mu_model.specs.Acts.{Access, Act, Program}
use Rattle.mu_model.specs.Turns.{Turn, turn_of}
use Rattle.mu_model.specs.declared.endings.Ending.TheVariants.{Done, AllWaiting, Budget}
use Rattle.mu_model.specs.Outcomes.{Outcome, End, or_case, on}
use Rattle.mu_model.specs.Accesses.{initial, wanted, takes_option}
use Rattle.futex.specs.Waiting.{is_of}
use Rattle.mu_model.specs.Step.{threads_from, is_blocked, runnable, picked}
use Rattle.odometer.specs.Trees.{Tree, Leaf, branches, rest, pick}
use Rattle.odometer.specs.Odometer.{path}
use Rattle.odometer.specs.GrownLaws.{picks_one, path_branches, rest_branches}
use Rattle.odometer.specs.declared.picks.Pick.{Pick}
use Rattle.search_laws.specs.Moved.{cell_tree, doing_tree, turn_tree, thread_tree, ends_or_branches, step_tree}
use Rattle.run_state.specs.Options.{access_in, cell_options, access_options, turn_options, thread_options, step_options}

-- how many threads the next step has to pick from; no pick is made where no step may be made any more
abbrev pub step_threads : Configuration → ℕ
step_threads c = if c.steps == c.budget then 1 else length (runnable c)

-- the tree makes one pick among so many options, where there are two at least
pub record PicksOne (t : Tree Outcome) (n : ℕ) : Type 0 where
  pub path : (ps : List ℕ) → path t ps ≡ picks_one n (pick n ps).0 []
  pub rest : (ps : List ℕ) → rest t ps ≡ (pick n ps).1

no_pick : (o : Outcome) → PicksOne (Leaf o) 1
no_pick o = record { path = λ ps. refl; rest = λ ps. refl }

same_one : (n k : ℕ) (ps qs : List Pick) → ps ≡ qs → picks_one n k ps ≡ picks_one n k qs
same_one n k ps qs e = ap (picks_one n k) e

option_pick : (n : ℕ) (go : ℕ → Outcome) → PicksOne (branches n (λ k. Leaf (go k))) n
option_pick n go = record { path = λ ps. path_branches n (λ k. Leaf (go k)) ps; rest = λ ps. rest_branches n (λ k. Leaf (go k)) ps }

module _ (p : Program) (c : Configuration) (qs : List ℕ) where
  abbrev d : Configuration
  d = picked c qs

  cell_pick : (u : Turn) (a : Access) (o : Option (Result CellId PlaceFault)) → PicksOne (cell_tree p d u a (option_map or_case o)) (cell_options c u a o)
  cell_pick u a None = no_pick _
  cell_pick u a (Some (Err fault)) = no_pick _
  cell_pick u a (Some (Ok there)) =
      let ks = choices c.rule (initial c) c.log u.thread there (wanted a) in
      option_pick (length ks) (λ k. on (slice_get ks k) (takes_option p d u a there))

  act_pick : (u : Turn) (o : Option Act) → PicksOne (doing_tree p d u o) (access_options c u (access_in o))
  act_pick u None = no_pick _
  act_pick u (Some (acts.Accesses a cell)) = cell_pick u a (cell_in c.objects cell)
  act_pick u (Some (acts.Gives vs)) = no_pick _
  act_pick u (Some (acts.Faults k)) = no_pick _
  act_pick u (Some (acts.Goes g)) = no_pick _
  act_pick u (Some (acts.Calls f vs)) = no_pick _
  act_pick u (Some (acts.Replaces f vs)) = no_pick _
  act_pick u (Some (acts.Returns vs)) = no_pick _
  act_pick u (Some (acts.Throws e)) = no_pick _
  act_pick u (Some (acts.Casts k s)) = no_pick _
  act_pick u (Some (acts.Finds way s)) = no_pick _
  act_pick u (Some (acts.Makes t)) = no_pick _
  act_pick u (Some (acts.MakesHybrid t many)) = no_pick _
  act_pick u (Some (acts.MakesOwn t)) = no_pick _
  act_pick u (Some (acts.Fences o)) = no_pick _
  act_pick u (Some (acts.Traps cs)) = no_pick _
  act_pick u (Some (acts.Watches n cs g)) = no_pick _
  act_pick u (Some (acts.Chooses n g h)) = no_pick _
  act_pick u (Some (acts.Swaps s cs e)) = no_pick _
  act_pick u (Some (acts.Leaves s e)) = no_pick _
  act_pick u (Some (acts.Starts s own e)) = no_pick _
  act_pick u (Some (acts.MakesStack f)) = no_pick _
  act_pick u (Some (acts.KillsStack s)) = no_pick _
  act_pick u (Some acts.Tells) = no_pick _
  act_pick u (Some acts.Exits) = no_pick _
  act_pick u (Some (acts.SetsOwn s)) = no_pick _
  act_pick u (Some acts.TellsOwn) = no_pick _
  act_pick u (Some (acts.Waits timed v cell)) = no_pick _
  act_pick u (Some (acts.Wakes many cell)) = no_pick _

  turn_pick : (w : Option Waiter) (o : Option Turn) → PicksOne (turn_tree p d w o) (turn_options c w o)
  turn_pick (Some w) None = no_pick _
  turn_pick (Some w) (Some u) = no_pick _
  turn_pick None None = no_pick _
  turn_pick None (Some u) = act_pick u u.doing.act

  thread_pick : (o : Option ℕ) → PicksOne (thread_tree p d o) (thread_options p c o)
  thread_pick None = no_pick _
  thread_pick (Some i) = turn_pick (find (is_of i) c.waiters) (turn_of p c i)

-- the picks of a step, and the numbers that it leaves
pub record StepPath (p : Program) (c : Configuration) (ps : List ℕ) (threads options : ℕ) : Type 0 where
  pub path : path (step_tree p c) ps ≡ picks_one threads (pick threads ps).0 (picks_one options (pick options (pick threads ps).1).0 [])
  pub rest : rest (step_tree p c) ps ≡ (pick options (pick threads ps).1).1

module _ (p : Program) (c : Configuration) where
  kids : List ℕ → ℕ → Tree Outcome
  kids is k = thread_tree p (picked c []) (slice_get is k)

  tree_at : List ℕ → List ℕ → Bool → Tree Outcome
  tree_at [] is over = Leaf (End [] Done)
  tree_at (t ∷ ts) [] over = Leaf (End [] (AllWaiting (t ∷ ts)))
  tree_at (t ∷ ts) (i ∷ is) over = if over then Leaf (End [] (Budget c.steps)) else branches (length (i ∷ is)) (kids (i ∷ is))

  tree_is : (ts is : List ℕ) → ends_or_branches p c ts is ≡ tree_at ts is (c.steps == c.budget)
  unfolding tree_at kids
  tree_is [] is = refl
  tree_is (t ∷ ts) [] = refl
  tree_is (t ∷ ts) (i ∷ is) = refl

  threads_at : List ℕ → Bool → ℕ
  threads_at is over = if over then 1 else length is

  options_at : List ℕ → Bool → ℕ
  options_at is over = if over then 1 else thread_options p c (slice_get is (pick (length is) c.picks).0)

  PathIs : Tree Outcome → ℕ → ℕ → Type 0
  PathIs t m n = (path t c.picks ≡ picks_one m (pick m c.picks).0 (picks_one n (pick n (pick m c.picks).1).0 [])) × (rest t c.picks ≡ (pick n (pick m c.picks).1).1)

  path_at : (ts is : List ℕ) (over : Bool) → (ts ≡ [] → is ≡ []) → PathIs (tree_at ts is over) (threads_at is over) (options_at is over)
  unfolding tree_at kids threads_at options_at PathIs
  path_at [] [] true none = (refl, refl)
  path_at [] [] false none = (refl, refl)
  path_at [] (i ∷ is) over none = let no : i ∷ is ≡ [] = none refl in cc
  path_at (t ∷ ts) [] true none = (refl, refl)
  path_at (t ∷ ts) [] false none = (refl, refl)
  path_at (t ∷ ts) (i ∷ is) true none = (refl, refl)
  path_at (t ∷ ts) (i ∷ is) false none =
      let m : ℕ = length (i ∷ is) in
      let k = pick m c.picks in
      let one = thread_pick p c [] (slice_get (i ∷ is) k.0) in (
        path_branches m (kids (i ∷ is)) c.picks ∙ same_one m k.0 (path (kids (i ∷ is) k.0) k.1) (picks_one (thread_options p c (slice_get (i ∷ is) k.0)) (pick (thread_options p c (slice_get (i ∷ is) k.0)) k.1).0 []) (one.path k.1),
        rest_branches m (kids (i ∷ is)) c.picks ∙ one.rest k.1,
      )

  none_runs : (ts : List ℕ) → threads_from 0 c.threads ≡ ts → ts ≡ [] → runnable c ≡ []
  none_runs ts e none = ap (filter (λ i. not (is_blocked c.waiters i))) (e ∙ none)

  pub step_path : StepPath p c c.picks (step_threads c) (step_options p c)
  unfolding threads_at options_at PathIs
  step_path =
      let at : step_tree p c ≡ tree_at (threads_from 0 c.threads) (runnable c) (c.steps == c.budget) = tree_is (threads_from 0 c.threads) (runnable c) in
      let r = path_at (threads_from 0 c.threads) (runnable c) (c.steps == c.budget) (none_runs (threads_from 0 c.threads) refl) in
      record { path = ap (λ t. path t c.picks) at ∙ r.0; rest = ap (λ t. rest t c.picks) at ∙ r.1 }
