-- Steps of a loop, one after the other.
use Rattle.std.specs.Prelude.{◌≡◌, ◌≢◌, ℕ, suc, ◌%◌, Bool, List, [], ◌∷◌, ◌++◌, Option, Some, None, length, reverse, slice_get, refl, if◌then◌else◌}
use Rattle.std.proofs.Common.{sym, ◌∙◌, ap, arith}
use Rattle.std.proofs.Math.Nat.{mod-eq_of_lt}
use Rattle.std.proofs.lemmas.List.{reverse-reverse}
use Rattle.std.proofs.lemmas.Nat.{mod_below}
use Rattle.mu_model.specs.declared.lines.Line.{Line}
use Rattle.mu_model.specs.declared.endings.Ending.{Ending}
use Rattle.mu_model.specs.declared.endings.Ending.TheVariants as endings
use Rattle.mu_model.specs.Configuration.{Configuration}
use Rattle.mu_model.specs.Acts.{Program}
use Rattle.mu_model.specs.Outcomes.{Outcome, Next, End, Asks, Stuck, on}
use Rattle.mu_model.specs.Step.{threads_from, runnable, turns, picked, picking_thread, ends_or_picks, step}
use Rattle.mu_model.specs.Run.{Run, Ends, behind, client_answers, goes_on, run}
use Rattle.mu_threads.specs.Picks.{pick}
use Rattle.odometer.specs.Trees.{Tree, Leaf, Node, leaf, rest, grown}
use Rattle.odometer.specs.Odometer.{path, digits}
use Rattle.odometer.specs.GrownLaws.{leaf_grown, path_grown}
use Rattle.odometer.specs.declared.picks.Pick.{Pick}
use Rattle.search_laws.specs.Moved.{with_picks, moved, step_tree, goes_on_tree, run_tree, StepsAreTrees, RunsAreTrees, TreesArePlain}
use Rattle.local_steps.specs.IsLocal.{least_local}
use Rattle.local_laws.specs.LocalSteps.{first_tree, local_tree, made, plain}
use Rattle.local_laws.specs.LocalLoop.{WentOn, CameToEnd, PicksThread, GoesOnFirst, GoesOnAny, IsOverAny, NoneBreaks}
use Rattle.local_laws.specs.Lemmas.Forms.{Effect, effect, result, on_some, Locals, locals}
use Rattle.local_laws.proofs.Meeting.{local_made, Went, went}
use Rattle.local_laws.proofs.Joining.{told_moved, local_plain, none_of}
use Rattle.local_laws.proofs.Scheduled.{least_parts}

-- ---- trees

path_kept : {A B : Type 0} (f : A → B) (t : Tree A) (ps : List ℕ) → path (grown t (λ a. Leaf (f a))) ps ≡ path t ps
path_kept f (Leaf a) ps = refl
path_kept f (Node n kids) [] = ap (λ (q : List Pick). record { picked = 0; options = suc (suc n) } ∷ q) (path_kept f (kids 0) [])
path_kept f (Node n kids) (q ∷ ps) = let k : ℕ = q % suc (suc n) in ap (λ (q : List Pick). record { picked = k; options = suc (suc n) } ∷ q) (path_kept f (kids k) ps)

none_behind : {A : Type 0} (xs : List A) → xs ++ [] ≡ xs
none_behind [] = refl
none_behind (x ∷ xs) = ap (λ ys. x ∷ ys) (none_behind xs)

-- the numbers of the picks lead to the same leaf
by_digits : {A : Type 0} (t : Tree A) (ks more : List ℕ) → (leaf t (digits (path t ks) ++ more) ≡ leaf t ks) × (rest t (digits (path t ks) ++ more) ≡ more)
by_digits (Leaf a) ks more = (refl, refl)
by_digits (Node n kids) [] more =
    let r = by_digits (kids 0) [] more in
    let z : 0 % suc (suc n) ≡ 0 = mod-eq_of_lt (omega arith) in
    let xs : List ℕ = digits (path (kids 0) []) ++ more in
    (ap (λ k. leaf (kids k) xs) z ∙ r.0, ap (λ k. rest (kids k) xs) z ∙ r.1)
by_digits (Node n kids) (k ∷ ks) more =
    let j : ℕ = k % suc (suc n) in
    let r = by_digits (kids j) ks more in
    let z : j % suc (suc n) ≡ j = mod-eq_of_lt (mod_below k (suc (suc n)) (omega arith)) in
    let xs : List ℕ = digits (path (kids j) ks) ++ more in
    (ap (λ k. leaf (kids k) xs) z ∙ r.0, ap (λ k. rest (kids k) xs) z ∙ r.1)

module _ (p : Program) where
  -- the tree is the same where only numbers and lines differ
  same_tree : (n : ℕ) (x d : Configuration) → plain x ≡ plain d → local_tree p n x ≡ local_tree p n d
  same_tree n x d e = sym (local_plain p n x [] []) ∙ ap (local_tree p n) e ∙ local_plain p n d [] []

  -- ---- a step that comes first

  -- by these numbers it is the step of that thread
  step_is : (c : Configuration) (i : ℕ) (picks : List ℕ) → least_local p c ≡ Some i → PicksThread c picks i → step p (with_picks picks c) ≡ turns p (picked c (pick (length (runnable c)) picks).1) i
  step_is c i picks e at = by (threads_from 0 c.threads) (runnable c) refl refl at
    where
      by : (ts is : List ℕ) → threads_from 0 c.threads ≡ ts → runnable c ≡ is → slice_get is (pick (length is) picks).0 ≡ Some i
          → ends_or_picks p (with_picks picks c) ts is ≡ turns p (picked c (pick (length is) picks).1) i
      by ts [] a b at = cc
      by [] (j ∷ js) a b at = let none : [] ≡ j ∷ js = sym (none_of p c a) ∙ b in cc
      by (t ∷ ts) (j ∷ js) a b at =
          ap (λ (x : Bool). if x then End [] (endings.Budget c.steps) else picking_thread p (with_picks picks c) (j ∷ js)) (least_parts p c i e).2
          ∙ on_some (slice_get (j ∷ js) (pick (length (j ∷ js)) picks).0) i (turns p (picked c (pick (length (j ∷ js)) picks).1)) at

  pub first_goes_on : (n i : ℕ) (c d : Configuration) (ls : List Line) (picks numbers : List ℕ) → least_local p c ≡ Some i → PicksThread c picks i → WentOn p c picks ls d → GoesOnFirst p n c d ls numbers
  first_goes_on n i c d ls picks numbers e at w =
      let h : Locals p c i = locals p c i (least_parts p c i e).0 in
      let left : List ℕ = (pick (length (runnable c)) picks).1 in
      let f : Went p c (record d { lines = reverse ls }) i h left = went p c (record d { lines = reverse ls }) i h left (sym (w ∙ ap (client_answers p c.client) (step_is c i picks e at))) in
      let y : Configuration = result i h.t f.does (picked c []) in
      let goes : made p c i [] ≡ Next y = local_made p c i h [] ∙ on_some (effect p h.u h.a) f.does (λ x. Next (result i h.t x (picked c []))) f.is in
      let written : reverse y.lines ≡ ls = ap (λ (c : Configuration). reverse c.lines) (sym f.comes) ∙ reverse-reverse ls in
      let trees : local_tree p n y ≡ local_tree p n d = same_tree n y d (ap plain (sym f.comes)) in
      let more : Outcome → Tree Run = λ o. goes_on_tree (local_tree p n) (client_answers p c.client o) in
      record {
        path = ap (λ w. path (grown (first_tree p c w) more) numbers) e
            ∙ ap (λ o. path (goes_on_tree (local_tree p n) o) numbers) goes
            ∙ path_kept (behind (reverse y.lines)) (local_tree p n y) numbers
            ∙ ap (λ t. path t numbers) trees;
        leaf = ap (λ w. leaf (grown (first_tree p c w) more) numbers) e
            ∙ ap (λ o. leaf (goes_on_tree (local_tree p n) o) numbers) goes
            ∙ leaf_grown (λ r. Leaf (behind (reverse y.lines) r)) (local_tree p n y) numbers
            ∙ ap (λ t. behind (reverse y.lines) (leaf t numbers)) trees
            ∙ ap (λ ls. behind ls (leaf (local_tree p n d) numbers)) written;
      }

  pub first_does_not_end : (i : ℕ) (c : Configuration) (ls : List Line) (x : Ending) (picks : List ℕ) → least_local p c ≡ Some i → PicksThread c picks i → CameToEnd p c picks ls x → ⊥
  unfolding on
  first_does_not_end i c ls x picks e at w = by (effect p h.u h.a) (w ∙ ap (client_answers p c.client) (step_is c i picks e at) ∙ local_made p c i h left)
    where
      h : Locals p c i
      h = locals p c i (least_parts p c i e).0

      left : List ℕ
      left = (pick (length (runnable c)) picks).1

      by : (o : Option Effect) → End ls x ≡ on o (λ y. Next (result i h.t y (picked c left))) → ⊥
      by None q = cc
      by (Some y) q = cc

  -- ---- a step where no thread's is local

  module _ (trees : StepsAreTrees) (c : Configuration) (numbers : List ℕ) where
    t : Tree Outcome
    t = step_tree p c

    told : client_answers p c.client (step p (with_picks numbers c)) ≡ moved (rest t numbers) (client_answers p c.client (leaf t numbers))
    unfolding t
    told = ap (client_answers p c.client) (trees p c numbers) ∙ told_moved p c.client (rest t numbers) (leaf t numbers)

    more : ℕ → Outcome → Tree Run
    more n o = goes_on_tree (local_tree p n) (client_answers p c.client o)

    path_any : (n : ℕ) → least_local p c ≡ None → path (local_tree p (suc n) c) numbers ≡ path t numbers ++ path (more n (leaf t numbers)) (rest t numbers)
    unfolding t more
    path_any n none = ap (λ w. path (grown (first_tree p c w) (more n)) numbers) none ∙ path_grown (more n) t numbers

    leaf_any : (n : ℕ) → least_local p c ≡ None → leaf (local_tree p (suc n) c) numbers ≡ leaf (more n (leaf t numbers)) (rest t numbers)
    unfolding t more
    leaf_any n none = ap (λ w. leaf (grown (first_tree p c w) (more n)) numbers) none ∙ leaf_grown (more n) t numbers

    pub any_goes_on : (n : ℕ) (d : Configuration) (ls : List Line) → least_local p c ≡ None → WentOn p c numbers ls d → GoesOnAny p n c d ls numbers
    unfolding t more
    any_goes_on n d ls none w = by (client_answers p c.client (leaf t numbers)) refl (w ∙ told)
      where
        by : (o : Outcome) → client_answers p c.client (leaf t numbers) ≡ o → Next (record d { lines = reverse ls }) ≡ moved (rest t numbers) o → GoesOnAny p n c d ls numbers
        by (Next x) is q =
            let r : List ℕ = rest t numbers in
            let same : record d { lines = reverse ls } ≡ with_picks r x = cc in
            let own : local_tree p n x ≡ local_tree p n d = same_tree n x d (ap plain (sym same)) in
            let picks : r ≡ d.picks = ap (λ (c : Configuration). c.picks) (sym same) in
            let written : reverse x.lines ≡ ls = ap (λ (c : Configuration). reverse c.lines) (sym same) ∙ reverse-reverse ls in
            record {
              path = path_any n none ∙ ap (λ o. path t numbers ++ path (goes_on_tree (local_tree p n) o) r) is
                  ∙ ap (λ q. path t numbers ++ q) (path_kept (behind (reverse x.lines)) (local_tree p n x) r ∙ ap (λ t. path t r) own ∙ ap (path (local_tree p n d)) picks);
              leaf = leaf_any n none ∙ ap (λ o. leaf (goes_on_tree (local_tree p n) o) r) is
                  ∙ leaf_grown (λ r. Leaf (behind (reverse x.lines) r)) (local_tree p n x) r
                  ∙ ap (λ t. behind (reverse x.lines) (leaf t r)) own ∙ ap (λ qs. behind (reverse x.lines) (leaf (local_tree p n d) qs)) picks
                  ∙ ap (λ ls. behind ls (leaf (local_tree p n d) d.picks)) written;
              picks = picks;
            }
        by (End ms x) is q = cc
        by (Asks view go) is q = cc
        by Stuck is q = cc

    pub any_ends : (n : ℕ) (ls : List Line) (e : Ending) → least_local p c ≡ None → CameToEnd p c numbers ls e → IsOverAny p n c ls e numbers
    unfolding t more
    any_ends n ls e none w = by (client_answers p c.client (leaf t numbers)) refl (w ∙ told)
      where
        by : (o : Outcome) → client_answers p c.client (leaf t numbers) ≡ o → End ls e ≡ moved (rest t numbers) o → IsOverAny p n c ls e numbers
        by (Next x) is q = cc
        by (End ms x) is q =
            let same : End ls e ≡ End ms x = q in
            record {
              path = path_any n none ∙ ap (λ o. path t numbers ++ path (goes_on_tree (local_tree p n) o) (rest t numbers)) is ∙ none_behind (path t numbers);
              leaf = leaf_any n none ∙ ap (λ o. leaf (goes_on_tree (local_tree p n) o) (rest t numbers)) (is ∙ sym same);
            }
        by (Asks view go) is q = cc
        by Stuck is q = cc

    -- ---- the schedule

    -- the run by the numbers of the step's picks, and then more
    run_by : (n : ℕ) (later : List ℕ) → run p (suc n) (with_picks (digits (path t numbers) ++ later) c) ≡ goes_on (run p n) (moved later (client_answers p c.client (leaf t numbers)))
    unfolding t
    run_by n later =
        let all : List ℕ = digits (path t numbers) ++ later in
        let q = by_digits t numbers later in
        ap (λ o. goes_on (run p n) (client_answers p c.client o)) (trees p c all)
        ∙ ap (goes_on (run p n)) (told_moved p c.client (rest t all) (leaf t all))
        ∙ ap (λ o. goes_on (run p n) (moved (rest t all) (client_answers p c.client o))) q.0
        ∙ ap (λ qs. goes_on (run p n) (moved qs (client_answers p c.client (leaf t numbers)))) q.1

    pub schedule_goes_on : RunsAreTrees → TreesArePlain → (n : ℕ) (d : Configuration) (ls : List Line) (later : List ℕ) → WentOn p c numbers ls d →
        run p (suc n) (with_picks (digits (path (step_tree p c) numbers) ++ later) c) ≡ behind ls (run p n (with_picks later d))
    unfolding t
    schedule_goes_on runs plains n d ls later w = run_by n later ∙ by (client_answers p c.client (leaf t numbers)) (w ∙ told)
      where
        by : (o : Outcome) → Next (record d { lines = reverse ls }) ≡ moved (rest t numbers) o → goes_on (run p n) (moved later o) ≡ behind ls (run p n (with_picks later d))
        by (Next x) q =
            let same : record d { lines = reverse ls } ≡ with_picks (rest t numbers) x = cc in
            let written : reverse x.lines ≡ ls = ap (λ (c : Configuration). reverse c.lines) (sym same) ∙ reverse-reverse ls in
            let own : run_tree p n x ≡ run_tree p n d = sym (plains p n x [] []) ∙ ap (λ (c : Configuration). run_tree p n (plain c)) (sym same) ∙ plains p n d [] [] in
            ap (behind (reverse x.lines)) (runs p n x later ∙ ap (λ t. leaf t later) own ∙ sym (runs p n d later)) ∙ ap (λ ls. behind ls (run p n (with_picks later d))) written
        by (End ms x) q = cc
        by (Asks view go) q = cc
        by Stuck q = cc

    pub schedule_ends : (n : ℕ) (ls : List Line) (e : Ending) (later : List ℕ) → CameToEnd p c numbers ls e → run p (suc n) (with_picks (digits (path (step_tree p c) numbers) ++ later) c) ≡ Ends [] ls e
    unfolding t
    schedule_ends n ls e later w = run_by n later ∙ by (client_answers p c.client (leaf t numbers)) (w ∙ told)
      where
        by : (o : Outcome) → End ls e ≡ moved (rest t numbers) o → goes_on (run p n) (moved later o) ≡ Ends [] ls e
        by (Next x) q = cc
        by (End ms x) q = let same : End ls e ≡ End ms x = q in ap (goes_on (run p n)) (sym same)
        by (Asks view go) q = cc
        by Stuck q = cc

    -- ---- rules

    pub steps_have_rules : (n : ℕ) → NoneBreaks p (suc n) c → client_answers p c.client (step p (with_picks numbers c)) ≢ Stuck
    steps_have_rules n h e = h numbers (ap (goes_on (run p n)) e)

    pub none_breaks_later : RunsAreTrees → TreesArePlain → (n : ℕ) (d : Configuration) (ls : List Line) → NoneBreaks p (suc n) c → WentOn p c numbers ls d → NoneBreaks p n d
    none_breaks_later runs plains n d ls h w later e = h (digits (path (step_tree p c) numbers) ++ later) (schedule_goes_on runs plains n d ls later w ∙ ap (behind ls) e)
