-- A run that was made is the leaf of its numbers, and the run of its schedule.
use Rattle.std.specs.Prelude.{◌≡◌, ℕ, suc, ◌%◌, List, [], ◌∷◌, Option, Some, None, length, option_map, refl}
use Rattle.std.proofs.Common.{sym, ◌∙◌, ap}
use Rattle.ir_tree.specs.declared.items.Item.{Item}
use Rattle.typed_heap.specs.Places.{with_some}
use Rattle.mu_model.specs.declared.lines.Line.{Line}
use Rattle.mu_model.specs.declared.endings.Ending.{Ending}
use Rattle.mu_model.specs.Configuration.{Configuration}
use Rattle.mu_model.specs.Programs.{named}
use Rattle.mu_model.specs.Run.{Setting, Run, Ends, Breaks, Unfinished, begins_in, first_configuration, run, run_from, program_run}
use Rattle.odometer.specs.Trees.{Tree, Leaf, Node, leaf, grown}
use Rattle.odometer.specs.Odometer.{path}
use Rattle.odometer.specs.declared.picks.Pick.{Pick}
use Rattle.seen_runs.specs.Seen.{by_picks, global_names, seen_at, seen_text, shows}
use Rattle.seen_runs.specs.Finals.{finals_in, seen_by, seen_so}
use Rattle.search_laws.specs.Moved.{with_picks}
use Rattle.search_laws.specs.Programs.{text_of}
use Rattle.local_laws.specs.LocalSteps.{local_tree}
use Rattle.local_laws.specs.LocalSearch.{local_tree_from, local_shows_tree}
use Rattle.run_search.specs.Playing.{IsRun}
use Rattle.run_search.specs.Steps.{local_plain, MakesPicks, LeadsTo, RunsTo}

path_kept : {A B : Type 0} (f : A → B) (t : Tree A) (ps : List ℕ) → path (grown t (λ a. Leaf (f a))) ps ≡ path t ps
path_kept f (Leaf a) ps = refl
path_kept f (Node n kids) [] = ap (λ (q : List Pick). record { picked = 0; options = suc (suc n) } ∷ q) (path_kept f (kids 0) [])
path_kept f (Node n kids) (q ∷ ps) = let k : ℕ = q % suc (suc n) in ap (λ (q : List Pick). record { picked = k; options = suc (suc n) } ∷ q) (path_kept f (kids k) ps)

leaf_kept : {A B : Type 0} (f : A → B) (t : Tree A) (ps : List ℕ) → leaf (grown t (λ a. Leaf (f a))) ps ≡ f (leaf t ps)
leaf_kept f (Leaf a) ps = refl
leaf_kept f (Node n kids) [] = leaf_kept f (kids 0) []
leaf_kept f (Node n kids) (q ∷ ps) = leaf_kept f (kids (q % suc (suc n))) ps

module _ (bundle : List Item) (s : Setting) (f : ℕ) (numbers : List ℕ) (c : Configuration) (begins : first_configuration (named bundle) (by_picks s numbers) f ≡ Some c) where
  tree_is : local_tree_from (named bundle) (first_configuration (named bundle) s f) ≡ local_tree (named bundle) (suc s.budget) c
  tree_is = by ((named bundle).body f) begins
    where
      by : (o : Option (Option ℕ)) → with_some {B = Configuration} o (λ b. with_some {B = Configuration} b (λ block. Some (begins_in (named bundle) (by_picks s numbers) f block))) ≡ Some c
          → local_tree_from (named bundle) (with_some {B = Configuration} o (λ b. with_some {B = Configuration} b (λ block. Some (begins_in (named bundle) s f block)))) ≡ local_tree (named bundle) (suc s.budget) c
      by None e = cc
      by (Some None) e = cc
      by (Some (Some block)) e =
          let same : begins_in (named bundle) (by_picks s numbers) f block ≡ c = cc in
          sym (local_plain (named bundle) (suc s.budget) (begins_in (named bundle) s f block) numbers) ∙ ap (local_tree (named bundle) (suc s.budget)) same

  pub begins_with : (c.picks ≡ numbers) × (c.budget ≡ s.budget)
  begins_with = by ((named bundle).body f) begins
    where
      by : (o : Option (Option ℕ)) → with_some {B = Configuration} o (λ b. with_some {B = Configuration} b (λ block. Some (begins_in (named bundle) (by_picks s numbers) f block))) ≡ Some c → (c.picks ≡ numbers) × (c.budget ≡ s.budget)
      by None e = cc
      by (Some None) e = cc
      by (Some (Some block)) e =
          let same : begins_in (named bundle) (by_picks s numbers) f block ≡ c = cc in
          (ap (λ (c : Configuration). c.picks) (sym same), ap (λ (c : Configuration). c.budget) (sym same))

  -- with other numbers it begins with the same configuration, but for these
  begins_by : (ps : List ℕ) → first_configuration (named bundle) (by_picks s ps) f ≡ Some (with_picks ps c)
  begins_by ps = by ((named bundle).body f) begins
    where
      by : (o : Option (Option ℕ)) → with_some {B = Configuration} o (λ b. with_some {B = Configuration} b (λ block. Some (begins_in (named bundle) (by_picks s numbers) f block))) ≡ Some c
          → with_some {B = Configuration} o (λ b. with_some {B = Configuration} b (λ block. Some (begins_in (named bundle) (by_picks s ps) f block))) ≡ Some (with_picks ps c)
      by None e = cc
      by (Some None) e = cc
      by (Some (Some block)) e =
          let same : begins_in (named bundle) (by_picks s numbers) f block ≡ c = cc in
          ap (λ (c : Configuration). Some (with_picks ps c)) same

  pub run_by : (ps : List ℕ) → program_run (named bundle) (by_picks s ps) f ≡ run (named bundle) (suc s.budget) (with_picks ps c)
  run_by ps = ap (run_from (named bundle)) (begins_by ps) ∙ ap (λ n. run (named bundle) (suc n) (with_picks ps c)) begins_with.1

  -- its picks
  pub run_path : (made : List Pick) → MakesPicks (named bundle) (suc s.budget) c numbers made → made ≡ path (local_shows_tree bundle s f) numbers
  run_path made m =
      m.is ∙ ap (λ t. path t numbers) (sym tree_is) ∙ sym (path_kept (text_of bundle s) (local_tree_from (named bundle) (first_configuration (named bundle) s f)) numbers)

  -- what it shows
  of_run : (r : Run) (lines : List Line) (e : Ending) → IsRun r lines e → text_of bundle s r ≡ option_map (seen_text bundle s.objects) (seen_at (length (global_names bundle)) s.objects lines e)
  of_run (Ends steps ls x) lines e h =
      ap (λ ms. option_map (seen_text bundle s.objects) (seen_at (length (global_names bundle)) s.objects ms x)) h.0
      ∙ ap (λ x. option_map (seen_text bundle s.objects) (seen_at (length (global_names bundle)) s.objects lines x)) h.1
  of_run Breaks lines e h = absurd h
  of_run Unfinished lines e h = absurd h

  pub run_leaf : (lines : List Line) (e : Ending) → LeadsTo (named bundle) (suc s.budget) c numbers lines e
      → leaf (local_shows_tree bundle s f) numbers ≡ seen_by bundle (finals_in 0 (global_names bundle) s.objects) lines e
  run_leaf lines e h =
      leaf_kept (text_of bundle s) (local_tree_from (named bundle) (first_configuration (named bundle) s f)) numbers ∙ ap (λ (t : Tree Run). text_of bundle s (leaf t numbers)) tree_is
      ∙ of_run (leaf (local_tree (named bundle) (suc s.budget) c) numbers) lines e h.is ∙ sym (seen_so bundle s.objects lines e)

  pub run_shown : (schedule : List ℕ) (lines : List Line) (e : Ending) → RunsTo (named bundle) (suc s.budget) c schedule lines e
      → shows bundle s f schedule ≡ seen_by bundle (finals_in 0 (global_names bundle) s.objects) lines e
  run_shown schedule lines e h =
      ap (text_of bundle s) (run_by schedule) ∙ of_run (run (named bundle) (suc s.budget) (with_picks schedule c)) lines e h.is ∙ sym (seen_so bundle s.objects lines e)
