-- What a search finds that makes local steps first.
use Rattle.std.specs.Prelude.{◌≡◌, ◌⊎◌, ◌+◌, ◌-◌, ℕ, suc, List, [], Option, Some, None, map, length, option_map, IsSomeAnd, refl}
use Rattle.std.proofs.Common.{sym, ◌∙◌, ap, subst, arith, inl, inr}
use Rattle.std.specs.List.{Contains}
use Rattle.ir_tree.specs.declared.items.Item.{Item}
use Rattle.typed_heap.specs.Places.{with_some}
use Rattle.mu_model.specs.Configuration.{Configuration}
use Rattle.mu_model.specs.Acts.{Program}
use Rattle.mu_model.specs.Programs.{named}
use Rattle.mu_model.specs.Run.{Setting, Run, begins_in, run, run_from}
use Rattle.run_texts.specs.EventTexts.{Text}
use Rattle.odometer.specs.Trees.{Tree, Leaf, leaf, grown}
use Rattle.odometer.specs.GrownLaws.{leaf_grown}
use Rattle.search_laws.specs.Local.{ToldTurnsCommute}
use Rattle.search_laws.specs.Moved.{with_picks, StepsAreTrees}
use Rattle.search_laws.specs.Programs.{text_of}
use Rattle.seen_runs.specs.Seen.{Found, by_picks, global_names, seen_text, shows}
use Rattle.local_laws.specs.LocalSteps.{local_tree, plain}
use Rattle.local_laws.specs.LocalSearch.{local_tree_from, local_shows_tree, LocalStepsComeFirst, LocalRunsAreShown, LocalSearchIsComplete}
use Rattle.local_laws.proofs.Front.{Finds, found}
use Rattle.local_laws.proofs.Seeing.{Shown, Nothing, shown_of, seen_from, seen_so}
use Rattle.local_laws.proofs.Places.{places, meets}
use Rattle.local_laws.proofs.Joining.{from_run, to_leaf, local_plain}
use Rattle.local_laws.proofs.Scheduled.{local_runs_are_runs}

-- ---- a run from a configuration

module _ (commutes : ToldTurnsCommute) (trees : StepsAreTrees) (p : Program) where
  leaf_of : (m : ℕ) (c : Configuration) (s : Shown) → m + c.steps ≡ c.budget → Finds (places p) (plain c) s → (ks : List ℕ) × (shown_of (leaf (local_tree p (suc m) c) ks) ≡ s)
  leaf_of m c s e f =
      let r = to_leaf p trees f m e in
      (r.0, ap (λ t. shown_of (leaf t r.0)) (sym (local_plain p (suc m) c [] [])) ∙ r.1)

  run_found : (m : ℕ) (c : Configuration) (picks : List ℕ) → m + c.steps ≡ c.budget → (ks : List ℕ) ×
      ((shown_of (leaf (local_tree p (suc m) c) ks) ≡ shown_of (run p (suc m) (with_picks picks c))) ⊎ (shown_of (leaf (local_tree p (suc m) c) ks) ≡ Nothing))
  run_found m c picks e = by (found (places p) (meets p commutes) (suc (c.budget - c.steps)) (plain c) s (omega arith) (from_run p m (with_picks picks c) e))
    where
      s : Shown
      s = shown_of (run p (suc m) (with_picks picks c))

      by : Finds (places p) (plain c) s ⊎ Finds (places p) (plain c) Nothing → (ks : List ℕ) × ((shown_of (leaf (local_tree p (suc m) c) ks) ≡ s) ⊎ (shown_of (leaf (local_tree p (suc m) c) ks) ≡ Nothing))
      by (inl f) = let r = leaf_of m c s e f in (r.0, inl r.1)
      by (inr f) = let r = leaf_of m c Nothing e f in (r.0, inr r.1)

-- ---- a run of a program

module _ (bundle : List Item) (s : Setting) where
  shown_text : Shown → Option Text
  shown_text w = option_map (seen_text bundle s.objects) (seen_from (length (global_names bundle)) s.objects w)

  text_so : (r : Run) → text_of bundle s r ≡ shown_text (shown_of r)
  unfolding shown_text
  text_so r = ap (option_map (seen_text bundle s.objects)) (seen_so (length (global_names bundle)) s.objects r)

  text_leaf : (t : Tree Run) (ks : List ℕ) → leaf (grown t (λ r. Leaf (text_of bundle s r))) ks ≡ text_of bundle s (leaf t ks)
  text_leaf t ks = leaf_grown (λ r. Leaf (text_of bundle s r)) t ks

pub local_steps_come_first : ToldTurnsCommute → StepsAreTrees → LocalStepsComeFirst
unfolding shown_text
local_steps_come_first commutes trees bundle s f picks = by ((named bundle).body f)
  where
    p : Program
    p = named bundle

    tree_by : Option (Option ℕ) → Tree (Option Text)
    tree_by o = grown (local_tree_from p (with_some {B = Configuration} o (λ b. with_some {B = Configuration} b (λ block. Some (begins_in p s f block))))) (λ r. Leaf (text_of bundle s r))

    shows_by : Option (Option ℕ) → Option Text
    shows_by o = text_of bundle s (run_from p (with_some {B = Configuration} o (λ b. with_some {B = Configuration} b (λ block. Some (begins_in p (by_picks s picks) f block)))))

    by : (o : Option (Option ℕ)) → (numbers : List ℕ) × ((leaf (tree_by o) numbers ≡ shows_by o) ⊎ (leaf (tree_by o) numbers ≡ None))
    by None = ([], inl refl)
    by (Some None) = ([], inl refl)
    by (Some (Some block)) = last (run_found commutes trees p s.budget c picks (omega arith))
      where
        c : Configuration
        c = begins_in p s f block

        last : (ks : List ℕ) × ((shown_of (leaf (local_tree p (suc s.budget) c) ks) ≡ shown_of (run p (suc s.budget) (with_picks picks c))) ⊎ (shown_of (leaf (local_tree p (suc s.budget) c) ks) ≡ Nothing))
            → (numbers : List ℕ) × ((leaf (tree_by (Some (Some block))) numbers ≡ shows_by (Some (Some block))) ⊎ (leaf (tree_by (Some (Some block))) numbers ≡ None))
        last (ks, inl e) = (
          ks,
          inl (
              text_leaf bundle s (local_tree p (suc s.budget) c) ks ∙ text_so bundle s (leaf (local_tree p (suc s.budget) c) ks)
              ∙ ap (shown_text bundle s) e ∙ sym (text_so bundle s (run p (suc s.budget) (with_picks picks c)))
              ),
        )
        last (ks, inr e) = (ks, inr (text_leaf bundle s (local_tree p (suc s.budget) c) ks ∙ text_so bundle s (leaf (local_tree p (suc s.budget) c) ks) ∙ ap (shown_text bundle s) e))

pub local_runs_are_shown : StepsAreTrees → LocalRunsAreShown
local_runs_are_shown trees bundle s f numbers = by ((named bundle).body f)
  where
    p : Program
    p = named bundle

    tree_by : Option (Option ℕ) → Tree (Option Text)
    tree_by o = grown (local_tree_from p (with_some {B = Configuration} o (λ b. with_some {B = Configuration} b (λ block. Some (begins_in p s f block))))) (λ r. Leaf (text_of bundle s r))

    shows_by : List ℕ → Option (Option ℕ) → Option Text
    shows_by picks o = text_of bundle s (run_from p (with_some {B = Configuration} o (λ b. with_some {B = Configuration} b (λ block. Some (begins_in p (by_picks s picks) f block)))))

    by : (o : Option (Option ℕ)) → (picks : List ℕ) × (shows_by picks o ≡ leaf (tree_by o) numbers)
    by None = ([], refl)
    by (Some None) = ([], refl)
    by (Some (Some block)) =
        let r = local_runs_are_runs trees p (suc s.budget) (begins_in p s f block) numbers in
        (r.0, ap (text_of bundle s) r.1 ∙ sym (text_leaf bundle s (local_tree p (suc s.budget) (begins_in p s f block)) numbers))

pub local_search_is_complete : ToldTurnsCommute → StepsAreTrees → LocalSearchIsComplete
local_search_is_complete commutes trees bundle s f found all picks = by (local_steps_come_first commutes trees bundle s f picks)
  where
    Has : Option Text → Type 0
    Has o = IsSomeAnd o (Contains (map (λ (o : Found). o.text) found))

    by : (numbers : List ℕ) × ((leaf (local_shows_tree bundle s f) numbers ≡ shows bundle s f picks) ⊎ (leaf (local_shows_tree bundle s f) numbers ≡ None)) → IsSomeAnd (shows bundle s f picks) (Contains (map (λ (o : Found). o.text) found))
    by (ks, inl e) = subst (λ o. IsSomeAnd o (Contains (map (λ (o : Found). o.text) found))) e (all ks)
    by (ks, inr e) = absurd (subst (λ o. IsSomeAnd o (Contains (map (λ (o : Found). o.text) found))) e (all ks))
