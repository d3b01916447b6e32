-- The laws of the search, over well-typed programs.
use Rattle.std.specs.Prelude.{◌≡◌, ◌+◌, ℕ, suc, List, [], Option, Some, None, map, option_map, length, IsSomeAnd}
use Rattle.std.proofs.Common.{refl, sym, ◌∙◌, ap, subst, arith, zero-add}
use Rattle.std.specs.List.{Contains}
use Rattle.ir_tree.specs.declared.items.Item.{Item}
use Rattle.mu_model.specs.Configuration.{Configuration}
use Rattle.mu_model.specs.Acts.{Program}
use Rattle.mu_model.specs.Programs.{named}
use Rattle.mu_model.specs.Run.{Setting, Run, first_configuration, begins_in}
use Rattle.typed_heap.specs.Places.{with_some}
use Rattle.model_laws.specs.Places.{Places}
use Rattle.model_laws.specs.Programs.{IsTyped}
use Rattle.model_laws.specs.WellTyped.{WellTyped}
use Rattle.model_laws.specs.Laws.{ClientsSettle, LogsMeetAxioms}
use Rattle.model_laws.specs.Bounds.{StepsStayInBounds}
use Rattle.run_texts.specs.EventTexts.{Text}
use Rattle.odometer.specs.Trees.{Tree, Leaf, leaf, grown, AllLeaves}
use Rattle.odometer.specs.GrownLaws.{leaf_grown}
use Rattle.search_laws.specs.Programs.{text_of}
use Rattle.seen_runs.specs.Seen.{Found, Complete, global_names, seen_text}
use Rattle.local_laws.specs.LocalSteps.{local_tree}
use Rattle.local_laws.specs.LocalSearch.{local_tree_from, local_shows_tree, LocalSearchIsComplete}
use Rattle.sleep_laws.specs.SleepTree.{sleep_tree}
use Rattle.sleep_laws.specs.SleepLaws.{SleepSetsLoseNothing, IsShown, sleep_tree_from, sleep_shows_tree, IsAmong, SleepSearchIsComplete}
use Rattle.sleep_laws.specs.Lemmas.Typed.{typed_fits}
use Rattle.sleep_laws.specs.Lemmas.Whole.{lose_nothing}

module _ (settle : ClientsSettle) (axioms : LogsMeetAxioms) (bounds : StepsStayInBounds) where
  pub sleep_sets_lose_nothing : SleepSetsLoseNothing
  sleep_sets_lose_nothing p t c n globals os numbers typed h count =
      let r = lose_nothing p (WellTyped p t) (typed_fits p t settle axioms bounds typed) globals os n c count h.steps h numbers in
      record { numbers = r.0; shown = r.1; made = r.2; same = r.3 }

  pub sleep_search_is_complete : LocalSearchIsComplete → (first_steps : (p : Program) (s : Setting) (f : ℕ) (c : Configuration) → first_configuration p s f ≡ Some c → c.steps ≡ 0) → SleepSearchIsComplete
  sleep_search_is_complete complete first_steps bundle s f t c found typed first h all = complete bundle s f found each
    where
      each : (numbers : List ℕ) → IsSomeAnd (leaf (local_shows_tree bundle s f) numbers) (Contains (map (λ (o : Found). o.text) found))
      each numbers =
          let z = first_steps (named bundle) s f c first in
          let r = sleep_sets_lose_nothing (named bundle) t c (suc c.budget) (length (global_names bundle)) s.objects numbers typed h (omega (arith, z)) in
          let sleeping : leaf (sleep_shows_tree bundle s f) r.numbers ≡ Some (text_of bundle s r.shown) =
          ap (λ o. leaf (grown (sleep_tree_from (named bundle) o) (λ r. Leaf (option_map (text_of bundle s) r))) r.numbers) first
          ∙ leaf_grown (λ r. Leaf (option_map (text_of bundle s) r)) (sleep_tree (named bundle) (suc c.budget) c []) r.numbers
          ∙ ap (option_map (text_of bundle s)) r.made in
          let local : leaf (local_shows_tree bundle s f) numbers ≡ text_of bundle s (leaf (local_tree (named bundle) (suc c.budget) c) numbers) =
          ap (λ o. leaf (grown (local_tree_from (named bundle) o) (λ r. Leaf (text_of bundle s r))) numbers) first
          ∙ leaf_grown (λ r. Leaf (text_of bundle s r)) (local_tree (named bundle) (suc c.budget) c) numbers in
          let same : text_of bundle s r.shown ≡ leaf (local_shows_tree bundle s f) numbers = ap (option_map (seen_text bundle s.objects)) r.same ∙ sym local in
          let there : IsAmong found (Some (text_of bundle s r.shown)) = subst (IsAmong found) sleeping (all r.numbers) in
          subst (λ o. IsSomeAnd o (Contains (map (λ (o : Found). o.text) found))) same there

-- a run begins before its first step
pub begins_at_none : (p : Program) (s : Setting) (f : ℕ) (c : Configuration) → first_configuration p s f ≡ Some c → c.steps ≡ 0
begins_at_none p s f c e = by (p.body f) e
  where
    by : (o : Option (Option ℕ)) → with_some {B = Configuration} o (λ b. with_some {B = Configuration} b (λ block. Some (begins_in p s f block))) ≡ Some c → c.steps ≡ 0
    by None e = let no : None ≡ Some c = e in absurd (cc)
    by (Some None) e = let no : None ≡ Some c = e in absurd (cc)
    by (Some (Some block)) e = let same : Some (begins_in p s f block) ≡ Some c = e in let q : begins_in p s f block ≡ c = cc in ap (λ (c : Configuration). c.steps) (sym q)
