-- Each run in which local steps come first is the run of a schedule.
use Rattle.std.specs.Prelude.{◌≡◌, ℕ, zero, suc, Bool, true, false, ◌==◌, List, [], Option, Some, None, find, reverse, refl, if◌then◌else◌}
use Rattle.std.proofs.Common.{sym, ◌∙◌, ap, inl, inr}
use Rattle.std.proofs.lemmas.Bool.Decides.{eqb_tells}
use Rattle.mu_model.specs.Configuration.{Configuration}
use Rattle.mu_model.specs.Acts.{Program}
use Rattle.mu_model.specs.Outcomes.{Outcome, Next, End, Asks, Stuck, on}
use Rattle.mu_model.specs.Step.{runnable, picked}
use Rattle.mu_model.specs.Run.{Run, behind, client_answers, goes_on, run}
use Rattle.odometer.specs.Trees.{Tree, Leaf, leaf, rest, grown}
use Rattle.odometer.specs.GrownLaws.{leaf_grown}
use Rattle.search_laws.specs.Moved.{with_picks, moved, step_tree, goes_on_tree, StepsAreTrees}
use Rattle.local_steps.specs.IsLocal.{is_local, least_local}
use Rattle.local_laws.specs.LocalSteps.{first_tree, local_tree, made, LocalRunsAreRuns}
use Rattle.local_laws.specs.Lemmas.Forms.{Effect, effect, result, Locals, locals}
use Rattle.local_laws.proofs.Meeting.{local_made}
use Rattle.local_laws.specs.Lemmas.Running.{In, found_in}
use Rattle.local_laws.proofs.Joining.{again, told_moved, step_given}

-- the thread that is first, with its room
pub least_parts : (p : Program) (c : Configuration) (i : ℕ) → least_local p c ≡ Some i → (is_local p c i ≡ true) × In i (runnable c) × ((c.steps == c.budget) ≡ false)
least_parts p c i e = elim (eqb_tells c.steps c.budget) [
  | inl q ↦ let none : None ≡ Some i = sym (ap (λ (b : Bool). if b then None else find (is_local p c) (runnable c)) q.0) ∙ e in cc
  | inr q ↦ let r = found_in (is_local p c) i (runnable c) (sym (ap (λ (b : Bool). if b then None else find (is_local p c) (runnable c)) q.0) ∙ e) in (r.1, r.0, q.0)
]

module _ (trees : StepsAreTrees) (p : Program) where
  IsScheduled : ℕ → Configuration → Type 0
  IsScheduled n c = (numbers : List ℕ) → (picks : List ℕ) × (run p n (with_picks picks c) ≡ leaf (local_tree p n c) numbers)

  first_run : (n : ℕ) (c : Configuration) (i : ℕ) → least_local p c ≡ Some i → ((d : Configuration) → IsScheduled n d) → IsScheduled (suc n) c
  unfolding IsScheduled on
  first_run n c i e more numbers = by (effect p h.u h.a) refl
    where
      parts : (is_local p c i ≡ true) × In i (runnable c) × ((c.steps == c.budget) ≡ false)
      parts = least_parts p c i e

      h : Locals p c i
      h = locals p c i parts.0

      tree : leaf (local_tree p (suc n) c) numbers ≡ leaf (goes_on_tree (local_tree p n) (made p c i [])) numbers
      tree = ap (λ w. leaf (grown (first_tree p c w) (λ o. goes_on_tree (local_tree p n) (client_answers p c.client o))) numbers) e

      -- with these numbers left
      made_by : (picks : List ℕ) (o : Option Effect) → effect p h.u h.a ≡ o → made p c i picks ≡ on o (λ x. Next (result i h.t x (picked c picks)))
      made_by picks o q = local_made p c i h picks ∙ ap (λ o. on o (λ x. Next (result i h.t x (picked c picks)))) q

      by : (o : Option Effect) → effect p h.u h.a ≡ o → (picks : List ℕ) × (run p (suc n) (with_picks picks c) ≡ leaf (local_tree p (suc n) c) numbers)
      by None q =
          let g = step_given p c i [] parts.1 parts.2 in (
            g.0,
            ap (λ o. goes_on (run p n) (client_answers p c.client o)) g.1
                ∙ ap (goes_on (run p n)) (made_by [] None q)
                ∙ sym (tree ∙ ap (λ o. leaf (goes_on_tree (local_tree p n) o) numbers) (made_by [] None q)),
          )
      by (Some x) q =
          let d : Configuration = result i h.t x (picked c []) in
          let r = more d numbers in
          let g = step_given p c i r.0 parts.1 parts.2 in (
            g.0,
            ap (λ o. goes_on (run p n) (client_answers p c.client o)) g.1
                ∙ ap (goes_on (run p n)) (made_by r.0 (Some x) q)
                ∙ ap (behind (reverse d.lines)) r.1
                ∙ sym (
                tree ∙ ap (λ o. leaf (goes_on_tree (local_tree p n) o) numbers) (made_by [] (Some x) q)
                ∙ leaf_grown (λ r. Leaf (behind (reverse d.lines) r)) (local_tree p n d) numbers
                ),
          )

  any_run : (n : ℕ) (c : Configuration) → least_local p c ≡ None → ((d : Configuration) → IsScheduled n d) → IsScheduled (suc n) c
  unfolding IsScheduled
  any_run n c e more numbers = by (client_answers p c.client (leaf t numbers)) refl
    where
      t : Tree Outcome
      t = step_tree p c

      grows : Outcome → Tree Run
      grows o = goes_on_tree (local_tree p n) (client_answers p c.client o)

      tree : leaf (local_tree p (suc n) c) numbers ≡ leaf (grows (leaf t numbers)) (rest t numbers)
      tree = ap (λ w. leaf (grown (first_tree p c w) grows) numbers) e ∙ leaf_grown grows t numbers

      -- the run by numbers that come to the same leaf
      run_by : (picks left : List ℕ) (o : Outcome) → leaf t picks ≡ leaf t numbers → rest t picks ≡ left → client_answers p c.client (leaf t numbers) ≡ o → run p (suc n) (with_picks picks c) ≡ goes_on (run p n) (moved left o)
      run_by picks left o same qs q =
          ap (λ o. goes_on (run p n) (client_answers p c.client o)) (trees p c picks)
          ∙ ap (goes_on (run p n)) (told_moved p c.client (rest t picks) (leaf t picks))
          ∙ ap (λ w. goes_on (run p n) (moved (rest t picks) (client_answers p c.client w))) same
          ∙ ap (λ qs. goes_on (run p n) (moved qs (client_answers p c.client (leaf t numbers)))) qs
          ∙ ap (λ o. goes_on (run p n) (moved left o)) q

      leaf_by : (o : Outcome) → client_answers p c.client (leaf t numbers) ≡ o → leaf (local_tree p (suc n) c) numbers ≡ leaf (goes_on_tree (local_tree p n) o) (rest t numbers)
      leaf_by o q = tree ∙ ap (λ o. leaf (goes_on_tree (local_tree p n) o) (rest t numbers)) q

      by : (o : Outcome) → client_answers p c.client (leaf t numbers) ≡ o → (picks : List ℕ) × (run p (suc n) (with_picks picks c) ≡ leaf (local_tree p (suc n) c) numbers)
      by (Next x) q =
          let r = more x (rest t numbers) in
          let a = again t numbers r.0 in (
            a.0,
            run_by a.0 r.0 (Next x) a.1 a.2 q
                ∙ ap (behind (reverse x.lines)) r.1
                ∙ sym (leaf_by (Next x) q ∙ leaf_grown (λ r. Leaf (behind (reverse x.lines) r)) (local_tree p n x) (rest t numbers)),
          )
      by (End ls x) q = (numbers, run_by numbers (rest t numbers) (End ls x) refl refl q ∙ sym (leaf_by (End ls x) q))
      by (Asks view go) q = (numbers, run_by numbers (rest t numbers) (Asks view go) refl refl q ∙ sym (leaf_by (Asks view go) q))
      by Stuck q = (numbers, run_by numbers (rest t numbers) Stuck refl refl q ∙ sym (leaf_by Stuck q))

  scheduled : (n : ℕ) (c : Configuration) → IsScheduled n c
  unfolding IsScheduled
  scheduled zero c numbers = ([], refl)
  scheduled (suc n) c numbers = by (least_local p c) refl (scheduled n) numbers
    where
      by : (o : Option ℕ) → least_local p c ≡ o → ((d : Configuration) → IsScheduled n d) → IsScheduled (suc n) c
      by None e more = any_run n c e more
      by (Some i) e more = first_run n c i e more

pub local_runs_are_runs : StepsAreTrees → LocalRunsAreRuns
unfolding IsScheduled
local_runs_are_runs trees p n c numbers = scheduled trees p n c numbers
