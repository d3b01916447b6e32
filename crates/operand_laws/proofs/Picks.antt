-- A step that does not end before a pick is the turn of the thread that is picked.
use Rattle.std.proofs.Common.{◌≡◌, ◌<◌, ◌⊎◌, inl, inr, ◌==◌, ℕ, Bool, true, false, List, [], ◌∷◌, Option, length, if◌then◌else◌, refl, sym, ◌∙◌, ap, subst, arith}
use Rattle.mu_model.specs.declared.endings.Ending.{Ending}
use Rattle.mu_model.specs.declared.endings.Ending.TheVariants.{Done, AllWaiting, Budget}
use Rattle.mu_model.specs.Acts.{Program}
use Rattle.mu_model.specs.Configuration.{Configuration}
use Rattle.mu_model.specs.Outcomes.{Next, End, on}
use Rattle.mu_model.specs.Run.{client_answers}
use Rattle.mu_model.specs.Step.{ends_or_picks, picked, picking_thread, runnable, step, threads_from, turns}
use Rattle.model_laws.specs.Lemmas.Accessing.{pick_below}
use Rattle.model_laws.specs.Lemmas.Basics.{some_below}
use Rattle.operand_laws.specs.Picks.{next_pick, IsPickedTurn, EndsBeforeAPick, StepsAreTurns, StepsMadeAreTurns}

module _ (p : Program) (c : Configuration) where
  picks_one : 0 < length (runnable c) → (c.steps == c.budget) ≡ false → step p c ≡ picking_thread p c (runnable c) → IsPickedTurn p c
  unfolding on
  picks_one some left e =
      let x = some_below (runnable c) (next_pick c).0 (pick_below (length (runnable c)) c.picks some) in
      record {
        left = left;
        thread = x.0;
        may = x.1;
        turn = e ∙ ap (λ (o : Option ℕ). on o (turns p (picked c (next_pick c).1))) x.1;
      }

  by_budget : (b : Bool) (i : ℕ) (is : List ℕ) → runnable c ≡ i ∷ is → (c.steps == c.budget) ≡ b → step p c ≡ (if b then End [] (Budget c.steps) else picking_thread p c (i ∷ is)) →
      IsPickedTurn p c ⊎ EndsBeforeAPick p c
  by_budget true i is same left e = inr (Budget c.steps, tt, e)
  by_budget false i is same left e =
      let one : 0 < length (i ∷ is) = omega arith in
      inl (picks_one (subst (λ (xs : List ℕ). 0 < length xs) (sym same) one) left (e ∙ ap (picking_thread p c) (sym same)))

  by_threads : (ts is : List ℕ) → runnable c ≡ is → step p c ≡ ends_or_picks p c ts is → IsPickedTurn p c ⊎ EndsBeforeAPick p c
  by_threads [] is same e = inr (Done, tt, e)
  by_threads (t ∷ ts) [] same e = inr (AllWaiting (t ∷ ts), tt, e)
  by_threads (t ∷ ts) (i ∷ is) same e = by_budget (c.steps == c.budget) i is same refl e

pub steps_are_turns : StepsAreTurns
steps_are_turns p c = by_threads p c (threads_from 0 c.threads) (runnable c) refl refl

pub steps_made_are_turns : StepsMadeAreTurns
steps_made_are_turns p c d e = elim (steps_are_turns p c) [
  | inl turn ↦ turn
  | inr ends ↦ ended ends.0 (sym (ap (client_answers p c.client) ends.2) ∙ e)
]
  where
    ended : (ending : Ending) → End [] ending ≡ Next d → IsPickedTurn p c
    ended ending h = cc
