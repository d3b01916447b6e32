-- The outcomes that were found are those of runs.
use Rattle.std.proofs.Common.{◌≡◌, ℕ, zero, suc, Bool, true, List, [], ◌∷◌, map, Option, Some, None, ap, subst, arith}
use Rattle.std.specs.Prelude.{All, IsSomeAnd, slice_index_or, option_map}
use Rattle.std.specs.List.{Contains}
use Rattle.std.proofs.lemmas.List.Elements.{All-map}
use Rattle.ir_tree.specs.declared.items.Item.{Item}
use Rattle.mu_model.specs.Run.{Setting}
use Rattle.seen_runs.specs.Seen.{Found, Shown, Complete, shows}
use Rattle.conditions.specs.declared.holding.Outcome.{Outcome}
use Rattle.conditions.specs.Laws.{Covers}
use Rattle.conditions.specs.Lemmas.Truth.{answers_are_true}
use Rattle.condition_answers.specs.Outcomes.{outcome_in}
use Rattle.condition_answers.specs.Lines.{outcomes_in}
use Rattle.condition_laws.specs.Laws.{IsOfRun, AnswersSpeakOfRuns}

-- what a list contains, its image contains
mapped : {A B : Type 0} (f : A → B) (xs : List A) (x : A) → Contains xs x → Contains (map f xs) (f x)
mapped f [] x (k, l, e) = absurd (omega (arith, l))
mapped f (y ∷ ys) x (zero, l, e) = (zero, omega arith, ap f e)
mapped f (y ∷ ys) x (suc k, l, e) = let q = mapped f ys x (k, omega (arith, l), e) in (suc q.0, omega (arith, q.1), q.2)

module _ (bundle : List Item) (s : Setting) (f : ℕ) (found : List Found) where
  each : Shown bundle s f found → All (λ (o : Found). IsOfRun bundle s f (outcome_in o.text)) found
  each shown k d l = ((slice_index_or found k d).picks, ap (option_map outcome_in) (shown.each k d l))

  of_run : (x : Option (List ℕ)) (o : Outcome) → option_map outcome_in x ≡ Some o → IsSomeAnd x (Contains (map (λ (o : Found). o.text) found)) → Contains (outcomes_in (map (λ (o : Found). o.text) found)) o
  of_run None o e h = absurd h
  of_run (Some text) o e h = let same : outcome_in text ≡ o = cc in subst (Contains (outcomes_in (map (λ (o : Found). o.text) found))) same (mapped outcome_in (map (λ (o : Found). o.text) found) text h)

  covers : (complete : Bool) → Shown bundle s f found → (complete ≡ true → Complete bundle s f found) → Covers (IsOfRun bundle s f) (outcomes_in (map (λ (o : Found). o.text) found)) complete
  covers complete shown whole = record {
    each = All-map (IsOfRun bundle s f) outcome_in (map (λ (o : Found). o.text) found) (All-map (λ text. IsOfRun bundle s f (outcome_in text)) (λ (o : Found). o.text) found (each shown));
    whole = λ e o h. of_run (shows bundle s f h.0) o h.1 (whole e h.0);
  }

pub answers_speak : AnswersSpeakOfRuns
answers_speak bundle s f found complete c shown whole =
    answers_are_true (IsOfRun bundle s f) (outcomes_in (map (λ (o : Found). o.text) found)) complete c (covers bundle s f found complete shown whole)
