-- What the answers to conditions say of the runs of all schedules.
use Rattle.std.specs.Prelude.{◌≡◌, ℕ, Bool, true, List, Some, map, option_map}
use Rattle.ir_tree.specs.declared.items.Item.{Item}
use Rattle.mu_model.specs.Run.{Setting}
use Rattle.seen_runs.specs.Seen.{Found, Shown, Complete, shows}
use Rattle.conditions.specs.declared.tree.Condition.{Condition}
use Rattle.conditions.specs.declared.holding.Outcome.{Outcome}
use Rattle.conditions.specs.Answers.{answer_of}
use Rattle.conditions.specs.Laws.{IsTrueOf, IsFalseOf, Says}
use Rattle.condition_answers.specs.Outcomes.{outcome_in}
use Rattle.condition_answers.specs.Lines.{outcomes_in}

-- the run by some schedule shows this
abbrev pub IsOfRun : List Item → Setting → ℕ → Outcome → Type 0
IsOfRun bundle s f o = (ps : List ℕ) × (option_map outcome_in (shows bundle s f ps) ≡ Some o)

-- Where each outcome that was found is that of its schedule's run, and where there are no others if the search is complete: yes is said only
-- of a condition that is true of the runs of all schedules, and no only of one that is false.
abbrev pub AnswersSpeakOfRuns : Type 0
AnswersSpeakOfRuns =
    (bundle : List Item) (s : Setting) (f : ℕ) (found : List Found) (complete : Bool) (c : Condition) → Shown bundle s f found → (complete ≡ true → Complete bundle s f found)
    → Says (IsTrueOf (IsOfRun bundle s f) c.claim c.lists) (IsFalseOf (IsOfRun bundle s f) c.claim c.lists) (answer_of c (outcomes_in (map (λ (o : Found). o.text) found)) complete)
