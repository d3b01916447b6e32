-- What is seen of the runs in which local steps come first.
use Rattle.std.specs.Prelude.{◌≡◌, ◌⊎◌, ℕ, suc, List, Option, Some, None, map, IsSomeAnd}
use Rattle.std.specs.List.{Contains}
use Rattle.ir_tree.specs.declared.items.Item.{Item}
use Rattle.mu_model.specs.Configuration.{Configuration}
use Rattle.mu_model.specs.Acts.{Program}
use Rattle.mu_model.specs.Programs.{named}
use Rattle.mu_model.specs.Run.{Setting, Run, Breaks, first_configuration}
use Rattle.run_texts.specs.EventTexts.{Text}
use Rattle.odometer.specs.Trees.{Tree, Leaf, leaf, grown, AllLeaves}
use Rattle.search_laws.specs.Programs.{text_of}
use Rattle.seen_runs.specs.Seen.{Found, shows, Complete}
use Rattle.local_laws.specs.LocalSteps.{local_tree}

abbrev pub local_tree_from : Program → Option Configuration → Tree Run
local_tree_from p None = Leaf Breaks
local_tree_from p (Some c) = local_tree p (suc c.budget) c

-- what each run of a program shows in which local steps come first
abbrev pub local_shows_tree : List Item → Setting → ℕ → Tree (Option Text)
local_shows_tree bundle s f = grown (local_tree_from (named bundle) (first_configuration (named bundle) s f)) (λ r. Leaf (text_of bundle s r))

-- What the run of any schedule shows, some run in which local steps come first shows too; or one of these shows nothing: it comes to its
-- budget, or to a step without a rule, which no run of an accepted bundle does.
abbrev pub LocalStepsComeFirst : Type 0
LocalStepsComeFirst = (bundle : List Item) (s : Setting) (f : ℕ) (picks : List ℕ) →
    (numbers : List ℕ) × ((leaf (local_shows_tree bundle s f) numbers ≡ shows bundle s f picks) ⊎ (leaf (local_shows_tree bundle s f) numbers ≡ None))

-- What a run in which local steps come first shows is shown by the run of a schedule.
abbrev pub LocalRunsAreShown : Type 0
LocalRunsAreShown = (bundle : List Item) (s : Setting) (f : ℕ) (numbers : List ℕ) → (picks : List ℕ) × (shows bundle s f picks ≡ leaf (local_shows_tree bundle s f) numbers)

-- A search of these runs alone, each of which shows a text that is found, and so does not come to its budget, has found the outcome of
-- each schedule.
abbrev pub LocalSearchIsComplete : Type 0
LocalSearchIsComplete = (bundle : List Item) (s : Setting) (f : ℕ) (found : List Found) →
    AllLeaves (λ o. IsSomeAnd o (Contains (map (λ (o : Found). o.text) found))) (local_shows_tree bundle s f) → Complete bundle s f found
