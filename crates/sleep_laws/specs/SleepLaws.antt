-- What a search by sleep sets finds.
use Rattle.std.specs.Prelude.{◌≡◌, ◌⊎◌, ◌+◌, ℕ, suc, List, [], Option, Some, None, map, option_map, IsSomeAnd}
use Rattle.std.specs.List.{Contains}
use Rattle.ir_tree.specs.declared.items.Item.{Item}
use Rattle.typed_heap.specs.Objects.{HeapObject}
use Rattle.mu_model.specs.Configuration.{Configuration}
use Rattle.mu_model.specs.Acts.{Program}
use Rattle.mu_model.specs.Programs.{named}
use Rattle.mu_model.specs.Run.{Setting, Run, Breaks, first_configuration}
use Rattle.model_laws.specs.Places.{Places}
use Rattle.model_laws.specs.Programs.{IsTyped}
use Rattle.model_laws.specs.WellTyped.{WellTyped}
use Rattle.run_texts.specs.EventTexts.{Text}
use Rattle.odometer.specs.Trees.{Tree, Leaf, leaf, grown, AllLeaves}
use Rattle.search_laws.specs.Programs.{text_of}
use Rattle.seen_runs.specs.Seen.{Found, Complete, seen_of}
use Rattle.local_laws.specs.LocalSteps.{local_tree}
use Rattle.sleep_moves.specs.Moves.{Move}
use Rattle.sleep_laws.specs.SleepTree.{sleep_tree}

-- A run that the search makes is the run by the same numbers in which local steps come first, and so that of a schedule.
abbrev pub SleepingRunsAreRuns : Type 0
SleepingRunsAreRuns = (p : Program) (n : ℕ) (c : Configuration) (sleep : List Move) (numbers : List ℕ) →
    (leaf (sleep_tree p n c sleep) numbers ≡ None) ⊎ (leaf (sleep_tree p n c sleep) numbers ≡ Some (leaf (local_tree p n c) numbers))

-- some run that the search makes shows this
pub record IsShown (p : Program) (n : ℕ) (c : Configuration) (globals : ℕ) (os : List HeapObject) (run : Run) : Type 0 where
  pub numbers : List ℕ
  pub shown : Run
  pub made : leaf (sleep_tree p n c []) numbers ≡ Some shown
  pub same : seen_of globals os shown ≡ seen_of globals os run

-- What a run shows in which local steps come first, some run shows too that the search makes: nothing is lost, not even that a run comes to
-- its budget. It begins at a well-typed configuration of a well-typed program, of which one step more is looked at than may still be made.
abbrev pub SleepSetsLoseNothing : Type 0
SleepSetsLoseNothing = (p : Program) (t : Places) (c : Configuration) (n globals : ℕ) (os : List HeapObject) (numbers : List ℕ) → IsTyped p t → WellTyped p t c → c.steps + n ≡ suc c.budget →
    IsShown p n c globals os (leaf (local_tree p n c) numbers)

-- ---- what it shows

abbrev pub sleep_tree_from : Program → Option Configuration → Tree (Option Run)
sleep_tree_from p None = Leaf (Some Breaks)
sleep_tree_from p (Some c) = sleep_tree p (suc c.budget) c []

-- what each run of a program shows that the search makes; None where a run is left out
abbrev pub sleep_shows_tree : List Item → Setting → ℕ → Tree (Option (Option Text))
sleep_shows_tree bundle s f = grown (sleep_tree_from (named bundle) (first_configuration (named bundle) s f)) (λ r. Leaf (option_map (text_of bundle s) r))

-- of a run that is not left out: it shows a text, which is found
abbrev pub IsAmong : List Found → Option (Option Text) → Type 0
IsAmong found None = Unit {0}
IsAmong found (Some o) = IsSomeAnd o (Contains (map (λ (o : Found). o.text) found))

-- A search of these runs alone, each of which shows a text that is found, and so does not come to its budget, has found the outcome of
-- each schedule.
abbrev pub SleepSearchIsComplete : Type 0
SleepSearchIsComplete = (bundle : List Item) (s : Setting) (f : ℕ) (t : Places) (c : Configuration) (found : List Found) → IsTyped (named bundle) t → first_configuration (named bundle) s f ≡ Some c → WellTyped (named bundle) t c →
    AllLeaves (IsAmong found) (sleep_shows_tree bundle s f) → Complete bundle s f found
