-- How many runs the search makes.
use Rattle.std.specs.Prelude.{◌≤◌, ℕ, List, [], ◌∷◌, Option, Some, None, length}
use Rattle.ir_tree.specs.declared.items.Item.{Item}
use Rattle.mu_model.specs.Run.{Setting}
use Rattle.local_laws.specs.LocalSearch.{local_shows_tree}
use Rattle.leaf_laws.specs.Leaves.{leaf_list, Among}
use Rattle.sleep_laws.specs.SleepLaws.{sleep_shows_tree}

-- without those that are left out
abbrev pub somes : {A : Type 0} → List (Option A) → List A
somes [] = []
somes (None ∷ xs) = somes xs
somes (Some x ∷ xs) = x ∷ somes xs

-- What the runs show that the search makes, run by run, is among what the runs show in which local steps come first.
abbrev pub SleepingRunsAreAmong : Type 0
SleepingRunsAreAmong = (bundle : List Item) (s : Setting) (f : ℕ) → Among (somes (leaf_list (sleep_shows_tree bundle s f))) (leaf_list (local_shows_tree bundle s f))

-- Together with those that are left out they are at most as many as those in which local steps come first.
abbrev pub SleepingRunsAreFewer : Type 0
SleepingRunsAreFewer = (bundle : List Item) (s : Setting) (f : ℕ) → length (leaf_list (sleep_shows_tree bundle s f)) ≤ length (leaf_list (local_shows_tree bundle s f))
