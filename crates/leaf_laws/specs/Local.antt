-- The runs in which local steps come first are some of those by schedules.
use Rattle.std.specs.Prelude.{ℕ, List}
use Rattle.ir_tree.specs.declared.items.Item.{Item}
use Rattle.mu_model.specs.Run.{Setting}
use Rattle.search_laws.specs.Programs.{shows_tree}
use Rattle.local_laws.specs.LocalSearch.{local_shows_tree}
use Rattle.leaf_laws.specs.Leaves.{leaf_list, Among}

-- What the runs show in which local steps come first, run by run, is among what the runs show by all ways in which the picks may go.
abbrev pub LocalRunsAreAmong : Type 0
LocalRunsAreAmong = (bundle : List Item) (s : Setting) (f : ℕ) → Among (leaf_list (local_shows_tree bundle s f)) (leaf_list (shows_tree bundle s f))
