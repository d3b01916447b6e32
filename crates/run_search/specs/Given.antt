-- What contracts see of a player: what each of its runs is given.
use Rattle.std.specs.Prelude.{◌≡◌, ◌≤◌, ℕ, Bool, false, List, [], Option, Some, Ok, Err}
use Rattle.ir_tree.specs.declared.items.Item.{Item}
use Rattle.mem_axioms.specs.declared.types.Rule.{Rule}
use Rattle.typed_heap.specs.Objects.{HeapObject}
use Rattle.mu_model.specs.Clients.{Client}
use Rattle.mu_model.specs.Configuration.{Configuration}
use Rattle.mu_model.specs.Programs.{named}
use Rattle.mu_model.specs.Run.{Setting, first_configuration}
use Rattle.run_texts.specs.EventTexts.{Text}
use Rattle.odometer.specs.Trees.{Tree}
use Rattle.seen_runs.specs.Seen.{by_picks, global_names, shows}
use Rattle.seen_runs.specs.Finals.{finals_in}
use Rattle.seen_runs.specs.declared.globals.Final.{Final}
use Rattle.local_laws.specs.LocalSearch.{local_shows_tree}
use Rattle.mu_texts.specs.Answer.{Part, loaded, client_part}
use Rattle.mu_texts.specs.Comes.{CanBegin}

pub record Given : Type 0 where
  pub bundle : List Item
  pub entry : ℕ
  -- the texts of the scripts, for the heap and of the client, and whether the client passes zero and NULL after its last entry
  pub hail : List ℕ
  pub client : List ℕ
  pub auto : Bool
  pub rule : Rule
  pub cells : ℕ
  pub budget : ℕ
  -- the globals of one cell
  pub finals : List Final

abbrev pub objects_of : Part (List HeapObject) → List HeapObject
objects_of (Ok os) = os
objects_of (Err stop) = []

abbrev pub client_of : Part Client → Client
client_of (Ok k) = k
client_of (Err stop) = record { entries = []; auto = false }

-- what the runs are given, but for their picks
abbrev pub setting_of : Given → Setting
setting_of g =
    record {
      objects = objects_of (loaded g.bundle g.cells g.hail);
      client = client_of (client_part g.bundle g.auto g.client);
      picks = [];
      cells = g.cells;
      budget = g.budget;
      rule = g.rule;
    }

-- what each run shows in which local steps come first
unfoldable pub tree_of : Given → Tree (Option Text)
tree_of g = local_shows_tree g.bundle (setting_of g) g.entry

unfoldable pub shows_of : Given → List ℕ → Option Text
shows_of g ps = shows g.bundle (setting_of g) g.entry ps

-- the run by these numbers begins with this configuration
pub record BeginsAt (g : Given) (ps : List ℕ) (c : Configuration) : Type 0 where
  pub is : first_configuration (named g.bundle) (by_picks (setting_of g) ps) g.entry ≡ Some c

-- the scripts are accepted, and a run may begin with that function
pub record IsReady (g : Given) : Type 0 where
  pub objects : loaded g.bundle g.cells g.hail ≡ Ok (setting_of g).objects
  pub client : client_part g.bundle g.auto g.client ≡ Ok (setting_of g).client
  pub begins : CanBegin g.bundle g.entry
  pub short : g.budget ≤ 1000000
  pub finals : g.finals ≡ finals_in 0 (global_names g.bundle) (setting_of g).objects
