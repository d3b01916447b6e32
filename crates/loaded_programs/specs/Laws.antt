-- What a script for the heap makes of a bundle that is accepted, and the entries of a client's script, are what a run may
-- begin with.
use Rattle.std.specs.Prelude.{◌≡◌, ℕ, List, [], None}
use Rattle.demands.specs.Demands.{first_unmet}
use Rattle.ir_tree.specs.declared.items.Item.{Item}
use Rattle.checked_code.specs.Checking.{bundle_tables}
use Rattle.typed_heap.specs.Objects.{HeapObject}
use Rattle.hail_load.specs.declared.tree.Command.{Command}
use Rattle.hail_load.specs.Code.{code_of}
use Rattle.hail_load.specs.LoadAnswers.{AreGlobals}
use Rattle.hail_load.specs.Loading.{Loaded, load}
use Rattle.mu_model.specs.Clients.{Client}
use Rattle.mu_model.specs.Run.{Setting, global_objects, cells_left}
use Rattle.model_numbers.specs.Laws.{OfAccepted}
use Rattle.client_script.specs.Texts.{script_demands, script_entries}
use Rattle.typed_programs.specs.Laws.{SettingFits}
use Rattle.text_programs.specs.Laws.{OfAcceptedTexts}

-- a script begins with the objects of the globals that a run begins with
abbrev pub BeginsWithGlobals : List Item → Type 0
BeginsWithGlobals bundle = AreGlobals (code_of bundle) (global_objects (bundle_tables bundle))

abbrev pub ScriptsBeginWithGlobals : Type 0
ScriptsBeginWithGlobals = OfAccepted BeginsWithGlobals

-- what some commands come to, up to the first that is refused, where so many cells may be made; and the objects then
abbrev pub carried_out : List Item → ℕ → List Command → Loaded
carried_out bundle cells commands = load (code_of bundle) (record { objects = global_objects (bundle_tables bundle); left = cells; made = [] }) commands

abbrev pub loaded_objects : List Item → ℕ → List Command → List HeapObject
loaded_objects bundle cells commands = (carried_out bundle cells commands).store.objects

-- as many cells are left then as those objects did not take
abbrev pub CellsAreCounted : Type 0
CellsAreCounted = (bundle : List Item) (commands : List Command) (cells : ℕ) → (carried_out bundle cells commands).store.left ≡ cells_left (bundle_tables bundle) cells (loaded_objects bundle cells commands)

-- a client whose entries are those of a text that is accepted as its script; those of an empty text are none
pub record IsScripted (bundle : List Item) (k : Client) : Type 0 where
  pub text : List ℕ
  pub accepted : first_unmet (script_demands bundle text) ≡ None
  pub entries : k.entries ≡ script_entries bundle text

-- a setting with these objects and such a client fits
abbrev pub LoadedSettingFits : List Item → Type 0
LoadedSettingFits bundle = (s : Setting) (commands : List Command) (cells : ℕ) → s.objects ≡ loaded_objects bundle cells commands → IsScripted bundle s.client → SettingFits bundle s

abbrev pub LoadedSettingsFit : Type 0
LoadedSettingsFit = OfAcceptedTexts LoadedSettingFits
