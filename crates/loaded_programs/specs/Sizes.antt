-- How many objects a run begins with, and how many cells each of them has.
use Rattle.std.specs.Prelude.{◌≡◌, ◌≤◌, ◌+◌, ℕ, suc, List, All, Ok, length}
use Rattle.ir_tree.specs.declared.items.Item.{Item}
use Rattle.ir_text.specs.TextAnswers.{IsAnswer}
use Rattle.checked_code.specs.Rules.{most_leaves_of_globals}
use Rattle.checked_code.specs.Checking.{bundle_tables}
use Rattle.hail_load.specs.declared.tree.Command.{Command}
use Rattle.hail_load.specs.Texts.{hail_commands}
use Rattle.mu_model.specs.Run.{Setting}
use Rattle.model_laws.specs.Printable.{HasFewCells}
use Rattle.model_numbers.specs.Laws.{OfAccepted}
use Rattle.text_programs.specs.Laws.{OfAcceptedTexts}
use Rattle.text_programs.specs.Printable.{IsModest}
use Rattle.loaded_programs.specs.Laws.{loaded_objects}

-- A command of a script makes one object at most.
abbrev pub LoadedObjectsAreFew : Type 0
LoadedObjectsAreFew = OfAccepted (λ bundle. (commands : List Command) (cells : ℕ) → length (loaded_objects bundle cells commands) ≤ length (bundle_tables bundle).global_cells + length commands)

-- An object that a command makes has no more cells than may be made, and one of a global no more than all globals together may have.
abbrev pub LoadedObjectsAreSmall : Type 0
LoadedObjectsAreSmall = OfAccepted (λ bundle. (commands : List Command) (cells : ℕ) → All (HasFewCells (cells + most_leaves_of_globals)) (loaded_objects bundle cells commands))

-- A script has one command more than bytes at most.
abbrev pub ScriptsAreShort : Type 0
ScriptsAreShort = (text : List ℕ) → length (hail_commands text) ≤ suc (length text)

-- A bundle has no more globals than it may have items.
abbrev pub GlobalsAreFew : Type 0
GlobalsAreFew = (bytes : List ℕ) (bundle : List Item) → IsAnswer bytes (Ok bundle) → length (bundle_tables bundle).global_cells ≤ 16384

-- So a setting is modest that has the objects of a script of 1,048,576 bytes at most, a million cells and a million steps.
abbrev pub LoadedSettingIsModest : List Item → Type 0
LoadedSettingIsModest bundle = (s : Setting) (text : List ℕ) → length text ≤ 1048576 → s.objects ≡ loaded_objects bundle s.cells (hail_commands text) → s.cells ≤ 1000000 → s.budget ≤ 1000000 → IsModest s

abbrev pub LoadedSettingsAreModest : Type 0
LoadedSettingsAreModest = OfAcceptedTexts LoadedSettingIsModest
