-- What holds of every bundle that meets its demands. HaveBlocks asks that each function that is defined has a block, as a text
-- that is read has it.
use Rattle.std.specs.Prelude.{◌≡◌, ◌≢◌, ℕ, List, [], None, Some, All}
use Rattle.demands.specs.Demands.{first_unmet}
use Rattle.ir_tree.specs.declared.items.Item.{Item}
use Rattle.bundle_names.specs.Naming.{name_demands}
use Rattle.checked_code.specs.Checking.{bundle_tables, check_demands}
use Rattle.mu_model.specs.Types.{type_graph, classes_taken}
use Rattle.mu_model.specs.Configuration.{Configuration}
use Rattle.mu_model.specs.Programs.{named}
use Rattle.mu_model.specs.Run.{Setting, Breaks, global_objects, first_configuration, program_run}
use Rattle.model_numbers.specs.Numbered.{numbered}
use Rattle.model_laws.specs.Values.{HasGlobals}
use Rattle.model_laws.specs.Programs.{IsTyped}
use Rattle.model_laws.specs.LogFits.{ObjectFits}
use Rattle.model_laws.specs.ClientsFit.{ClientFits}
use Rattle.model_laws.specs.Laws.{first_world}
use Rattle.model_laws.specs.Bounds.{HasEnding}
use Rattle.bundle_facts.specs.Facts.{HaveBlocks}
use Rattle.typed_programs.specs.PlacesOf.{places_of}

-- what holds of each bundle that meets its demands, and whose functions have blocks
abbrev pub OfAcceptedWithBlocks : (List Item → Type 0) → Type 0
OfAcceptedWithBlocks holds = (bundle : List Item) → first_unmet (name_demands bundle) ≡ None → first_unmet (check_demands bundle) ≡ None → HaveBlocks bundle → holds bundle

-- it is a well-typed program: with values that fit the variables of a place, the instruction there does what fits
abbrev pub AcceptedIsTyped : Type 0
AcceptedIsTyped = OfAcceptedWithBlocks (λ bundle. IsTyped (named bundle) (places_of bundle))

-- and so it is by the numbers of its checked code, with the same types of its variables
abbrev pub NumberedIsTyped : Type 0
NumberedIsTyped = OfAcceptedWithBlocks (λ bundle. IsTyped (numbered bundle) (places_of bundle))

-- ---- runs

-- a setting whose objects fit, the globals' first, and whose client tells what fits
pub record SettingFits (bundle : List Item) (s : Setting) : Type 0 where
  pub globals : HasGlobals (bundle_tables bundle) (first_world (bundle_tables bundle) s)
  pub objects : All (ObjectFits (type_graph (bundle_tables bundle)) (first_world (bundle_tables bundle) s)) s.objects
  pub client : ClientFits (bundle_tables bundle) s.client

-- the setting of a run fits, and the run begins in a function that takes nothing
pub record IsFitting (bundle : List Item) (s : Setting) (function : ℕ) : Type 0 where
  pub setting : SettingFits bundle s
  pub takes : classes_taken (bundle_tables bundle) function ≡ []

-- a run that begins has an ending, so no step of it is without a rule
abbrev pub RunsHaveAnEnding : Type 0
RunsHaveAnEnding = OfAcceptedWithBlocks (λ bundle. (s : Setting) (function : ℕ) (c : Configuration) → IsFitting bundle s function →
    first_configuration (named bundle) s function ≡ Some c → HasEnding (program_run (named bundle) s function))

abbrev pub NeverBreaks : Type 0
NeverBreaks = OfAcceptedWithBlocks (λ bundle. (s : Setting) (function : ℕ) (c : Configuration) → IsFitting bundle s function →
    first_configuration (named bundle) s function ≡ Some c → program_run (named bundle) s function ≢ Breaks)

-- ---- plain runs

-- there are the objects of the globals and no others, and the client has no entries; the schedule, the cells, the steps and the rule
-- of release sequences may be any
pub record IsPlain (bundle : List Item) (s : Setting) : Type 0 where
  pub objects : s.objects ≡ global_objects (bundle_tables bundle)
  pub entries : s.client.entries ≡ []

abbrev pub PlainRunsHaveAnEnding : Type 0
PlainRunsHaveAnEnding = OfAcceptedWithBlocks (λ bundle. (s : Setting) (function : ℕ) (c : Configuration) → IsPlain bundle s → classes_taken (bundle_tables bundle) function ≡ [] →
    first_configuration (named bundle) s function ≡ Some c → HasEnding (program_run (named bundle) s function))

abbrev pub PlainRunsNeverBreak : Type 0
PlainRunsNeverBreak = OfAcceptedWithBlocks (λ bundle. (s : Setting) (function : ℕ) (c : Configuration) → IsPlain bundle s → classes_taken (bundle_tables bundle) function ≡ [] →
    first_configuration (named bundle) s function ≡ Some c → program_run (named bundle) s function ≢ Breaks)
