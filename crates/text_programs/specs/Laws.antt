-- What holds of every text that is read and accepted.
use Rattle.std.specs.Prelude.{◌≡◌, ◌≢◌, ℕ, List, [], None, Some, Ok, IsSome}
use Rattle.demands.specs.Demands.{first_unmet}
use Rattle.ir_tree.specs.declared.items.Item.{Item}
use Rattle.ir_text.specs.TextAnswers.{IsAnswer}
use Rattle.bundle_names.specs.Naming.{name_demands}
use Rattle.checked_code.specs.Checking.{bundle_tables, check_demands}
use Rattle.checked_code.specs.Answers.{entry}
use Rattle.mu_model.specs.Types.{classes_taken}
use Rattle.mu_model.specs.Configuration.{Configuration}
use Rattle.mu_model.specs.Programs.{named}
use Rattle.mu_model.specs.Run.{Setting, Breaks, first_configuration, program_run}
use Rattle.model_laws.specs.Programs.{IsTyped}
use Rattle.model_laws.specs.Bounds.{HasEnding}
use Rattle.bundle_facts.specs.Facts.{HaveBlocks}
use Rattle.typed_programs.specs.PlacesOf.{places_of}
use Rattle.typed_programs.specs.Laws.{SettingFits, IsPlain}

-- each function that is defined in a bundle that is read has a block
abbrev pub BundlesThatAreReadHaveBlocks : Type 0
BundlesThatAreReadHaveBlocks = (bytes : List ℕ) (bundle : List Item) → IsAnswer bytes (Ok bundle) → HaveBlocks bundle

-- what holds of each bundle that is read from a text, and that meets its demands
abbrev pub OfAcceptedTexts : (List Item → Type 0) → Type 0
OfAcceptedTexts holds =
    (bytes : List ℕ) (bundle : List Item) → IsAnswer bytes (Ok bundle) → first_unmet (name_demands bundle) ≡ None → first_unmet (check_demands bundle) ≡ None → holds bundle

-- it is a well-typed program
abbrev pub TextsAreTyped : Type 0
TextsAreTyped = OfAcceptedTexts (λ bundle. IsTyped (named bundle) (places_of bundle))

-- a plain run of it that begins, in a function that takes nothing, has an ending, so no step of it is without a rule
abbrev pub RunsOfTextsHaveAnEnding : Type 0
RunsOfTextsHaveAnEnding = OfAcceptedTexts (λ bundle. (s : Setting) (function : ℕ) (c : Configuration) → IsPlain bundle s → classes_taken (bundle_tables bundle) function ≡ [] →
    first_configuration (named bundle) s function ≡ Some c → HasEnding (program_run (named bundle) s function))

abbrev pub RunsOfTextsNeverBreak : Type 0
RunsOfTextsNeverBreak = OfAcceptedTexts (λ bundle. (s : Setting) (function : ℕ) (c : Configuration) → IsPlain bundle s → classes_taken (bundle_tables bundle) function ≡ [] →
    first_configuration (named bundle) s function ≡ Some c → program_run (named bundle) s function ≢ Breaks)

-- a plain setting fits
abbrev pub PlainSettingFits : List Item → Type 0
PlainSettingFits bundle = (s : Setting) → IsPlain bundle s → SettingFits bundle s

abbrev pub PlainSettingsFit : Type 0
PlainSettingsFit = OfAcceptedTexts PlainSettingFits

-- a run of a function that may be entered, in a setting that fits, begins and has an ending
abbrev pub EnteredRunsEnd : List Item → Type 0
EnteredRunsEnd bundle = (s : Setting) (name : List ℕ) (function : ℕ) → SettingFits bundle s → entry bundle name ≡ Ok function →
    IsSome (first_configuration (named bundle) s function) × HasEnding (program_run (named bundle) s function)

abbrev pub EnteredRunsHaveAnEnding : Type 0
EnteredRunsHaveAnEnding = OfAcceptedTexts EnteredRunsEnd
