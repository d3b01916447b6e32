-- What holds of each run with a client that answers by a way that fits.
use Rattle.std.specs.Prelude.{◌≡◌, ◌≢◌, ℕ, List, Ok, Some, IsSome}
use Rattle.ir_tree.specs.declared.items.Item.{Item}
use Rattle.checked_code.specs.Answers.{entry}
use Rattle.checked_code.specs.Checking.{bundle_tables}
use Rattle.check_tables.specs.declared.tables.Tables.{Tables}
use Rattle.typed_heap.specs.Fits.{World}
use Rattle.mu_model.specs.Types.{type_graph}
use Rattle.mu_model.specs.Acts.{Program}
use Rattle.mu_model.specs.Answers.{entry_answer}
use Rattle.mu_model.specs.Clients.{ScriptEntry}
use Rattle.mu_model.specs.Configuration.{Configuration}
use Rattle.mu_model.specs.Outcomes.{Stuck, View}
use Rattle.mu_model.specs.Programs.{named}
use Rattle.mu_model.specs.Run.{Setting, first_configuration, run}
use Rattle.mu_model.specs.Step.{step}
use Rattle.model_laws.specs.Bounds.{HasEnding}
use Rattle.model_laws.specs.ClientsFit.{AnswerFits, ScriptEntryFits, ViewFits}
use Rattle.model_laws.specs.Values.{HasGlobals}
use Rattle.typed_programs.specs.Laws.{SettingFits}
use Rattle.text_programs.specs.Laws.{OfAcceptedTexts}
use Rattle.client_hooks.specs.Ways.{Way, by_entries, client_answers_by}
use Rattle.way_laws.specs.Runs.{WayFits, IsSoundMomentBy, ReachesBy, program_run_by, run_by}

-- of each run of a function that may be entered, in a setting that fits, by a way that fits
abbrev pub OfWays : (Way → Program → Setting → ℕ → Type 0) → List Item → Type 0
OfWays holds bundle =
    (how : Way) (s : Setting) (name : List ℕ) (function : ℕ) → WayFits (bundle_tables bundle) how → SettingFits bundle s → entry bundle name ≡ Ok function → holds how (named bundle) s function

-- at each of its moments the next step has a rule
abbrev pub NeverStuck : Way → Program → Setting → ℕ → Type 0
NeverStuck how p s function =
    (c d : Configuration) → first_configuration p s function ≡ Some c → ReachesBy how p c d → client_answers_by how p d.client (step p d) ≢ Stuck

abbrev pub RunsByWaysAreNeverStuck : Type 0
RunsByWaysAreNeverStuck = OfAcceptedTexts (OfWays NeverStuck)

-- at each of its moments the log is sound, each stack has one owner, the next step has a rule, and an ending leaves a sound log
abbrev pub MomentsAreSoundBy : Way → Program → Setting → ℕ → Type 0
MomentsAreSoundBy how p s function = (c d : Configuration) → first_configuration p s function ≡ Some c → ReachesBy how p c d → IsSoundMomentBy how p d

abbrev pub MomentsByWaysAreSound : Type 0
MomentsByWaysAreSound = OfAcceptedTexts (OfWays MomentsAreSoundBy)

-- it begins and has an ending
abbrev pub BeginsAndEnds : Way → Program → Setting → ℕ → Type 0
BeginsAndEnds how p s function = IsSome (first_configuration p s function) × HasEnding (program_run_by how p s function)

abbrev pub RunsByWaysEnd : Type 0
RunsByWaysEnd = OfAcceptedTexts (OfWays BeginsAndEnds)

-- ---- answers by entries

-- whatever is made, what the entry tells fits
abbrev pub EntryFitsAlways : Tables → ScriptEntry → Type 0
EntryFitsAlways p e = (w : World) → HasGlobals p w → ScriptEntryFits p w e

-- then its answer fits
abbrev pub EntryAnswersFit : Type 0
EntryAnswersFit = OfAcceptedTexts (λ bundle. (e : ScriptEntry) → EntryFitsAlways (bundle_tables bundle) e → (w : World) → HasGlobals (bundle_tables bundle) w →
    (view : View) → ViewFits (type_graph (bundle_tables bundle)) w view → AnswerFits (bundle_tables bundle) w (entry_answer (bundle_tables bundle) view.frames e))

abbrev pub EntriesFit : Type 0
EntriesFit = OfAcceptedTexts (λ bundle. WayFits (bundle_tables bundle) by_entries)

-- such a run is one of the abstract machine
abbrev pub RunsByEntriesAreSame : Type 0
RunsByEntriesAreSame = (p : Program) (n : ℕ) (c : Configuration) → run_by by_entries p n c ≡ run p n c
