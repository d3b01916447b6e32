-- The moments of a run, and what holds at each of them and at its ending.
use Rattle.std.specs.Prelude.{◌≡◌, ◌≢◌, ◌≤◌, ◌<◌, ◌+◌, ◌^◌, ℕ, true, List, [], ◌∷◌, Ok, Some, length, slice_get}
use Rattle.mu_base.specs.declared.order.Order.{Order}
use Rattle.ir_tree.specs.declared.items.Item.{Item}
use Rattle.mu_values.specs.declared.scalars.Scalar.{Scalar}
use Rattle.mu_values.specs.declared.cells.CellId.{CellId}
use Rattle.checked_code.specs.Answers.{entry}
use Rattle.mem_axioms.specs.Axioms.{meets_axioms}
use Rattle.mem_axioms.specs.Races.{Racing}
use Rattle.mem_axioms.specs.Logs.{event_at, past_of}
use Rattle.mem_axioms.specs.Form.{value_at}
use Rattle.mem_axioms.specs.Choices.{is_option}
use Rattle.mem_axioms.specs.declared.types.Mode.TheVariants.{Read}
use Rattle.mem_axioms.specs.declared.types.Kind.TheVariants.{Access, Leave}
use Rattle.mem_axioms.specs.declared.types.Rule.{Rule}
use Rattle.mem_axioms.specs.declared.types.Event.{Event}
use Rattle.frames.specs.Activations.{Activation}
use Rattle.mu_model.specs.declared.lines.Line.{Line}
use Rattle.mu_model.specs.declared.lines.Line.TheVariants as lines
use Rattle.mu_model.specs.declared.endings.Ending.{Ending}
use Rattle.mu_model.specs.Configuration.{Active, Configuration}
use Rattle.mu_model.specs.Changes.{event}
use Rattle.mu_model.specs.Acts.{Program}
use Rattle.mu_model.specs.Accesses.{initial}
use Rattle.mu_model.specs.Outcomes.{Next, End, Stuck}
use Rattle.mu_model.specs.Programs.{named}
use Rattle.mu_model.specs.Step.{step}
use Rattle.mu_model.specs.Run.{Setting, first_configuration, client_answers}
use Rattle.model_laws.specs.Laws.{OneOwner}
use Rattle.model_laws.specs.Bounds.{IsSmall}
use Rattle.typed_programs.specs.Laws.{SettingFits}
use Rattle.text_programs.specs.Laws.{OfAcceptedTexts}
use Rattle.text_programs.specs.Offers.{OffersExactly}

-- a run comes from one configuration to another by steps that go on
pub data Reaches (p : Program) (c : Configuration) : Configuration → Type 0 where
  here : Reaches p c c
  onward : {d e : Configuration} → Reaches p c d → client_answers p d.client (step p d) ≡ Next e → Reaches p c e

-- ---- sound logs

-- It meets the axioms of memory; no two of its events race; each read in it was an option of its past, and has the value that stood there.
pub record IsSoundLog (rule : Rule) (first : CellId → Scalar) (log : List Event) : Type 0 where
  pub axioms : meets_axioms rule first log ≡ true
  pub race_free : (i j : ℕ) → Racing rule log i j → ⊥
  pub reads : (i thread : ℕ) (cell : CellId) (order : Order) (position : ℕ) (value : Scalar) → event_at log i ≡ Some (record { thread = thread; kind = Access Read cell order position value }) →
      (is_option rule first (past_of log i) thread cell order position ≡ true) × (value ≡ value_at first (past_of log i) cell position)

-- ---- the ending

-- the log behind some lines, which are in order: each event that they tell of is its newest then
abbrev pub log_behind : List Line → List Event → List Event
log_behind [] log = log
log_behind (lines.Event number e ∷ ls) log = log_behind ls (e ∷ log)
log_behind (lines.Note note ∷ ls) log = log_behind ls log

-- The log that is left at an ending: the step that gives it has logged nothing, or that a thread left the stack on which it stood, as
-- it does at a trap.
pub data IsLastLog (c : Configuration) : List Event → Type 0 where
  as_before : IsLastLog c c.log
  left : (thread stack : ℕ) (frames : List Activation) → slice_get c.stacks stack ≡ Some (Active thread frames) → IsLastLog c (event thread (Leave stack) ∷ c.log)

-- it is sound, over what the cells began with
pub record IsSoundEnding (c : Configuration) (log : List Event) : Type 0 where
  pub last : IsLastLog c log
  pub sound : IsSoundLog c.rule (initial c) log

-- where the next step gives the ending, so is the log behind its lines, which is that of no moment
abbrev pub EndsSoundly : Program → Configuration → Type 0
EndsSoundly p c = (ls : List Line) (e : Ending) → client_answers p c.client (step p c) ≡ End ls e → IsSoundEnding c (log_behind ls c.log)

-- ---- moments

pub record IsSoundMoment (p : Program) (c : Configuration) : Type 0 where
  pub log : IsSoundLog c.rule (initial c) c.log
  -- an access is offered what the axioms of memory and its comparison let it take, and nothing else
  pub offers : OffersExactly p c
  -- no two threads are on one stack, and no thread is on two
  pub owners : OneOwner c
  -- the next step has a rule
  pub rule : client_answers p c.client (step p c) ≢ Stuck
  pub ending : EndsSoundly p c

-- each moment of a run of a bundle is one
abbrev pub MomentsAreSound : Program → Setting → ℕ → Type 0
MomentsAreSound p s function = (c d : Configuration) → first_configuration p s function ≡ Some c → Reaches p c d → IsSoundMoment p d

-- what holds of each run of a function that may be entered, in a setting that fits
abbrev pub OfEnteredRuns : (Program → Setting → ℕ → Type 0) → List Item → Type 0
OfEnteredRuns holds bundle = (s : Setting) (name : List ℕ) (function : ℕ) → SettingFits bundle s → entry bundle name ≡ Ok function → holds (named bundle) s function

abbrev pub EnteredRunsAreSound : List Item → Type 0
EnteredRunsAreSound = OfEnteredRuns MomentsAreSound

abbrev pub MomentsOfTextsAreSound : Type 0
MomentsOfTextsAreSound = OfAcceptedTexts EnteredRunsAreSound

-- so, where a run ends, its log is sound, with what its last step has logged
abbrev pub EndingsAreSound : Program → Setting → ℕ → Type 0
EndingsAreSound p s function = (c d : Configuration) → first_configuration p s function ≡ Some c → Reaches p c d → EndsSoundly p d

abbrev pub EndingsOfTextsAreSound : Type 0
EndingsOfTextsAreSound = OfAcceptedTexts (OfEnteredRuns EndingsAreSound)

-- ---- how large a run grows

-- At each moment the numbers of events, objects, stacks, threads and frames fit 32 bits, where the run may make a million steps at most
-- and the objects that it is given leave room for a million more.
abbrev pub MomentsAreSmall : Program → Setting → ℕ → Type 0
MomentsAreSmall p s function =
    (c d : Configuration) → s.budget ≤ 1000000 → length s.objects + 1000000 < 2 ^ 32 → first_configuration p s function ≡ Some c → Reaches p c d → IsSmall d

abbrev pub MomentsOfTextsAreSmall : Type 0
MomentsOfTextsAreSmall = OfAcceptedTexts (OfEnteredRuns MomentsAreSmall)
