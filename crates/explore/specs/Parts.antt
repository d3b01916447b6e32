-- What the functions that find what is searched tell their callers.
use Rattle.std.specs.Prelude.{◌≡◌, ◌⊎◌, ℕ, ◌+◌, List, [], ◌∷◌, Option, Some, Vec, Result, Ok, Err, ⊤}
use Rattle.std.specs.declared.alloc.Global.{Global}
use Rattle.mu_base.specs.declared.status.Status.{Status}
use Rattle.mu_base.specs.Outcome.{Outcome, got}
use Rattle.ir_tree.specs.declared.items.Item.{Item}
use Rattle.typed_heap.specs.Objects.{HeapObject}
use Rattle.seen_runs.specs.Seen.{global_names}
use Rattle.seen_runs.specs.Finals.{finals_in}
use Rattle.seen_runs.specs.declared.globals.Final.{Final}
use Rattle.name_scopes.specs.Names.{Names, added}
use Rattle.conditions.specs.declared.tree.Condition.{Condition}
use Rattle.mu_texts.specs.declared.what.What.{What}
use Rattle.mu_texts.specs.declared.what.What.TheVariants.{Hail}
use Rattle.mu_texts.specs.declared.stop.Stop.{Stop}
use Rattle.mu_texts.specs.declared.stop.Stop.TheVariants.{Line, Memory}
use Rattle.mu_texts.specs.Start.{Started}
use Rattle.mu_texts.specs.Answer.{Answer, Part, line, loaded, started}
use Rattle.mu_command.specs.declared.job.RunJob.{RunJob}
use Rattle.mu_command.specs.Answer.{Outcomes}
use Rattle.mu_command.specs.Allowed.{Seen, AllowsFile, AllowsJob}
use Rattle.mu_command.specs.Parts.{OfRun, IsJudged}
use Rattle.run_search.specs.Given.{Given, setting_of}
use Rattle.explore.specs.declared.search.Search.{Search}
use Rattle.explore.specs.declared.finding.Filled.{Filled}
use Rattle.explore.specs.Asked.{search_of, runs_of, condition_of}
use Rattle.explore.specs.Conditions.{fetched_condition, AllowsCondition, asked_conditions}
use Rattle.explore.specs.Answers.{IsConditioned, conditions_of, IsAnswer}

-- the file is there, and it comes to something
pub record HasGiven {A : Type 0} (seen : Seen) (words : List (List ℕ)) (what : What) (n : Option ℕ) (part : List ℕ → Part A) (bytes : List ℕ) : Type 0 where
  pub allowed : AllowsFile seen words what n (got bytes)
  pub value : A
  pub comes : part bytes ≡ Ok value

-- so it is, or it ends the way
abbrev pub IsGiven : {A : Type 0} → Seen → List (List ℕ) → What → Option ℕ → (List ℕ → Part A) → Result (Vec ℕ Global) Stop → Type 0
IsGiven {A} seen words what n part (Ok bytes) = HasGiven {A = A} seen words what n part bytes.items
IsGiven {A} seen words what n part (Err stop) = IsJudged {A = A} seen words what n part (Err stop)

-- the same of the script for the heap, with the globals whose last values are shown
pub record HasFilled (seen : Seen) (words : List (List ℕ)) (r : RunJob) (code : List Item) (filled : Filled) : Type 0 where
  pub allowed : AllowsFile seen words Hail r.hail (got filled.hail.items)
  pub objects : List HeapObject
  pub loads : loaded code r.cells filled.hail.items ≡ Ok objects
  pub finals : filled.finals.items ≡ finals_in 0 (global_names code) objects

abbrev pub IsFilledBy : Seen → List (List ℕ) → RunJob → List Item → Result Filled Stop → Type 0
IsFilledBy seen words r code (Ok filled) = HasFilled seen words r code filled
IsFilledBy seen words r code (Err stop) = IsJudged seen words Hail r.hail (loaded code r.cells) (Err stop)

-- the globals with their numbers, from one on
abbrev pub numbered_finals : ℕ → Names ℕ → List Final → Names ℕ
numbered_finals n names [] = names
numbered_finals n names (f ∷ fs) = numbered_finals (n + 1) (added names f.name n) fs

-- the outcome of the fetch of conditions, by what was made of it
abbrev pub IsConditionLoaded : Seen → List (List ℕ) → ℕ → Result (Vec ℕ Global) Stop → Type 0
IsConditionLoaded seen words n (Ok bytes) = AllowsCondition seen words (Some n) (got bytes.items)
IsConditionLoaded seen words n (Err (Line text status)) = (o : Outcome) × AllowsCondition seen words (Some n) o × (fetched_condition o ≡ Err (line text.items status))
IsConditionLoaded seen words n (Err Memory) = ⊤

-- an outcome that the inputs allow for the file of conditions, with which it comes to this
pub record OfConditions (seen : Seen) (words : List (List ℕ)) (n : Option ℕ) (names : Names ℕ) (is : Part (List Condition)) : Type 0 where
  pub outcome : Outcome
  pub allowed : AllowsCondition seen words n outcome
  pub comes : asked_conditions names n outcome ≡ is

abbrev pub AreAsked : Seen → List (List ℕ) → Option ℕ → Names ℕ → Result (List Condition) Stop → Type 0
AreAsked seen words n names (Ok cs) = OfConditions seen words n names (Ok cs)
AreAsked seen words n names (Err (Line text status)) = OfConditions seen words n names (Err (line text.items status))
AreAsked seen words n names (Err Memory) = ⊤

-- how the runs of a player begin, but for their picks
abbrev pub started_of : Given → Started
started_of g = started g.bundle g.entry (setting_of g)

abbrev pub as_started : Result Given Stop → Result Started Stop
as_started (Ok g) = Ok (started_of g)
as_started (Err stop) = Err stop

-- the answer that is to be written, in one piece
abbrev pub answer_in : Vec ℕ Global × Status → Answer
answer_in made = record { pieces = made.0.items ∷ []; status = made.1 }

-- outcomes that the inputs allow for the scripts and the conditions, with which the runs of the bundle begin so; and the answer to a search
-- through them, or the line of the conditions' first fault
pub record HasMade (seen : Seen) (words : List (List ℕ)) (s : Search) (code : List Item) (answer : Answer) : Type 0 where
  pub start : Started
  pub begins : OfRun seen words s.run code (Ok start)
  pub condition : Outcome
  pub allowed : AllowsCondition seen words s.condition condition
  pub searched : IsConditioned code start s.runs (conditions_of code start s condition) answer

abbrev pub IsMade : Seen → List (List ℕ) → Search → List Item → Result (Vec ℕ Global × Status) Stop → Type 0
IsMade seen words s code (Ok made) = HasMade seen words s code (answer_in made)
IsMade seen words s code (Err (Line text status)) = OfRun seen words s.run code (Err (line text.items status)) ⊎ HasMade seen words s code (line text.items status)
IsMade seen words s code (Err Memory) = ⊤

-- what is to be written is an answer to outcomes that the inputs allow
pub record HasAnswer (seen : Seen) (words : List (List ℕ)) (answer : Answer) : Type 0 where
  pub outcomes : Outcomes
  pub allowed : AllowsJob seen words (runs_of (search_of words)) outcomes
  pub condition : Outcome
  pub allowed_too : AllowsCondition seen words (condition_of (search_of words)) condition
  pub is : IsAnswer words (search_of words) outcomes condition answer

abbrev pub IsFound : Seen → List (List ℕ) → Result (Vec ℕ Global × Status) Stop → Type 0
IsFound seen words (Ok made) = HasAnswer seen words (answer_in made)
IsFound seen words (Err (Line text status)) = HasAnswer seen words (line text.items status)
IsFound seen words (Err Memory) = ⊤
