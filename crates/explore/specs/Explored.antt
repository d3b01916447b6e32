-- The one statement about a search, and the causes of its statuses.
use Rattle.std.specs.Prelude.{◌≡◌, ◌⊎◌, ℕ, List, Option, None, Some, Ok, Err}
use Rattle.mu_base.specs.declared.status.Status.{Status}
use Rattle.mu_base.specs.declared.status.Status.TheVariants.{Memory}
use Rattle.mu_base.specs.Files.{Files}
use Rattle.mu_base.specs.Outcome.{Outcome}
use Rattle.ir_tree.specs.declared.items.Item.{Item}
use Rattle.conditions.specs.declared.tree.Condition.{Condition}
use Rattle.mu_texts.specs.declared.ready.Ready.TheVariants.{Entered}
use Rattle.mu_texts.specs.declared.ready.Telling.{Telling}
use Rattle.mu_texts.specs.Start.{Started}
use Rattle.mu_texts.specs.Answer.{Answer}
use Rattle.mu_command.specs.Answer.{Outcomes, found}
use Rattle.mu_command.specs.Allowed.{Seen, AllowsJob}
use Rattle.mu_command.specs.Central.{outcome_named, outcomes_of}
use Rattle.mu_command.specs.Written.{Writes}
use Rattle.explore.specs.declared.search.Search.{Search}
use Rattle.explore.specs.Asked.{search_of, run_of, runs_of, condition_of}
use Rattle.explore.specs.Conditions.{AllowsCondition}
use Rattle.explore.specs.Answers.{IsSearch, conditions_of, IsAnswer}

-- Out of memory before anything was written.
pub record GaveUp (written new_written marks new_marks : Option (List ℕ)) (status : Status) : Type 0 where
  pub memory : status ≡ Memory
  pub nothing : new_written ≡ written
  pub no_end : new_marks ≡ marks

-- There are outcomes of the fetches that the inputs allow, and an answer to them, which is what is written.
pub record HasExplored (seen : Seen) (words : List (List ℕ)) (written new_written marks new_marks : Option (List ℕ)) (status : Status) : Type 0 where
  pub outcomes : Outcomes
  pub allowed : AllowsJob seen words (runs_of (search_of words)) outcomes
  pub condition : Outcome
  pub allowed_too : AllowsCondition seen words (condition_of (search_of words)) condition
  pub answer : Answer
  pub is : IsAnswer words (search_of words) outcomes condition answer
  pub writes : Writes answer written new_written marks new_marks status

-- So it is, unless the call was out of memory before anything was written.
abbrev pub Explored : Seen → List (List ℕ) → Option (List ℕ) → Option (List ℕ) → Option (List ℕ) → Option (List ℕ) → Status → Type 0
Explored seen words written new_written marks new_marks status =
    HasExplored seen words written new_written marks new_marks status ⊎ GaveUp written new_written marks new_marks status

-- ---- causes, beside those that are as of `mu`

-- of what is searched, where the words ask for a search
abbrev pub OfSearch : (Search → Type 0) → Option Search → Type 0
OfSearch P None = ⊥
OfSearch P (Some s) = P s

-- With outcomes that the inputs allow, the bundle and the scripts of the search are there and accepted, its runs begin so, and the file of
-- conditions comes to this.
pub record HasConditions (seen : Seen) (words : List (List ℕ)) (s : Search) : Type 0 where
  pub outcomes : Outcomes
  pub allowed : AllowsJob seen words (Some (run_of s)) outcomes
  pub code : List Item
  pub start : Started
  pub telling : Telling
  pub is : found words (run_of s) outcomes ≡ Ok (Entered code start telling)
  pub condition : Outcome
  pub allowed_too : AllowsCondition seen words s.condition condition

-- The conditions of the search are read too, and its answer, which has this status, is written.
pub record IsAccepted (seen : Seen) (words : List (List ℕ)) (written new_written marks new_marks : Option (List ℕ)) (status : Status) (s : Search) : Type 0 where
  pub there : HasConditions seen words s
  pub conditions : List Condition
  pub read : conditions_of there.code there.start s there.condition ≡ Ok conditions
  pub answer : Answer
  pub searched : IsSearch there.code there.start s.runs conditions answer
  pub ends : answer.status ≡ status
  pub writes : Writes answer written new_written marks new_marks status

-- All else is accepted, but the file of conditions, which a word names, gives none; by this cause its line, which has this status, is written.
pub record IsUnconditioned (Cause : Seen → List (List ℕ) → ℕ → Type 0) (seen : Seen) (words : List (List ℕ)) (written new_written marks new_marks : Option (List ℕ)) (status : Status) (s : Search) : Type 0 where
  pub there : HasConditions seen words s
  pub number : ℕ
  pub names : s.condition ≡ Some number
  pub cause : Cause seen words number
  pub answer : Answer
  pub stops : conditions_of there.code there.start s there.condition ≡ Err answer
  pub ends : answer.status ≡ status
  pub writes : Writes answer written new_written marks new_marks status

-- Where the inputs say what their files are, and no count rises, an answer to the files is written, unless the call was out of memory before that.
pub record HasFilesAnswer (files : Files) (words : List (List ℕ)) (written new_written marks new_marks : Option (List ℕ)) (status : Status) : Type 0 where
  pub answer : Answer
  pub is : IsAnswer words (search_of words) (outcomes_of files words (runs_of (search_of words))) (outcome_named files words (condition_of (search_of words))) answer
  pub writes : Writes answer written new_written marks new_marks status

abbrev pub AnswersFiles : Files → List (List ℕ) → Option (List ℕ) → Option (List ℕ) → Option (List ℕ) → Option (List ℕ) → Status → Type 0
AnswersFiles files words written new_written marks new_marks status =
    HasFilesAnswer files words written new_written marks new_marks status ⊎ GaveUp written new_written marks new_marks status
