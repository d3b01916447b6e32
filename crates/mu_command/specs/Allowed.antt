-- Which outcomes of fetches the inputs allow.
use Rattle.std.specs.Prelude.{◌≡◌, ℕ, List, [], Option, None, Some}
use Rattle.mu_base.specs.Files.{Files}
use Rattle.mu_base.specs.Outcome.{Outcome, got, Allows}
use Rattle.mu_command.specs.declared.job.Job.{Job}
use Rattle.mu_texts.specs.declared.what.What.{What}
use Rattle.mu_texts.specs.What.{slot_of}
use Rattle.mu_command.specs.Job.{file_of, word}
use Rattle.mu_command.specs.Answer.{Outcomes}

-- what the inputs tell, and their counts of faults before a call and after it
pub record Seen : Type 0 where
  pub told : Option Files
  pub before : ℕ → ℕ
  pub now : ℕ → ℕ

-- the most bytes of a file
abbrev pub file_limit : ℕ
file_limit = 1048576

-- of the file that a word names
abbrev pub AllowsWord : Seen → List (List ℕ) → What → ℕ → Outcome → Type 0
AllowsWord seen words what n o = Allows seen.told (word words n) file_limit (seen.before (slot_of what)) (seen.now (slot_of what)) o

-- a file that no word names is empty
abbrev pub AllowsFile : Seen → List (List ℕ) → What → Option ℕ → Outcome → Type 0
AllowsFile seen words what None o = o ≡ got []
AllowsFile seen words what (Some n) o = AllowsWord seen words what n o

-- the inputs allow these outcomes for the files of the job
abbrev pub AllowsJob : Seen → List (List ℕ) → Option Job → Outcomes → Type 0
AllowsJob seen words None outcomes = Unit {0}
AllowsJob seen words (Some job) outcomes = (what : What) → AllowsFile seen words what (file_of job what) (outcomes what)
