-- The one statement about the program, and the causes of its statuses.
use Rattle.std.specs.Prelude.{true, false, ◌≡◌, ◌↔◌, ◌≢◌, ◌⊎◌, ℕ, ◌-◌, ◌^◌, ◌<◌, List, [], length, Option, None, Some, Ok, Err, nat_le, if◌then◌else◌}
use Rattle.mu_base.specs.declared.status.Status.{Status}
use Rattle.mu_base.specs.declared.status.Status.TheVariants.{Refused, No}
use Rattle.mu_base.specs.Faults.{Rose}
use Rattle.mu_base.specs.Files.{Files, file, IsMissing}
use Rattle.mu_base.specs.Outcome.{Outcome, got, failed, too_long, IsLonger}
use Rattle.mu_command.specs.declared.job.Job.{Job}
use Rattle.mu_command.specs.declared.job.Job.TheVariants.{Judge}
use Rattle.mem_axioms.specs.declared.types.Rule.{Rule}
use Rattle.log_lines.specs.Texts.{ReadLog, text_read}
use Rattle.verdicts.specs.Verdicts.{verdict}
use Rattle.ir_tree.specs.declared.items.Item.{Item}
use Rattle.mu_model.specs.Programs.{named}
use Rattle.mu_model.specs.Acts.{Program}
use Rattle.mu_model.specs.Accesses.{initial}
use Rattle.mu_model.specs.Configuration.{Configuration}
use Rattle.mu_model.specs.declared.lines.Line.{Line}
use Rattle.mu_model.specs.declared.endings.Ending.{Ending}
use Rattle.mu_model.specs.Clients.{Answer as ClientAnswer}
use Rattle.mu_model.specs.Outcomes.{Outcome as StepOutcome, Next, Asks, Stuck, View}
use Rattle.mu_model.specs.Step.{step}
use Rattle.mu_model.specs.Run.{Ends, first_configuration, client_answers}
use Rattle.run_texts.specs.Texts.{ending_status}
use Rattle.model_laws.specs.Laws.{OneOwner}
use Rattle.text_programs.specs.Moments.{Reaches, IsSoundLog}
use Rattle.mu_texts.specs.declared.ready.Ready.{Ready}
use Rattle.mu_texts.specs.declared.ready.Ready.TheVariants.{Entered}
use Rattle.mu_texts.specs.declared.ready.Telling.{Telling}
use Rattle.mu_texts.specs.declared.what.What.{What}
use Rattle.mu_texts.specs.declared.what.What.TheVariants.{Log}
use Rattle.mu_texts.specs.What.{slot_of}
use Rattle.mu_command.specs.Job.{job_of, file_of, word}
use Rattle.mu_texts.specs.Start.{Started}
use Rattle.mu_texts.specs.Answer.{Answer, is_yes, verdict_answer, ready_answer, run_of}
use Rattle.mu_command.specs.Answer.{Outcomes, found, answer_of}
use Rattle.mu_command.specs.Allowed.{Seen, AllowsWord, AllowsJob, file_limit}
use Rattle.mu_command.specs.Written.{Writes}

-- There are outcomes that the inputs allow, and the answer to them is what is written.
pub record Answered (seen : Seen) (words : List (List ℕ)) (written new_written marks new_marks : Option (List ℕ)) (status : Status) : Type 0 where
  pub outcomes : Outcomes
  pub allowed : AllowsJob seen words (job_of words) outcomes
  pub writes : Writes (answer_of words (job_of words) outcomes) written new_written marks new_marks status

-- ---- causes

-- a fetch of the file that a word names may have failed: its count rose, or it is told that there is no such file
abbrev pub MayFail : Seen → List (List ℕ) → What → ℕ → Type 0
MayFail seen words what n = Rose (seen.before (slot_of what)) (seen.now (slot_of what)) ⊎ IsMissing seen.told (word words n)

-- the file that a word names is past the limit, and its count stayed
abbrev pub IsPast : Seen → List (List ℕ) → What → ℕ → Type 0
IsPast seen words what n = IsLonger seen.told (word words n) file_limit × (seen.now (slot_of what) ≡ seen.before (slot_of what))

-- A file that the job names was not fetched: that holds of it, its line is what is found with outcomes that the inputs allow, so that all
-- before it is accepted, and this line is what is written.
pub record IsUnfetched (P : Seen → List (List ℕ) → What → ℕ → Type 0) (line_of : What → Answer) (seen : Seen) (words : List (List ℕ)) (written new_written marks new_marks : Option (List ℕ)) (status : Status) (job : Job) : Type 0 where
  pub what : What
  pub number : ℕ
  pub names : file_of job what ≡ Some number
  pub holds : P seen words what number
  pub outcomes : Outcomes
  pub allowed : AllowsJob seen words (Some job) outcomes
  pub is : found words job outcomes ≡ Err (line_of what)
  pub writes : Writes (line_of what) written new_written marks new_marks status

-- What the job asks is there: it is found with outcomes that the inputs allow, its answer has this status, and that answer is what is
-- written.
pub record IsAccepted (seen : Seen) (words : List (List ℕ)) (written new_written marks new_marks : Option (List ℕ)) (status : Status) (job : Job) : Type 0 where
  pub outcomes : Outcomes
  pub allowed : AllowsJob seen words (Some job) outcomes
  pub ready : Ready
  pub is : found words job outcomes ≡ Ok ready
  pub ends : (ready_answer ready).status ≡ status
  pub writes : Writes (ready_answer ready) written new_written marks new_marks status

-- A file or the entry is refused: so it is with outcomes that the inputs allow, and the line of this very refusal is what is written.
pub record IsRefused (seen : Seen) (words : List (List ℕ)) (written new_written marks new_marks : Option (List ℕ)) (job : Job) : Type 0 where
  pub outcomes : Outcomes
  pub allowed : AllowsJob seen words (Some job) outcomes
  pub refusal : Answer
  pub is : found words job outcomes ≡ Err refusal
  pub status : refusal.status ≡ Refused
  pub writes : Writes refusal written new_written marks new_marks Refused

-- ---- the verdict on a log

-- The file that is judged has a text that is a log, the line of the verdict on it is what is written, and the status is No exactly where
-- the verdict is not Yes.
pub record HasVerdict (seen : Seen) (words : List (List ℕ)) (written new_written marks new_marks : Option (List ℕ)) (status : Status) (file : ℕ) (rule : Rule) : Type 0 where
  pub text : List ℕ
  pub allowed : AllowsWord seen words Log file (got text)
  pub log : ReadLog
  pub read : text_read text ≡ Ok log
  pub no : (status ≡ No) ↔ (is_yes (verdict rule log.log) ≡ false)
  pub writes : Writes (verdict_answer (verdict rule log.log)) written new_written marks new_marks status

-- That is so of a job that judges a log. No other job ends with No.
abbrev pub FollowsVerdict : Seen → List (List ℕ) → Option (List ℕ) → Option (List ℕ) → Option (List ℕ) → Option (List ℕ) → Status → Job → Type 0
FollowsVerdict seen words written new_written marks new_marks status (Judge file rule) = HasVerdict seen words written new_written marks new_marks status file rule
FollowsVerdict seen words written new_written marks new_marks status _ = status ≢ No

-- of the job, where there is one
abbrev pub OfJob : (Job → Type 0) → Option Job → Type 0
OfJob P None = ⊥
OfJob P (Some job) = P job

-- ---- the run that is told

-- That holds at each moment of the run that the words ask for, whatever bytes its files have. A moment is a configuration to which
-- steps lead from the first.
abbrev pub EachMoment : (Program → Configuration → Type 0) → List (List ℕ) → Type 0
EachMoment P words =
    (job : Job) (outcomes : Outcomes) (code : List Item) (start : Started) (telling : Telling) (first moment : Configuration) →
    job_of words ≡ Some job → found words job outcomes ≡ Ok (Entered code start telling) →
    first_configuration (named code) start.setting start.entry ≡ Some first → Reaches (named code) first moment → P (named code) moment

-- The log meets the axioms of memory, no two of its events race, and each of its reads was an option of its past and has the value that
-- stood there.
abbrev pub HasSoundLog : Program → Configuration → Type 0
HasSoundLog p c = IsSoundLog c.rule (initial c) c.log

-- No two threads are on one stack, and no thread is on two.
abbrev pub HasOneOwner : Program → Configuration → Type 0
HasOneOwner p c = OneOwner c

-- The next step has a rule.
abbrev pub IsNotStuck : Program → Configuration → Type 0
IsNotStuck p c = client_answers p c.client (step p c) ≢ Stuck

-- Where the next step asks a client that has no entries left and answers with zero and NULL, the run goes on.
abbrev pub AutoGoesOn : Program → Configuration → Type 0
AutoGoesOn p c = (view : View) (go : Option ClientAnswer → StepOutcome) → step p c ≡ Asks view go → c.client ≡ record { entries = []; auto = true } →
    (d : Configuration) × (client_answers p c.client (step p c) ≡ Next d)

-- ---- the ending

-- The first configuration exists, the run comes to its ending, and the answer has the status of that ending.
pub record HasItsEnding (code : List Item) (start : Started) (telling : Telling) : Type 0 where
  pub first : Configuration
  pub begins : first_configuration (named code) start.setting start.entry ≡ Some first
  pub steps : List (List Line)
  pub lines : List Line
  pub ending : Ending
  pub ends : run_of code start.entry start.setting ≡ Ends steps lines ending
  pub status : (ready_answer (Entered code start telling)).status ≡ ending_status ending

-- Each run that the words ask for, whatever bytes its files have, has its ending.
abbrev pub EachRunEnds : List (List ℕ) → Type 0
EachRunEnds words =
    (job : Job) (outcomes : Outcomes) (code : List Item) (start : Started) (telling : Telling) →
    job_of words ≡ Some job → found words job outcomes ≡ Ok (Entered code start telling) → HasItsEnding code start telling

-- ---- completeness

-- what a fetch comes to where files are told and nothing fails
abbrev pub outcome_of : Option (List ℕ) → Outcome
outcome_of None = failed
outcome_of (Some bytes) = if nat_le (length bytes) file_limit then got bytes else too_long

abbrev pub outcome_named : Files → List (List ℕ) → Option ℕ → Outcome
outcome_named files words None = got []
outcome_named files words (Some n) = outcome_of (file files (word words n))

-- what the fetches of a job come to
abbrev pub outcomes_of : Files → List (List ℕ) → Option Job → Outcomes
outcomes_of files words None what = got []
outcomes_of files words (Some job) what = outcome_named files words (file_of job what)

-- the count did not rise and stands below its last value
abbrev pub IsQuiet : Seen → ℕ → Type 0
IsQuiet seen slot = (seen.now slot ≡ seen.before slot) × (seen.now slot < 2 ^ 64 - 1)

-- Where files are told and no count rises, all outcomes that are allowed have one answer.
abbrev pub OneAnswer : Type 0
OneAnswer = (seen : Seen) (files : Files) (words : List (List ℕ)) (o p : Outcomes) → seen.told ≡ Some files → ((s : ℕ) → IsQuiet seen s) →
    AllowsJob seen words (job_of words) o → AllowsJob seen words (job_of words) p → answer_of words (job_of words) o ≡ answer_of words (job_of words) p
