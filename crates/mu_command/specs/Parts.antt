-- What the functions that find an answer tell their callers.
use Rattle.std.specs.Prelude.{◌≡◌, ℕ, ◌+◌, ◌<◌, Some, List, Vec, Option, Result, Ok, Err, ⊤}
use Rattle.std.specs.declared.alloc.Global.{Global}
use Rattle.mu_base.specs.Outcome.{Outcome, got}
use Rattle.ir_tree.specs.declared.items.Item.{Item}
use Rattle.typed_heap.specs.Objects.{HeapObject}
use Rattle.typed_heap.specs.Heap.{HeapContents}
use Rattle.mu_texts.specs.declared.what.What.{What}
use Rattle.mu_texts.specs.declared.what.What.TheVariants.{Hail, Client, Schedule, Joined}
use Rattle.mu_texts.specs.What.{slot_of}
use Rattle.mu_texts.specs.declared.stop.Stop.{Stop}
use Rattle.mu_texts.specs.declared.stop.Stop.TheVariants.{Line, Memory}
use Rattle.mu_texts.specs.declared.ready.Ready.{Ready}
use Rattle.mu_texts.specs.Answer.{Answer, Part, line, ready_answer}
use Rattle.mu_texts.specs.Start.{Started}
use Rattle.mu_command.specs.declared.job.RunJob.{RunJob}
use Rattle.mu_command.specs.Job.{job_of}
use Rattle.mu_command.specs.Answer.{Outcomes, fetched, judged, begun, first_bundles, answer_of}
use Rattle.mu_command.specs.Allowed.{Seen, AllowsFile, AllowsJob}

-- what was seen of one slot is what was seen of it at last
pub record SameSlot (seen last : Seen) (what : What) : Type 0 where
  pub told : seen.told ≡ last.told
  pub before : seen.before (slot_of what) ≡ last.before (slot_of what)
  pub now : seen.now (slot_of what) ≡ last.now (slot_of what)

-- the outcome of one fetch, by what was made of it
abbrev pub IsLoaded : Seen → List (List ℕ) → What → Option ℕ → Result (Vec ℕ Global) Stop → Type 0
IsLoaded seen words what n (Ok bytes) = AllowsFile seen words what n (got bytes.items)
IsLoaded seen words what n (Err (Line text status)) = (o : Outcome) × AllowsFile seen words what n o × (fetched what o ≡ Err (line text.items status))
IsLoaded seen words what n (Err Memory) = ⊤

-- an outcome of a file that the inputs allow, with which the file comes to this
pub record OfFile {A : Type 0} (seen : Seen) (words : List (List ℕ)) (what : What) (n : Option ℕ) (part : List ℕ → Part A) (is : Part A) : Type 0 where
  pub outcome : Outcome
  pub allowed : AllowsFile seen words what n outcome
  pub comes : judged what part outcome ≡ is

-- the file comes to a result; out of memory says nothing
abbrev pub IsJudged : {A : Type 0} → Seen → List (List ℕ) → What → Option ℕ → (List ℕ → Part A) → Result A Stop → Type 0
IsJudged seen words what n part (Ok x) = OfFile seen words what n part (Ok x)
IsJudged seen words what n part (Err (Line text status)) = OfFile seen words what n part (Err (line text.items status))
IsJudged seen words what n part (Err Memory) = ⊤

-- the same of a heap: the file comes to its objects
abbrev pub objects_in : Result HeapContents Stop → Result (List HeapObject) Stop
objects_in (Ok heap) = Ok heap.objects
objects_in (Err stop) = Err stop

-- outcomes that the inputs allow for the scripts and the schedule, with which a run begins so
pub record OfRun (seen : Seen) (words : List (List ℕ)) (r : RunJob) (code : List Item) (is : Part Started) : Type 0 where
  pub outcomes : Outcomes
  pub hail : AllowsFile seen words Hail r.hail (outcomes Hail)
  pub client : AllowsFile seen words Client r.client (outcomes Client)
  pub schedule : AllowsFile seen words Schedule r.schedule (outcomes Schedule)
  pub comes : begun words r code outcomes ≡ is

abbrev pub IsBegun : Seen → List (List ℕ) → RunJob → List Item → Result Started Stop → Type 0
IsBegun seen words r code (Ok start) = OfRun seen words r code (Ok start)
IsBegun seen words r code (Err (Line text status)) = OfRun seen words r code (Err (line text.items status))
IsBegun seen words r code (Err Memory) = ⊤

-- outcomes that the inputs allow for the first n of the files that are joined, with which their bundles come to this
pub record OfBundles (seen : Seen) (words : List (List ℕ)) (first n : ℕ) (is : Part (List (List Item))) : Type 0 where
  pub outcomes : Outcomes
  pub allowed : (k : ℕ) → k < n → AllowsFile seen words (Joined k) (Some (first + k)) (outcomes (Joined k))
  pub comes : first_bundles outcomes n ≡ is

abbrev pub AreRead : Seen → List (List ℕ) → ℕ → ℕ → Result (List (List Item)) Stop → Type 0
AreRead seen words first n (Ok bundles) = OfBundles seen words first n (Ok bundles)
AreRead seen words first n (Err (Line text status)) = OfBundles seen words first n (Err (line text.items status))
AreRead seen words first n (Err Memory) = ⊤

-- what was gathered in a list, where no file stopped it
abbrev pub gathered : Result (Unit {0}) Stop → List (List Item) → Result (List (List Item)) Stop
gathered (Ok done) bundles = Ok bundles
gathered (Err stop) bundles = Err stop

-- the inputs allow outcomes to which this is the answer
pub record IsAnswer (seen : Seen) (words : List (List ℕ)) (answer : Answer) : Type 0 where
  pub outcomes : Outcomes
  pub allowed : AllowsJob seen words (job_of words) outcomes
  pub is : answer ≡ answer_of words (job_of words) outcomes

-- what was found is to be written, or a line that is the answer
abbrev pub IsFound : Seen → List (List ℕ) → Result Ready Stop → Type 0
IsFound seen words (Ok ready) = IsAnswer seen words (ready_answer ready)
IsFound seen words (Err (Line text status)) = IsAnswer seen words (line text.items status)
IsFound seen words (Err Memory) = ⊤
