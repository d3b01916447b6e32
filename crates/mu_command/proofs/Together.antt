-- What the parts of the way come to, put together to an answer.
use Rattle.std.proofs.Common.{◌≡◌, ℕ, ◌≤◌, List, [], refl, Some, None}
use Rattle.std.specs.Prelude.{Result, Ok, Err, codes}
use Rattle.mu_base.specs.declared.status.Status.TheVariants.{Usage}
use Rattle.mu_base.specs.Outcome.{Outcome, got}
use Rattle.ir_tree.specs.declared.items.Item.{Item}
use Rattle.mem_axioms.specs.declared.types.Rule.{Rule}
use Rattle.mu_texts.specs.declared.what.What.{What}
use Rattle.mu_texts.specs.declared.what.What.TheVariants.{Bundle, Hail, Client, Schedule, Log, Joined}
use Rattle.mu_texts.specs.declared.stop.Stop.{Stop}
use Rattle.mu_texts.specs.declared.stop.Stop.TheVariants.{Line, Memory}
use Rattle.mu_texts.specs.declared.ready.Ready.{Ready}
use Rattle.mu_texts.specs.declared.ready.Ready.TheVariants.{Entered}
use Rattle.mu_texts.specs.declared.ready.Telling.TheVariants.{Lines}
use Rattle.mu_texts.specs.Start.{Started}
use Rattle.mu_texts.specs.Answer.{Answer, Part, ◌>>=◌, line, for_check, for_print, for_judge, accepted, ready_part, ready_answer}
use Rattle.mu_command.specs.declared.job.Job.{Job}
use Rattle.mu_command.specs.declared.job.Job.TheVariants.{Check, Print, Run, Trial, Judge}
use Rattle.mu_command.specs.declared.job.RunJob.{RunJob}
use Rattle.mu_command.specs.Job.{job_of, file_of}
use Rattle.mu_texts.specs.Comes.{Comes}
use Rattle.mu_command.specs.Answer.{Outcomes, judged, begun, trial_found, found}
use Rattle.mu_command.specs.Allowed.{Seen, AllowsFile}
use Rattle.mu_command.specs.Parts.{IsJudged, IsBegun, IsAnswer, IsFound, OfFile, OfRun, SameSlot}
use Rattle.mu_command.specs.Lemmas.Beginnings.{same_slot, some_named, outcomes_with}

-- allowed outcomes, and the answer to them
pub together : (seen : Seen) (words : List (List ℕ)) (job : Job) (o : Outcomes) (answer : Answer) → job_of words ≡ Some job →
    ((what : What) → AllowsFile seen words what (file_of job what) (o what)) → answer ≡ ready_part (found words job o) → IsAnswer seen words answer
together seen words job o answer is allowed e = record { outcomes = o; allowed = rw is allowed; is = rw is e }

-- a job of one file
abbrev only : Outcome → Outcomes
only o Bundle = o
only o _ = got []

module _ (seen : Seen) (words : List (List ℕ)) (file : ℕ) where
  check_allowed : (o : Outcome) → AllowsFile seen words Bundle (Some file) o → (what : What) → AllowsFile seen words what (file_of (Check file) what) (only o what)
  check_allowed o h Bundle = h
  check_allowed o h Hail = refl
  check_allowed o h Client = refl
  check_allowed o h Schedule = refl
  check_allowed o h Log = refl
  check_allowed o h (Joined k) = refl

  print_allowed : (o : Outcome) → AllowsFile seen words Bundle (Some file) o → (what : What) → AllowsFile seen words what (file_of (Print file) what) (only o what)
  print_allowed o h Bundle = h
  print_allowed o h Hail = refl
  print_allowed o h Client = refl
  print_allowed o h Schedule = refl
  print_allowed o h Log = refl
  print_allowed o h (Joined k) = refl

  pub check_found : (r : Result Ready Stop) → job_of words ≡ Some (Check file) → IsJudged seen words Bundle (Some file) for_check r → IsFound seen words r
  check_found (Ok ready) is h = together seen words (Check file) (only h.outcome) _ is (check_allowed h.outcome h.allowed) (rw h.comes refl)
  check_found (Err (Line text status)) is h = together seen words (Check file) (only h.outcome) _ is (check_allowed h.outcome h.allowed) (rw h.comes refl)
  check_found (Err Memory) is h = tt

  pub print_found : (r : Result Ready Stop) → job_of words ≡ Some (Print file) → IsJudged seen words Bundle (Some file) for_print r → IsFound seen words r
  print_found (Ok ready) is h = together seen words (Print file) (only h.outcome) _ is (print_allowed h.outcome h.allowed) (rw h.comes refl)
  print_found (Err (Line text status)) is h = together seen words (Print file) (only h.outcome) _ is (print_allowed h.outcome h.allowed) (rw h.comes refl)
  print_found (Err Memory) is h = tt

-- a log that is judged
abbrev only_log : Outcome → Outcomes
only_log o Log = o
only_log o _ = got []

module _ (seen : Seen) (words : List (List ℕ)) (file : ℕ) (rule : Rule) where
  judge_allowed : (o : Outcome) → AllowsFile seen words Log (Some file) o → (what : What) → AllowsFile seen words what (file_of (Judge file rule) what) (only_log o what)
  judge_allowed o h Bundle = refl
  judge_allowed o h Hail = refl
  judge_allowed o h Client = refl
  judge_allowed o h Schedule = refl
  judge_allowed o h Log = h
  judge_allowed o h (Joined k) = refl

  pub judge_found : (r : Result Ready Stop) → job_of words ≡ Some (Judge file rule) → IsJudged seen words Log (Some file) (for_judge rule) r → IsFound seen words r
  judge_found (Ok ready) is h = together seen words (Judge file rule) (only_log h.outcome) _ is (judge_allowed h.outcome h.allowed) (rw h.comes refl)
  judge_found (Err (Line text status)) is h = together seen words (Judge file rule) (only_log h.outcome) _ is (judge_allowed h.outcome h.allowed) (rw h.comes refl)
  judge_found (Err Memory) is h = tt

-- a trial, which has no file
none_allowed : (seen : Seen) (words : List (List ℕ)) (n : ℕ) (what : What) → AllowsFile seen words what (file_of (Trial n) what) (got [])
none_allowed seen words n Bundle = refl
none_allowed seen words n Hail = refl
none_allowed seen words n Client = refl
none_allowed seen words n Schedule = refl
none_allowed seen words n Log = refl
none_allowed seen words n (Joined k) = refl

pub trial_is_found : (seen : Seen) (words : List (List ℕ)) (n : ℕ) (r : Result Ready Stop) → job_of words ≡ Some (Trial n) → Comes (trial_found n) r → IsFound seen words r
trial_is_found seen words n (Ok ready) is h = together seen words (Trial n) (λ what. got []) _ is (none_allowed seen words n) (rw h refl)
trial_is_found seen words n (Err (Line text status)) is h = together seen words (Trial n) (λ what. got []) _ is (none_allowed seen words n) (rw h refl)
trial_is_found seen words n (Err Memory) is h = tt

-- a run: the outcome of the bundle, and those of the other files
abbrev with_bundle : Outcome → Outcomes → Outcomes
with_bundle o more Bundle = o
with_bundle o more Hail = more Hail
with_bundle o more Client = more Client
with_bundle o more Schedule = more Schedule
with_bundle o more Log = got []
with_bundle o more (Joined k) = got []

pub run_allowed : (seen : Seen) (words : List (List ℕ)) (r : RunJob) (o : Outcome) (more : Outcomes) → AllowsFile seen words Bundle (Some r.file) o → AllowsFile seen words Hail r.hail (more Hail) →
    AllowsFile seen words Client r.client (more Client) → AllowsFile seen words Schedule r.schedule (more Schedule) → (what : What) → AllowsFile seen words what (file_of (Run r) what) (with_bundle o more what)
run_allowed seen words r o more a b c d Bundle = a
run_allowed seen words r o more a b c d Hail = b
run_allowed seen words r o more a b c d Client = c
run_allowed seen words r o more a b c d Schedule = d
run_allowed seen words r o more a b c d Log = refl
run_allowed seen words r o more a b c d (Joined k) = refl

module _ (last : Seen) (words : List (List ℕ)) (r : RunJob) (is : job_of words ≡ Some (Run r)) where
  -- the bundle is refused
  pub no_code : (stop : Stop) → ((s : ℕ) → last.before s ≤ last.now s) → IsJudged last words Bundle (Some r.file) accepted (Err stop) → IsFound last words (Err stop)
  no_code Memory le h = tt
  no_code (Line text status) le h =
      let a = some_named last words Hail r.hail (le 1) in
      let b = some_named last words Client r.client (le 2) in
      let c = some_named last words Schedule r.schedule (le 3) in
      together last words (Run r) (with_bundle h.outcome (outcomes_with a.0 b.0 c.0)) _ is (run_allowed last words r h.outcome (outcomes_with a.0 b.0 c.0) h.allowed a.1 b.1 c.1) (rw h.comes refl)

  module _ (seen after : Seen) (code : List Item) (same : SameSlot seen last Bundle) (same_hail : SameSlot after last Hail) (same_client : SameSlot after last Client) (same_schedule : SameSlot after last Schedule)
      (bundle : OfFile seen words Bundle (Some r.file) accepted (Ok code)) where
    -- it is there, and the run does not begin
    pub not_begun : (stop : Stop) → IsBegun after words r code (Err stop) → IsFound last words (Err stop)
    not_begun Memory h = tt
    not_begun (Line text status) h =
        together last words (Run r) (with_bundle bundle.outcome h.outcomes) _ is
        (run_allowed last words r bundle.outcome h.outcomes (same_slot seen last words Bundle (Some r.file) bundle.outcome same bundle.allowed)
        (same_slot after last words Hail r.hail (h.outcomes Hail) same_hail h.hail) (same_slot after last words Client r.client (h.outcomes Client) same_client h.client)
        (same_slot after last words Schedule r.schedule (h.outcomes Schedule) same_schedule h.schedule)) (rw (bundle.comes, h.comes) refl)

    -- it begins
    pub run_found : (start : Started) → OfRun after words r code (Ok start) → IsAnswer last words (ready_answer (Entered code start Lines))
    run_found start h =
        together last words (Run r) (with_bundle bundle.outcome h.outcomes) _ is
        (run_allowed last words r bundle.outcome h.outcomes (same_slot seen last words Bundle (Some r.file) bundle.outcome same bundle.allowed)
        (same_slot after last words Hail r.hail (h.outcomes Hail) same_hail h.hail) (same_slot after last words Client r.client (h.outcomes Client) same_client h.client)
        (same_slot after last words Schedule r.schedule (h.outcomes Schedule) same_schedule h.schedule)) (rw (bundle.comes, h.comes) refl)

-- the words ask for nothing
pub no_job : (seen : Seen) (words : List (List ℕ)) (text : List ℕ) → text ≡ codes "usage" → job_of words ≡ None → IsAnswer seen words (line text Usage)
no_job seen words text e is = record { outcomes = only (got []); allowed = rw is tt; is = rw (is, e) refl }

pub ruleset together_rules = (check_found, print_found, judge_found, trial_is_found, no_code, not_begun, run_found, no_job)
