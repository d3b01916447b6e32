-- The two halves put together.
use Rattle.std.proofs.Common.{ℕ, ◌≤◌, List, [], refl, subst, Option, Some, None}
use Rattle.mu_base.specs.declared.status.Status.{Status}
use Rattle.mu_base.specs.declared.status.Status.TheVariants.{Memory}
use Rattle.mu_base.specs.Outcome.{Outcome, got}
use Rattle.mu_command.specs.declared.job.Job.{Job}
use Rattle.mu_texts.specs.declared.what.What.{What}
use Rattle.mu_texts.specs.What.{slot_of}
use Rattle.mu_command.specs.Job.{job_of, file_of}
use Rattle.mu_texts.specs.Answer.{Answer}
use Rattle.mu_command.specs.Answer.{Outcomes}
use Rattle.mu_command.specs.Allowed.{Seen, AllowsFile, AllowsJob}
use Rattle.mu_command.specs.Parts.{IsAnswer}
use Rattle.mu_command.specs.Written.{Writes}
use Rattle.mu_command.specs.Central.{Answered}
use Rattle.mu_command.specs.Lemmas.Beginnings.{some_named}
use Rattle.mu_command.proofs.Puts.{no_memory}

pub answered : (seen : Seen) (words : List (List ℕ)) (answer : Answer) (w0 w1 e0 e1 : Option (List ℕ)) (status : Status) →
    IsAnswer seen words answer → Writes answer w0 w1 e0 e1 status → Answered seen words w0 w1 e0 e1 status
answered seen words answer w0 w1 e0 e1 status a w =
    record { outcomes = a.outcomes; allowed = a.allowed; writes = subst (λ x. Writes x w0 w1 e0 e1 status) a.is w }

-- outcomes of a job are always allowed
some_outcomes : (seen : Seen) (words : List (List ℕ)) (job : Option Job) → ((s : ℕ) → seen.before s ≤ seen.now s) → (o : Outcomes) × AllowsJob seen words job o
some_outcomes seen words None le = ((λ what. got []), tt)
some_outcomes seen words (Some job) le =
    let some : (what : What) → (o : Outcome) × AllowsFile seen words what (file_of job what) o = λ what. some_named seen words what (file_of job what) (le (slot_of what)) in
    ((λ what. (some what).0), (λ what. (some what).1))

-- a call that found no memory and wrote nothing
pub gave_up : (seen : Seen) (words : List (List ℕ)) (w e : Option (List ℕ)) → ((s : ℕ) → seen.before s ≤ seen.now s) → Answered seen words w w e e Memory
gave_up seen words w e le =
    let some = some_outcomes seen words (job_of words) le in
    record { outcomes = some.0; allowed = some.1; writes = no_memory _ w e }

pub ruleset answering = (gave_up, answered)
