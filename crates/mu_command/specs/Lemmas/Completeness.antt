-- Where files are told and nothing fails, there is one answer.
use Rattle.std.proofs.Common.{◌≡◌, ap, ℕ, zero, suc, ◌-◌, ◌^◌, ◌<◌, ◌≤◌, List, length, refl, sym, ◌∙◌, subst, inl, inr, Option, Some, None, true, false, arith}
use Rattle.std.specs.Prelude.{nat_le, IsSomeAnd}
use Rattle.std.proofs.lemmas.Bool.Decides.{nat_tests}
use Rattle.mu_base.specs.declared.status.Status.{Status}
use Rattle.mu_base.specs.Files.{Files, file}
use Rattle.mu_base.specs.Outcome.{Outcome, got, failed, too_long, Allows}
use Rattle.ir_tree.specs.declared.items.Item.{Item}
use Rattle.mu_command.specs.declared.job.Job.{Job}
use Rattle.mu_command.specs.declared.job.Job.TheVariants.{Check, Print, Run, Trial, Judge, Join}
use Rattle.mu_texts.specs.Answer.{Part, ◌>>=◌, for_join, ready_part}
use Rattle.mu_command.specs.Answer.{Outcomes, first_bundles, found, answer_of}
use Rattle.mu_texts.specs.declared.what.What.{What}
use Rattle.mu_texts.specs.declared.what.What.TheVariants.{Bundle, Hail, Client, Schedule, Log, Joined}
use Rattle.mu_command.specs.Allowed.{Seen, AllowsJob, AllowsFile}
use Rattle.mu_texts.specs.What.{slot_of}
use Rattle.mu_command.specs.Job.{job_of, file_of}
use Rattle.mu_command.specs.Written.{Writes}
use Rattle.mu_command.specs.Central.{Answered, IsQuiet, outcome_of, outcome_named, outcomes_of, OneAnswer}

pub within : (bytes : List ℕ) → length bytes ≤ 1048576 → outcome_of (Some bytes) ≡ got bytes
within bytes le = let e : nat_le (length bytes) 1048576 ≡ true = grind (arith, nat_tests) in rw e refl

past : (bytes : List ℕ) → 1048576 < length bytes → outcome_of (Some bytes) ≡ too_long
past bytes lt = let e : nat_le (length bytes) 1048576 ≡ false = grind (arith, nat_tests) in rw e refl

past_file : (found : Option (List ℕ)) → IsSomeAnd found (λ bytes. 1048576 < length bytes) → outcome_of found ≡ too_long
past_file None h = absurd h
past_file (Some bytes) h = past bytes h

-- what is allowed is what is told
allowed_is_told : (files : Files) (name : List ℕ) (b n : ℕ) (o : Outcome) → Allows (Some files) name 1048576 b n o → n ≡ b → n < 2 ^ 64 - 1 → o ≡ outcome_of (file files name)
allowed_is_told files name b n (got bytes) h same below = rw h.0 (sym (within bytes h.1))
allowed_is_told files name b n failed (inl rose) same below = absurd (omega arith)
allowed_is_told files name b n failed (inr missing) same below = rw missing refl
allowed_is_told files name b n too_long h same below = sym (past_file (file files name) h.0)

pub named_is_told : (seen : Seen) (files : Files) (words : List (List ℕ)) (what : What) (n : Option ℕ) (o : Outcome) → seen.told ≡ Some files → IsQuiet seen (slot_of what) →
    AllowsFile seen words what n o → o ≡ outcome_named files words n
named_is_told seen files words what None o told quiet h = h
named_is_told seen files words what (Some n) o told quiet h = allowed_is_told files _ (seen.before (slot_of what)) (seen.now (slot_of what)) o (rw told at h) quiet.0 quiet.1

-- what is found rests on the outcomes only
same_bundles : (o p : Outcomes) → ((what : What) → o what ≡ p what) → (n : ℕ) → first_bundles o n ≡ first_bundles p n
same_bundles o p same zero = refl
same_bundles o p same (suc k) = rw (same_bundles o p same k, same (Joined k)) refl

same_found : (words : List (List ℕ)) (job : Job) (o p : Outcomes) → ((what : What) → o what ≡ p what) → ready_part (found words job o) ≡ ready_part (found words job p)
same_found words (Check file) o p same = rw (same Bundle) refl
same_found words (Print file) o p same = rw (same Bundle) refl
same_found words (Run r) o p same = rw (same Bundle, same Hail, same Client, same Schedule) refl
same_found words (Trial n) o p same = refl
same_found words (Judge file rule) o p same = rw (same Log) refl
same_found words (Join first files) o p same = ap (λ (bundles : Part (List (List Item))). ready_part (bundles >>= for_join)) (same_bundles o p same files)

outcomes_are_told : (seen : Seen) (files : Files) (words : List (List ℕ)) (job : Option Job) (o : Outcomes) → seen.told ≡ Some files → ((s : ℕ) → IsQuiet seen s) →
    AllowsJob seen words job o → answer_of words job o ≡ answer_of words job (outcomes_of files words job)
outcomes_are_told seen files words None o told quiet h = refl
outcomes_are_told seen files words (Some job) o told quiet h =
    same_found words job o (outcomes_of files words (Some job)) (λ what. named_is_told seen files words what (file_of job what) (o what) told (quiet (slot_of what)) (h what))

pub complete : (seen : Seen) (files : Files) (words : List (List ℕ)) (w0 w1 e0 e1 : Option (List ℕ)) (status : Status) → Answered seen words w0 w1 e0 e1 status →
    seen.told ≡ Some files → ((s : ℕ) → IsQuiet seen s) → Writes (answer_of words (job_of words) (outcomes_of files words (job_of words))) w0 w1 e0 e1 status
complete seen files words w0 w1 e0 e1 status a told quiet =
    subst (λ x. Writes x w0 w1 e0 e1 status) (outcomes_are_told seen files words (job_of words) a.outcomes told quiet a.allowed) a.writes

pub one_answer : OneAnswer
one_answer seen files words o p told quiet a b = outcomes_are_told seen files words (job_of words) o told quiet a ∙ sym (outcomes_are_told seen files words (job_of words) p told quiet b)
