-- A status is No exactly where a log was judged, and the verdict is not Yes.
use Rattle.std.proofs.Common.{◌≡◌, ◌≢◌, ℕ, suc, true, false, List, [], ◌∷◌, ◌++◌, refl, sym, ◌∙◌, ap, subst, Option, Some, None}
use Rattle.std.specs.Prelude.{Result, Ok, Err}
use Rattle.demands.specs.declared.fault.Fault.{Fault}
use Rattle.demands.specs.declared.fault.Fault.TheVariants as faults
use Rattle.mu_base.specs.declared.status.Status.{Status}
use Rattle.mu_base.specs.declared.status.Status.TheVariants.{No}
use Rattle.mu_base.specs.Outcome.{Outcome, got}
use Rattle.ir_tree.specs.declared.items.Item.{Item}
use Rattle.mem_axioms.specs.declared.types.Rule.{Rule}
use Rattle.log_lines.specs.declared.types.LogKind.{LogKind}
use Rattle.log_lines.specs.Texts.{ReadLog, text_read}
use Rattle.bundle_join.specs.Joined.{joined}
use Rattle.verdicts.specs.Verdicts.{verdict}
use Rattle.mu_texts.specs.declared.what.What.TheVariants.{Bundle, Log}
use Rattle.mu_texts.specs.declared.ready.Ready.{Ready}
use Rattle.mu_texts.specs.declared.ready.Ready.TheVariants as ready
use Rattle.mu_texts.specs.declared.ready.Telling.TheVariants.{Lines, Counts}
use Rattle.mu_texts.specs.Answer.{Answer, Part, ◌>>=◌, accepted, as_written, for_check, for_print, for_judge, for_join, joined_part, log_part, is_end, is_yes, verdict_answer, verdict_status, ready_answer}
use Rattle.mu_texts.specs.Lemmas.Refusing.{IsNoVerdict, no_verdict_is_no, no_exactly}
use Rattle.mu_texts.specs.Lemmas.Runnable.{goes_on}
use Rattle.trial_text.specs.Trial.{trial_text}
use Rattle.mu_command.specs.declared.job.Job.{Job}
use Rattle.mu_command.specs.declared.job.Job.TheVariants.{Check, Print, Run, Trial, Judge, Join}
use Rattle.mu_command.specs.Job.{job_of}
use Rattle.mu_command.specs.Answer.{Outcomes, fetched, judged, begun, trial_begun, first_bundles, found}
use Rattle.mu_command.specs.Allowed.{Seen, AllowsWord}
use Rattle.mu_command.specs.Written.{Writes}
use Rattle.mu_command.specs.Central.{Answered, IsAccepted, HasVerdict, FollowsVerdict, OfJob}
use Rattle.mu_command.proofs.Moments.{from_bytes}
use Rattle.mu_command.specs.Lemmas.Accepting.{accepted_cause}

-- ---- no job but that of a log comes to a verdict

-- what the way comes to is so
abbrev ComesTo : (Ready → Type 0) → Part Ready → Type 0
ComesTo P (Ok r) = P r
ComesTo P (Err answer) = Unit {0}

after : {A : Type 0} (P : Ready → Type 0) (part : Part A) (more : A → Part Ready) → ((a : A) → ComesTo P (more a)) → ComesTo P (part >>= more)
after P (Ok a) more h = h a
after P (Err answer) more h = tt

-- a job that does not judge a log
abbrev JudgesNothing : Job → Type 0
JudgesNothing (Judge file rule) = ⊥
JudgesNothing _ = Unit {0}

no_verdict : (words : List (List ℕ)) (job : Job) (o : Outcomes) → JudgesNothing job → ComesTo IsNoVerdict (found words job o)
no_verdict words (Check file) o other =
    after IsNoVerdict (fetched Bundle (o Bundle)) for_check (λ bytes. after IsNoVerdict (accepted bytes) (λ code. Ok ready.Accepted) (λ code. tt))
no_verdict words (Print file) o other =
    after IsNoVerdict (fetched Bundle (o Bundle)) for_print (λ bytes. after IsNoVerdict (as_written bytes) (λ bundle. Ok (ready.Canonical bundle)) (λ bundle. tt))
no_verdict words (Run r) o other =
    after IsNoVerdict (judged Bundle accepted (o Bundle)) (λ code. begun words r code o >>= λ start. Ok (ready.Entered code start Lines))
    (λ code. after IsNoVerdict (begun words r code o) (λ start. Ok (ready.Entered code start Lines)) (λ start. tt))
no_verdict words (Trial n) o other =
    after IsNoVerdict (accepted (trial_text n)) (λ code. trial_begun code >>= λ start. Ok (ready.Entered code start (Counts n)))
    (λ code. after IsNoVerdict (trial_begun code) (λ start. Ok (ready.Entered code start (Counts n))) (λ start. tt))
no_verdict words (Judge file rule) o other = absurd other
no_verdict words (Join first files) o other =
    after IsNoVerdict (first_bundles o files) for_join (λ bundles. after IsNoVerdict (joined_part (joined bundles)) (λ bundle. Ok (ready.Canonical bundle)) (λ bundle. tt))

-- ---- a log that was judged

was_logged : (r : Result ReadLog (Fault LogKind)) (log : ReadLog) → log_part r ≡ Ok log → r ≡ Ok log
was_logged (Ok other) log h = let same : other ≡ log = cc in rw same refl
was_logged (Err (faults.At kind place)) log h = cc
was_logged (Err faults.Memory) log h = cc

module _ (seen : Seen) (words : List (List ℕ)) (w0 w1 e0 e1 : Option (List ℕ)) (status : Status) where
  has_verdict : (file : ℕ) (rule : Rule) → IsAccepted seen words w0 w1 e0 e1 status (Judge file rule) → HasVerdict seen words w0 w1 e0 e1 status file rule
  has_verdict file rule a =
      let bytes = from_bytes Log (for_judge rule) (a.outcomes Log) a.ready a.is in
      let r = goes_on (log_part (text_read bytes.0)) (λ r. Ok (ready.Judged (verdict rule r.log))) a.ready bytes.2 in
      let same : a.ready ≡ ready.Judged (verdict rule r.0.log) = let e = r.2 in cc in
      let ends : verdict_status (verdict rule r.0.log) ≡ status = subst (λ (x : Ready). (ready_answer x).status ≡ status) same a.ends in
      let exactly = no_exactly (verdict rule r.0.log) in
      record {
        text = bytes.0;
        allowed = subst (AllowsWord seen words Log file) bytes.1 (a.allowed Log);
        log = r.0;
        read = was_logged (text_read bytes.0) r.0 r.1;
        no = ((λ s. exactly.0 (ends ∙ s)), (λ n. sym ends ∙ exactly.1 n));
        writes = subst (λ (x : Ready). Writes (ready_answer x) w0 w1 e0 e1 status) same a.writes;
      }

  never_no : (job : Job) → JudgesNothing job → IsAccepted seen words w0 w1 e0 e1 status job → status ≢ No
  never_no job other a = λ e.
      no_verdict_is_no a.ready (subst (ComesTo IsNoVerdict) a.is (no_verdict words job a.outcomes other)) (a.ends ∙ e)

  follows_verdict : (job : Job) → IsAccepted seen words w0 w1 e0 e1 status job → FollowsVerdict seen words w0 w1 e0 e1 status job
  follows_verdict (Check file) a = never_no (Check file) tt a
  follows_verdict (Print file) a = never_no (Print file) tt a
  follows_verdict (Run r) a = never_no (Run r) tt a
  follows_verdict (Trial n) a = never_no (Trial n) tt a
  follows_verdict (Judge file rule) a = has_verdict file rule a
  follows_verdict (Join first files) a = never_no (Join first files) tt a

  of_job : (job : Option Job) → OfJob (IsAccepted seen words w0 w1 e0 e1 status) job → OfJob (FollowsVerdict seen words w0 w1 e0 e1 status) job
  of_job None a = absurd a
  of_job (Some job) a = follows_verdict job a

  pub verdict_cause : Answered seen words w0 w1 e0 e1 status → is_end status ≡ true → OfJob (FollowsVerdict seen words w0 w1 e0 e1 status) (job_of words)
  verdict_cause a end = of_job (job_of words) (accepted_cause seen words w0 w1 e0 e1 status a end)
