-- Why a text was accepted.
use Rattle.std.proofs.Common.{◌≡◌, ℕ, zero, suc, true, false, List, [], ◌∷◌, ◌++◌, ap, sym, subst, refl, Option, Some, None}
use Rattle.std.specs.Prelude.{Ok, Err}
use Rattle.mu_base.specs.declared.status.Status.{Status}
use Rattle.mu_base.specs.declared.status.Status.TheVariants.{Refused, Usage, SinkFault, Memory}
use Rattle.mu_base.specs.Outcome.{Outcome, got, failed, too_long}
use Rattle.ir_tree.specs.declared.items.Item.{Item}
use Rattle.mu_texts.specs.declared.what.What.{What}
use Rattle.mu_texts.specs.declared.what.What.TheVariants.{Bundle, Hail, Client, Schedule, Log, Joined}
use Rattle.mu_texts.specs.declared.ready.Ready.{Ready}
use Rattle.mu_texts.specs.declared.ready.Ready.TheVariants as ready
use Rattle.mu_texts.specs.declared.ready.Telling.TheVariants.{Lines, Counts}
use Rattle.mu_texts.specs.Answer.{Answer, no_answer, Part, ◌>>=◌, written_in, as_written, accepted, for_check, for_print, for_judge, for_join, entered, loaded, client_part, scheduled, is_end, ready_part}
use Rattle.mu_texts.specs.Lemmas.Accepting.{StopsSo, then, writing_in, writing, joining, judging_log, accepting, entering_named, loading, scripting, scheduling}
use Rattle.mu_command.specs.declared.job.Job.{Job}
use Rattle.trial_text.specs.Trial.{trial_text}
use Rattle.mu_command.specs.declared.job.Job.TheVariants.{Check, Print, Run, Trial, Judge, Join}
use Rattle.mu_command.specs.declared.job.RunJob.{RunJob}
use Rattle.mu_command.specs.Job.{job_of, word}
use Rattle.mu_command.specs.Answer.{Outcomes, fetched, judged, begun, trial_begun, first_bundles, found, answer_of}
use Rattle.mu_command.specs.Allowed.{Seen, AllowsJob}
use Rattle.mu_command.specs.Written.{IsWhole, Writes}
use Rattle.mu_command.specs.Lemmas.Way.{after_entry, after_objects, after_client, after_picks, after_bundles}
use Rattle.mu_command.specs.Lemmas.Trials.{entry_word, usual_run, no_files}
use Rattle.mu_command.specs.Central.{Answered, OfJob, IsAccepted}

-- what is found on the way ends so where what is fetched does
module _ (P : Answer → Type 0) (refused : (answer : Answer) → answer.status ≡ Refused → P answer) (memory : P no_answer) where
  judging : {A : Type 0} (what : What) (o : Outcome) (part : List ℕ → Part A) → StopsSo P (fetched what o) → ((bytes : List ℕ) → StopsSo P (part bytes)) → StopsSo P (judged what part o)
  judging what o part s h = then P (fetched what o) part s h

  beginning : (words : List (List ℕ)) (o : Outcomes) → ((what : What) → StopsSo P (fetched what (o what))) → (r : RunJob) (code : List Item) → StopsSo P (begun words r code o)
  beginning words o fetching r code =
      then P (entered code (word words r.entry)) (after_entry r code o) (entering_named P refused memory code (word words r.entry))
      (λ n. then P (judged Hail (loaded code r.cells) (o Hail)) (after_objects r code o n) (judging Hail (o Hail) (loaded code r.cells) (fetching Hail) (loading P refused memory code r.cells))
      (λ objects. then P (judged Client (client_part code r.auto) (o Client)) (after_client r code o n objects) (judging Client (o Client) (client_part code r.auto) (fetching Client) (scripting P refused memory code r.auto))
      (λ client. then P (judged Schedule scheduled (o Schedule)) (after_picks r code o n objects client) (judging Schedule (o Schedule) scheduled (fetching Schedule) (scheduling P refused memory)) (λ picks. tt))))

  bundling : (o : Outcomes) → ((what : What) → StopsSo P (fetched what (o what))) → (n : ℕ) → StopsSo P (first_bundles o n)
  bundling o fetching zero = tt
  bundling o fetching (suc k) =
      then P (first_bundles o k) (after_bundles o k) (bundling o fetching k)
      (λ bundles. then P (judged (Joined k) (written_in (Joined k)) (o (Joined k))) (λ bundle. Ok (bundles ++ bundle ∷ []))
      (judging (Joined k) (o (Joined k)) (written_in (Joined k)) (fetching (Joined k)) (writing_in P refused memory (Joined k))) (λ bundle. tt))

  pub finding_all : (words : List (List ℕ)) (o : Outcomes) → ((what : What) → StopsSo P (fetched what (o what))) → (job : Job) → StopsSo P (found words job o)
  finding_all words o fetching (Check file) =
      judging Bundle (o Bundle) for_check (fetching Bundle) (λ bytes. then P (accepted bytes) (λ code. Ok ready.Accepted) (accepting P refused memory bytes) (λ code. tt))
  finding_all words o fetching (Print file) =
      judging Bundle (o Bundle) for_print (fetching Bundle) (λ bytes. then P (as_written bytes) (λ bundle. Ok (ready.Canonical bundle)) (writing P refused memory bytes) (λ bundle. tt))
  finding_all words o fetching (Run r) =
      then P (judged Bundle accepted (o Bundle)) (λ code. begun words r code o >>= λ start. Ok (ready.Entered code start Lines)) (judging Bundle (o Bundle) accepted (fetching Bundle) (accepting P refused memory))
      (λ code. then P (begun words r code o) (λ start. Ok (ready.Entered code start Lines)) (beginning words o fetching r code) (λ start. tt))
  finding_all words o fetching (Trial n) =
      then P (accepted (trial_text n)) (λ code. trial_begun code >>= λ start. Ok (ready.Entered code start (Counts n))) (accepting P refused memory (trial_text n))
      (λ code. then P (trial_begun code) (λ start. Ok (ready.Entered code start (Counts n))) (beginning entry_word no_files (λ what. tt) usual_run code) (λ start. tt))
  finding_all words o fetching (Judge file rule) = judging Log (o Log) (for_judge rule) (fetching Log) (judging_log P refused memory rule)
  finding_all words o fetching (Join first files) = then P (first_bundles o files) for_join (bundling o fetching files) (joining P refused memory)

-- ---- no early end has a status of what is accepted

abbrev IsEarly : Answer → Type 0
IsEarly answer = is_end answer.status ≡ false

is_early : (answer : Answer) → answer.status ≡ Refused → IsEarly answer
is_early answer e = ap is_end e

no_end : (what : What) (o : Outcome) → StopsSo IsEarly (fetched what o)
no_end what (got bytes) = tt
no_end what failed = refl
no_end what too_long = refl

-- the same status is one of these too
ends : (s t : Status) → s ≡ t → is_end t ≡ true → is_end s ≡ true
ends s t e h = subst (λ x. is_end x ≡ true) (sym e) h

module _ (seen : Seen) (words : List (List ℕ)) (w0 w1 e0 e1 : Option (List ℕ)) (status : Status) (end : is_end status ≡ true) where
  accepted_part : (job : Job) (o : Outcomes) → AllowsJob seen words (Some job) o → (a : Part Ready) → found words job o ≡ a → StopsSo IsEarly a → (ready_part a).status ≡ status → Writes (ready_part a) w0 w1 e0 e1 status →
      IsAccepted seen words w0 w1 e0 e1 status job
  accepted_part job o allowed (Ok r) a short s w = record { outcomes = o; allowed = allowed; ready = r; is = a; ends = s; writes = w }
  accepted_part job o allowed (Err answer) a short s w = absurd (let no = ends answer.status status s end in cc)

  accepted_job : (job : Option Job) (o : Outcomes) → AllowsJob seen words job o → (answer_of words job o).status ≡ status → Writes (answer_of words job o) w0 w1 e0 e1 status → OfJob (IsAccepted seen words w0 w1 e0 e1 status) job
  accepted_job None o allowed s w = absurd (let no = ends Usage status s end in cc)
  accepted_job (Some job) o allowed s w = accepted_part job o allowed (found words job o) refl (finding_all IsEarly is_early refl words o (λ what. no_end what (o what)) job) s w

is_whole : (status : Status) → is_end status ≡ true → IsWhole status
is_whole status end = ((λ e. let no = ends SinkFault status (sym e) end in cc), (λ e. let no = ends Memory status (sym e) end in cc))

pub accepted_cause : (seen : Seen) (words : List (List ℕ)) (w0 w1 e0 e1 : Option (List ℕ)) (status : Status) → Answered seen words w0 w1 e0 e1 status → is_end status ≡ true →
    OfJob (IsAccepted seen words w0 w1 e0 e1 status) (job_of words)
accepted_cause seen words w0 w1 e0 e1 status a end = accepted_job seen words w0 w1 e0 e1 status end (job_of words) a.outcomes a.allowed (sym (a.writes.status_of (is_whole status end))) a.writes
