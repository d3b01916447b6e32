-- Why a text was refused, and which file was not fetched.
use Rattle.std.proofs.Common.{◌≡◌, ◌⊎◌, inl, inr, ℕ, true, List, ◌∙◌, ap, sym, subst, refl, Option, Some, None}
use Rattle.std.specs.Prelude.{Ok, Err}
use Rattle.mu_base.specs.declared.status.Status.{Status}
use Rattle.mu_base.specs.declared.status.Status.TheVariants.{Refused, ReadFault, TooLong, Memory}
use Rattle.mu_base.specs.Outcome.{Outcome, got, failed, too_long}
use Rattle.mu_texts.specs.declared.what.What.{What}
use Rattle.mu_texts.specs.declared.ready.Ready.{Ready}
use Rattle.mu_texts.specs.Answer.{Answer, no_answer, Part, is_end, ready_answer, ready_part}
use Rattle.mu_texts.specs.Lemmas.Refusing.{nothing_ready_is_refused, ready_ends}
use Rattle.mu_texts.specs.Lemmas.Accepting.{StopsSo}
use Rattle.mu_command.specs.declared.job.Job.{Job}
use Rattle.mu_command.specs.Job.{job_of, file_of}
use Rattle.mu_command.specs.Answer.{Outcomes, read_fault_line, too_long_line, fetched, found, answer_of}
use Rattle.mu_command.specs.Allowed.{Seen, AllowsFile, AllowsJob}
use Rattle.mu_command.specs.Written.{IsWhole, Writes}
use Rattle.mu_command.specs.Central.{Answered, MayFail, IsPast, IsUnfetched, OfJob, IsRefused}
use Rattle.mu_command.specs.Lemmas.Accepting.{finding_all}

module _ (seen : Seen) (words : List (List ℕ)) (w0 w1 e0 e1 : Option (List ℕ)) where
  refused_part : (job : Job) (o : Outcomes) → AllowsJob seen words (Some job) o → (a : Part Ready) → found words job o ≡ a → (ready_part a).status ≡ Refused → Writes (ready_part a) w0 w1 e0 e1 Refused →
      IsRefused seen words w0 w1 e0 e1 job
  refused_part job o allowed (Ok r) a s w = absurd (nothing_ready_is_refused r s)
  refused_part job o allowed (Err answer) a s w = record { outcomes = o; allowed = allowed; refusal = answer; is = a; status = s; writes = w }

  refused_job : (job : Option Job) (o : Outcomes) → AllowsJob seen words job o → (answer_of words job o).status ≡ Refused → Writes (answer_of words job o) w0 w1 e0 e1 Refused →
      OfJob (IsRefused seen words w0 w1 e0 e1) job
  refused_job None o allowed s w = absurd cc
  refused_job (Some job) o allowed s w = refused_part job o allowed (found words job o) refl s w

is_whole : IsWhole Refused
is_whole = ((λ e. cc), (λ e. cc))

pub refused_cause : (seen : Seen) (words : List (List ℕ)) (w0 w1 e0 e1 : Option (List ℕ)) (status : Status) → Answered seen words w0 w1 e0 e1 status → status ≡ Refused →
    OfJob (IsRefused seen words w0 w1 e0 e1) (job_of words)
refused_cause seen words w0 w1 e0 e1 status a s =
    refused_job seen words w0 w1 e0 e1 (job_of words) a.outcomes a.allowed (sym (a.writes.status_of (rw s is_whole)) ∙ s)
    (subst (Writes (answer_of words (job_of words) a.outcomes) w0 w1 e0 e1) s a.writes)

-- ---- a status of a fetch is that of a fetch

-- that holds of a file of the job, and the answer is its line
pub record IsLine (P : What → ℕ → Type 0) (line_of : What → Answer) (job : Job) (a : Answer) : Type 0 where
  pub what : What
  pub number : ℕ
  pub names : file_of job what ≡ Some number
  pub holds : P what number
  pub is : a ≡ line_of what

-- an early end with such a status is the line of a file that is named
pub record IsCaused (seen : Seen) (words : List (List ℕ)) (job : Job) (a : Answer) : Type 0 where
  pub fails : a.status ≡ ReadFault → IsLine (MayFail seen words) read_fault_line job a
  pub past : a.status ≡ TooLong → IsLine (IsPast seen words) too_long_line job a

module _ (seen : Seen) (words : List (List ℕ)) (job : Job) where
  fetch_by : (what : What) (o : Outcome) (n : Option ℕ) → file_of job what ≡ n → AllowsFile seen words what n o → StopsSo (IsCaused seen words job) (fetched what o)
  fetch_by what (got bytes) n e h = tt
  fetch_by what failed None e h = cc
  fetch_by what failed (Some n) e h = record { fails = λ s. record { what = what; number = n; names = e; holds = h; is = refl }; past = λ s. cc }
  fetch_by what too_long None e h = cc
  fetch_by what too_long (Some n) e h = record { fails = λ s. cc; past = λ s. record { what = what; number = n; names = e; holds = h; is = refl } }

  caused_refusal : (a : Answer) → a.status ≡ Refused → IsCaused seen words job a
  caused_refusal a s = record { fails = λ e. cc; past = λ e. cc }

  caused_memory : IsCaused seen words job no_answer
  caused_memory = record { fails = λ e. cc; past = λ e. cc }

  pub caused_found : (o : Outcomes) → AllowsJob seen words (Some job) o → StopsSo (IsCaused seen words job) (found words job o)
  caused_found o allowed = finding_all (IsCaused seen words job) caused_refusal caused_memory words o (λ what. fetch_by what (o what) (file_of job what) refl (allowed what)) job

-- what is ready ends with no such status
not_failed : (s : Status) → (is_end s ≡ true) ⊎ (s ≡ Memory) → s ≡ ReadFault → ⊥
not_failed s (inl end) e = absurd (let no : is_end ReadFault ≡ true = subst (λ (x : Status). is_end x ≡ true) e end in cc)
not_failed s (inr none) e = cc

not_past : (s : Status) → (is_end s ≡ true) ⊎ (s ≡ Memory) → s ≡ TooLong → ⊥
not_past s (inl end) e = absurd (let no : is_end TooLong ≡ true = subst (λ (x : Status). is_end x ≡ true) e end in cc)
not_past s (inr none) e = cc

module _ (seen : Seen) (words : List (List ℕ)) (w0 w1 e0 e1 : Option (List ℕ)) (status : Status) where
  -- the line that names the file is what was found and written
  pub unfetched : (P : Seen → List (List ℕ) → What → ℕ → Type 0) (line_of : What → Answer) (job : Job) (o : Outcomes) → AllowsJob seen words (Some job) o → (a : Answer) → found words job o ≡ Err a →
      Writes a w0 w1 e0 e1 status → IsLine (P seen words) line_of job a → IsUnfetched P line_of seen words w0 w1 e0 e1 status job
  unfetched P line_of job o allowed a is w l = record {
    what = l.what;
    number = l.number;
    names = l.names;
    holds = l.holds;
    outcomes = o;
    allowed = allowed;
    is = is ∙ ap Err l.is;
    writes = subst (λ (x : Answer). Writes x w0 w1 e0 e1 status) l.is w;
  }

  read_fault_part : (job : Job) (o : Outcomes) → AllowsJob seen words (Some job) o → (a : Part Ready) → found words job o ≡ a → StopsSo (IsCaused seen words job) a → (ready_part a).status ≡ ReadFault →
      Writes (ready_part a) w0 w1 e0 e1 status → IsUnfetched MayFail read_fault_line seen words w0 w1 e0 e1 status job
  read_fault_part job o allowed (Ok r) is h s w = absurd (not_failed (ready_answer r).status (ready_ends r) s)
  read_fault_part job o allowed (Err answer) is h s w = unfetched MayFail read_fault_line job o allowed answer is w (h.fails s)

  read_fault_job : (job : Option Job) (o : Outcomes) → AllowsJob seen words job o → (answer_of words job o).status ≡ ReadFault → Writes (answer_of words job o) w0 w1 e0 e1 status →
      OfJob (IsUnfetched MayFail read_fault_line seen words w0 w1 e0 e1 status) job
  read_fault_job None o allowed s w = absurd cc
  read_fault_job (Some job) o allowed s w = read_fault_part job o allowed (found words job o) refl (caused_found seen words job o allowed) s w

  too_long_part : (job : Job) (o : Outcomes) → AllowsJob seen words (Some job) o → (a : Part Ready) → found words job o ≡ a → StopsSo (IsCaused seen words job) a → (ready_part a).status ≡ TooLong →
      Writes (ready_part a) w0 w1 e0 e1 status → IsUnfetched IsPast too_long_line seen words w0 w1 e0 e1 status job
  too_long_part job o allowed (Ok r) is h s w = absurd (not_past (ready_answer r).status (ready_ends r) s)
  too_long_part job o allowed (Err answer) is h s w = unfetched IsPast too_long_line job o allowed answer is w (h.past s)

  too_long_job : (job : Option Job) (o : Outcomes) → AllowsJob seen words job o → (answer_of words job o).status ≡ TooLong → Writes (answer_of words job o) w0 w1 e0 e1 status →
      OfJob (IsUnfetched IsPast too_long_line seen words w0 w1 e0 e1 status) job
  too_long_job None o allowed s w = absurd cc
  too_long_job (Some job) o allowed s w = too_long_part job o allowed (found words job o) refl (caused_found seen words job o allowed) s w

pub too_long_cause : (seen : Seen) (words : List (List ℕ)) (w0 w1 e0 e1 : Option (List ℕ)) (status : Status) → Answered seen words w0 w1 e0 e1 status → status ≡ TooLong →
    OfJob (IsUnfetched IsPast too_long_line seen words w0 w1 e0 e1 status) (job_of words)
too_long_cause seen words w0 w1 e0 e1 status a s =
    let whole : IsWhole TooLong = ((λ e. cc), (λ e. cc)) in
    too_long_job seen words w0 w1 e0 e1 status (job_of words) a.outcomes a.allowed (sym (a.writes.status_of (rw s whole)) ∙ s) a.writes

pub read_fault_cause : (seen : Seen) (words : List (List ℕ)) (w0 w1 e0 e1 : Option (List ℕ)) (status : Status) → Answered seen words w0 w1 e0 e1 status → status ≡ ReadFault →
    OfJob (IsUnfetched MayFail read_fault_line seen words w0 w1 e0 e1 status) (job_of words)
read_fault_cause seen words w0 w1 e0 e1 status a s =
    let whole : IsWhole ReadFault = ((λ e. cc), (λ e. cc)) in
    read_fault_job seen words w0 w1 e0 e1 status (job_of words) a.outcomes a.allowed (sym (a.writes.status_of (rw s whole)) ∙ s) a.writes
