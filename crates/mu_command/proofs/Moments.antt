-- The run that a job asks for is sound, and has its ending.
use Rattle.std.proofs.Common.{◌≡◌, ◌∙◌, ℕ, List, [], Some, refl, subst, sym, ap}
use Rattle.std.specs.Prelude.{Bool, Ok, Err, Result, None, Option, IsSome}
use Rattle.demands.specs.declared.fault.Fault.{Fault}
use Rattle.demands.specs.Demands.{first_unmet}
use Rattle.client_script.specs.Texts.{script_demands, script_entries}
use Rattle.ir_tree.specs.declared.items.Item.{Item}
use Rattle.ir_text.specs.TextAnswers.{AnswerIsOne}
use Rattle.typed_heap.specs.Objects.{HeapObject}
use Rattle.hail_load.specs.declared.tree.Command.{Command}
use Rattle.hail_load.specs.Code.{code_of}
use Rattle.hail_load.specs.Texts.{hail_commands, hail_demands}
use Rattle.mu_base.specs.Outcome.{Outcome, got, failed, too_long}
use Rattle.mu_model.specs.Acts.{Program}
use Rattle.mu_model.specs.Configuration.{Configuration}
use Rattle.mu_model.specs.Programs.{named}
use Rattle.checked_code.specs.Answers.{entry}
use Rattle.mu_model.specs.Run as runs
use Rattle.mu_model.specs.Run.{Setting, Ends, Breaks, Unfinished, first_configuration}
use Rattle.run_texts.specs.Texts.{ending_status}
use Rattle.model_laws.specs.Bounds.{HasEnding}
use Rattle.text_programs.specs.Laws.{EnteredRunsHaveAnEnding}
use Rattle.mu_model.specs.Clients as clients
use Rattle.text_programs.specs.Moments.{IsSoundMoment, MomentsAreSound, MomentsOfTextsAreSound}
use Rattle.loaded_programs.specs.Laws.{loaded_objects, carried_out, IsScripted, LoadedSettingsFit}
use Rattle.bundle_join.specs.Joined.{joined}
use Rattle.log_lines.specs.Texts.{ReadLog, text_read}
use Rattle.verdicts.specs.Verdicts.{verdict}
use Rattle.mu_texts.specs.declared.what.What.{What}
use Rattle.mu_texts.specs.declared.what.What.TheVariants.{Bundle, Hail, Client, Schedule, Log}
use Rattle.mu_texts.specs.declared.ready.Ready.{Ready}
use Rattle.mu_texts.specs.declared.ready.Ready.TheVariants as ready
use Rattle.mu_texts.specs.declared.ready.Telling.{Telling}
use Rattle.mu_texts.specs.declared.ready.Telling.TheVariants.{Lines, Counts}
use Rattle.mu_texts.specs.Start.{Started}
use Rattle.mu_texts.specs.Refusals.{hail_fault_name, load_fault_name, script_fault_name}
use Rattle.mu_texts.specs.Answer.{Part, ◌>>=◌, accepted, as_written, for_check, for_print, for_judge, for_join, joined_part, log_part, entered, hail_part, filled_part, loaded, client_part, scheduled, started, run_of, run_answer, trial_answer, ready_answer}
use Rattle.mu_texts.specs.Comes.{IsLoaded}
use Rattle.mu_texts.specs.Lemmas.Runnable.{goes_on, was_met, was_entered, loaded_runs_end}
use Rattle.mu_texts.specs.Lemmas.Moments.{moments_of_run}
use Rattle.trial_text.specs.Trial.{trial_text}
use Rattle.mu_command.specs.declared.job.Job.{Job}
use Rattle.mu_command.specs.declared.job.Job.TheVariants.{Check, Print, Run, Trial, Judge, Join}
use Rattle.mu_command.specs.declared.job.RunJob.{RunJob}
use Rattle.mu_command.specs.Job.{word}
use Rattle.mu_command.specs.Answer.{Outcomes, fetched, judged, begun, trial_begun, trial_found, first_bundles, found}
use Rattle.mu_command.specs.Central.{EachMoment, EachRunEnds, HasItsEnding}
use Rattle.mu_command.specs.Lemmas.Trials.{entry_word, usual_run, no_files}
use Rattle.mu_command.specs.Lemmas.Way.{after_entry, after_objects, after_client, after_picks}

-- a file that comes to something has bytes that do
pub from_bytes : {A : Type 0} (what : What) (part : List ℕ → Part A) (o : Outcome) (x : A) → judged what part o ≡ Ok x → (bytes : List ℕ) × (o ≡ got bytes) × (part bytes ≡ Ok x)
from_bytes what part (got bytes) x h = (bytes, refl, h)
from_bytes what part failed x h = cc
from_bytes what part too_long x h = cc

-- objects that a script gives are those that its commands make
are_filled : (code : List Item) (cells : ℕ) (bytes : List ℕ) (objects : List HeapObject) → loaded code cells bytes ≡ Ok objects → objects ≡ loaded_objects code cells (hail_commands bytes)
are_filled code cells bytes objects h =
    let m = goes_on (hail_part code bytes) (filled_part code cells) objects h in
    let commands = was_met Hail hail_fault_name (hail_commands bytes) m.0 (first_unmet (hail_demands (code_of code).names bytes)) m.1 in
    let made = was_met Hail load_fault_name (loaded_objects code cells m.0) objects (carried_out code cells m.0).fault m.2 in
    sym made.1 ∙ ap (λ (cs : List Command). loaded_objects code cells cs) (sym commands.1)

-- a client that a text spells is that of a script
is_scripted : (code : List Item) (auto : Bool) (bytes : List ℕ) (k : clients.Client) → client_part code auto bytes ≡ Ok k → IsScripted code k
is_scripted code auto bytes k h =
    let met = was_met {A = clients.Client} Client script_fault_name (record { entries = script_entries code bytes; auto = auto }) k (first_unmet (script_demands code bytes)) h in
    record { text = bytes; accepted = met.0; entries = ap (λ (k : clients.Client). k.entries) (sym met.1) }

-- the run of a bundle begins so: with the objects of the script that was fetched, a client, the limits of its words, and a function
pub record Begins (words : List (List ℕ)) (r : RunJob) (code : List Item) (o : Outcomes) (start : Started) : Type 0 where
  pub script : List ℕ
  pub fetched : o Hail ≡ got script
  pub objects : start.setting.objects ≡ loaded_objects code start.setting.cells (hail_commands script)
  pub client : IsScripted code start.setting.client
  pub cells : start.setting.cells ≡ r.cells
  pub budget : start.setting.budget ≡ r.budget
  pub rule : start.setting.rule ≡ r.rule
  pub entry : entered code (word words r.entry) ≡ Ok start.entry

pub begins : (words : List (List ℕ)) (r : RunJob) (code : List Item) (o : Outcomes) (start : Started) → begun words r code o ≡ Ok start → Begins words r code o start
begins words r code o start h =
    let n = goes_on (entered code (word words r.entry)) (after_entry r code o) start h in
    let os = goes_on (judged Hail (loaded code r.cells) (o Hail)) (after_objects r code o n.0) start n.2 in
    let k = goes_on (judged Client (client_part code r.auto) (o Client)) (after_client r code o n.0 os.0) start os.2 in
    let ps = goes_on (judged Schedule scheduled (o Schedule)) (after_picks r code o n.0 os.0 k.0) start k.2 in
    let heap = from_bytes Hail (loaded code r.cells) (o Hail) os.0 os.1 in
    let script = from_bytes Client (client_part code r.auto) (o Client) k.0 k.1 in
    let same : started code n.0 (record { objects = os.0; client = k.0; picks = ps.0; cells = r.cells; budget = r.budget; rule = r.rule }) ≡ start = let e = ps.2 in cc in
    subst (Begins words r code o) same (record {
      script = heap.0;
      fetched = heap.1;
      objects = are_filled code r.cells heap.0 os.0 heap.2;
      client = is_scripted code r.auto script.0 k.0 script.2;
      cells = refl {a = r.cells};
      budget = refl {a = r.budget};
      rule = refl {a = r.rule};
      entry = n.1;
    })

is_loaded : (words : List (List ℕ)) (r : RunJob) (code : List Item) (o : Outcomes) (start : Started) → Begins words r code o start → IsLoaded code start.setting
is_loaded words r code o start b = record { objects = record { commands = hail_commands b.script; cells = start.setting.cells; is = b.objects }; client = b.client }

-- ---- what holds of the run that a job asks for

-- that holds of the run with which a job is ready, where it asks for one
abbrev OfRun : (List Item → Started → Type 0) → Ready → Type 0
OfRun Q ready.Accepted = Unit {0}
OfRun Q (ready.Canonical bundle) = Unit {0}
OfRun Q (ready.Judged v) = Unit {0}
OfRun Q (ready.Entered code start telling) = Q code start

-- it holds of each run of an accepted text that begins by some words
abbrev pub OfBegun : (List Item → Started → Type 0) → Type 0
OfBegun Q = (words : List (List ℕ)) (r : RunJob) (bytes : List ℕ) (code : List Item) (o : Outcomes) (start : Started) → accepted bytes ≡ Ok code → Begins words r code o start → Q code start

module _ (Q : List Item → Started → Type 0) (law : OfBegun Q) where
  of_run : (words : List (List ℕ)) (r : RunJob) (o : Outcomes) (what : Ready) → found words (Run r) o ≡ Ok what → OfRun Q what
  of_run words r o what h =
      let c = goes_on (judged Bundle accepted (o Bundle)) (λ code. begun words r code o >>= λ start. Ok (ready.Entered code start Lines)) what h in
      let s = goes_on (begun words r c.0 o) (λ start. Ok (ready.Entered c.0 start Lines)) what c.2 in
      let bytes = from_bytes Bundle accepted (o Bundle) c.0 c.1 in
      let same : ready.Entered c.0 s.0 Lines ≡ what = let e = s.2 in cc in
      subst (OfRun Q) same (law words r bytes.0 c.0 o s.0 bytes.2 (begins words r c.0 o s.0 s.1))

  of_trial : (n : ℕ) (what : Ready) → trial_found n ≡ Ok what → OfRun Q what
  of_trial n what h =
      let c = goes_on (accepted (trial_text n)) (λ code. trial_begun code >>= λ start. Ok (ready.Entered code start (Counts n))) what h in
      let s = goes_on (trial_begun c.0) (λ start. Ok (ready.Entered c.0 start (Counts n))) what c.2 in
      let same : ready.Entered c.0 s.0 (Counts n) ≡ what = let e = s.2 in cc in
      subst (OfRun Q) same (law entry_word usual_run (trial_text n) c.0 no_files s.0 c.1 (begins entry_word usual_run c.0 no_files s.0 s.1))

  pub of_job : (words : List (List ℕ)) (job : Job) (o : Outcomes) (what : Ready) → found words job o ≡ Ok what → OfRun Q what
  of_job words (Check file) o what h =
      let bytes = from_bytes Bundle for_check (o Bundle) what h in
      let last = goes_on (accepted bytes.0) (λ code. Ok ready.Accepted) what bytes.2 in
      let same : ready.Accepted ≡ what = let e = last.2 in cc in
      subst (OfRun Q) same tt
  of_job words (Print file) o what h =
      let bytes = from_bytes Bundle for_print (o Bundle) what h in
      let last = goes_on (as_written bytes.0) (λ bundle. Ok (ready.Canonical bundle)) what bytes.2 in
      let same : ready.Canonical last.0 ≡ what = let e = last.2 in cc in
      subst (OfRun Q) same tt
  of_job words (Run r) o what h = of_run words r o what h
  of_job words (Trial n) o what h = of_trial n what h
  of_job words (Judge file rule) o what h =
      let bytes = from_bytes Log (for_judge rule) (o Log) what h in
      let last = goes_on (log_part (text_read bytes.0)) (λ r. Ok (ready.Judged (verdict rule r.log))) what bytes.2 in
      let same : ready.Judged (verdict rule last.0.log) ≡ what = let e = last.2 in cc in
      subst (OfRun Q) same tt
  of_job words (Join first files) o what h =
      let bundles = goes_on (first_bundles o files) for_join what h in
      let last = goes_on (joined_part (joined bundles.0)) (λ bundle. Ok (ready.Canonical bundle)) what bundles.2 in
      let same : ready.Canonical last.0 ≡ what = let e = last.2 in cc in
      subst (OfRun Q) same tt

-- ---- its moments are sound

abbrev MomentsOfStart : List Item → Started → Type 0
MomentsOfStart code start = MomentsAreSound (named code) start.setting start.entry

moments_of_start : AnswerIsOne → MomentsOfTextsAreSound → LoadedSettingsFit → OfBegun MomentsOfStart
moments_of_start one law fits words r bytes code o start is b =
    moments_of_run bytes (word words r.entry) code start.setting start.entry one law fits is (is_loaded words r code o start b) b.entry

pub sound : (words : List (List ℕ)) → AnswerIsOne → MomentsOfTextsAreSound → LoadedSettingsFit → EachMoment IsSoundMoment words
sound words one law fits = λ job o code start telling first moment is finds start_is reaches.
    of_job MomentsOfStart (moments_of_start one law fits) words job o (ready.Entered code start telling) finds first moment start_is reaches

-- what holds of each sound moment holds at each moment
pub of_sound : (P : Program → Configuration → Type 0) → ((p : Program) (c : Configuration) → IsSoundMoment p c → P p c) → (words : List (List ℕ)) → EachMoment IsSoundMoment words → EachMoment P words
of_sound P f words each = λ job o code start telling first moment is finds start_is reaches.
    f (named code) moment (each job o code start telling first moment is finds start_is reaches)

-- ---- it has an ending

abbrev EndsOfStart : List Item → Started → Type 0
EndsOfStart code start = IsSome (first_configuration (named code) start.setting start.entry) × HasEnding (run_of code start.entry start.setting)

ends_of_start : AnswerIsOne → EnteredRunsHaveAnEnding → LoadedSettingsFit → OfBegun EndsOfStart
ends_of_start one law fits words r bytes code o start is b =
    loaded_runs_end bytes code one law fits is start.setting (word words r.entry) start.entry (is_loaded words r code o start b) (was_entered (entry code (word words r.entry)) start.entry b.entry)

with_ending : (code : List Item) (start : Started) (telling : Telling) (r : runs.Run) (o : Option Configuration) → first_configuration (named code) start.setting start.entry ≡ o → run_of code start.entry start.setting ≡ r →
    IsSome o → HasEnding r → HasItsEnding code start telling
with_ending code start telling Breaks o e is some ends = absurd ends
with_ending code start telling Unfinished o e is some ends = absurd ends
with_ending code start telling (Ends steps ls x) None e is some ends = cc
with_ending code start telling (Ends steps ls x) (Some first) e is some ends =
    record { first = first; begins = e; steps = steps; lines = ls; ending = x; ends = is; status = by telling }
  where
    by : (t : Telling) → (ready_answer (ready.Entered code start t)).status ≡ ending_status x
    by Lines = ap (λ (r : runs.Run). (run_answer code r).status) is
    by (Counts n) = ap (λ (r : runs.Run). (trial_answer n code r).status) is

pub ended : (words : List (List ℕ)) → AnswerIsOne → EnteredRunsHaveAnEnding → LoadedSettingsFit → EachRunEnds words
ended words one law fits = λ job o code start telling is finds.
    let h = of_job EndsOfStart (ends_of_start one law fits) words job o (ready.Entered code start telling) finds in
    with_ending code start telling (run_of code start.entry start.setting) (first_configuration (named code) start.setting start.entry) refl refl h.0 h.1
