-- Which statuses an answer has: that of a line is the status of a whole text, and Usage comes only where the words ask for nothing.
use Rattle.std.proofs.Common.{◌≡◌, List, ℕ, [], ◌∷◌, ◌++◌, ap, subst, sym, ◌∙◌, refl, Option, Some, None}
use Rattle.std.specs.Prelude.{Vec, Result, Ok, Err}
use Rattle.std.specs.declared.alloc.Global.{Global}
use Rattle.mu_base.specs.declared.status.Status.{Status}
use Rattle.mu_base.specs.declared.status.Status.TheVariants.{Done, Refused, Usage, ReadFault, TooLong, SinkFault, Memory}
use Rattle.mu_base.specs.Outcome.{Outcome, got, failed, too_long}
use Rattle.ir_tree.specs.declared.items.Item.{Item}
use Rattle.verdicts.specs.declared.types.Verdict.{Verdict}
use Rattle.verdicts.specs.declared.types.Verdict.TheVariants as verdicts
use Rattle.mu_model.specs.declared.endings.Ending.{Ending}
use Rattle.mu_model.specs.declared.endings.Ending.TheVariants as endings
use Rattle.mu_model.specs.Run.{Run, Ends, Breaks, Unfinished}
use Rattle.run_texts.specs.Texts.{ending_status}
use Rattle.mu_texts.specs.declared.what.What.{What}
use Rattle.mu_texts.specs.declared.stop.Stop.{Stop}
use Rattle.mu_texts.specs.declared.stop.Stop.TheVariants.{Line}
use Rattle.mu_texts.specs.declared.ready.Ready.{Ready}
use Rattle.mu_texts.specs.declared.ready.Ready.TheVariants as ready
use Rattle.mu_texts.specs.declared.ready.Telling.{Telling}
use Rattle.mu_texts.specs.declared.ready.Telling.TheVariants.{Lines, Counts}
use Rattle.mu_texts.specs.Answer.{Answer, no_answer, Part, line, is_end, verdict_status, run_of, told_answer, ready_answer, ready_part}
use Rattle.mu_texts.specs.Lemmas.Accepting.{StopsSo}
use Rattle.mu_command.specs.declared.job.Job.{Job}
use Rattle.mu_command.specs.Answer.{Outcomes, fetched, found, answer_of}
use Rattle.mu_command.specs.Allowed.{Seen}
use Rattle.mu_command.specs.Job.{job_of}
use Rattle.mu_command.specs.Parts.{IsAnswer, IsFound}
use Rattle.mu_command.specs.Written.{IsWhole}
use Rattle.mu_command.specs.Lemmas.Accepting.{finding_all}

-- a status of a whole text, and not Usage
abbrev IsUsual : Status → Type 0
IsUsual s = IsWhole s × (s ≡ Usage → ⊥)

-- an answer that is no line, or has such a status
abbrev HasUsual : Answer → Type 0
HasUsual a = (text : List ℕ) (s : Status) → line text s ≡ a → IsUsual s

by_status : (a : Answer) → IsUsual a.status → HasUsual a
by_status a u text s e = subst IsUsual (sym (ap (λ (x : Answer). x.status) e)) u

-- an answer without pieces is no line
none_usual : HasUsual no_answer
none_usual text s e = absurd (let p : (text ++ 10 ∷ []) ∷ [] ≡ [] = ap (λ (x : Answer). x.pieces) e in cc)

refused_usual : (a : Answer) → a.status ≡ Refused → HasUsual a
refused_usual a e = by_status a (subst IsUsual (sym e) (((λ e. cc), (λ e. cc)), (λ e. cc)))

verdict_usual : (v : Verdict) → IsUsual (verdict_status v)
verdict_usual (verdicts.Yes n) = (((λ e. cc), (λ e. cc)), (λ e. cc))
verdict_usual (verdicts.Form j) = (((λ e. cc), (λ e. cc)), (λ e. cc))
verdict_usual (verdicts.Axiom1 i j) = (((λ e. cc), (λ e. cc)), (λ e. cc))
verdict_usual (verdicts.Axiom3 a b) = (((λ e. cc), (λ e. cc)), (λ e. cc))
verdict_usual (verdicts.Race i j) = (((λ e. cc), (λ e. cc)), (λ e. cc))

ending_usual : (e : Ending) → IsUsual (ending_status e)
ending_usual endings.Done = (((λ e. cc), (λ e. cc)), (λ e. cc))
ending_usual endings.Stop = (((λ e. cc), (λ e. cc)), (λ e. cc))
ending_usual (endings.Undefined k i block at r) = (((λ e. cc), (λ e. cc)), (λ e. cc))
ending_usual (endings.HeapFull i asked left) = (((λ e. cc), (λ e. cc)), (λ e. cc))
ending_usual (endings.ThreadsFull i) = (((λ e. cc), (λ e. cc)), (λ e. cc))
ending_usual (endings.AllWaiting is) = (((λ e. cc), (λ e. cc)), (λ e. cc))
ending_usual (endings.Budget n) = (((λ e. cc), (λ e. cc)), (λ e. cc))

told_usual : (t : Telling) (bundle : List Item) (r : Run) → HasUsual (told_answer t bundle r)
told_usual Lines bundle (Ends steps ls e) = by_status _ (ending_usual e)
told_usual Lines bundle Breaks = none_usual
told_usual Lines bundle Unfinished = none_usual
told_usual (Counts n) bundle (Ends steps ls e) = by_status _ (ending_usual e)
told_usual (Counts n) bundle Breaks = none_usual
told_usual (Counts n) bundle Unfinished = none_usual

ready_usual : (r : Ready) → HasUsual (ready_answer r)
ready_usual ready.Accepted = by_status _ (((λ e. cc), (λ e. cc)), (λ e. cc))
ready_usual (ready.Canonical bundle) = by_status _ (((λ e. cc), (λ e. cc)), (λ e. cc))
ready_usual (ready.Judged v) = by_status _ (verdict_usual v)
ready_usual (ready.Entered code start telling) = told_usual telling code (run_of code start.entry start.setting)

fetch_usual : (what : What) (o : Outcome) → StopsSo HasUsual (fetched what o)
fetch_usual what (got bytes) = tt
fetch_usual what failed = by_status _ (((λ e. cc), (λ e. cc)), (λ e. cc))
fetch_usual what too_long = by_status _ (((λ e. cc), (λ e. cc)), (λ e. cc))

part_usual : (p : Part Ready) → StopsSo HasUsual p → HasUsual (ready_part p)
part_usual (Ok r) h = ready_usual r
part_usual (Err answer) h = h

-- the status of a line that is the answer
line_is_whole : (words : List (List ℕ)) (job : Option Job) (o : Outcomes) (text : List ℕ) (s : Status) → line text s ≡ answer_of words job o → IsWhole s
line_is_whole words None o text s e = subst IsWhole (sym (ap (λ (x : Answer). x.status) e)) ((λ e. cc), (λ e. cc))
line_is_whole words (Some job) o text s e =
    (part_usual (found words job o) (finding_all HasUsual refused_usual none_usual words o (λ what. fetch_usual what (o what)) job) text s e).0

-- so it is with the line of an early end
pub early_is_whole : (seen : Seen) (words : List (List ℕ)) (r : Result Ready Stop) (text : Vec ℕ Global) (s : Status) → r ≡ Err (Line text s) → IsFound seen words r → IsWhole s
early_is_whole seen words r text s e f =
    let a : IsAnswer seen words (line text.items s) = subst (IsFound seen words) e f in
    line_is_whole words (job_of words) a.outcomes text.items s a.is

-- ---- Usage

abbrev IsNoUsage : Answer → Type 0
IsNoUsage a = a.status ≡ Usage → ⊥

told_no_usage : (t : Telling) (bundle : List Item) (r : Run) → IsNoUsage (told_answer t bundle r)
told_no_usage Lines bundle (Ends steps ls e) = (ending_usual e).1
told_no_usage Lines bundle Breaks = λ e. cc
told_no_usage Lines bundle Unfinished = λ e. cc
told_no_usage (Counts n) bundle (Ends steps ls e) = (ending_usual e).1
told_no_usage (Counts n) bundle Breaks = λ e. cc
told_no_usage (Counts n) bundle Unfinished = λ e. cc

ready_no_usage : (r : Ready) → IsNoUsage (ready_answer r)
ready_no_usage ready.Accepted = λ e. cc
ready_no_usage (ready.Canonical bundle) = λ e. cc
ready_no_usage (ready.Judged v) = (verdict_usual v).1
ready_no_usage (ready.Entered code start telling) = told_no_usage telling code (run_of code start.entry start.setting)

fetch_no_usage : (what : What) (o : Outcome) → StopsSo IsNoUsage (fetched what o)
fetch_no_usage what (got bytes) = tt
fetch_no_usage what failed = λ e. cc
fetch_no_usage what too_long = λ e. cc

part_no_usage : (p : Part Ready) → StopsSo IsNoUsage p → IsNoUsage (ready_part p)
part_no_usage (Ok r) h = ready_no_usage r
part_no_usage (Err answer) h = h

refused_no_usage : (a : Answer) → a.status ≡ Refused → IsNoUsage a
refused_no_usage a r u = absurd (let same : Refused ≡ Usage = sym r ∙ u in cc)

-- Usage is the status of the answer only to words without a job
pub usage_has_no_job : (words : List (List ℕ)) (job : Option Job) (o : Outcomes) → (answer_of words job o).status ≡ Usage → job ≡ None
usage_has_no_job words None o e = refl
usage_has_no_job words (Some job) o e =
    absurd (part_no_usage (found words job o) (finding_all IsNoUsage refused_no_usage (λ e. cc) words o (λ what. fetch_no_usage what (o what)) job) e)

pub usage_whole : IsWhole Usage
usage_whole = ((λ e. cc), (λ e. cc))
