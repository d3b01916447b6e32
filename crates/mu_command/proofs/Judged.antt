-- The text that the program prints of a run is the text of a log, of which the verdict is Yes.
use Rattle.std.proofs.Common.{◌≡◌, ℕ, ◌≤◌, List, ◌++◌, length, sym, ◌∙◌, ap, subst, Option, Some}
use Rattle.std.specs.Prelude.{Ok, Result, codes, decimal}
use Rattle.mu_base.specs.declared.status.Status.TheVariants.{Done}
use Rattle.mu_base.specs.Outcome.{Outcome, got}
use Rattle.demands.specs.declared.fault.Fault.{Fault}
use Rattle.mem_axioms.specs.declared.types.Rule.{Rule}
use Rattle.log_lines.specs.declared.types.LogKind.{LogKind}
use Rattle.log_lines.specs.Texts.{ReadLog}
use Rattle.verdicts.specs.declared.types.Verdict.{Verdict}
use Rattle.verdicts.specs.Verdicts.{verdict}
use Rattle.ir_tree.specs.declared.items.Item.{Item}
use Rattle.ir_text.specs.TextAnswers.{AnswerIsOne}
use Rattle.checked_code.specs.Answers.{entry}
use Rattle.mu_model.specs.declared.lines.Line.{Line}
use Rattle.mu_model.specs.declared.endings.Ending.{Ending}
use Rattle.mu_model.specs.Run.{Setting, Run as ModelRun, Ends}
use Rattle.run_lines.specs.Laws.{whole}
use Rattle.run_lines.specs.RunsRead.{GivenRunsAreJudged, GivenRunsOfTextsAreJudged, IsGiven}
use Rattle.run_lines.specs.Verdicts.{IsReadAsYes, log_of}
use Rattle.mu_texts.specs.declared.what.What.TheVariants.{Bundle, Hail, Log}
use Rattle.mu_texts.specs.declared.ready.Ready.{Ready}
use Rattle.mu_texts.specs.declared.ready.Ready.TheVariants.{Entered, Judged}
use Rattle.mu_texts.specs.declared.ready.Telling.TheVariants.{Lines}
use Rattle.mu_texts.specs.Answer.{Answer, Part, ◌>>=◌, line, accepted, for_judge, log_part, ready_part, verdict_answer, run_answer, run_of}
use Rattle.mu_texts.specs.Start.{Started}
use Rattle.mu_texts.specs.Lemmas.Runnable.{goes_on, of_accepted, was_entered}
use Rattle.mu_command.specs.declared.job.Job.{Job}
use Rattle.mu_command.specs.declared.job.Job.TheVariants.{Run}
use Rattle.mu_command.specs.declared.job.RunJob.{RunJob}
use Rattle.mu_command.specs.Job.{job_of, word}
use Rattle.mu_command.specs.Answer.{Outcomes, answer_of, begun, found, judged}
use Rattle.mu_command.specs.Allowed.{file_limit}
use Rattle.mu_command.specs.Central.{outcome_of}
use Rattle.mu_command.specs.Judged.{IsShort, PrintedRunsAreJudged, PrintedRunsAreAnsweredYes}
use Rattle.mu_command.specs.Lemmas.Completeness.{within}
use Rattle.mu_command.proofs.Limits.{words_few}
use Rattle.mu_command.proofs.Moments.{Begins, begins, from_bytes}

-- such a run has a setting that the program makes
given : (words : List (List ℕ)) (r : RunJob) (code : List Item) (o : Outcomes) (start : Started) → Begins words r code o start → IsShort (o Hail) → r.cells ≤ 1000000 → r.budget ≤ 1000000 → IsGiven code start.setting
given words r code o start b short cells budget = record {
  text = b.script;
  short = subst IsShort b.fetched short;
  objects = b.objects;
  client = b.client;
  cells = subst (λ n. n ≤ 1000000) (sym b.cells) cells;
  budget = subst (λ n. n ≤ 1000000) (sym b.budget) budget;
}

-- what is found of a run is an accepted text and how its run begins
record IsFound (words : List (List ℕ)) (r : RunJob) (o : Outcomes) (code : List Item) (start : Started) : Type 0 where
  bytes : List ℕ
  accepts : accepted bytes ≡ Ok code
  run : begun words r code o ≡ Ok start

is_found : (words : List (List ℕ)) (r : RunJob) (o : Outcomes) (code : List Item) (start : Started) → found words (Run r) o ≡ Ok (Entered code start Lines) → IsFound words r o code start
is_found words r o code start h =
    let c = goes_on (judged Bundle accepted (o Bundle)) (λ code. begun words r code o >>= λ start. Ok (Entered code start Lines)) (Entered code start Lines) h in
    let s = goes_on (begun words r c.0 o) (λ start. Ok (Entered c.0 start Lines)) (Entered code start Lines) c.2 in
    let file = from_bytes Bundle accepted (o Bundle) c.0 c.1 in
    let same_code : c.0 ≡ code = let e = s.2 in cc in
    let same_start : s.0 ≡ start = let e = s.2 in cc in
    subst (λ (x : List Item). IsFound words r o x start) same_code
    (subst (λ (x : Started). IsFound words r o c.0 x) same_start (record { bytes = file.0; accepts = file.2; run = s.1 }))

-- the answer is then the text of the run
answers : (words : List (List ℕ)) (r : RunJob) (o : Outcomes) (code : List Item) (start : Started) (steps : List (List Line)) (ls : List Line) (e : Ending) → job_of words ≡ Some (Run r) →
    found words (Run r) o ≡ Ok (Entered code start Lines) → run_of code start.entry start.setting ≡ Ends steps ls e → answer_of words (job_of words) o ≡ run_answer code (Ends steps ls e)
answers words r o code start steps ls e asks finds ends =
    ap (λ (j : Option Job). answer_of words j o) asks ∙ ap (λ (p : Part Ready). ready_part p) finds ∙ ap (λ (x : ModelRun). run_answer code x) ends

pub printed_runs : AnswerIsOne → GivenRunsOfTextsAreJudged → PrintedRunsAreJudged
unfolding run_of
printed_runs one law words r o code start steps ls e asks short finds ends =
    let little = words_few words r asks in
    let f = is_found words r o code start finds in
    let b = begins words r code o start f.run in
    subst (λ (a : Answer). IsReadAsYes code start.setting steps ls (whole a.pieces)) (sym (answers words r o code start steps ls e asks finds ends))
    (of_accepted GivenRunsAreJudged f.bytes code one law f.accepts start.setting (word words r.entry) start.entry
    (given words r code o start b short little.1 little.0) (was_entered (entry code (word words r.entry)) start.entry b.entry) steps ls e ends)

-- ---- the answer to that text

-- a text that is read as the log of a run of which the verdict is Yes
read_as_yes : (rule : Rule) (code : List Item) (s : Setting) (steps : List (List Line)) (ls : List Line) (text : List ℕ) → s.rule ≡ rule → IsReadAsYes code s steps ls text →
    ready_part (for_judge rule text) ≡ line (codes "yes " ++ decimal (length (log_of steps ls))) Done
read_as_yes rule code s steps ls text same is =
    ap (λ (r : Result ReadLog (Fault LogKind)). ready_part (log_part r >>= λ r. Ok (Judged (verdict rule r.log)))) is.is_read
    ∙ ap (λ (q : Rule). verdict_answer (verdict q is.read.log)) (sym same)
    ∙ ap (λ (v : Verdict). verdict_answer v) is.yes

-- the run has the rule that its words name
has_rule : (words : List (List ℕ)) (r : RunJob) (o : Outcomes) (code : List Item) (start : Started) → found words (Run r) o ≡ Ok (Entered code start Lines) → start.setting.rule ≡ r.rule
has_rule words r o code start h = (begins words r code o start (is_found words r o code start h).run).rule

pub answered_yes : PrintedRunsAreJudged → PrintedRunsAreAnsweredYes
answered_yes law words r o code start steps ls e asks short finds ends judging file p judges few there =
    let text : List ℕ = whole (answer_of words (job_of words) o).pieces in
    ap (λ (j : Option Job). answer_of judging j p) judges
    ∙ ap (λ (x : Outcome). ready_part (judged Log (for_judge r.rule) x)) (there ∙ within text few)
    ∙ read_as_yes r.rule code start.setting steps ls text (has_rule words r o code start finds) (law words r o code start steps ls e asks short finds ends)
