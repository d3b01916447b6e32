-- A log that is judged.
use Rattle.std.proofs.Common.{◌≡◌, ℕ, List, refl}
use Rattle.std.specs.Prelude.{Result, Ok, Err}
use Rattle.demands.specs.declared.fault.Fault.{Fault}
use Rattle.demands.specs.declared.fault.Fault.TheVariants.{At, Memory as NoMemory}
use Rattle.mem_axioms.specs.declared.types.Event.{Event}
use Rattle.mem_axioms.specs.declared.types.Rule.{Rule}
use Rattle.log_lines.specs.declared.types.LogKind.{LogKind}
use Rattle.log_lines.specs.Texts.{ReadLog, text_read}
use Rattle.log_reading.specs.Answers.{IsRead}
use Rattle.verdicts.specs.declared.types.Verdict.{Verdict}
use Rattle.verdicts.specs.Verdicts.{verdict}
use Rattle.mu_texts.specs.declared.stop.Stop.{Stop}
use Rattle.mu_texts.specs.declared.stop.Stop.TheVariants.{Line, Memory}
use Rattle.mu_texts.specs.declared.ready.Ready.{Ready}
use Rattle.mu_texts.specs.declared.ready.Ready.TheVariants.{Judged}
use Rattle.mu_texts.specs.declared.what.What.TheVariants.{Log}
use Rattle.mu_texts.specs.Refusals.{log_fault_name}
use Rattle.mu_texts.specs.Answer.{Part, ◌>>=◌, line, log_part, for_judge}
use Rattle.mu_texts.specs.Comes.{Comes, IsRefusal}

module _ (rule : Rule) (bytes : List ℕ) where
  -- what the answer to the text comes to
  abbrev judging : Result ReadLog (Fault LogKind) → Part Ready
  judging r = log_part r >>= λ r. Ok (Judged (verdict rule r.log))

  -- the text is that of a log, which has that verdict
  pub was_judged : (log : List Event) (v : Verdict) → IsRead (text_read bytes) (Ok log) → v ≡ verdict rule log → for_judge rule bytes ≡ Ok (Judged v)
  was_judged log v read is = by (text_read bytes) read
    where
      by : (r : Result ReadLog (Fault LogKind)) → IsRead r (Ok log) → judging r ≡ Ok (Judged v)
      by (Ok r) same = rw (is, same) refl
      by (Err fault) wrong = absurd wrong

  -- it is none
  pub was_refused : (kind : LogKind) (place : ℕ) (stop : Stop) → IsRead (text_read bytes) (Err (At kind place)) → IsRefusal stop Log place (log_fault_name kind) → Comes {A = Ready} (for_judge rule bytes) (Err stop)
  was_refused kind place Memory read is = absurd is
  was_refused kind place (Line text status) read is = by (text_read bytes) read
    where
      by : (r : Result ReadLog (Fault LogKind)) → IsRead r (Err (At kind place)) → judging r ≡ Err (line text.items status)
      by (Ok r) wrong = absurd wrong
      by (Err fault) same = rw (same, is) refl

pub ruleset logs = (was_judged, was_refused)
