use Rattle.std.proofs.Common.{◌≡◌, Err, sym, ap}
use Rattle.ir_tree.specs.CommonForms.{common_inst}
use Rattle.ir_text.proofs.Choices.{passed}
use Rattle.ir_text.proofs.common.common_inst.Goals as goal

pub returns-in_default : goal.returns-in_default
unfolding common_inst
returns-in_default c =
    let no = passed (λ r. r ≡ Err c.refusal.result) c.args.cursor.now c.symbol.result c.symbol.ensures in
    let other = c.in_default in
    no _ _ _ other.not-UvmNewStack (no _ _ _ other.not-UvmKillStack (no _ _ _ other.not-UvmThreadExit
    (no _ _ _ other.not-UvmCurrentStack (no _ _ _ other.not-UvmSetThreadlocal (no _ _ _ other.not-UvmGetThreadlocal
    (no _ _ _ other.not-UvmFutexWait (no _ _ _ other.not-UvmFutexWake (no _ _ _ other.not-UvmFutexWaitTimeout
    (ap Err (sym c.refusal.ensures))))))))))
