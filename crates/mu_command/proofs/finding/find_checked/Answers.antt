use Rattle.std.proofs.Common.{ℕ, List, subst}
use Rattle.mu_texts.specs.Answer.{for_check}
use Rattle.mu_texts.specs.Comes.{Comes}
use Rattle.mu_command.specs.Lemmas.Files.{was_judged}
use Rattle.mu_command.proofs.finding.find_checked.Goals as goal

pub returns-clause-judged : goal.returns-clause-judged
returns-clause-judged g c =
    was_judged _ _ _ _ _ c.in_ok-bytes.bytes c.judge_for_check.result c.in_ok-bytes.ensures.loaded
    (subst (λ (b : List ℕ). Comes (for_check b) c.judge_for_check.result) c.deref.ensures.value c.judge_for_check.ensures.asked)
