use Rattle.std.proofs.Common.{ℕ, List, subst}
use Rattle.mu_texts.specs.Answer.{for_judge}
use Rattle.mu_texts.specs.Comes.{Comes}
use Rattle.mu_command.specs.Lemmas.Files.{was_judged}
use Rattle.mu_command.proofs.finding.find_verdict.Goals as goal

pub returns-clause-judged : goal.returns-clause-judged
returns-clause-judged g c =
    was_judged _ _ _ _ _ c.in_ok-bytes.bytes c.judge_log.result c.in_ok-bytes.ensures.loaded
    (subst (λ (b : List ℕ). Comes (for_judge c.args.rule b) c.judge_log.result) c.deref.ensures.value c.judge_log.ensures.asked)
