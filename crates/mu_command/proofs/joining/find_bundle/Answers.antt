use Rattle.std.proofs.Common.{ℕ, List, subst}
use Rattle.mu_texts.specs.declared.what.What.TheVariants.{Joined}
use Rattle.mu_texts.specs.Answer.{written_in}
use Rattle.mu_texts.specs.Comes.{Comes}
use Rattle.mu_command.specs.Lemmas.Files.{was_judged}
use Rattle.mu_command.proofs.joining.find_bundle.Goals as goal

pub returns-clause-judged : goal.returns-clause-judged
returns-clause-judged g c =
    was_judged _ _ _ _ _ c.in_ok-bytes.bytes c.read_written.result c.in_ok-bytes.ensures.loaded
    (subst (λ (b : List ℕ). Comes (written_in (Joined c.args.k) b) c.read_written.result) c.deref.ensures.value c.read_written.ensures)
