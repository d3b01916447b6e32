use Rattle.mu_command.specs.Lemmas.Completeness.{one_answer}
use Rattle.mu_command.proofs.program.answer_is_one.Goals as goal

pub returns : goal.returns
returns c = one_answer
