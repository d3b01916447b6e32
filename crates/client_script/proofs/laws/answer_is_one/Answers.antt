use Rattle.client_script.proofs.OneAnswer.{one_answer}
use Rattle.client_script.proofs.laws.answer_is_one.Goals as goal

pub returns : goal.returns
returns c = one_answer
