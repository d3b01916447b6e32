use Rattle.ir_text.proofs.OneAnswer.{one_answer}
use Rattle.ir_text.proofs.laws.answer_is_one.Goals as goal

pub returns : goal.returns
returns c = one_answer
