use Rattle.conditions.proofs.OneAnswer as one
use Rattle.conditions.proofs.laws.answer_is_one.Goals as goal

pub returns : goal.returns
returns c = one.one_answer
