use Rattle.conditions.proofs.TextAnswers as answering
use Rattle.conditions.proofs.laws.texts_are_answered.Goals as goal

pub returns : goal.returns
returns c = answering.texts_are_answered
