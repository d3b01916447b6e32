use Rattle.client_script.proofs.Answering as answering
use Rattle.client_script.proofs.laws.texts_are_answered.Goals as goal

pub returns : goal.returns
returns c = answering.texts_are_answered
