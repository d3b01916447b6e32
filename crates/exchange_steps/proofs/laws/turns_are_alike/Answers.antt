use Rattle.exchange_steps.specs.Ordered.{turns-exchange}
use Rattle.exchange_steps.proofs.laws.turns_are_alike.Goals as goal

pub returns : goal.returns
returns c = λ p c other m i o l h. turns-exchange m p c other o l h i
