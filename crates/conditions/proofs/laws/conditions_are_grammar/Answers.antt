use Rattle.conditions.proofs.Grammatical as grammatical
use Rattle.conditions.proofs.laws.conditions_are_grammar.Goals as goal

pub returns : goal.returns
returns c = grammatical.is_grammar
