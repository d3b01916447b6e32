use Rattle.hail_load.proofs.Grammatical.{is_grammar}
use Rattle.hail_load.proofs.laws.hail_is_grammar.Goals as goal

pub returns : goal.returns
returns c = is_grammar
