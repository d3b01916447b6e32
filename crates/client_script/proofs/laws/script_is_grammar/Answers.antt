use Rattle.client_script.specs.Lemmas.Grammatical.{is_grammar}
use Rattle.client_script.proofs.laws.script_is_grammar.Goals as goal

pub returns : goal.returns
returns c = is_grammar
