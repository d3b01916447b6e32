use Rattle.ir_tree.specs.Lemmas.Grammatical.{is_grammar}
use Rattle.ir_tree.proofs.laws.bundle_is_grammar.Goals as goal

pub returns : goal.returns
returns c = is_grammar
