use Rattle.ir_lex.specs.Lemmas.Lists.{one_list as law}
use Rattle.ir_lex.proofs.theorems.tokens_are_one_list.Goals as goal

pub returns : goal.returns
returns c = law
