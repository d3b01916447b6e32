use Rattle.ir_lex.proofs.SeenWorked.{seen as law}
use Rattle.ir_lex.proofs.theorems.seen_examples.Goals as goal

pub returns : goal.returns
returns c = law
