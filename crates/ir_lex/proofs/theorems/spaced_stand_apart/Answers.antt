use Rattle.ir_lex.specs.Lemmas.Lists.{spaced_stand_apart as law}
use Rattle.ir_lex.proofs.theorems.spaced_stand_apart.Goals as goal

pub returns : goal.returns
returns c = law
