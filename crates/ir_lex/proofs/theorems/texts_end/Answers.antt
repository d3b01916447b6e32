use Rattle.ir_lex.specs.Lemmas.Cursors.{texts_end as law}
use Rattle.ir_lex.proofs.theorems.texts_end.Goals as goal

pub returns : goal.returns
returns c = law
