use Rattle.ir_lex.specs.Lemmas.Cursors.{numbers_are_meant as law}
use Rattle.ir_lex.proofs.theorems.numbers_are_meant.Goals as goal

pub returns : goal.returns
returns c = law
