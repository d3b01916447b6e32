use Rattle.ir_lex.specs.Lemmas.Cursors.{each_word_is_found as law}
use Rattle.ir_lex.proofs.theorems.each_word_is_found.Goals as goal

pub returns : goal.returns
returns c = law
