use Rattle.ir_lex.specs.Lemmas.Lists.{spellings_read_back as law}
use Rattle.ir_lex.proofs.theorems.spellings_read_back.Goals as goal

pub returns : goal.returns
returns c = law
