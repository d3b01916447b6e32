use Rattle.ir_lex.specs.Lemmas.Cursors.{tokens_are_seen as law}
use Rattle.ir_lex.proofs.theorems.tokens_are_seen.Goals as goal

pub returns : goal.returns
returns c = law
