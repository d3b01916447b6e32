use Rattle.ir_print.specs.Lemmas.ReadBack as law
use Rattle.ir_print.proofs.laws.items_read_back.Goals as goal

pub returns : goal.returns
returns c = law.items_read_back
