use Rattle.ir_print.specs.Lemmas.ReadBack as law
use Rattle.ir_print.proofs.laws.reads_back.Goals as goal

pub returns-clause-back : goal.returns-clause-back
returns-clause-back c = law.reads_back

pub returns-clause-only : goal.returns-clause-only
returns-clause-only c = law.reads_back_only
