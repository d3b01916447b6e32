use Rattle.std.proofs.Common.{sym}
use Rattle.mu_texts.specs.Lemmas.Runnable.{can_begin}
use Rattle.mu_texts.proofs.judging.enter.Goals as goal

pub returns-in-Ok-clause-begins : goal.returns-in-Ok-clause-begins
returns-in-Ok-clause-begins c = can_begin c.args.code.now c.args.name.now c.in-Ok.number c.requires (sym c.in-Ok.ensures)
