use Rattle.std.proofs.Common.{ap, Some}
use Rattle.std.proofs.lemmas.Bool.{lt-ltb}
use Rattle.check_tables.proofs.types.TypeTable.class.Goals as goal

pub returns-then-t-self : goal.returns-then-t-self
returns-then-t-self c = rw (← c.self.view_is, c.self.invariant.count, lt-ltb c.args.t c.self.inside.written c.if-t-self.true) (ap Some c.class.ensures)
