use Rattle.checked_code.proofs.Globals.{as_many_types}
use Rattle.checked_code.proofs.checked.Checked.globals.Goals as goal

pub returns-clause-cells : goal.returns-clause-cells
returns-clause-cells c = cc (as_many_types c.args.self.now)
