use Rattle.std.proofs.Common.{length}
use Rattle.write_history.proofs.LastFound.{last-newer, last-older}
use Rattle.write_history.proofs.finding.or_in_run.Goals as goal

pub returns-in-Some-clause-found : goal.returns-in-Some-clause-found
returns-in-Some-clause-found g c =
    last-newer c.args.positions.values.now c.args.sought c.args.start c.args.end (length c.args.positions.order.now) c.in-Some.position c.requires.start (rw c.in-Some.is at c.requires.newer)

pub returns-in-None-clause-found : goal.returns-in-None-clause-found
returns-in-None-clause-found g c =
    last-older c.args.positions.values.now c.args.sought c.args.start c.args.end (length c.args.positions.order.now) c.last_in_run.result c.requires.end (rw c.in-None.is at c.requires.newer) c.last_in_run.ensures.found
