use Rattle.std.proofs.Common.{sym}
use Rattle.write_history.proofs.Rises.{after-none, cut-at-end}
use Rattle.write_history.proofs.access_index.neighbours_of.Goals as goal

pub returns-then-newest-upto-clause-after : goal.returns-then-newest-upto-clause-after
returns-then-newest-upto-clause-after g c =
    sym (after-none c.args.upto c.args.entries.now (cut-at-end c.args.upto c.args.entries.now c.requires (rw c.look-newest.ensures.value at c.if-newest-upto.true)))
