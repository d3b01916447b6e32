use Rattle.std.proofs.Common.{length}
use Rattle.mu_values.proofs.Cuts.{cut_at, bounds}
use Rattle.mu_values.proofs.slots.bounds.Goals as goal

pub returns-clause-order : goal.returns-clause-order
returns-clause-order c = rw c.begin_of.ensures (bounds 0 c.args.ends.now (length c.args.scalars.now) c.args.n c.requires.row c.requires.n).0

pub returns-clause-within : goal.returns-clause-within
returns-clause-within c = (bounds 0 c.args.ends.now (length c.args.scalars.now) c.args.n c.requires.row c.requires.n).1

pub returns-clause-value : goal.returns-clause-value
returns-clause-value c = rw c.begin_of.ensures (cut_at 0 c.args.ends.now c.args.scalars.now c.args.n c.requires.n)
