use Rattle.std.proofs.Common.{arith}
use Rattle.log_judge.proofs.log_views.LogViews.value_at.Goals as goal

pub returns-then-position-eq0-clause-initial : goal.returns-then-position-eq0-clause-initial
returns-then-position-eq0-clause-initial c z = c.initial.ensures

pub returns-then-position-eq0-clause-later : goal.returns-then-position-eq0-clause-later
returns-then-position-eq0-clause-later c l = absurd (let z = c.if-position-eq0.true in omega (arith, z, l))

pub returns-clause-initial : goal.returns-clause-initial
returns-clause-initial c z = absurd (let n = c.if-position-eq0.false in omega (arith, z, n))

pub returns-clause-later : goal.returns-clause-later
returns-clause-later c l = c.written.ensures
