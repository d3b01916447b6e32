use Rattle.std.proofs.Common.{◌-◌}
use Rattle.write_history.proofs.Cutting.{Cutting}
use Rattle.write_history.proofs.finding.cut.Given as goal

abbrev pub invariant-loop-low : goal.invariant-loop-low
invariant-loop-low g l = Cutting l.positions.values.now l.positions.order.now l.sought l.start l.end l.low l.high l.initial.steps l.steps

abbrev pub decreases-loop-low : goal.decreases-loop-low
decreases-loop-low g l = l.high - l.low
