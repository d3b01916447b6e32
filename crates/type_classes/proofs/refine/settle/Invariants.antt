use Rattle.std.proofs.Common.{vec_len}
use Rattle.type_classes.specs.Targets.{TargetsFit}
use Rattle.type_classes.proofs.refine.settle.Given as goal

abbrev pub invariant-loop-b : goal.invariant-loop-b
invariant-loop-b l = TargetsFit l.target l.n

abbrev pub decreases-loop-b : goal.decreases-loop-b
decreases-loop-b l = vec_len l.plan.parents
