use Rattle.type_classes.specs.Targets.{TargetsFit}
use Rattle.type_classes.proofs.refine.choose.Given as goal

abbrev pub invariant-loop-x : goal.invariant-loop-x
invariant-loop-x l = TargetsFit l.target l.n
