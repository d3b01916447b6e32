use Rattle.std.proofs.Common.{vec_len}
use Rattle.type_classes.specs.Partitions.{IsFit, AreFilled}
use Rattle.type_classes.proofs.refine.drain.Given as goal

abbrev pub invariant-loop-p : goal.invariant-loop-p
invariant-loop-p l = record {
  fit : IsFit l.definitions l.partition;
  filled : AreFilled l.definitions l.buckets;
}

abbrev pub decreases-loop-p : goal.decreases-loop-p
decreases-loop-p l = vec_len l.places
