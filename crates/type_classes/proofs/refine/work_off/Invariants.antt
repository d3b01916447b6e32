use Rattle.type_classes.specs.Partitions.{IsFit, AreFilled}
use Rattle.type_classes.proofs.refine.work_off.Given as goal

abbrev pub invariant-loop : goal.invariant-loop
invariant-loop l = record {
  fit : IsFit l.links.definitions.now l.partition;
  filled : AreFilled l.links.definitions.now l.buckets;
}
