use Rattle.std.proofs.Common.{length, vec_len}
use Rattle.bundle_constants.specs.Making.{IsMaking}
use Rattle.bundle_constants.proofs.Passes.{IsPass}
use Rattle.bundle_constants.proofs.making.pass.Given as goal

abbrev pub invariant-each : goal.invariant-each
invariant-each l = record {
  making : IsMaking l.classes.definitions l.constants l.making;
  state : IsPass (length l.constants) (vec_len l.fn.left) l.constants l.making.done.items l.left.items l.kept.items;
}

abbrev pub decreases-each : goal.decreases-each
decreases-each l = vec_len l.left
