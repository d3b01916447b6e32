use Rattle.std.proofs.Common.{length, vec_len}
use Rattle.bundle_constants.specs.Making.{IsMaking, AreLeft}
use Rattle.bundle_constants.proofs.making.make_all.Given as goal

abbrev pub invariant-pass : goal.invariant-pass
invariant-pass l = record {
  making : IsMaking l.classes.definitions l.constants l.making;
  left : AreLeft (length l.constants) l.making.done.items l.left.items;
}

abbrev pub decreases-pass : goal.decreases-pass
decreases-pass l = vec_len l.left
