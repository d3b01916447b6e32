use Rattle.bundle_constants.proofs.Passes.{numbers_more, low_more}
use Rattle.bundle_constants.proofs.making.numbers.Goals as goal

pub loop-n-preserved : goal.loop-n-preserved
loop-n-preserved c = record {
  within = low_more c.loop-n.all.items c.push.new.self.items c.loop-n.n c.args.many c.in_ok-push.ensures.items c.loop-n-test.true c.loop-n.invariant.within;
  all = numbers_more c.loop-n.all.items c.push.new.self.items c.loop-n.n c.in_ok-push.ensures.items c.loop-n.invariant.all;
}
