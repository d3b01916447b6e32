use Rattle.std.proofs.Common.{◌+◌, arith}
use Rattle.hail_load.proofs.Making.{gathered_more, gathered_part, fills_more}
use Rattle.hail_load.proofs.fills.push_fills.Goals as goal

pub overflow_cast-at : goal.overflow_cast-at
overflow_cast-at c =
    let more = gathered_more c.args.runs.now c.loop-run.run-index c.len.result _ c.loop-run-test.true c.len.ensures in
    let part = gathered_part c.args.runs.now (c.loop-run.run-index + 1) in
    grind (arith, more, part)

pub overflow_add-at : goal.overflow_add-at
overflow_add-at c =
    let more = gathered_more c.args.runs.now c.loop-run.run-index c.len.result _ c.loop-run-test.true c.len.ensures in
    let part = gathered_part c.args.runs.now (c.loop-run.run-index + 1) in
    grind (arith, more, part)

pub loop-run-preserved : goal.loop-run-preserved
loop-run-preserved c =
    let more = gathered_more c.args.runs.now c.loop-run.run-index c.len.result _ c.loop-run-test.true c.len.ensures in
    record {
      at = grind (arith, more);
      fills = fills_more c.args.fills.now.items c.loop-run.fills.items c.push.new.self.items c.args.object c.args.at c.loop-run.at c.args.runs.now c.loop-run.run-index _ c.loop-run-test.true c.loop-run.invariant.at c.loop-run.invariant.fills c.in_ok-push.ensures.items;
    }
