use Rattle.seen_runs.proofs.Kept.{none_kept, line_kept}
use Rattle.seen_runs.proofs.writes.keep_step.Goals as goal

pub loop-line-init : goal.loop-line-init
loop-line-init c = none_kept c.args.written.now.items

pub loop-line-preserved : goal.loop-line-preserved
loop-line-preserved c =
    line_kept c.args.written.now.items c.loop-line.written.items c.keep_line.new.written.items c.args.lines.now c.loop-line.line-index c.line-item.result c.loop-line-test.true c.line-item.is c.loop-line.invariant c.keep_line.ensures
