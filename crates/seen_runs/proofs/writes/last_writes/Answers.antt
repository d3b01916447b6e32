use Rattle.seen_runs.proofs.Kept.{step_kept}
use Rattle.seen_runs.proofs.writes.last_writes.Goals as goal

pub loop-lines-preserved : goal.loop-lines-preserved
loop-lines-preserved c =
    let lines = c.as_slice.ensures in
    step_kept c.in_ok-written.written.items c.loop-lines.written.items c.keep_step.new.written.items c.args.steps.now c.loop-lines.lines-index c.lines-item.result c.loop-lines-test.true c.lines-item.is c.loop-lines.invariant (rw lines at c.keep_step.ensures)
