use Rattle.std.proofs.Common.{◌∙◌, ◌+◌, ap, drop}
use Rattle.seen_runs.specs.Seen.{last_after}
use Rattle.seen_runs.proofs.Ends.{after_step, item_next}
use Rattle.seen_runs.proofs.texts.after_steps.Goals as goal

pub loop-lines-preserved : goal.loop-lines-preserved
loop-lines-preserved c =
    after_step c.args.cell c.loop-lines.now c.after_step-now.result (drop c.loop-lines.lines-index c.args.steps.now) (drop (c.loop-lines.lines-index + 1) c.args.steps.now) c.lines-item.result
    (item_next c.args.steps.now c.loop-lines.lines-index c.lines-item.result _ c.loop-lines-test.true c.lines-item.is)
    (c.after_step-now.ensures ∙ ap (last_after c.args.cell c.loop-lines.now) c.as_slice.ensures)
    ∙ c.loop-lines.invariant
