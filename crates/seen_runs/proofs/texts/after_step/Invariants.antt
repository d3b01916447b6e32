use Rattle.std.proofs.Common.{◌≡◌, drop}
use Rattle.seen_runs.specs.Seen.{last_after}
use Rattle.seen_runs.proofs.texts.after_step.Given as goal

abbrev pub invariant-loop-line : goal.invariant-loop-line
invariant-loop-line l = last_after l.cell l.now (drop l.line-index l.lines) ≡ last_after l.cell l.fn.before l.lines
