use Rattle.std.proofs.Common.{take}
use Rattle.seen_runs.specs.Writes.{Keeps}
use Rattle.seen_runs.proofs.writes.keep_step.Given as goal

abbrev pub invariant-loop-line : goal.invariant-loop-line
invariant-loop-line l = Keeps l.initial.written.items l.written.items (take l.line-index l.lines)
