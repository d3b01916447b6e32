use Rattle.std.proofs.Common.{take}
use Rattle.std.specs.List.{flat_map}
use Rattle.seen_runs.specs.Writes.{Keeps}
use Rattle.seen_runs.proofs.writes.last_writes.Given as goal

abbrev pub invariant-loop-lines : goal.invariant-loop-lines
invariant-loop-lines l = Keeps l.initial.written.items l.written.items (flat_map (λ ls. ls) (take l.lines-index l.steps))
