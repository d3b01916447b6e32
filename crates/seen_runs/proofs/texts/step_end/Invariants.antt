use Rattle.std.proofs.Common.{◌≡◌, ◌++◌, take}
use Rattle.std.specs.List.{flat_map}
use Rattle.seen_runs.specs.Finals.{line_end}
use Rattle.seen_runs.proofs.texts.step_end.Given as goal

abbrev pub invariant-loop-line : goal.invariant-loop-line
invariant-loop-line l = l.out.items ≡ l.initial.out.items ++ flat_map (line_end l.code l.thread) (take l.line-index l.lines)
