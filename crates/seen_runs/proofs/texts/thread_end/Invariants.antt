use Rattle.std.proofs.Common.{◌≡◌, ◌++◌, take}
use Rattle.std.specs.List.{flat_map}
use Rattle.seen_runs.specs.Finals.{line_end}
use Rattle.seen_runs.proofs.texts.thread_end.Given as goal

abbrev pub invariant-loop-lines : goal.invariant-loop-lines
invariant-loop-lines l = l.out.items ≡ l.initial.out.items ++ flat_map (flat_map (line_end l.code l.thread)) (take l.lines-index l.steps)
