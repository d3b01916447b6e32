use Rattle.std.proofs.Common.{◌≡◌, ◌++◌, take}
use Rattle.std.specs.List.{flat_map}
use Rattle.seen_runs.specs.Finals.{final_line}
use Rattle.seen_runs.proofs.texts.final_lines.Given as goal

abbrev pub invariant-loop-global : goal.invariant-loop-global
invariant-loop-global l = l.out.items ≡ l.initial.out.items ++ flat_map (final_line l.code (flat_map (λ ls. ls) l.steps)) (take l.global-index l.finals)
