use Rattle.std.proofs.Common.{◌≡◌, drop}
use Rattle.std.specs.List.{flat_map}
use Rattle.seen_runs.specs.Seen.{last_after}
use Rattle.seen_runs.proofs.texts.after_steps.Given as goal

abbrev pub invariant-loop-lines : goal.invariant-loop-lines
invariant-loop-lines l = last_after l.cell l.now (flat_map (λ ls. ls) (drop l.lines-index l.steps)) ≡ last_after l.cell l.fn.before (flat_map (λ ls. ls) l.steps)
