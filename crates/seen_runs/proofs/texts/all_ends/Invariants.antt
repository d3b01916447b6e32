use Rattle.std.proofs.Common.{◌≡◌, ◌++◌}
use Rattle.std.specs.List.{flat_map}
use Rattle.seen_runs.proofs.Ends.{ends_so_far}
use Rattle.seen_runs.proofs.texts.all_ends.Given as goal

abbrev pub invariant-loop-thread : goal.invariant-loop-thread
invariant-loop-thread l = l.out.items ≡ l.initial.out.items ++ ends_so_far l.code (flat_map (λ ls. ls) l.steps) l.thread
