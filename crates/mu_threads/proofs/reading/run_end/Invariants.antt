use Rattle.std.proofs.Common.{◌≡◌, ◌-◌, ◌<◌, ◌≤◌, length, drop}
use Rattle.mu_threads.proofs.Runs.{IsBegun}
use Rattle.mu_threads.proofs.reading.run_end.Given as goal

abbrev pub invariant-loop-end : goal.invariant-loop-end
invariant-loop-end l = record { behind : l.from < l.end; in_range : l.end ≤ length l.bytes; begun : IsBegun l.bytes l.from l.end }

abbrev pub decreases-loop-end : goal.decreases-loop-end
decreases-loop-end l = length l.bytes - l.end
