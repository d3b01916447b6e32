use Rattle.std.proofs.Common.{◌≡◌, ◌-◌, ◌≤◌, false, length, drop}
use Rattle.mu_threads.specs.ScheduleTexts.{runs_from}
use Rattle.mu_threads.proofs.reading.gap_end.Given as goal

abbrev pub invariant-loop-end : goal.invariant-loop-end
invariant-loop-end l = record { behind : l.from ≤ l.end; in_range : l.end ≤ length l.bytes; same : runs_from false l.from (drop l.from l.bytes) ≡ runs_from l.commenting l.end (drop l.end l.bytes) }

abbrev pub decreases-loop-end : goal.decreases-loop-end
decreases-loop-end l = length l.bytes - l.end
