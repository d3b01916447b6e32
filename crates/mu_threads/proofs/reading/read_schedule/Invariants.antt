use Rattle.std.proofs.Common.{◌≡◌, ◌-◌, ◌≤◌, false, ◌++◌, length, drop}
use Rattle.ir_lex.specs.Gaps.{begins_gap}
use Rattle.demands.specs.Demands.{first_unmet}
use Rattle.mu_threads.specs.ScheduleTexts.{runs_from, runs_demands, numbers, schedule_demands, schedule_numbers}
use Rattle.mu_threads.proofs.reading.read_schedule.Given as goal

abbrev pub invariant-loop-at : goal.invariant-loop-at
invariant-loop-at l = record {
  in_range : l.at ≤ length l.bytes;
  at_run : begins_gap (drop l.at l.bytes) ≡ false;
  faults : first_unmet (schedule_demands l.bytes) ≡ first_unmet (runs_demands (runs_from false l.at (drop l.at l.bytes)));
  numbers : schedule_numbers l.bytes ≡ l.numbers.members ++ numbers (runs_from false l.at (drop l.at l.bytes));
}

abbrev pub decreases-loop-at : goal.decreases-loop-at
decreases-loop-at l = length l.bytes - l.at
