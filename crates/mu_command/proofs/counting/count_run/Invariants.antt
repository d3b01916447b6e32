use Rattle.std.proofs.Common.{◌≡◌, ◌+◌, ◌*◌, ◌≤◌, false}
use Rattle.mu_model.specs.Programs.{named}
use Rattle.mu_model.specs.Run.{run}
use Rattle.model_laws.specs.Bounds.{HasEnding}
use Rattle.mu_command.specs.Steps.{tally_behind}
use Rattle.mu_command.proofs.counting.count_run.Given as goal

-- What was counted, and the rest of the run from here, make the whole. A step tells of less than 2^64 events.
abbrev pub invariant-steps : goal.invariant-steps
invariant-steps g l = record {
  bundle : l.machine.bundle ≡ l.initial.machine.bundle;
  fresh : l.machine.ended ≡ false;
  ends : HasEnding (run (named l.initial.machine.bundle) l.left l.machine.configuration);
  whole :
      tally_behind 0 0 (run (named l.initial.machine.bundle) l.initial.left l.initial.machine.configuration)
      ≡ tally_behind l.steps l.events (run (named l.initial.machine.bundle) l.left l.machine.configuration);
  steps : l.steps + l.left ≡ l.initial.left;
  events : l.events + l.left * 18446744073709551615 ≤ l.initial.left * 18446744073709551615;
}

abbrev pub decreases-steps : goal.decreases-steps
decreases-steps g l = l.left
