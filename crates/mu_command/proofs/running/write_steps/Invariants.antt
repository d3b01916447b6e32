use Rattle.std.proofs.Common.{◌≡◌, ◌≤◌, false}
use Rattle.mu_model.specs.Programs.{named}
use Rattle.mu_model.specs.Run.{run}
use Rattle.mu_texts.specs.Answer.{run_answer}
use Rattle.mu_command.proofs.InSteps.{SoFar}
use Rattle.mu_command.proofs.running.write_steps.Given as goal

-- what was put, and the rest of the run from here, make the whole answer
abbrev pub invariant-steps : goal.invariant-steps
invariant-steps g l = record {
  far :
      SoFar l.code (run_answer l.code (run (named l.code) l.initial.left l.initial.machine.configuration)) (run (named l.code) l.left l.machine.configuration)
      (g.S.Sink.written l.initial.out) (g.S.Sink.written l.out) (g.S.Sink.ends l.initial.out) (g.S.Sink.ends l.out);
  same : l.machine.bundle ≡ l.code;
  fresh : l.machine.ended ≡ false;
  faults : g.S.Sink.faults l.initial.out ≤ g.S.Sink.faults l.out;
}

abbrev pub decreases-steps : goal.decreases-steps
decreases-steps g l = l.left
