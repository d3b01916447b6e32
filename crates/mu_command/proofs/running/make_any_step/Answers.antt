use Rattle.mu_command.proofs.InSteps.{went_is, went_or_over}
use Rattle.mu_command.proofs.running.make_any_step.Goals as goal

pub returns-in-Ok-Went-clause-over : goal.returns-in-Ok-Went-clause-over
returns-in-Ok-Went-clause-over g c =
    went_or_over c.args.code.now c.args.machine.now.configuration c.step.new.self.configuration _ _ _ _ c.as_slice.result.now c.put_lines.result
    (went_is c.args.machine.now.bundle c.args.code.now c.args.machine.now.configuration c.step.new.self.configuration _ _ _ c.in-Ok-Went.field-0-is c.as_slice.ensures c.requires.same (c.in-Ok-Went.ensures.ok c.requires.fresh)) c.put_lines.ensures.over
