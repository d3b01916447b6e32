use Rattle.std.proofs.Common.{◌+◌, subst, sym}
use Rattle.model_laws.specs.Bounds.{HasEnding}
use Rattle.mu_model.specs.Programs.{named}
use Rattle.mu_model.specs.Run.{Run, run}
use Rattle.mu_texts.specs.Answer.{told_answer}
use Rattle.mu_texts.specs.Start.{Started}
use Rattle.mu_command.specs.Written.{Writes}
use Rattle.mu_command.proofs.Beginning.{run_is}
use Rattle.mu_command.proofs.Puts.{no_memory}
use Rattle.mu_command.proofs.running.write_run.Goals as goal

pub returns-in-Err-clause-writes : goal.returns-in-Err-clause-writes
returns-in-Err-clause-writes g c = no_memory _ _ _

pub write_told-status-requires-clause-ends : goal.write_told-status-requires-clause-ends
write_told-status-requires-clause-ends g c =
    subst (λ (s : Started). HasEnding (run (named c.args.code.now) (s.setting.budget + 1) c.in-Ok.machine.configuration)) (sym c.start.view_is)
    (subst HasEnding (run_is c.args.code.now c.args.start.entry c.args.start.setting c.in-Ok.machine.configuration c.in-Ok.ensures.first) c.requires.ends)

pub returns-in-Ok-clause-writes : goal.returns-in-Ok-clause-writes
returns-in-Ok-clause-writes g c =
    subst (λ (r : Run). Writes (told_answer c.args.telling c.args.code.now r) (g.S.Sink.written c.args.out.now) (g.S.Sink.written c.write_told-status.new.out) (g.S.Sink.ends c.args.out.now) (g.S.Sink.ends c.write_told-status.new.out) c.write_told-status.result)
    (sym (run_is c.args.code.now c.args.start.entry c.args.start.setting c.in-Ok.machine.configuration c.in-Ok.ensures.first))
    (subst (λ (s : Started). Writes (told_answer c.args.telling c.args.code.now (run (named c.args.code.now) (s.setting.budget + 1) c.in-Ok.machine.configuration)) (g.S.Sink.written c.args.out.now) (g.S.Sink.written c.write_told-status.new.out) (g.S.Sink.ends c.args.out.now) (g.S.Sink.ends c.write_told-status.new.out) c.write_told-status.result)
    c.start.view_is c.write_told-status.ensures.writes)
