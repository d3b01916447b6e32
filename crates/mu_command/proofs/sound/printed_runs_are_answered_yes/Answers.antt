use Rattle.mu_command.proofs.Judged.{answered_yes}
use Rattle.mu_command.proofs.sound.printed_runs_are_answered_yes.Goals as goal

pub returns : goal.returns
returns c = answered_yes c.printed_runs_are_judged.ensures
