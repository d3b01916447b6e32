use Rattle.mu_command.proofs.Puts.{no_memory}
use Rattle.mu_command.proofs.running.write_verdict.Goals as goal

pub returns-in-Err-clause-writes : goal.returns-in-Err-clause-writes
returns-in-Err-clause-writes g c = no_memory _ _ _
