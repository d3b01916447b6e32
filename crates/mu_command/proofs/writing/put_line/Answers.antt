use Rattle.mu_command.proofs.Puts.{no_memory}
use Rattle.mu_command.proofs.writing.put_line.Goals as goal

pub returns-then-is_err-clause-writes : goal.returns-then-is_err-clause-writes
returns-then-is_err-clause-writes g c = no_memory _ _ _
