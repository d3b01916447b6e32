use Rattle.run_lines.proofs.LogsRead.{logs_readable}
use Rattle.run_lines.proofs.laws.logs_are_readable.Goals as goal

pub returns : goal.returns
returns c = logs_readable
