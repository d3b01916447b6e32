use Rattle.run_lines.proofs.RunsRead.{runs_readable}
use Rattle.run_lines.proofs.laws.runs_are_readable.Goals as goal

pub returns : goal.returns
returns c = runs_readable
