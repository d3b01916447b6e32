use Rattle.way_laws.proofs.Entries.{same_runs}
use Rattle.way_laws.proofs.laws.runs_by_entries_are_same.Goals as goal

pub returns : goal.returns
returns c = same_runs
