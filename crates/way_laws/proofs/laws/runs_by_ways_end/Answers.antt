use Rattle.way_laws.proofs.Running.{begins_and_ends}
use Rattle.way_laws.proofs.laws.runs_by_ways_end.Goals as goal

pub returns : goal.returns
returns c = begins_and_ends
