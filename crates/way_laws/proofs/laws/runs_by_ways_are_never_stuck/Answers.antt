use Rattle.way_laws.proofs.Running.{never_stuck}
use Rattle.way_laws.proofs.laws.runs_by_ways_are_never_stuck.Goals as goal

pub returns : goal.returns
returns c = never_stuck
