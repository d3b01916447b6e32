use Rattle.leaf_laws.proofs.Inside as inside
use Rattle.leaf_laws.proofs.laws.local_runs_are_among.Goals as goal

pub returns : goal.returns
returns c = inside.local_runs_are_among
