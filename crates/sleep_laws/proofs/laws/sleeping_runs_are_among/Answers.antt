use Rattle.sleep_laws.specs.Lemmas.Pruned as pruned
use Rattle.sleep_laws.proofs.laws.sleeping_runs_are_among.Goals as goal

pub returns-clause-among : goal.returns-clause-among
returns-clause-among c = pruned.sleeping_runs_are_among

pub returns-clause-fewer : goal.returns-clause-fewer
returns-clause-fewer c = pruned.sleeping_runs_are_fewer
