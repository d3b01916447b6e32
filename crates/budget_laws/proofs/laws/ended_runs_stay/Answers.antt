use Rattle.budget_laws.proofs.Longer.{ended_runs_stay}
use Rattle.budget_laws.proofs.laws.ended_runs_stay.Goals as goal

pub returns : goal.returns
returns c = ended_runs_stay
