use Rattle.join_laws.proofs.Accepted.{joined_are_accepted}
use Rattle.join_laws.proofs.laws.joined_bundles_are_accepted.Goals as goal

pub returns : goal.returns
returns c = joined_are_accepted
